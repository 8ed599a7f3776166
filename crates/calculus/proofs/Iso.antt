-- Wirings alike stay alike under splices. Assumes nothing.
use Rattle.std.proofs.Common.{◌≡◌, ◌≢◌, ◌⊎◌, List, [], ◌∷◌, sym, refl, ap, ◌∙◌, subst, inl, inr, arith}
use Rattle.calculus.specs.Spots.{Spot}
use Rattle.calculus.proofs.Wires.{through, closes, run, tally, Out, Ready}
use Rattle.calculus.specs.Alike.{SameLinks}
use Rattle.calculus.proofs.Splice.{spot, to_a, to_b, past, Mutual, keeps_mutual, was_live, closes_iff, ready_through}

pub same_sym : {f g m n : Spot → Spot} → SameLinks f g m n → SameLinks g f n m
same_sym s = record { there = s.back; back = s.there }

module _ (f g m n : Spot → Spot) (im : Mutual m) (s : SameLinks f g m n) where
  pub inj : (x y : Spot) → m x ≢ x → m y ≢ y → f x ≡ f y → x ≡ y
  inj x y lx ly e = sym (s.there x lx).1 ∙ ap g e ∙ (s.there y ly).1

  pub mate_live : (x : Spot) → m x ≢ x → m (m x) ≢ m x
  mate_live x l e = l (sym (sym (im x) ∙ e))

  pub image_live : (x : Spot) → m x ≢ x → n (f x) ≢ f x
  image_live x l e = l (inj (m x) x (mate_live x l) l (sym (s.there x l).0 ∙ e))

  module _ (a b : Spot) (ab : a ≢ b) (la : m a ≢ a) (lb : m b ≢ b) where
    pub same_there : (x : Spot) → through a b m x ≢ x → (through (f a) (f b) n (f x) ≡ f (through a b m x)) × (g (f x) ≡ x)
    same_there x l = go (spot (m x) a) (spot (m x) b)
      where
        w : (x ≢ a) × (x ≢ b) × (m x ≢ x)
        w = was_live a b m im ab la lb x l

        lx : m x ≢ x
        lx = w.2

        lmx : m (m x) ≢ m x
        lmx = mate_live x lx

        na : f x ≢ f a
        na e = w.0 (inj x a lx la e)

        nb : f x ≢ f b
        nb e = w.1 (inj x b lx lb e)

        nab : f a ≢ f b
        nab e = ab (inj a b la lb e)

        go : (m x ≡ a) ⊎ (m x ≢ a) → (m x ≡ b) ⊎ (m x ≢ b) → (through (f a) (f b) n (f x) ≡ f (through a b m x)) × (g (f x) ≡ x)
        go (inl e) q =
            (to_a (f a) (f b) n (f x) na nb ((s.there x lx).0 ∙ ap f e) ∙ (s.there b lb).0 ∙ ap f (sym (to_a a b m x w.0 w.1 e)), (s.there x lx).1)
        go (inr k) (inl e) =
            (to_b (f a) (f b) n (f x) na nb nab ((s.there x lx).0 ∙ ap f e) ∙ (s.there a la).0 ∙ ap f (sym (to_b a b m x w.0 w.1 ab e)), (s.there x lx).1)
        go (inr k) (inr h) = (
          past (f a) (f b) n (f x) na nb (λ e. k (inj (m x) a lmx la (sym (s.there x lx).0 ∙ e))) (λ e. h (inj (m x) b lmx lb (sym (s.there x lx).0 ∙ e)))
              ∙ (s.there x lx).0 ∙ ap f (sym (past a b m x w.0 w.1 k h)),
          (s.there x lx).1,
        )

    pub same_closes : closes a b m ≡ closes (f a) (f b) n
    same_closes = closes_iff a b m (f a) (f b) n (λ e. (s.there a la).0 ∙ ap f e) (λ e. inj (m a) b (mate_live a la) lb (sym (s.there a la).0 ∙ e))

module _ (f g m n : Spot → Spot) (im : Mutual m) (jn : Mutual n) (s : SameLinks f g m n) (a b : Spot) (ab : a ≢ b) (la : m a ≢ a) (lb : m b ≢ b) where
  pub same_through : SameLinks f g (through a b m) (through (f a) (f b) n)
  same_through = record {
    there = same_there f g m n im s a b ab la lb;
    back = λ y l. subst (λ c. (through c.0 c.1 m (g y) ≡ g (through (f a) (f b) n y)) × (f (g y) ≡ y)) ends
        (same_there g f n m jn (same_sym s) (f a) (f b) (λ e. ab (inj f g m n im s a b la lb e)) (image_live f g m n im s a la) (image_live f g m n im s b lb) y l);
  }
    where
      ends : ◌≡◌ {A = Spot × Spot} (g (f a), g (f b)) (a, b)
      ends = λ i. ((s.there a la).1 i, (s.there b lb).1 i)

abbrev pub pairs : (Spot → Spot) → List (Spot × Spot) → List (Spot × Spot)
pairs f [] = []
pairs f (s ∷ ss) = (f s.0, f s.1) ∷ pairs f ss

-- every spot of the list is live
module _ (f g m n : Spot → Spot) (im : Mutual m) (s : SameLinks f g m n) where
  pub image_out : (x : Spot) → m x ≢ x → (ss : List (Spot × Spot)) → Ready ss m → Out x ss → Out (f x) (pairs f ss)
  image_out x l [] r o = tt
  image_out x l (t ∷ ss) r o =
      ((λ e. o.0 (inj f g m n im s x t.0 l r.1 e)), (λ e. o.1 (inj f g m n im s x t.1 l r.2 e)), image_out x l ss r.5 o.2)

  pub image_ready : (ss : List (Spot × Spot)) → Ready ss m → Ready (pairs f ss) n
  image_ready [] r = tt
  image_ready (t ∷ ss) r = (
    (λ e. r.0 (inj f g m n im s t.0 t.1 r.1 r.2 e)),
    image_live f g m n im s t.0 r.1,
    image_live f g m n im s t.1 r.2,
    image_out t.0 r.1 ss r.5 r.3,
    image_out t.1 r.2 ss r.5 r.4,
    image_ready ss r.5,
  )

pub same_run : (f g m n : Spot → Spot) → Mutual m → Mutual n → SameLinks f g m n → (ss : List (Spot × Spot)) → Ready ss m →
    SameLinks f g (run ss m) (run (pairs f ss) n) × (tally ss m ≡ tally (pairs f ss) n)
same_run f g m n im jn s [] r = (s, refl)
same_run f g m n im jn s (t ∷ ss) r =
    let a = t.0 in
    let b = t.1 in
    let q = image_ready f g m n im s (t ∷ ss) r in
    let im₁ = keeps_mutual a b m im r.0 r.1 r.2 in
    let jn₁ = keeps_mutual (f a) (f b) n jn q.0 q.1 q.2 in
    let s₁ = same_through f g m n im jn s a b r.0 r.1 r.2 in
    let r₁ = ready_through a b m im r.0 r.1 r.2 ss r.3 r.4 r.5 in
    let ih = same_run f g (through a b m) (through (f a) (f b) n) im₁ jn₁ s₁ ss r₁ in
    let c = same_closes f g m n im s a b r.0 r.1 r.2 in
    (ih.0, omega (arith, ih.1, c))
