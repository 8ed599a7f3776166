-- The spliced mate is the one found by following links. Assumes nothing.
use Rattle.std.proofs.Common.{◌≡◌, ◌≢◌, ◌⊎◌, List, [], ◌∷◌, sym, refl, ap, ◌∙◌, subst, inl, inr}
use Rattle.calculus.specs.Spots.{Spot}
use Rattle.calculus.proofs.Wires.{through, run, Out, Partner, Ready}
use Rattle.calculus.proofs.Splice.{spot, Mutual, at_a, at_b, to_a, to_b, past, keeps_mutual, ready_through}

-- who comes to y ends at z: y itself if it is not spliced, else cross to its partner, and go on along that one's link
pub data Follow (ss : List (Spot × Spot)) (m : Spot → Spot) : Spot → Spot → Type 0 where
  stop : {y : Spot} → Out y ss → Follow ss m y y
  across : {y u z : Spot} → Partner ss y u → Follow ss m (m u) z → Follow ss m y z

module _ (a b : Spot) (ss : List (Spot × Spot)) (m : Spot → Spot) (im : Mutual m) (ab : a ≢ b) (la : m a ≢ a) (lb : m b ≢ b) (oa : Out a ss) (ob : Out b ss) where
  off : (x : Spot) → x ≢ a → x ≢ b → (through a b m x ≢ a) × (through a b m x ≢ b)
  off x n k =
      let im₁ = keeps_mutual a b m im ab la lb in
      ((λ z. n (sym (im₁ x) ∙ ap (through a b m) z ∙ at_a a b m)), (λ z. k (sym (im₁ x) ∙ ap (through a b m) z ∙ at_b a b m)))

  partner_off : (ts : List (Spot × Spot)) → Out a ts → Out b ts → (y u : Spot) → Partner ts y u → (u ≢ a) × (u ≢ b)
  partner_off [] oa ob y u h = absurd h
  partner_off (t ∷ ts) oa ob y u (inl h) = ((λ z. oa.1 (sym z ∙ h.1)), (λ z. ob.1 (sym z ∙ h.1)))
  partner_off (t ∷ ts) oa ob y u (inr (inl h)) = ((λ z. oa.0 (sym z ∙ h.1)), (λ z. ob.0 (sym z ∙ h.1)))
  partner_off (t ∷ ts) oa ob y u (inr (inr h)) = partner_off ts oa.2 ob.2 y u h

  hop : (x z : Spot) → x ≢ a → x ≢ b → Follow ((a, b) ∷ ss) m (through a b m x) z → Follow ((a, b) ∷ ss) m (m x) z
  hop x z n k f = go (spot (m x) a) (spot (m x) b)
    where
      go : (m x ≡ a) ⊎ (m x ≢ a) → (m x ≡ b) ⊎ (m x ≢ b) → Follow ((a, b) ∷ ss) m (m x) z
      go (inl e) q = across (inl (e, refl)) (subst (λ y. Follow ((a, b) ∷ ss) m y z) (to_a a b m x n k e) f)
      go (inr o) (inl e) = across (inr (inl (e, refl))) (subst (λ y. Follow ((a, b) ∷ ss) m y z) (to_b a b m x n k ab e) f)
      go (inr o) (inr l) = subst (λ y. Follow ((a, b) ∷ ss) m y z) (past a b m x n k o l) f

  pub lift : {y z : Spot} → Follow ss (through a b m) y z → y ≢ a → y ≢ b → Follow ((a, b) ∷ ss) m y z
  lift (stop o) n k = stop (n, k, o)
  lift (across {y = y} {u = u} {z = z} p f) n k =
      let o = partner_off ss oa ob y u p in
      let v = off u o.0 o.1 in
      across (inr (inr p)) (hop u z o.0 o.1 (lift f v.0 v.1))

pub follows : (ss : List (Spot × Spot)) (m : Spot → Spot) → Mutual m → Ready ss m → (x : Spot) → Out x ss → Follow ss m (m x) (run ss m x)
follows [] m im r x o = stop tt
follows (s ∷ ss) m im r x o =
    let a = s.0 in
    let b = s.1 in
    let ih = follows ss (through a b m) (keeps_mutual a b m im r.0 r.1 r.2) (ready_through a b m im r.0 r.1 r.2 ss r.3 r.4 r.5) x o.2 in
    let v = off a b ss m im r.0 r.1 r.2 r.3 r.4 x o.0 o.1 in
    hop a b ss m im r.0 r.1 r.2 r.3 r.4 x (run (s ∷ ss) m x) o.0 o.1
    (lift a b ss m im r.0 r.1 r.2 r.3 r.4 ih v.0 v.1)
