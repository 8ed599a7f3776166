-- Other places for the cells of a term give an alike net. Assumes nothing.
use Rattle.std.proofs.Common.{◌≡◌, ℕ, ◌+◌, ◌<◌, ◌≤◌, true, false, eqb, ◌≢◌, ◌⊎◌, List, [], ◌∷◌, ◌++◌, Some, sym, refl, ap, ◌∙◌, subst, ap₂, inl, inr, arith}
use Rattle.calculus.specs.Spots.{Spot, end, port, carry}
use Rattle.calculus.specs.Nets.{Stands, Good}
use Rattle.calculus.specs.Alike.{AlikeBy}
use Rattle.calculus.specs.Combinators.{combinators}
use Rattle.std.proofs.lemmas.Bool.{cases_lt}
use Rattle.calculus.proofs.Iso.{pairs}
use Rattle.calculus.proofs.Carried.{pairs-append}
use Rattle.lambda.specs.Terms.{Term, var, item, lam, app, one, uses, stands, binds, applies, cells, Once, Linear}
use Rattle.lambda.specs.TermNets.{head, inner, links, net}
use Rattle.lambda.proofs.Counts.{number, one_yes, one_no, Weights, weigh, on_uses, on_binds, on_applies, on_stands, uses_weigh, binds_weigh, applies_weigh, stands_weigh}
use Rattle.lambda.proofs.Wirings.{In}
use Rattle.lambda.proofs.Good.{good, kind_yes, kind_some, ends_are, no_loops}
use Rattle.lambda.proofs.Contracting.{mates, either_way}

-- other places for the cells
abbrev pub relabel : (ℕ → ℕ) → Term → Term
relabel f (var p) = var (f p)
relabel f (item k) = item k
relabel f (lam p b) = lam (f p) (relabel f b)
relabel f (app p g a) = app (f p) (relabel f g) (relabel f a)

abbrev over : (ℕ → ℕ) → Weights → Weights
over f c = record { onvar = λ p. c.onvar (f p); onitem = c.onitem; onlam = λ p. c.onlam (f p); onapp = λ p. c.onapp (f p) }

pub relabel_weigh : (f : ℕ → ℕ) (c : Weights) (t : Term) → weigh c (relabel f t) ≡ weigh (over f c) t
relabel_weigh f c (var p) = refl
relabel_weigh f c (item k) = refl
relabel_weigh f c (lam p b) = ap (λ z. c.onlam (f p) + z) (relabel_weigh f c b)
relabel_weigh f c (app p a b) = ap₂ (λ y z. c.onapp (f p) + (y + z)) (relabel_weigh f c a) (relabel_weigh f c b)

-- how often p is a place in a term, as a variable or as a cell
abbrev places : ℕ → Term → ℕ
places p t = uses p t + cells p t

-- two counts that agree on the places of a term
weigh_on : (c d : Weights) (v : Term) → ((p : ℕ) → 1 ≤ places p v → (c.onvar p ≡ d.onvar p) × (c.onlam p ≡ d.onlam p) × (c.onapp p ≡ d.onapp p)) →
    ((k : ℕ) → c.onitem k ≡ d.onitem k) → weigh c v ≡ weigh d v
weigh_on c d (var p) h i = let o = one_yes p p refl in (h p (omega arith)).0
weigh_on c d (item k) h i = i k
weigh_on c d (lam p b) h i =
    let o = one_yes p p refl in
    let e = (h p (omega arith)).1 in
    let ih = weigh_on c d b (λ r z. h r (omega arith)) i in
    omega arith
weigh_on c d (app p a b) h i =
    let o = one_yes p p refl in
    let e = (h p (omega arith)).2 in
    let ih = weigh_on c d a (λ r z. h r (omega arith)) i in
    let jh = weigh_on c d b (λ r z. h r (omega arith)) i in
    omega arith

abbrev zeros : Weights
zeros = record { onvar = λ p. 0; onitem = λ k. 0; onlam = λ p. 0; onapp = λ p. 0 }

weigh_zeros : (t : Term) → weigh zeros t ≡ 0
weigh_zeros (var p) = refl
weigh_zeros (item k) = refl
weigh_zeros (lam p b) = let h = weigh_zeros b in omega arith
weigh_zeros (app p a b) = let h = weigh_zeros a in let i = weigh_zeros b in omega arith

head_relabel : (f : ℕ → ℕ) (t : Term) → head (relabel f t) ≡ carry f (head t)
head_relabel f (var p) = refl
head_relabel f (item k) = refl
head_relabel f (lam p b) = refl
head_relabel f (app p a b) = refl

inner_relabel : (f : ℕ → ℕ) (t : Term) → inner (relabel f t) ≡ pairs (carry f) (inner t)
inner_relabel f (var p) = refl
inner_relabel f (item k) = refl
inner_relabel f (lam p b) = ap₂ (λ h s. (port (f p) 2, h) ∷ s) (head_relabel f b) (inner_relabel f b)
inner_relabel f (app p a b) =
    ap₂ (λ h s. (port (f p) 0, h) ∷ s) (head_relabel f a)
    (ap₂ (λ s r. s ++ r) (inner_relabel f a) (ap₂ (λ h s. (port (f p) 2, h) ∷ s) (head_relabel f b) (inner_relabel f b))
    ∙ sym (pairs-append (carry f) (inner a) ((port p 2, head b) ∷ inner b)))

in_pairs : (f : Spot → Spot) (ss : List (Spot × Spot)) (a b : Spot) → In ss a b → In (pairs f ss) (f a) (f b)
in_pairs f [] a b h = h
in_pairs f (s ∷ ss) a b (inl h) = inl (ap f h.0, ap f h.1)
in_pairs f (s ∷ ss) a b (inr h) = inr (in_pairs f ss a b h)

from_pairs : (f : Spot → Spot) (ss : List (Spot × Spot)) (c d : Spot) → In (pairs f ss) c d → (a : Spot) × (b : Spot) × In ss a b × (c ≡ f a) × (d ≡ f b)
from_pairs f [] c d h = absurd h
from_pairs f (s ∷ ss) c d (inl h) = (s.0, s.1, inl (refl, refl), h.0, h.1)
from_pairs f (s ∷ ss) c d (inr h) = let i = from_pairs f ss c d h in (i.0, i.1, inr i.2, i.3, i.4)

links_relabel : (f : ℕ → ℕ) (t : Term) → links (end 0) (relabel f t) ≡ pairs (carry f) (links (end 0) t)
links_relabel f t = ap₂ (λ h s. (end 0, h) ∷ s) (head_relabel f t) (inner_relabel f t)

module _ (n : ℕ) (t : Term) (l : Linear n t) (f g : ℕ → ℕ) (back : (p : ℕ) → 1 ≤ cells p t → g (f p) ≡ p) where
  -- r is the new place of a cell, or of none
  image : (r : ℕ) → ((p : ℕ) × (1 ≤ cells p t) × (f p ≡ r)) ⊎ ((p : ℕ) → 1 ≤ cells p t → f p ≢ r)
  image r = go (cases_lt 0 (cells (g r) t)) (number (f (g r)) r)
    where
      go : (0 < cells (g r) t) ⊎ (cells (g r) t ≤ 0) → ((f (g r) ≡ r) × (eqb (f (g r)) r ≡ true)) ⊎ ((f (g r) ≢ r) × (eqb (f (g r)) r ≡ false)) → ((p : ℕ) × (1 ≤ cells p t) × (f p ≡ r)) ⊎ ((p : ℕ) → 1 ≤ cells p t → f p ≢ r)
      go (inl h) (inl e) = inl (g r, h, e.0)
      go (inl h) (inr e) = inr (λ p i z. e.0 (ap f (ap g (sym z) ∙ back p i) ∙ z))
      go (inr h) e = inr (λ p i z. let y : g r ≡ p = ap g (sym z) ∙ back p i in let x = subst (λ s. cells s t ≤ 0) y h in omega arith)

  abbrev Sub : Term → Type 0
  Sub v = (p : ℕ) → 1 ≤ places p v → 1 ≤ cells p t

  same_one : (p r : ℕ) → 1 ≤ cells p t → 1 ≤ cells r t → one (f p) (f r) ≡ one p r
  same_one p r i j = elim (number p r) [
    | inl e ↦ one_yes (f p) (f r) (ap f e.0) ∙ sym (one_yes p r e.0)
    | inr e ↦ one_no (f p) (f r) (λ z. e.0 (sym (back p i) ∙ ap g z ∙ back r j)) ∙ sym (one_no p r e.0)
  ]

  module _ (v : Term) (s : Sub v) where
    module _ (p : ℕ) (i : 1 ≤ cells p t) where
      uses_at : uses (f p) (relabel f v) ≡ uses p v
      uses_at = uses_weigh (f p) (relabel f v) ∙ relabel_weigh f (on_uses (f p)) v ∙ weigh_on (over f (on_uses (f p))) (on_uses p) v (λ r h. (same_one p r i (s r h), refl, refl)) (λ k. refl) ∙ sym (uses_weigh p v)

      binds_at : binds (f p) (relabel f v) ≡ binds p v
      binds_at = binds_weigh (f p) (relabel f v) ∙ relabel_weigh f (on_binds (f p)) v ∙ weigh_on (over f (on_binds (f p))) (on_binds p) v (λ r h. (refl, same_one p r i (s r h), refl)) (λ k. refl) ∙ sym (binds_weigh p v)

      applies_at : applies (f p) (relabel f v) ≡ applies p v
      applies_at = applies_weigh (f p) (relabel f v) ∙ relabel_weigh f (on_applies (f p)) v ∙ weigh_on (over f (on_applies (f p))) (on_applies p) v (λ r h. (refl, refl, same_one p r i (s r h))) (λ k. refl) ∙ sym (applies_weigh p v)

    module _ (r : ℕ) (i : (p : ℕ) → 1 ≤ cells p t → f p ≢ r) where
      off : (p : ℕ) → 1 ≤ places p v → one r (f p) ≡ 0
      off p h = one_no r (f p) (λ z. i p (s p h) (sym z))

      uses_off : uses r (relabel f v) ≡ 0
      uses_off = uses_weigh r (relabel f v) ∙ relabel_weigh f (on_uses r) v ∙ weigh_on (over f (on_uses r)) zeros v (λ p h. (off p h, refl, refl)) (λ k. refl) ∙ weigh_zeros v

      binds_off : binds r (relabel f v) ≡ 0
      binds_off = binds_weigh r (relabel f v) ∙ relabel_weigh f (on_binds r) v ∙ weigh_on (over f (on_binds r)) zeros v (λ p h. (refl, off p h, refl)) (λ k. refl) ∙ weigh_zeros v

      applies_off : applies r (relabel f v) ≡ 0
      applies_off = applies_weigh r (relabel f v) ∙ relabel_weigh f (on_applies r) v ∙ weigh_on (over f (on_applies r)) zeros v (λ p h. (refl, refl, off p h)) (λ k. refl) ∙ weigh_zeros v

  once_relabel : (v : Term) → Sub v → Once v → Once (relabel f v)
  once_relabel (var p) s o = tt
  once_relabel (item k) s o = tt
  once_relabel (lam p b) s o =
      let y = one_yes p p refl in
      let sb : Sub b = λ r h. s r (omega arith) in
      (uses_at b sb p (s p (omega arith)) ∙ o.0, once_relabel b sb o.1)
  once_relabel (app p a b) s o = (once_relabel a (λ r h. s r (omega arith)) o.0, once_relabel b (λ r h. s r (omega arith)) o.1)

  all : Sub t
  all p h = let e = l.closed p in elim (cases_lt 0 (cells p t)) [ inl i ↦ i | inr i ↦ absurd (omega arith) ]

  pub stands_same : (k : ℕ) → stands k (relabel f t) ≡ stands k t
  stands_same k = stands_weigh k (relabel f t) ∙ relabel_weigh f (on_stands k) t ∙ sym (stands_weigh k t)

  pub cells_at : (p : ℕ) → 1 ≤ cells p t → cells (f p) (relabel f t) ≡ cells p t
  cells_at p i = ap₂ ◌+◌ (binds_at t all p i) (applies_at t all p i)

  pub cells_from : (r : ℕ) → 1 ≤ cells r (relabel f t) → (p : ℕ) × (1 ≤ cells p t) × (f p ≡ r)
  cells_from r h = elim (image r) [
    | inl i ↦ i
    | inr i ↦ (let a = binds_off t all r i in let b = applies_off t all r i in absurd (omega arith))
  ]

  pub relabel_linear : Linear n (relabel f t)
  relabel_linear = record {
    once = once_relabel t all l.once;
    closed = λ r. elim (image r) [
      | inl i ↦ subst (λ r. uses r (relabel f t) ≡ binds r (relabel f t)) i.2 (uses_at t all i.0 i.1 ∙ l.closed i.0 ∙ sym (binds_at t all i.0 i.1))
      | inr i ↦ uses_off t all r i ∙ sym (binds_off t all r i)
    ];
    apart = λ r. elim (cases_lt 0 (cells r (relabel f t))) [
      | inl h ↦ (
          let c = cells_from r h in
          let a = l.apart c.0 in
          subst (λ r. cells r (relabel f t) ≤ 1) c.2 (let e = cells_at c.0 c.1 in omega arith))
      | inr h ↦ omega arith
    ];
    listed = λ k i j. stands_same k ∙ l.listed k i j;
    only = λ k h. l.only k (let e = stands_same k in omega arith);
  }

  spot_back : (x : Spot) → Stands combinators (net n t) x → carry g (carry f x) ≡ x
  spot_back (end e) h = refl
  spot_back (port r j) (c, e, h) = ap (λ r. port r j) (back r (kind_some n t r c e).0)

  pub relabel_alike : AlikeBy f g (net n t) (net n (relabel f t))
  relabel_alike = record {
    kinds = record {
      there = λ r c e. let k = kind_some n t r c e in
          (kind_yes n (relabel f t) (f r) (let z = cells_at r k.0 in omega arith) ∙ ap Some (sym k.1), back r k.0);
      back = λ r c e.
          let k = kind_some n (relabel f t) r c e in
          let i = cells_from r k.0 in
          let z : g r ≡ i.0 = ap g (sym i.2) ∙ back i.0 i.1 in
          (ap (net n t).kind z ∙ kind_yes n t i.0 i.1 ∙ ap Some (sym k.1), ap f z ∙ i.2);
    };
    links = record { there = there; back = thence };
    ends = ends_are n t ∙ sym (ends_are n (relabel f t));
    loops = no_loops n t ∙ sym (no_loops n (relabel f t));
  }
    where
      G : Good combinators (net n t)
      G = good n t l

      to : (a b : Spot) → In (links (end 0) t) a b → In (links (end 0) (relabel f t)) (carry f a) (carry f b)
      to a b h = subst (λ s. In s (carry f a) (carry f b)) (sym (links_relabel f t)) (in_pairs (carry f) (links (end 0) t) a b h)

      Q : Spot → Type 0
      Q x = ((net n (relabel f t)).mate (carry f x) ≡ carry f ((net n t).mate x)) × (carry g (carry f x) ≡ x)

      there : (x : Spot) → (net n t).mate x ≢ x → ((net n (relabel f t)).mate (carry f x) ≡ carry f ((net n t).mate x)) × (carry g (carry f x) ≡ x)
      there x h = go (either_way n t l x h)
        where
          go : (y : Spot) × (In (links (end 0) t) x y ⊎ In (links (end 0) t) y x) → ((net n (relabel f t)).mate (carry f x) ≡ carry f ((net n t).mate x)) × (carry g (carry f x) ≡ x)
          go (y, inl i) = ((mates n (relabel f t) relabel_linear (carry f x) (carry f y) (to x y i)).0 ∙ ap (carry f) (sym (mates n t l x y i).0), spot_back x (G.there x h))
          go (y, inr i) = ((mates n (relabel f t) relabel_linear (carry f y) (carry f x) (to y x i)).1 ∙ ap (carry f) (sym (mates n t l y x i).1), spot_back x (G.there x h))

      -- from a link of t to the link of the other at which we stand
      at : (y z a b : Spot) → y ≡ carry f a → z ≡ carry f b → (net n t).mate a ≡ b → (net n t).mate b ≡ a → a ≢ b → (net n (relabel f t)).mate y ≡ z →
          ((net n t).mate (carry g y) ≡ carry g ((net n (relabel f t)).mate y)) × (carry f (carry g y) ≡ y)
      at y z a b ey ez ma mb ne my =
          let ga : carry g (carry f a) ≡ a = spot_back a (G.there a (λ w. ne (sym w ∙ ma))) in
          let gb : carry g (carry f b) ≡ b = spot_back b (G.there b (λ w. ne (sym mb ∙ w))) in
          (ap (λ w. (net n t).mate (carry g w)) ey ∙ ap (net n t).mate ga ∙ ma ∙ sym gb ∙ ap (carry g) (sym (my ∙ ez)), ap (λ w. carry f (carry g w)) ey ∙ ap (carry f) ga ∙ sym ey)

      thence : (y : Spot) → (net n (relabel f t)).mate y ≢ y → ((net n t).mate (carry g y) ≡ carry g ((net n (relabel f t)).mate y)) × (carry f (carry g y) ≡ y)
      thence y h = go (either_way n (relabel f t) relabel_linear y h)
        where
          from : (c d : Spot) → In (links (end 0) (relabel f t)) c d → (a : Spot) × (b : Spot) × In (links (end 0) t) a b × (c ≡ carry f a) × (d ≡ carry f b)
          from c d i = from_pairs (carry f) (links (end 0) t) c d (subst (λ s. In s c d) (links_relabel f t) i)

          go : (z : Spot) × (In (links (end 0) (relabel f t)) y z ⊎ In (links (end 0) (relabel f t)) z y) → ((net n t).mate (carry g y) ≡ carry g ((net n (relabel f t)).mate y)) × (carry f (carry g y) ≡ y)
          go (z, inl i) =
              let c = from y z i in
              let m = mates n t l c.0 c.1 c.2 in
              at y z c.0 c.1 c.3 c.4 m.0 m.1 m.2 (mates n (relabel f t) relabel_linear y z i).0
          go (z, inr i) =
              let c = from z y i in
              let m = mates n t l c.0 c.1 c.2 in
              at y z c.1 c.0 c.4 c.3 m.1 m.0 (λ w. m.2 (sym w)) (mates n (relabel f t) relabel_linear z y i).1
