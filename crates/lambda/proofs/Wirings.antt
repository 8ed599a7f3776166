-- Wirings given by a list of links, each from one spot to another. Assumes nothing.
use Rattle.std.proofs.Common.{◌≡◌, ℕ, ◌+◌, ◌≤◌, true, false, ◌≢◌, ◌⊎◌, List, [], ◌∷◌, ◌++◌, sym, refl, ap, ◌∙◌, inl, inr, arith}
use Rattle.calculus.specs.Spots.{Spot, end, port}
use Rattle.calculus.specs.Splicing.{same, Out}
use Rattle.calculus.proofs.Splice.{spot, same_yes, same_no, Mutual}
use Rattle.calculus.specs.Drawn.{linked}

pub end≢port : (e r j : ℕ) → end e ≢ port r j
end≢port e r j z = let y : ◌≡◌ {A = ℕ} 0 1 = cc in omega arith

-- the link from u to v is listed
abbrev pub In : List (Spot × Spot) → Spot → Spot → Type 0
In [] u v = ⊥
In (s ∷ ss) u v = ((u ≡ s.0) × (v ≡ s.1)) ⊎ In ss u v

pub in_left : (xs ys : List (Spot × Spot)) (u v : Spot) → In xs u v → In (xs ++ ys) u v
in_left [] ys u v h = absurd h
in_left (x ∷ xs) ys u v (inl h) = inl h
in_left (x ∷ xs) ys u v (inr h) = inr (in_left xs ys u v h)

pub in_right : (xs ys : List (Spot × Spot)) (u v : Spot) → In ys u v → In (xs ++ ys) u v
in_right [] ys u v h = h
in_right (x ∷ xs) ys u v h = inr (in_right xs ys u v h)

pub in_either : (xs ys : List (Spot × Spot)) (u v : Spot) → In (xs ++ ys) u v → In xs u v ⊎ In ys u v
in_either [] ys u v h = inr h
in_either (x ∷ xs) ys u v (inl h) = inl (inl h)
in_either (x ∷ xs) ys u v (inr h) = elim (in_either xs ys u v h) [ inl i ↦ inl (inr i) | inr i ↦ inr i ]

-- how often a spot is named
abbrev pub at : Spot → Spot → ℕ
at s x = elim (same s x) [ true ↦ 1 | false ↦ 0 ]

abbrev pub occ : Spot → List (Spot × Spot) → ℕ
occ s [] = 0
occ s (t ∷ ss) = at s t.0 + (at s t.1 + occ s ss)

pub at_yes : (s x : Spot) → s ≡ x → at s x ≡ 1
at_yes s x e = let h = same_yes s x e in cc

pub at_no : (s x : Spot) → s ≢ x → at s x ≡ 0
at_no s x e = let h = same_no s x e in cc

pub occ_append : (s : Spot) (xs ys : List (Spot × Spot)) → occ s (xs ++ ys) ≡ occ s xs + occ s ys
occ_append s [] ys = omega arith
occ_append s (x ∷ xs) ys = let h = occ_append s xs ys in omega arith

pub in_occ : (ss : List (Spot × Spot)) (u v : Spot) → In ss u v → (1 ≤ occ u ss) × (1 ≤ occ v ss)
in_occ [] u v h = absurd h
in_occ (s ∷ ss) u v (inl h) = let a = at_yes u s.0 h.0 in let b = at_yes v s.1 h.1 in omega arith
in_occ (s ∷ ss) u v (inr h) = let ih = in_occ ss u v h in omega arith

occ_out : (s : Spot) (ss : List (Spot × Spot)) → occ s ss ≡ 0 → Out s ss
occ_out s [] e = tt
occ_out s (t ∷ ss) e = (
  (λ z. let h = at_yes s t.0 z in omega arith),
  (λ z. let h = at_yes s t.1 z in omega arith),
  occ_out s ss (omega arith),
)

pub out_occ : (s : Spot) (ss : List (Spot × Spot)) → Out s ss → occ s ss ≡ 0
out_occ s [] o = refl
out_occ s (t ∷ ss) o = let a = at_no s t.0 o.0 in let b = at_no s t.1 o.1 in let ih = out_occ s ss o.2 in omega arith

-- no spot is named twice
abbrev pub Distinct : List (Spot × Spot) → Type 0
Distinct [] = Unit {0}
Distinct (s ∷ ss) = (s.0 ≢ s.1) × Out s.0 ss × Out s.1 ss × Distinct ss

pub distinct : (ss : List (Spot × Spot)) → ((s : Spot) → occ s ss ≤ 1) → Distinct ss
distinct [] h = tt
distinct (t ∷ ss) h =
    let a = at_yes t.0 t.0 refl in
    let b = at_yes t.1 t.1 refl in
    let i = h t.0 in
    let j = h t.1 in (
      (λ z. let c = at_yes t.0 t.1 z in omega arith),
      occ_out t.0 ss (omega arith),
      occ_out t.1 ss (omega arith),
      distinct ss (λ s. let k = h s in omega arith),
    )

pub linked_out : (ss : List (Spot × Spot)) (x : Spot) → Out x ss → linked ss x ≡ x
linked_out [] x o = refl
linked_out (s ∷ ss) x o =
    let ih = linked_out ss x o.2 in
    let e = same_no x s.0 o.0 in
    let f = same_no x s.1 o.1 in
    cc

out_in : (ss : List (Spot × Spot)) (x u v : Spot) → Out x ss → In ss u v → (x ≢ u) × (x ≢ v)
out_in [] x u v o h = absurd h
out_in (s ∷ ss) x u v o (inl h) = ((λ z. o.0 (z ∙ h.0)), (λ z. o.1 (z ∙ h.1)))
out_in (s ∷ ss) x u v o (inr h) = out_in ss x u v o.2 h

pub linked_in : (ss : List (Spot × Spot)) → Distinct ss → (u v : Spot) → In ss u v → (linked ss u ≡ v) × (linked ss v ≡ u) × (u ≢ v)
linked_in [] d u v h = absurd h
linked_in (s ∷ ss) d u v (inl h) =
    let a = same_yes u s.0 h.0 in
    let b = same_yes v s.1 h.1 in
    let c = same_no v s.0 (λ z. d.0 (sym z ∙ h.1)) in
    let e = h.0 in
    let f = h.1 in
    (cc, cc, (λ z. d.0 (sym e ∙ z ∙ f)))
linked_in (s ∷ ss) d u v (inr h) =
    let ih = linked_in ss d.3 u v h in
    let o = out_in ss s.0 u v d.1 h in
    let o' = out_in ss s.1 u v d.2 h in
    let a = same_no u s.0 (λ z. o.0 (sym z)) in
    let b = same_no u s.1 (λ z. o'.0 (sym z)) in
    let c = same_no v s.0 (λ z. o.1 (sym z)) in
    let e = same_no v s.1 (λ z. o'.1 (sym z)) in
    let f = ih.0 in
    let g = ih.1 in
    (cc, cc, ih.2)

-- a spot is linked from, linked to, or not named
pub find : (ss : List (Spot × Spot)) (x : Spot) → ((y : Spot) × (In ss x y ⊎ In ss y x)) ⊎ Out x ss
find [] x = inr tt
find (s ∷ ss) x = go (spot x s.0) (spot x s.1) (find ss x)
  where
    go : (x ≡ s.0) ⊎ (x ≢ s.0) → (x ≡ s.1) ⊎ (x ≢ s.1) → ((y : Spot) × (In ss x y ⊎ In ss y x)) ⊎ Out x ss → ((y : Spot) × (In (s ∷ ss) x y ⊎ In (s ∷ ss) y x)) ⊎ Out x (s ∷ ss)
    go (inl e) q r = inl (s.1, inl (inl (e, refl)))
    go (inr n) (inl e) r = inl (s.0, inr (inl (refl, e)))
    go (inr n) (inr k) (inl (y, inl p)) = inl (y, inl (inr p))
    go (inr n) (inr k) (inl (y, inr p)) = inl (y, inr (inr p))
    go (inr n) (inr k) (inr o) = inr (n, k, o)

pub linked_mutual : (ss : List (Spot × Spot)) → Distinct ss → Mutual (linked ss)
linked_mutual ss d x = go (find ss x)
  where
    go : ((y : Spot) × (In ss x y ⊎ In ss y x)) ⊎ Out x ss → linked ss (linked ss x) ≡ x
    go (inl (y, inl p)) = let h = linked_in ss d x y p in ap (linked ss) h.0 ∙ h.1
    go (inl (y, inr p)) = let h = linked_in ss d y x p in ap (linked ss) h.1 ∙ h.0
    go (inr o) = let h = linked_out ss x o in ap (linked ss) h ∙ h

-- a spot has a mate exactly if it is named
pub linked_live : (ss : List (Spot × Spot)) → Distinct ss → (x : Spot) → 1 ≤ occ x ss → linked ss x ≢ x
linked_live ss d x h = go (find ss x)
  where
    go : ((y : Spot) × (In ss x y ⊎ In ss y x)) ⊎ Out x ss → linked ss x ≢ x
    go (inl (y, inl p)) z = let i = linked_in ss d x y p in i.2 (sym z ∙ i.0)
    go (inl (y, inr p)) z = let i = linked_in ss d y x p in i.2 (sym i.1 ∙ z)
    go (inr o) z = let i = out_occ x ss o in omega arith

pub linked_named : (ss : List (Spot × Spot)) (x : Spot) → linked ss x ≢ x → 1 ≤ occ x ss
linked_named ss x l = go (find ss x)
  where
    go : ((y : Spot) × (In ss x y ⊎ In ss y x)) ⊎ Out x ss → 1 ≤ occ x ss
    go (inl (y, inl p)) = (in_occ ss x y p).0
    go (inl (y, inr p)) = (in_occ ss y x p).1
    go (inr o) = absurd (l (linked_out ss x o))
