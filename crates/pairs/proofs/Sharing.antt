-- Different active pairs share no cell, so they are at most half as many as the places that hold them. Assumes nothing.
use Rattle.std.proofs.Common.{◌≡◌, ℕ, zero, suc, ◌*◌, ◌/◌, ◌%◌, ◌<◌, ◌≤◌, ◌⊎◌, List, length, Some, sym, refl, ap, ◌∙◌, inl, inr, arith}
use Rattle.std.specs.List.{ContainsAt as Has, slice_get}
use Rattle.calculus.specs.Books.{RuleBook, Laws}
use Rattle.calculus.specs.Nets.{Net, Good, Active, Pair as CPair}
use Rattle.calculus.specs.Theorems.{Disjoint}
use Rattle.calculus.proofs.Respects.{pairs_apart_lem}
use Rattle.calculus.proofs.Pigeons.{fits}
use Rattle.calculus.proofs.Places.{nth_some}
use Rattle.pairs.specs.Pairs.{FewPairs}
use Rattle.pairs.proofs.Members.{nth_has}
use Rattle.pairs.proofs.Meeting.{two_cells}

-- the place of L, or that of R
side : CPair → ℕ → ℕ
side P zero = P.left
side P (suc b) = P.right

side_of : (P : CPair) (b : ℕ) → b < 2 → ((b ≡ 0) × (side P b ≡ P.left)) ⊎ ((b ≡ 1) × (side P b ≡ P.right))
unfolding side
side_of P zero h = inl (refl, refl)
side_of P (suc zero) h = inr (refl, refl)
side_of P (suc (suc b)) h = absurd (omega arith)

module _ (K : RuleBook) (laws : Laws K) (A : Net) (G : Good K A) (qs : List CPair) (acts : (P : CPair) → Has qs P → Active K A P)
    (once : (i j : ℕ) (P : CPair) → slice_get qs i ≡ Some P → slice_get qs j ≡ Some P → i ≡ j) (m : ℕ) (c : ℕ → ℕ)
    (lefts : (P : CPair) → Has qs P → (j : ℕ) × (j < m) × (c j ≡ P.left)) (rights : (P : CPair) → Has qs P → (j : ℕ) × (j < m) × (c j ≡ P.right)) where
  -- side i % 2 of pair i / 2 stands in place j of c
  At : ℕ → ℕ → Type 0
  At i j = (P : CPair) × (slice_get qs (i / 2) ≡ Some P) × (side P (i % 2) ≡ c j)

  found : (i : ℕ) → i < 2 * length qs → (j : ℕ) × (j < m) × At i j
  unfolding At
  found i h =
      let t = nth_some qs (i / 2) (omega arith) in
      let g = nth_has qs (i / 2) t.0 t.1 in
      elim (side_of t.0 (i % 2) (omega arith)) [
        | inl s ↦ (let l = lefts t.0 g in (l.0, l.1, (t.0, t.1, s.1 ∙ sym l.2)))
        | inr s ↦ (let l = rights t.0 g in (l.0, l.1, (t.0, t.1, s.1 ∙ sym l.2)))
      ]

  -- two pairs with a common side are one, and so are the sides
  same : (P Q : CPair) (a b : ℕ) → Active K A P → Active K A Q → a < 2 → b < 2 → side P a ≡ side Q b → (P ≡ Q) × (a ≡ b)
  same P Q a b x y h k e = go (side_of P a h) (side_of Q b k) (pairs_apart_lem K A P Q laws G x y)
    where
      go : ((a ≡ 0) × (side P a ≡ P.left)) ⊎ ((a ≡ 1) × (side P a ≡ P.right)) → ((b ≡ 0) × (side Q b ≡ Q.left)) ⊎ ((b ≡ 1) × (side Q b ≡ Q.right)) →
          (P ≡ Q) ⊎ Disjoint P Q → (P ≡ Q) × (a ≡ b)
      go (inl s) (inl t) (inl z) = (z, s.0 ∙ sym t.0)
      go (inr s) (inr t) (inl z) = (z, s.0 ∙ sym t.0)
      go (inl s) (inr t) (inl z) = absurd (two_cells K A Q y (ap (λ (v : CPair). v.left) (sym z) ∙ sym s.1 ∙ e ∙ t.1))
      go (inr s) (inl t) (inl z) = absurd (two_cells K A Q y (sym t.1 ∙ sym e ∙ s.1 ∙ ap (λ (v : CPair). v.right) z))
      go (inl s) (inl t) (inr d) = absurd (d.left_left (sym s.1 ∙ e ∙ t.1))
      go (inl s) (inr t) (inr d) = absurd (d.left_right (sym s.1 ∙ e ∙ t.1))
      go (inr s) (inl t) (inr d) = absurd (d.right_left (sym s.1 ∙ e ∙ t.1))
      go (inr s) (inr t) (inr d) = absurd (d.right_right (sym s.1 ∙ e ∙ t.1))

  one : (i k j : ℕ) → At i j → At k j → i ≡ k
  unfolding At
  one i k j (P, e, f) (Q, g, h) =
      let s = same P Q (i % 2) (k % 2) (acts P (nth_has qs (i / 2) P e)) (acts Q (nth_has qs (k / 2) Q g)) (omega arith) (omega arith) (f ∙ sym h) in
      let z = once (i / 2) (k / 2) Q (e ∙ ap (λ (v : CPair). Some v) s.0) g in
      let y = s.1 in
      omega arith

  pub half : 2 * length qs ≤ m
  half = fits (2 * length qs) m At found one

pub few_pairs_lem : FewPairs
few_pairs_lem K A qs laws G low acts once =
    let h = half K laws A G qs acts once 1024 (λ j. j)
    (λ P g. (P.left, low P.left P.rule.left (acts P g).left, refl))
    (λ P g. (P.right, low P.right P.rule.right (acts P g).right, refl)) in
    omega arith
