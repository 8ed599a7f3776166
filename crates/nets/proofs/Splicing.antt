-- The splice of two spots, in the list of links. Assumes nothing.
use Rattle.std.proofs.Common.{◌≡◌, ℕ, ◌<◌, ◌≢◌, ◌⊎◌, List, length, get_or, set, sym, ap, ◌∙◌, inl, inr, arith, length-set}
use Rattle.nets.specs.declared.link.Link.{Link}
use Rattle.nets.specs.Layout.{code, slot_of, goal, nil}
use Rattle.nets.specs.Rewiring.{HasSlot, Shows, Spliced}
use Rattle.nets.proofs.Slots.{Whole, code_inj, goal_same, goal_other}
use Rattle.calculus.specs.Spots.{Spot}
use Rattle.calculus.proofs.Wires.{through, closes}
use Rattle.calculus.proofs.Splice.{spot, to_a, to_b, past, one_mate, Mutual, was_live, closes_yes, closes_no, closed_past}

module _ (xs : List Link) (m : Spot → Spot) (inv : Mutual m) (S : Shows xs m) where
  pub mate_live : (x : Spot) → m x ≢ x → m (m x) ≢ m x
  mate_live x l e = l (sym (sym (inv x) ∙ e))

  pub mate_drawn : (x : Spot) → m x ≢ x → HasSlot (m x)
  mate_drawn x l = (S (m x) (mate_live x l)).0

  module _ (x y : Spot) (xy : x ≢ y) (lx : m x ≢ x) (ly : m y ≢ y) where
    pub closed : m x ≡ y → Shows xs (through x y m) × (1 ≡ closes x y m)
    closed e = (sh, sym (closes_yes x y m e))
      where
        sh : Shows xs (through x y m)
        sh z l =
            let w = was_live x y m inv xy lx ly z l in
            let s = S z w.2 in
            (s.0, s.1 ∙ ap code (sym (closed_past x y m inv e z w.0 w.1)))

    opened : (X Y : Link) → Whole xs → slot_of X ≡ code (m x) → slot_of Y ≡ code (m y) → m x ≢ y →
        Shows (set (set xs (slot_of X) Y) (slot_of Y) X) (through x y m) × (0 ≡ closes x y m)
    opened X Y W eX eY n = (sh, sym (closes_no x y m n))
      where
        ys : List Link
        ys = set xs (slot_of X) Y

        zs : List Link
        zs = set ys (slot_of Y) X

        apart : slot_of X ≢ slot_of Y
        apart e = xy (one_mate m inv x y (code_inj (m x) (m y) (mate_drawn x lx) (mate_drawn y ly) (sym eX ∙ e ∙ eY)))

        sx : slot_of X < length xs
        sx = omega (arith, (mate_drawn x lx).1, W.long)

        sy : slot_of Y < length ys
        sy = simp length-set (omega (arith, (mate_drawn y ly).1, W.long))

        at_x : goal zs (code (m x)) ≡ code (m y)
        at_x = ap (goal zs) (sym eX) ∙ goal_other ys (slot_of Y) X (slot_of X) apart ∙ goal_same xs (slot_of X) Y sx ∙ eY

        at_y : goal zs (code (m y)) ≡ code (m x)
        at_y = ap (goal zs) (sym eY) ∙ goal_same ys (slot_of Y) X sy ∙ eX

        sh : Shows zs (through x y m)
        sh z l = go (spot (m z) x) (spot (m z) y)
          where
            w : (z ≢ x) × (z ≢ y) × (m z ≢ z)
            w = was_live x y m inv xy lx ly z l

            s : HasSlot z × (goal xs (code z) ≡ code (m z))
            s = S z w.2

            go : (m z ≡ x) ⊎ (m z ≢ x) → (m z ≡ y) ⊎ (m z ≢ y) → HasSlot z × (goal zs (code z) ≡ code (through x y m z))
            go (inl e) q =
                let f : z ≡ m x = sym (inv z) ∙ ap m e in
                (s.0, ap (λ z. goal zs (code z)) f ∙ at_x ∙ ap code (sym (to_a x y m z w.0 w.1 e)))
            go (inr k) (inl e) =
                let f : z ≡ m y = sym (inv z) ∙ ap m e in
                (s.0, ap (λ z. goal zs (code z)) f ∙ at_y ∙ ap code (sym (to_b x y m z w.0 w.1 xy e)))
            go (inr k) (inr h) =
                let nx : code z ≢ slot_of X = λ e. k (ap m (code_inj z (m x) s.0 (mate_drawn x lx) (e ∙ eX)) ∙ inv x) in
                let ny : code z ≢ slot_of Y = λ e. h (ap m (code_inj z (m y) s.0 (mate_drawn y ly) (e ∙ eY)) ∙ inv y) in
                (s.0, goal_other ys (slot_of Y) X (code z) ny ∙ goal_other xs (slot_of X) Y (code z) nx ∙ s.1 ∙ ap code (sym (past x y m z w.0 w.1 k h)))

pub splice_closed : (xs : List Link) (a b : ℕ) → goal xs a ≡ b → Spliced xs a b xs 1
splice_closed xs a b e = record {
  few = omega arith;
  shows = λ m x y inv cx cy xy lx ly S.
      closed xs m inv S x y xy lx ly
      (code_inj (m x) y (mate_drawn xs m inv S x lx) (S y ly).0 (sym (S x lx).1 ∙ ap (goal xs) cx ∙ e ∙ sym cy));
}

pub splice_open : (xs : List Link) (a b : ℕ) (X Y : Link) → Whole xs → X ≡ get_or xs a nil → Y ≡ get_or xs b nil → slot_of X ≢ b →
    Spliced xs a b (set (set xs (slot_of X) Y) (slot_of Y) X) 0
splice_open xs a b X Y W eX eY n = record {
  few = omega arith;
  shows = λ m x y inv cx cy xy lx ly S.
      let sX : slot_of X ≡ code (m x) = ap slot_of eX ∙ ap (goal xs) (sym cx) ∙ (S x lx).1 in
      let sY : slot_of Y ≡ code (m y) = ap slot_of eY ∙ ap (goal xs) (sym cy) ∙ (S y ly).1 in
      opened xs m inv S x y xy lx ly X Y W sX sY (λ e. n (sX ∙ ap code e ∙ cy));
}
