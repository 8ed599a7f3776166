use Rattle.std.proofs.Common.{◌≡◌, ℕ, ◌<◌, ◌≤◌, Bool, true, false, ltb, min, max, List, [], ◌∷◌, length, get_or, take, sym, ap, ◌∙◌, subst, inl, inr, arith}
use Rattle.std.proofs.lemmas.Bool.{cases_lt}
use Rattle.std.proofs.lemmas.List.{get_or-take, length-take-le}
use Rattle.nets.specs.Seating.{FlippedIf, Taken, Seated}
use Rattle.nets.proofs.Counting.{fourth_room}
use Rattle.nets.proofs.seats.take_places.Goals as goal
use Rattle.nets.proofs.seats.take_places.Goals.{then-low_leaves, else-low_leaves, then-high_leaves, else-high_leaves, then-cells-gt2, else-cells-gt2, then-cells-gt3, else-cells-gt3}

is_less : (a b : ℕ) → a < b → true ≡ ltb a b
is_less a b h = grind (arith)

not_less : (a b : ℕ) → b ≤ a → false ≡ ltb a b
not_less a b h = grind (arith)

-- what each test leaves
flipped : (n k p : ℕ) (ms : List ℕ) {ns os : List ℕ} → n < k → ns ≡ os → FlippedIf true ms p os → FlippedIf (ltb n k) ms p ns
flipped n k p ms {ns} h e f = subst (λ (b : Bool). FlippedIf b ms p ns) (is_less n k h) (subst (λ (ns : List ℕ). FlippedIf true ms p ns) (sym e) f)

left_alone : (n k p : ℕ) (ms : List ℕ) {ns : List ℕ} → k ≤ n → ns ≡ ms → FlippedIf (ltb n k) ms p ns
left_alone n k p ms {ns} h e = subst (λ (b : Bool). FlippedIf b ms p ns) (not_less n k h) e

taken : (n k : ℕ) (ms : List ℕ) {p q : ℕ} {ns os : List ℕ} → k < n → ns ≡ os → p ≡ q → Taken true ms q os → Taken (ltb k n) ms p ns
taken n k ms {p} {q} {ns} {os} h e f g =
    subst (λ (b : Bool). Taken b ms p ns) (is_less k n h) (subst (λ (ns : List ℕ). Taken true ms p ns) (sym e) (subst (λ (p : ℕ). Taken true ms p os) (sym f) g))

not_taken : (n k p : ℕ) (ms : List ℕ) {ns : List ℕ} → n ≤ k → ns ≡ ms → Taken (ltb k n) ms p ns
not_taken n k p ms {ns} h e = subst (λ (b : Bool). Taken b ms p ns) (not_less k n h) e

pub take_vacant-fourth-requires : goal.take_vacant-fourth-requires
take_vacant-fourth-requires c =
    let many : 3 < c.args.cells = c.if-cells-gt3.true in
    fourth_room c.args.cells c.min-low.result c.max-high.result c.if-cells-gt2.third c.args.map.now c.if-low_leaves.map c.if-high_leaves.map c.if-cells-gt2.map
    c.requires.room
    (left_alone c.args.cells 1 _ _ (omega arith) (elim c.if-low_leaves.branch [ then-low_leaves w ↦ absurd (omega arith) | else-low_leaves w ↦ w.map-is ]))
    (left_alone c.args.cells 2 _ _ (omega arith) (elim c.if-high_leaves.branch [ then-high_leaves w ↦ absurd (omega arith) | else-high_leaves w ↦ w.map-is ]))
    (elim c.if-cells-gt2.branch [ then-cells-gt2 w ↦ taken c.args.cells 2 _ w.if-cells-gt2.true w.map-is w.third-is w.take_vacant-third.ensures | else-cells-gt2 w ↦ not_taken c.args.cells 2 _ _ w.if-cells-gt2.false w.map-is ])
    (sym (is_less 3 c.args.cells c.if-cells-gt3.true))

-- a place past those that are kept is none that was taken
kept : (i n : ℕ) (rs ts : List ℕ) {x y : ℕ} → (i < n → x ≡ y) → Taken (ltb i n) rs x ts → Taken (ltb i n) rs y ts
kept i n rs ts {x} {y} e T = elim (cases_lt i n) [
  | inl h ↦ subst (λ (z : ℕ). Taken (ltb i n) rs z ts) (e h) T
  | inr h ↦ subst (λ (b : Bool). Taken b rs y ts) (not_less i n h) (subst (λ (b : Bool). Taken b rs x ts) (sym (not_less i n h)) T)
]

seated : (p q n low high third fourth : ℕ) (ms ls rs ts ns ps : List ℕ) → n ≤ 4 → low ≡ min p q → high ≡ max p q →
    FlippedIf (ltb n 1) ms low ls → FlippedIf (ltb n 2) ls high rs → Taken (ltb 2 n) rs third ts → Taken (ltb 3 n) ts fourth ns →
    ps ≡ take n (low ∷ high ∷ third ∷ fourth ∷ []) → Seated p q n ms ps ns
seated p q n low high third fourth ms ls rs ts ns ps few e f a b c d is = record {
  number = ap length is ∙ length-take-le n (low ∷ high ∷ third ∷ fourth ∷ []) few;
  first = λ h. at 0 h ∙ e;
  second = λ h. at 1 h ∙ f;
  lefts = ls;
  rights = rs;
  thirds = ts;
  low = subst (λ (r : ℕ). FlippedIf (ltb n 1) ms r ls) e a;
  high = subst (λ (r : ℕ). FlippedIf (ltb n 2) ls r rs) f b;
  third = kept 2 n rs ts (λ h. sym (at 2 h)) c;
  fourth = kept 3 n ts ns (λ h. sym (at 3 h)) d;
}
  where
    at : (i : ℕ) → i < n → get_or ps i 0 ≡ get_or (low ∷ high ∷ third ∷ fourth ∷ []) i 0
    at i h = ap (λ (l : List ℕ). get_or l i 0) is ∙ get_or-take n (low ∷ high ∷ third ∷ fourth ∷ []) i 0 h

pub returns : goal.returns
returns c =
    seated c.args.left c.args.right c.args.cells c.min-low.result c.max-high.result c.if-cells-gt2.third c.if-cells-gt3.fourth
    c.args.map.now c.if-low_leaves.map c.if-high_leaves.map c.if-cells-gt2.map c.if-cells-gt3.map _ c.requires.few c.min-low.ensures c.max-high.ensures
    (elim c.if-low_leaves.branch [ then-low_leaves w ↦ flipped c.args.cells 1 _ _ (omega arith) w.map-is w.flip.ensures | else-low_leaves w ↦ left_alone c.args.cells 1 _ _ (omega arith) w.map-is ])
    (elim c.if-high_leaves.branch [ then-high_leaves w ↦ flipped c.args.cells 2 _ _ (omega arith) w.map-is w.flip-then-high_leaves.ensures | else-high_leaves w ↦ left_alone c.args.cells 2 _ _ (omega arith) w.map-is ])
    (elim c.if-cells-gt2.branch [ then-cells-gt2 w ↦ taken c.args.cells 2 _ w.if-cells-gt2.true w.map-is w.third-is w.take_vacant-third.ensures | else-cells-gt2 w ↦ not_taken c.args.cells 2 _ _ w.if-cells-gt2.false w.map-is ])
    (elim c.if-cells-gt3.branch [ then-cells-gt3 w ↦ taken c.args.cells 3 _ w.if-cells-gt3.true w.map-is w.fourth-is w.take_vacant-fourth.ensures | else-cells-gt3 w ↦ not_taken c.args.cells 3 _ _ w.if-cells-gt3.false w.map-is ])
    (c.truncate.ensures.items ∙ ap (take c.args.cells) c.from_array_in-places.ensures.items)
