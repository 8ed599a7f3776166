-- Which pairs a rewriting makes: those whose cells are new, or were linked with auxiliary ports of the pair by their principal ports. Assumes nothing.
use Rattle.std.proofs.Common.{◌≡◌, ℕ, zero, suc, ◌<◌, ◌≤◌, ◌≢◌, ◌⊎◌, List, ◌++◌, length, get_or, Some, None, Option, sym, refl, ap, ◌∙◌, subst, inl, inr, arith}
use Rattle.std.specs.List.{ContainsAt as Has, slice_get}
use Rattle.std.proofs.ByRecursion.{has_get_or, has_append_left, has_append_right, has_append_cases}
use Rattle.std.proofs.lemmas.Bool.{cases_lt}
use Rattle.calculus.specs.Spots.{Spot, end, port}
use Rattle.calculus.specs.Books.{L, R, N, RuleBook, Laws}
use Rattle.calculus.specs.Nets.{Net, Good, Active, Pair as CPair}
use Rattle.calculus.specs.Rewriting.{Outside, Unused, along, Leads, stays, crosses, Rewriting}
use Rattle.calculus.specs.Theorems.{Disjoint}
use Rattle.calculus.proofs.Respects.{pairs_apart_lem}
use Rattle.calculus.proofs.Places.{look, nth_some}
use Rattle.calculus.proofs.Tests.{nth_within}
use Rattle.calculus.proofs.Wiring.{number}
use Rattle.nets.specs.ByBook.{seat}
use Rattle.pairs.specs.Pairs.{lower, Became}
use Rattle.pairs.specs.Gathering.{neighbours}
use Rattle.pairs.proofs.Members.{Apart, apart-append, at_apart}
use Rattle.pairs.proofs.Meeting.{two_cells}
use Rattle.pairs.proofs.Near.{near_beside, beside_near, near_apart}

pub lower_side : (Q : CPair) → (lower Q ≡ Q.left) ⊎ (lower Q ≡ Q.right)
lower_side Q = elim (cases_lt Q.left Q.right) [ inl h ↦ inl (omega arith) | inr h ↦ inr (omega arith) ]

some_not_none : (o : Option ℕ) (k : ℕ) → o ≡ Some k → o ≡ None → ⊥
some_not_none o k e f = let z : ◌≡◌ {A = ℕ} 0 1 = cc in omega arith

-- an end or a port of a cell that stays, or a port of the pair
outside : (P : CPair) (y : Spot) → Outside P y ⊎ ((s : ℕ) × (j : ℕ) × ((s ≡ P.left) ⊎ (s ≡ P.right)) × (y ≡ port s j))
outside P (end e) = inl tt
outside P (port r j) = elim (number r P.left) [
  | inl e ↦ inr (r, j, inl e, refl)
  | inr n ↦ elim (number r P.right) [ inl e ↦ inr (r, j, inr e, refl) | inr m ↦ inl (n, m) ]
]

-- following ends at once at what stays
ends_there : (K : RuleBook) (A : Net) (P : CPair) (place : ℕ → ℕ) (y z : Spot) → Outside P y → Leads K A P place (along y) z → z ≡ y
ends_there K A P place y z o (stays s) = refl
ends_there K A P place y z o (crosses (L j) h e l w f) = absurd ((subst (Outside P) e o).0 refl)
ends_there K A P place y z o (crosses (R j) h e l w f) = absurd ((subst (Outside P) e o).1 refl)
ends_there K A P place y z o (crosses (N i j) h e l w f) = absurd l

module _ (K : RuleBook) (laws : Laws K) (A B : Net) (G : Good K A) (P : CPair) (ps : List ℕ) (W : Rewriting K A P (seat ps) B) (long : length ps ≡ length P.rule.cells) where
  -- the cells to look at
  abbrev pub touched : List ℕ
  touched = neighbours A P.left P.right ++ ps

  -- the place of a new cell
  abbrev New : ℕ → Type 0
  New r = (i : ℕ) × (k : ℕ) × (slice_get P.rule.cells i ≡ Some k) × (seat ps i ≡ r)

  new_has : (r : ℕ) → New r → Has touched r
  new_has r (i, k, e, f) =
      has_append_right (neighbours A P.left P.right) ps r
      (subst (Has ps) f (has_get_or ps i 0 (let h = nth_within P.rule.cells i k e in omega arith)))

  has_new : (r : ℕ) → Has ps r → New r
  has_new r (i, h, e) = let n = nth_some P.rule.cells i (omega arith) in (i, n.0, n.1, e 0)

  new_or_not : (r : ℕ) → New r ⊎ Unused P (seat ps) r
  new_or_not r = elim (look (seat ps) (length P.rule.cells) r) [
    | inl t ↦ (let n = nth_some P.rule.cells t.0 t.1 in inl (t.0, n.0, n.1, t.2))
    | inr f ↦ inr (λ i k e. f i (nth_within P.rule.cells i k e))
  ]

  -- a place of a new cell was vacant or the pair's
  new_free : (r k : ℕ) → New r → A.kind r ≡ Some k → (r ≡ P.left) ⊎ (r ≡ P.right)
  new_free r k (i, l, e, f) h = elim (W.vacant i l e) [
    | inl v ↦ absurd (some_not_none (A.kind r) k h (ap A.kind (sym f) ∙ v))
    | inr s ↦ elim s [ inl z ↦ inl (sym f ∙ z) | inr z ↦ inr (sym f ∙ z) ]
  ]

  back : (x y : Spot) → A.mate x ≡ y → A.mate y ≡ x
  back x y e = ap A.mate (sym e) ∙ G.twice x

  -- the two cells faced each other before, and none of them is looked at
  record Untouched (r s k l : ℕ) : Type 0 where
    pub here : A.kind r ≡ Some k
    pub there : A.kind s ≡ Some l
    pub facing : A.mate (port r 0) ≡ port s 0
    pub not_left : r ≢ P.left
    pub out : Has touched r → ⊥
    pub out' : Has touched s → ⊥

  module _ (r s k l : ℕ) (bk : B.kind r ≡ Some k) (bl : B.kind s ≡ Some l) (f : B.mate (port r 0) ≡ port s 0) where
    module _ (old : Unused P (seat ps) r) where
      not_left : r ≢ P.left
      not_left e = some_not_none (B.kind r) k bk (W.gone r (inl e) old)

      not_right : r ≢ P.right
      not_right e = some_not_none (B.kind r) k bk (W.gone r (inr e) old)

      here : A.kind r ≡ Some k
      here = sym (W.kept r not_left not_right old) ∙ bk

      live : A.mate (port r 0) ≢ port r 0
      live = G.linked (port r 0) (k, here, G.known r k here)

      follow : Leads K A P (seat ps) (along (A.mate (port r 0))) (B.mate (port r 0))
      follow = W.old_links (port r 0) live (not_left, not_right)

      -- its link was with something that stays
      stayed : Outside P (A.mate (port r 0)) → Untouched r s k l
      stayed o = record { here = here; there = there; facing = facing; not_left = not_left; out = out; out' = out' }
        where
          facing : A.mate (port r 0) ≡ port s 0
          facing = sym (ends_there K A P (seat ps) (A.mate (port r 0)) (B.mate (port r 0)) o follow) ∙ f

          returning : A.mate (port s 0) ≡ port r 0
          returning = back (port r 0) (port s 0) facing

          apart : (s ≢ P.left) × (s ≢ P.right)
          apart = subst (Outside P) facing o

          stood : (m : ℕ) × (A.kind s ≡ Some m)
          stood =
              let t = G.there (port s 0) (λ e. let z : port s 0 ≡ port r 0 = sym e ∙ returning in live (facing ∙ z)) in
              (t.0, t.1)

          unused : Unused P (seat ps) s
          unused i m e z = elim (new_free s stood.0 (i, m, e, z) stood.1) [ inl y ↦ apart.0 y | inr y ↦ apart.1 y ]

          there : A.kind s ≡ Some l
          there = sym (W.kept s apart.0 apart.1 unused) ∙ bl

          not_beside : (a b : ℕ) → A.mate (port a 0) ≡ port b 0 → Has (neighbours A P.left P.right) a → ⊥
          not_beside a b e h =
              let t = near_beside A G.twice P.left P.right a h in
              let z : port b 0 ≡ port t.0 t.1 = sym e ∙ t.4 in
              let y : 0 ≡ t.1 = cc in
              let j = t.3 in
              omega arith

          out : Has touched r → ⊥
          out h = elim (has_append_cases (neighbours A P.left P.right) ps r h) [
            | inl g ↦ not_beside r s facing g
            | inr g ↦ (let t = has_new r g in old t.0 t.1 t.2 t.3)
          ]

          out' : Has touched s → ⊥
          out' h = elim (has_append_cases (neighbours A P.left P.right) ps s h) [
            | inl g ↦ not_beside s r returning g
            | inr g ↦ (let t = has_new s g in unused t.0 t.1 t.2 t.3)
          ]

      -- its link was with a port of the pair, and not a principal one
      beside : (t j : ℕ) → (t ≡ P.left) ⊎ (t ≡ P.right) → A.mate (port r 0) ≡ port t j → Has (neighbours A P.left P.right) r
      beside t j side e = beside_near A G.twice P.left P.right r t j side (one j e) two e
        where
          act : Active K A P
          act = W.active

          one : (j : ℕ) → A.mate (port r 0) ≡ port t j → 1 ≤ j
          one zero e = elim side [
            | inl z ↦
                (let y : port r 0 ≡ port P.right 0 = sym (back (port r 0) (port t 0) e) ∙ ap (λ (v : ℕ). A.mate (port v 0)) z ∙ act.facing in
                absurd (not_right (cc)))
            | inr z ↦
                (let y : port r 0 ≡ port P.left 0 = sym (back (port r 0) (port t 0) e) ∙ ap (λ (v : ℕ). A.mate (port v 0)) z ∙ back (port P.left 0) (port P.right 0) act.facing in
                absurd (not_left (cc)))
          ]
          one (suc j) e = omega arith

          two : j ≤ 2
          two =
              let h = G.there (port t j) (λ z. let y : port t j ≡ port r 0 = sym z ∙ back (port r 0) (port t j) e in live (e ∙ y)) in
              let a = (laws.kinds h.0 h.2.0 h.2.1).1 in
              let b = h.2.2 in
              omega arith

    touched_or_not : Has touched r ⊎ Untouched r s k l
    touched_or_not = elim (new_or_not r) [
      | inl n ↦ inl (new_has r n)
      | inr old ↦ elim (outside P (A.mate (port r 0))) [
        | inl o ↦ inr (stayed old o)
        | inr t ↦ inl (has_append_left (neighbours A P.left P.right) ps r (beside old t.0 t.1 t.2 t.3))
      ]
    ]

  -- the new cells have places of their own, and no neighbour stands there
  pub touched_apart : Apart touched
  touched_apart =
      apart-append (neighbours A P.left P.right) ps (near_apart A G.twice P.left P.right (two_cells K A P W.active))
      (at_apart ps 0 new_apart) not_both
    where
      new_apart : (i j : ℕ) → i < length ps → j < length ps →
          get_or ps i 0 ≡ get_or ps j 0 → i ≡ j
      new_apart i j h k e =
          let a = nth_some P.rule.cells i (omega arith) in
          let b = nth_some P.rule.cells j (omega arith) in
          W.apart i j a.0 b.0 a.1 b.1 e

      not_both : (r : ℕ) → Has (neighbours A P.left P.right) r → Has ps r → ⊥
      not_both r x y =
          let t = near_beside A G.twice P.left P.right r x in
          let stood = G.there (port r 0) (λ e. auxiliary t.1 t.3 r (sym e ∙ t.4)) in
          elim (new_free r stood.0 (has_new r y) stood.1) [
            | inl e ↦ auxiliary t.1 t.3 P.right (sym W.active.facing ∙ ap (λ (v : ℕ). A.mate (port v 0)) (sym e) ∙ t.4)
            | inr e ↦ auxiliary t.1 t.3 P.left (sym (back (port P.left 0) (port P.right 0) W.active.facing) ∙ ap (λ (v : ℕ). A.mate (port v 0)) (sym e) ∙ t.4)
          ]
        where
          auxiliary : (j : ℕ) → 1 ≤ j → (a : ℕ) {s : ℕ} → port a 0 ≡ port s j → ⊥
          auxiliary j h a e = let z : 0 ≡ j = cc in omega arith

  module _ (H : Good K B) (Q : CPair) (act : Active K B Q) where
    turned : B.mate (port Q.right 0) ≡ port Q.left 0
    turned = ap B.mate (sym act.facing) ∙ H.twice (port Q.left 0)

    -- both cells of a pair are looked at, or none is
    left_right : Has touched Q.left → Has touched Q.right
    left_right h = elim (touched_or_not Q.right Q.left Q.rule.right Q.rule.left act.right act.left turned) [
      | inl g ↦ g
      | inr u ↦ absurd (u.out' h)
    ]

    right_left : Has touched Q.right → Has touched Q.left
    right_left h = elim (touched_or_not Q.left Q.right Q.rule.left Q.rule.right act.left act.right act.facing) [
      | inl g ↦ g
      | inr u ↦ absurd (u.out' h)
    ]

    side : (lower Q ≡ Q.left) ⊎ (lower Q ≡ Q.right)
    side = lower_side Q

    pub lower_left : Has touched (lower Q) → Has touched Q.left
    lower_left h = elim side [
      | inl e ↦ subst (Has touched) e h
      | inr e ↦ right_left (subst (Has touched) e h)
    ]

    pub lower_right : Has touched (lower Q) → Has touched Q.right
    lower_right h = left_right (lower_left h)

    -- a pair became active just if its cells are looked at
    pub became_touched : Became K A P B Q → Has touched (lower Q)
    became_touched b = elim (touched_or_not Q.left Q.right Q.rule.left Q.rule.right act.left act.right act.facing) [
      | inl g ↦ elim side [
        | inl e ↦ subst (Has touched) (sym e) g
        | inr e ↦ subst (Has touched) (sym e) (left_right g)
      ]
      | inr u ↦ absurd (u.not_left (ap (λ (x : CPair). x.left) (b.1 (record { listed = act.listed; left = u.here; right = u.there; facing = u.facing; first = act.first }))))
    ]

    pub touched_became : Has touched (lower Q) → Became K A P B Q
    touched_became h = (
      act,
      λ was. elim (pairs_apart_lem K A P Q laws G W.active was) [
        | inl e ↦ sym e
        | inr d ↦ absurd (never was d)
      ],
    )
      where
        never : Active K A Q → Disjoint P Q → ⊥
        never was d = elim (has_append_cases (neighbours A P.left P.right) ps Q.left (lower_left h)) [
          | inl g ↦
              (let t = near_beside A G.twice P.left P.right Q.left g in
              let z : port Q.right 0 ≡ port t.0 t.1 = sym was.facing ∙ t.4 in
              let y : 0 ≡ t.1 = cc in
              let j = t.3 in
              omega arith)
          | inr g ↦ elim (new_free Q.left Q.rule.left (has_new Q.left g) was.left) [ inl e ↦ d.left_left (sym e) | inr e ↦ d.right_left (sym e) ]
        ]
