-- Gathering pairs place by place. Assumes nothing.
use Rattle.std.proofs.Common.{◌≡◌, ℕ, ◌+◌, ◌<◌, ◌≢◌, ◌⊎◌, List, [], ◌∷◌, ◌++◌, length, get_or, take, Option, Some, None, Bool, eqb, sym, ap, ◌∙◌, subst, ap₂, inl, inr, arith}
use Rattle.std.specs.List.{ContainsAt as Has, slice_get}
use Rattle.std.specs.Bool.{then_some}
use Rattle.std.proofs.lemmas.Bool.{cases_lt, cases_eq, eq-eqb, ne_eqb}
use Rattle.std.proofs.lemmas.List.{take_more, length-map}
use Rattle.std.proofs.ByRecursion.{has_get_or, has_append_left, has_push, has_push_cases}
use Rattle.calculus.specs.Books.{RuleBook, Laws}
use Rattle.calculus.specs.Nets.{Net, Good, Active, Pair as CPair}
use Rattle.calculus.specs.Theorems.{Disjoint}
use Rattle.calculus.proofs.Respects.{pairs_apart_lem}
use Rattle.strategies.specs.declared.pair.Pair.{Pair as Waiting}
use Rattle.pairs.specs.Pairs.{waiting, lower, least, InOrder, PairAt, LedBy}
use Rattle.pairs.specs.Gathering.{put, Whole, Gathered}
use Rattle.pairs.proofs.Members.{has_take}
use Rattle.pairs.proofs.Becoming.{lower_side}
use Rattle.pairs.proofs.Sharing.{half}
use Rattle.pairs.proofs.Putting.{has_put, put_first, put_kept, length_put, map_put, up_put, up_rises, rises_up}

pub same_order : (Is Js : CPair → Type 0) (qs : List CPair) → ((P : CPair) → Is P → Js P) → ((P : CPair) → Js P → Is P) → InOrder Is qs → InOrder Js qs
same_order Is Js qs f g O = record { each = λ P h. f P (O.each P h); all = λ P j. O.all P (g P j); rising = O.rising }

-- in order, each stands once
once : (Is : CPair → Type 0) (qs : List CPair) → InOrder Is qs → (i j : ℕ) (P : CPair) → slice_get qs i ≡ Some P → slice_get qs j ≡ Some P → i ≡ j
once Is qs O i j P e f = elim (cases_lt i j) [
  | inl h ↦ (let z = O.rising i j P P h e f in absurd (omega arith))
  | inr h ↦ elim (cases_lt j i) [ inl g ↦ (let z = O.rising j i P P g f e in absurd (omega arith)) | inr g ↦ omega arith ]
]

module _ (K : RuleBook) (laws : Laws K) (A : Net) (G : Good K A) where
  -- pairs with one lower place are one
  one_at : (P Q : CPair) → Active K A P → Active K A Q → lower P ≡ lower Q → P ≡ Q
  one_at P Q x y e = go (pairs_apart_lem K A P Q laws G x y) (lower_side P) (lower_side Q)
    where
      go : (P ≡ Q) ⊎ Disjoint P Q → (lower P ≡ P.left) ⊎ (lower P ≡ P.right) → (lower Q ≡ Q.left) ⊎ (lower Q ≡ Q.right) → P ≡ Q
      go (inl z) s t = z
      go (inr d) (inl s) (inl t) = absurd (d.left_left (sym s ∙ e ∙ t))
      go (inr d) (inl s) (inr t) = absurd (d.left_right (sym s ∙ e ∙ t))
      go (inr d) (inr s) (inl t) = absurd (d.right_left (sym s ∙ e ∙ t))
      go (inr d) (inr s) (inr t) = absurd (d.right_right (sym s ∙ e ∙ t))

  pub led_other : (r : ℕ) (p : Waiting) → PairAt K A r (Some p) → least p ≢ r → LedBy K A r None
  led_other r p (P, x, w, side) n Q y e = go (pairs_apart_lem K A P Q laws G x y) side (lower_side Q)
    where
      go : (P ≡ Q) ⊎ Disjoint P Q → (P.left ≡ r) ⊎ (P.right ≡ r) → (lower Q ≡ Q.left) ⊎ (lower Q ≡ Q.right) → ⊥
      go (inl z) s t = n (sym (ap least w) ∙ ap lower z ∙ e)
      go (inr d) (inl s) (inl t) = d.left_left (s ∙ sym e ∙ t)
      go (inr d) (inl s) (inr t) = d.left_right (s ∙ sym e ∙ t)
      go (inr d) (inr s) (inl t) = d.right_left (s ∙ sym e ∙ t)
      go (inr d) (inr s) (inr t) = d.right_right (s ∙ sym e ∙ t)

  pub led_if : (r : ℕ) (p : Waiting) → PairAt K A r (Some p) → (o : Option Waiting) → o ≡ then_some (eqb (least p) r) p → LedBy K A r o
  led_if r p x o e = elim (cases_eq (least p) r) [
    | inl y ↦ subst (LedBy K A r) (sym (e ∙ ap (λ (b : Bool). then_some b p) (eq-eqb (least p) r y))) (x.0, x.1, x.2, ap least x.2 ∙ y)
    | inr n ↦ subst (LedBy K A r) (sym (e ∙ ap (λ (b : Bool). then_some b p) (ne_eqb (least p) r n))) (led_other r p x n)
  ]

  module _ (cs : List ℕ) (i : ℕ) (h : i < length cs) (ps : List Waiting) (D : Gathered K A (take i cs) ps) where
    more : take (i + 1) cs ≡ take i cs ++ get_or cs i 0 ∷ []
    more = take_more cs i 0 h

    earlier : (r : ℕ) → Has (take i cs) r → Has (take (i + 1) cs) r
    earlier r g = subst (λ (l : List ℕ). Has l r) (sym more) (has_append_left (take i cs) (get_or cs i 0 ∷ []) r g)

    split : (r : ℕ) → Has (take (i + 1) cs) r → Has (take i cs) r ⊎ (get_or cs i 0 ≡ r)
    split r g = has_push_cases (take i cs) (get_or cs i 0) r (subst (λ (l : List ℕ). Has l r) more g)

    pub gathered_none : LedBy K A (get_or cs i 0) None → Gathered K A (take (i + 1) cs) ps
    gathered_none n = record {
      pairs = D.pairs;
      order = same_order (λ P. Active K A P × Has (take i cs) (lower P)) (λ P. Active K A P × Has (take (i + 1) cs) (lower P)) D.pairs
          (λ P t. (t.0, earlier (lower P) t.1))
          (λ P t. (t.0, elim (split (lower P) t.1) [ inl g ↦ g | inr e ↦ absurd (n P t.0 (sym e)) ]))
          D.order;
      same = D.same;
    }

    module _ (O : Whole K A cs) (p : Waiting) (F : LedBy K A (get_or cs i 0) (Some p)) where
      P : CPair
      P = F.0

      act : Active K A F.0
      act = F.1

      at : lower F.0 ≡ get_or cs i 0
      at = F.3

      all_cs : (r : ℕ) → Has (take (i + 1) cs) r → Has cs r
      all_cs r g =
          let t = has_take (i + 1) cs 0 r (omega arith) g in
          let l = t.1 in
          subst (Has cs) t.2 (has_get_or cs t.0 0 (omega arith))

      here : Has (take (i + 1) cs) (lower F.0)
      here = subst (Has (take (i + 1) cs)) (sym at) (subst (λ (l : List ℕ). Has l (get_or cs i 0)) (sym more) (has_push (take i cs) (get_or cs i 0)))

      fresh : (Q : CPair) → Has D.pairs Q → lower Q ≢ lower F.0
      fresh Q g e =
          let t = has_take i cs 0 (lower Q) (omega arith) (D.order.each Q g).1 in
          let l = t.1 in
          let z = O.apart t.0 i (omega arith) h (t.2 ∙ e ∙ at) in
          omega arith

      order : InOrder (λ Q. Active K A Q × Has (take (i + 1) cs) (lower Q)) (put lower F.0 D.pairs)
      order = record {
        each = λ Q g. elim (has_put lower F.0 D.pairs Q g) [
          | inl e ↦ subst (λ (Q : CPair). Active K A Q × Has (take (i + 1) cs) (lower Q)) e (act, here)
          | inr k ↦ (let t = D.order.each Q k in (t.0, earlier (lower Q) t.1))
        ];
        all = λ Q t. elim (split (lower Q) t.1) [
          | inl g ↦ put_kept lower F.0 D.pairs Q (D.order.all Q (t.0, g))
          | inr e ↦ subst (Has (put lower F.0 D.pairs)) (one_at F.0 Q act t.0 (at ∙ e)) (put_first lower F.0 D.pairs)
        ];
        rising = up_rises lower (put lower F.0 D.pairs) (up_put lower F.0 D.pairs (rises_up lower D.pairs D.order.rising) fresh);
      }

      -- there is room for it
      pub room : length ps < 4
      room =
          let e = half K laws A G (put lower F.0 D.pairs) (λ Q g. (order.each Q g).0) (once (λ Q. Active K A Q × Has (take (i + 1) cs) (lower Q)) (put lower F.0 D.pairs) order) (length cs) (λ j. get_or cs j 0)
          (λ Q g. let t = order.each Q g in let k = O.left Q t.0 (all_cs (lower Q) t.1) in (k.0, k.1, k.2 0))
          (λ Q g. let t = order.each Q g in let k = O.right Q t.0 (all_cs (lower Q) t.1) in (k.0, k.1, k.2 0)) in
          let l = length_put lower F.0 D.pairs in
          let m : length ps ≡ length D.pairs = ap length D.same ∙ length-map D.pairs waiting in
          let n = O.few in
          omega arith

      pub gathered_some : Gathered K A (take (i + 1) cs) (put least p ps)
      gathered_some = record {
        pairs = put lower F.0 D.pairs;
        order = order;
        same = ap₂ (λ (x : Waiting) (l : List Waiting). put least x l) (sym F.2) D.same ∙ sym (map_put least waiting F.0 D.pairs);
      }
