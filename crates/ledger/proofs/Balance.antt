-- The pairs waiting and out stay exactly the active pairs. Assumes nothing.
use Rattle.std.proofs.Common.{◌≡◌, ℕ, zero, suc, ◌+◌, ◌<◌, ◌≤◌, min, Bool, true, false, ◌≢◌, ◌⊎◌, List, [], ◌∷◌, ◌++◌, map, length, get_or, set, Some, sym, refl, ap, ◌∙◌, subst, inl, inr, arith, length-set, get_or-set_other, get_or-set_same}
use Rattle.std.specs.List.{ContainsAt as Has, slice_get}
use Rattle.std.specs.List.Sorted.{IsPermutation}
use Rattle.std.proofs.lemmas.List.Sorted.{IsPermutation-sym, sum_by-IsPermutation}
use Rattle.std.proofs.ByRecursion.{has_shuffled}
use Rattle.std.proofs.lemmas.Bool.{cases_eq}
use Rattle.calculus.specs.Books.{RuleBook, Laws}
use Rattle.calculus.specs.Nets.{Net, Good, Active}
use Rattle.calculus.specs.Nets.{Pair as CPair}
use Rattle.calculus.specs.Theorems.{Disjoint}
use Rattle.calculus.proofs.Respects.{pairs_apart_lem}
use Rattle.calculus.proofs.Rewrite.{sized, facing, two}
use Rattle.strategies.specs.declared.pair.Pair.{Pair as Waiting}
use Rattle.pairs.specs.Pairs.{waiting, lower, InOrder, Became}
use Rattle.ledger.specs.Places.{Places, places, times_out, times_waiting, without, CellOf}
use Rattle.ledger.specs.Ledger.{Balanced, Marked, AtMost512}
use Rattle.ledger.proofs.Members.{In, has_in, in_has, in_nth, in_map, map_in, in_append}
use Rattle.ledger.proofs.Times.{spot, one, one_same, one_other, decide, out_cons, waiting-cons, out_append, waiting-append, spots_times, in_times, times_in, in_waiting, waiting_in, without_times, without_in, without_other}
use Rattle.ledger.proofs.Crowds.{crowd}

-- shuffled pairs wait as often
times_shuffled : (x : Places) (ps qs : List Waiting) → IsPermutation ps qs → times_waiting x qs ≡ times_waiting x ps
times_shuffled x ps qs h = sum_by-IsPermutation (λ (q : Waiting). one x (spot q)) ps qs h

-- lower places rise
abbrev pub Climbing : List CPair → Type 0
Climbing [] = Unit {0}
Climbing (q ∷ qs) = ((Q : CPair) → In Q qs → lower q < lower Q) × Climbing qs

pub climbing : (qs : List CPair) → ((i j : ℕ) (P Q : CPair) → i < j → slice_get qs i ≡ Some P → slice_get qs j ≡ Some Q → lower P < lower Q) → Climbing qs
climbing [] h = tt
climbing (q ∷ qs) h = (λ Q i. (let t = in_nth qs Q i in h 0 (suc t.0) q Q (omega arith) refl t.1), climbing qs (λ i j P Q l. h (suc i) (suc j) P Q (omega arith)))

-- no places stand twice among them
at_most_once : (qs : List CPair) → Climbing qs → (x : Places) → times_waiting x (map waiting qs) ≤ 1
at_most_once [] c x = omega arith
at_most_once (q ∷ qs) c x =
    let a = waiting-cons x (waiting q) (map waiting qs) in
    let b = at_most_once qs c.1 x in
    elim (decide x (places q)) [
      | inl t ↦ elim (none (times_waiting x (map waiting qs))) [
        | inl e ↦ (let d = one_same x (places q) t.0 in omega arith)
        | inr e ↦ absurd (
            let i = in_waiting x (map waiting qs) e in
            let j = in_map waiting qs i.0 i.1 in
            let k = c.0 j.0 j.1 in
            let m : places q ≡ places j.0 = sym t.0 ∙ i.2 ∙ ap spot j.2 in
            let n : lower q ≡ lower j.0 = ap (λ (z : Places). min z.0 z.1) m in
            let w : ⊥ = omega arith in
            w
            )
      ]
      | inr t ↦ (let d = one_other x (places q) t.0 in omega arith)
    ]
  where
    none : (n : ℕ) → (n ≡ 0) ⊎ (1 ≤ n)
    none zero = inl refl
    none (suc n) = inr (omega arith)

either : (n : ℕ) → (n ≡ 0) ⊎ (1 ≤ n)
either zero = inl refl
either (suc n) = inr (omega arith)

module _ (K : RuleBook) (laws : Laws K) where
  -- two active pairs with a cell in common are one
  pub one_pair : (A : Net) → Good K A → (P Q : CPair) (r : ℕ) → Active K A P → Active K A Q → (r ≡ P.left) ⊎ (r ≡ P.right) → (r ≡ Q.left) ⊎ (r ≡ Q.right) → P ≡ Q
  one_pair A good P Q r p q a b = elim (pairs_apart_lem K A P Q laws good p q) [ inl e ↦ e | inr d ↦ absurd (no d a b) ]
    where
      no : Disjoint P Q → (r ≡ P.left) ⊎ (r ≡ P.right) → (r ≡ Q.left) ⊎ (r ≡ Q.right) → ⊥
      no d (inl e) (inl f) = d.left_left (sym e ∙ f)
      no d (inl e) (inr f) = d.left_right (sym e ∙ f)
      no d (inr e) (inl f) = d.right_left (sym e ∙ f)
      no d (inr e) (inr f) = d.right_right (sym e ∙ f)

  pub same_pair : (A : Net) → Good K A → (P Q : CPair) → Active K A P → Active K A Q → places P ≡ places Q → P ≡ Q
  same_pair A good P Q p q e = one_pair A good P Q P.left p q (inl refl) (inl (ap (λ (z : Places). z.0) e))

  module _ (A : Net) (bag : List Waiting) (out : List Places) (B : Balanced K A bag out) where
    -- by another order
    pub reordered : (bag' : List Waiting) → IsPermutation bag bag' → Balanced K A bag' out
    reordered bag' h = record {
      waits = λ p i. B.waits p (has_shuffled bag' bag p (IsPermutation-sym bag bag' h) i);
      is_out_lem = B.is_out_lem;
      once = λ P a. (let e = times_shuffled (places P) bag bag' h in let f = B.once P a in omega arith);
    }

    -- a waiting pair goes out
    pub drawn : (p : Waiting) (bag' : List Waiting) → IsPermutation bag (p ∷ bag') → Balanced K A bag' (spot p ∷ out)
    drawn p bag' h = record {
      waits = λ q i. B.waits q (back q (in_has (p ∷ bag') q (inr (has_in bag' q i))));
      is_out_lem = λ y i. is_out_lem y (has_in (spot p ∷ out) y i);
      once = λ P a. (
          let e = times_shuffled (places P) bag (p ∷ bag') h in
          let f = waiting-cons (places P) p bag' in
          let g = out_cons (places P) (spot p) out in
          let k = B.once P a in
          omega arith
          );
    }
      where
        back : (q : Waiting) → Has (p ∷ bag') q → Has bag q
        back q i = has_shuffled (p ∷ bag') bag q (IsPermutation-sym bag (p ∷ bag') h) i

        is_out_lem : (y : Places) → In y (spot p ∷ out) → (P : CPair) × Active K A P × (y ≡ places P)
        is_out_lem y (inl e) = let t = B.waits p (back p (in_has (p ∷ bag') p (inl refl))) in (t.0, t.1, e ∙ ap spot t.2)
        is_out_lem y (inr i) = B.is_out_lem y (in_has out y i)

    module _ (good : Good K A) (P : CPair) (active : Active K A P) (is : Has out (places P)) where
      -- it is out once, and does not wait
      out_once : times_out (places P) out ≡ 1
      out_once = let a = B.once P active in let b = in_times (places P) out (has_in out (places P) is) in omega arith

      not_waiting : times_waiting (places P) bag ≡ 0
      not_waiting = let a = B.once P active in let b = in_times (places P) out (has_in out (places P) is) in omega arith

      no_more : times_out (places P) (without (places P) out) ≡ 0
      no_more =
          let a = without_times (places P) (places P) out (has_in out (places P) is) in
          let b = one_same (places P) (places P) refl in
          let c = out_once in
          omega arith

      waits_other : (p : Waiting) → Has bag p → (Q : CPair) × Active K A Q × (p ≡ waiting Q) × (Q ≢ P)
      waits_other p i =
          let t = B.waits p i in (
            t.0,
            t.1,
            t.2,
            λ e. (
                let a = waiting_in (places P) p bag (has_in bag p i) (sym (ap spot t.2 ∙ ap places e)) in
                let b = not_waiting in
                omega arith
                ),
          )

      out_other : (y : Places) → Has (without (places P) out) y → (Q : CPair) × Active K A Q × (y ≡ places Q) × (Q ≢ P)
      out_other y i =
          let t = B.is_out_lem y (in_has out y (without_in (places P) y out (has_in (without (places P) out) y i))) in (
            t.0,
            t.1,
            t.2,
            λ e. (
                let z : y ≡ places P = t.2 ∙ ap places e in
                let a = in_times y (without (places P) out) (has_in (without (places P) out) y i) in
                let b = ap (λ (x : Places). times_out x (without (places P) out)) z in
                let c = no_more in
                omega arith
                ),
          )

      -- no other pair that is out has a cell of it
      pub alone : (y : Places) → Has (without (places P) out) y → (r : ℕ) → (r ≡ y.0) ⊎ (r ≡ y.1) → (r ≢ P.left) × (r ≢ P.right)
      alone y i r a =
          let t = out_other y i in
          let b = side t.0 t.2 a in (
            λ e. t.3 (one_pair A good t.0 P r t.1 active b (inl e)),
            λ e. t.3 (one_pair A good t.0 P r t.1 active b (inr e)),
          )
        where
          side : (Q : CPair) → y ≡ places Q → (r ≡ y.0) ⊎ (r ≡ y.1) → (r ≡ Q.left) ⊎ (r ≡ Q.right)
          side Q e (inl f) = inl (f ∙ ap (λ (z : Places). z.0) e)
          side Q e (inr f) = inr (f ∙ ap (λ (z : Places). z.1) e)

      -- it waits again
      pub returned : Balanced K A (waiting P ∷ bag) (without (places P) out)
      returned = record {
        waits = λ p i. waits p (has_in (waiting P ∷ bag) p i);
        is_out_lem = λ y i. B.is_out_lem y (in_has out y (without_in (places P) y out (has_in (without (places P) out) y i)));
        once = λ Q a. (
            let b = waiting-cons (places Q) (waiting P) bag in
            let c = without_times (places P) (places Q) out (has_in out (places P) is) in
            let d = B.once Q a in
            omega arith
            );
      }
        where
          waits : (p : Waiting) → In p (waiting P ∷ bag) → (Q : CPair) × Active K A Q × (p ≡ waiting Q)
          waits p (inl e) = (P, active, e)
          waits p (inr i) = B.waits p (in_has bag p i)

      -- it is rewritten, and what became active waits
      module _ (C : Net) (good' : Good K C) (stay : (Q : CPair) → Active K A Q → Q ≢ P → Active K C Q) (qs : List CPair) (order : InOrder (Became K A P C) qs) where
        found : (x : Places) → 1 ≤ times_waiting x bag + times_out x out → (Q : CPair) × Active K A Q × (x ≡ places Q)
        found x h = elim (either (times_waiting x bag)) [
          | inl e ↦ (let i = times_in x out (omega arith) in B.is_out_lem x (in_has out x i))
          | inr e ↦ (
              let i = in_waiting x bag e in
              let t = B.waits i.0 (in_has bag i.0 i.1) in
              (t.0, t.1, i.2 ∙ ap spot t.2)
              )
        ]

        listed : (Q : CPair) → Became K A P C Q → times_waiting (places Q) (map waiting qs) ≡ 1
        listed Q b =
            let i = has_in qs Q (order.all Q b) in
            let a = waiting_in (places Q) (waiting Q) (map waiting qs) (map_in waiting qs Q i) refl in
            let c = at_most_once qs (climbing qs order.rising) (places Q) in
            omega arith

        unlisted : (Q : CPair) → Active K A Q → Active K C Q → places Q ≢ places P → times_waiting (places Q) (map waiting qs) ≡ 0
        unlisted Q a c n = elim (either (times_waiting (places Q) (map waiting qs))) [
          | inl e ↦ e
          | inr e ↦ absurd (
              let i = in_waiting (places Q) (map waiting qs) e in
              let j = in_map waiting qs i.0 i.1 in
              let k = order.each j.0 (in_has qs j.0 j.1) in
              let m : Q ≡ j.0 = same_pair C good' Q j.0 c k.0 (i.2 ∙ ap spot j.2) in
              n (ap places (m ∙ k.1 (subst (Active K A) m a)))
              )
        ]

        counts : (Q : CPair) → Active K C Q → times_waiting (places Q) (map waiting qs) + times_waiting (places Q) bag + times_out (places Q) (without (places P) out) ≡ 1
        counts Q c =
            let w = without_times (places P) (places Q) out (has_in out (places P) is) in
            elim (decide (places Q) (places P)) [
              | inl t ↦ (
                  let a = listed Q (c, λ b. same_pair A good Q P b active t.0) in
                  let b = ap (λ (x : Places). times_waiting x bag) t.0 in
                  let d = ap (λ (x : Places). times_out x (without (places P) out)) t.0 in
                  let e = not_waiting in
                  let f = no_more in
                  omega arith
                  )
              | inr t ↦ (
                  let o = one_other (places Q) (places P) t.0 in
                  elim (either (times_waiting (places Q) bag + times_out (places Q) out)) [
                    | inl e ↦ (let a = listed Q (c, λ b. absurd (let z = B.once Q b in let y : ⊥ = omega arith in y)) in omega arith)
                    | inr e ↦ (
                        let f = found (places Q) e in
                        let g = stay f.0 f.1 (λ z. t.0 (f.2 ∙ ap places z)) in
                        let m : f.0 ≡ Q = same_pair C good' f.0 Q g c (sym f.2) in
                        let a : Active K A Q = subst (Active K A) m f.1 in
                        let h = unlisted Q a c t.0 in
                        let k = B.once Q a in
                        omega arith
                        )
                  ]
                  )
            ]

        pub rewritten : Balanced K C (map waiting qs ++ bag) (without (places P) out)
        rewritten = record {
          waits = λ p i. waits p (in_append (map waiting qs) bag p (has_in (map waiting qs ++ bag) p i));
          is_out_lem = λ y i. (let t = out_other y i in (t.0, stay t.0 t.1 t.3, t.2));
          once = λ Q c. (let a = waiting-append (places Q) (map waiting qs) bag in let b = counts Q c in omega arith);
        }
          where
            waits : (p : Waiting) → In p (map waiting qs) ⊎ In p bag → (Q : CPair) × Active K C Q × (p ≡ waiting Q)
            waits p (inl i) = let j = in_map waiting qs p i in (j.0, (order.each j.0 (in_has qs j.0 j.1)).0, j.2)
            waits p (inr i) = let t = waits_other p (in_has bag p i) in (t.0, stay t.0 t.1 t.3, t.2)

  -- all active pairs wait, and none is out
  pub opened : (A : Net) → Good K A → (qs : List CPair) → InOrder (Active K A) qs → Balanced K A (map waiting qs) []
  opened A good qs order = record {
    waits = λ p i. (let j = in_map waiting qs p (has_in (map waiting qs) p i) in (j.0, order.each j.0 (in_has qs j.0 j.1), j.2));
    is_out_lem = λ y i. absurd (has_in [] y i);
    once = λ Q a. (
        let i = has_in qs Q (order.all Q a) in
        let b = waiting_in (places Q) (waiting Q) (map waiting qs) (map_in waiting qs Q i) refl in
        let c = at_most_once qs (climbing qs order.rising) (places Q) in
        omega arith
        );
  }

  -- few wait or are out
  pub few : (A : Net) (bag : List Waiting) (out : List Places) → Good K A → ((r k : ℕ) → A.kind r ≡ Some k → r < 1024) → Balanced K A bag out → length bag + length out ≤ 512
  few A bag out good small B =
      let c = crowd 1024 (map spot bag ++ out) low apart once in
      let e = lengths bag out in
      omega arith
    where
      lengths : (ps : List Waiting) (ys : List Places) → length (map spot ps ++ ys) ≡ length ps + length ys
      lengths [] ys = omega arith
      lengths (p ∷ ps) ys = let e = lengths ps ys in omega arith

      act : (y : Places) → In y (map spot bag ++ out) → (P : CPair) × Active K A P × (y ≡ places P)
      act y i = elim (in_append (map spot bag) out y i) [
        | inl j ↦ (let k = in_map spot bag y j in let t = B.waits k.0 (in_has bag k.0 k.1) in (t.0, t.1, k.2 ∙ ap spot t.2))
        | inr j ↦ B.is_out_lem y (in_has out y j)
      ]

      low : (y : Places) → In y (map spot bag ++ out) → (y.0 < 1024) × (y.1 < 1024) × (y.0 ≢ y.1)
      low y i =
          let t = act y i in
          let P = t.0 in
          let e = ap (λ (z : Places). z.0) t.2 in
          let f = ap (λ (z : Places). z.1) t.2 in
          let a = small P.left P.rule.left t.1.left in
          let b = small P.right P.rule.right t.1.right in
          (omega arith, omega arith, λ z. two K laws good.finite.0 A (sized K A good) P (facing K A P t.1) (sym e ∙ z ∙ f))

      side : (Q : CPair) (y : Places) (r : ℕ) → y ≡ places Q → (r ≡ y.0) ⊎ (r ≡ y.1) → (r ≡ Q.left) ⊎ (r ≡ Q.right)
      side Q y r e (inl f) = inl (f ∙ ap (λ (z : Places). z.0) e)
      side Q y r e (inr f) = inr (f ∙ ap (λ (z : Places). z.1) e)

      apart : (y z : Places) (r : ℕ) → In y (map spot bag ++ out) → In z (map spot bag ++ out) → (r ≡ y.0) ⊎ (r ≡ y.1) → (r ≡ z.0) ⊎ (r ≡ z.1) → y ≡ z
      apart y z r i j a b =
          let t = act y i in
          let u = act z j in
          t.2 ∙ ap places (one_pair A good t.0 u.0 r t.1 u.1 (side t.0 y r t.2 a) (side u.0 z r u.2 b)) ∙ sym u.2

      once : (y : Places) → In y (map spot bag ++ out) → times_out y (map spot bag ++ out) ≤ 1
      once y i =
          let t = act y i in
          let a = out_append y (map spot bag) out in
          let b = spots_times y bag in
          let c = B.once t.0 t.1 in
          let d = ap (λ (x : Places). times_waiting x bag) t.2 in
          let e = ap (λ (x : Places). times_out x out) t.2 in
          omega arith

pub at_most_512_lem : AtMost512
at_most_512_lem K A bag out laws good small B = few K laws A bag out good small B

-- marks
set_at : (ms : List Bool) (i k : ℕ) (b : Bool) → i < length ms → ((k ≡ i) × (get_or (set ms i b) k false ≡ b)) ⊎ ((k ≢ i) × (get_or (set ms i b) k false ≡ get_or ms k false))
set_at ms i k b h = elim (cases_eq k i) [
  | inl e ↦ inl (e, ap (λ (j : ℕ). get_or (set ms i b) j false) e ∙ get_or-set_same ms i b false h)
  | inr n ↦ inr (n, get_or-set_other ms i k b false n)
]

-- two places marked, or unmarked: each is one of the two, or as it was
two-set : (ms : List Bool) (l r k : ℕ) (b : Bool) → l < length ms → r < length ms →
    (((k ≡ l) ⊎ (k ≡ r)) × (get_or (set (set ms l b) r b) k false ≡ b)) ⊎ ((k ≢ l) × (k ≢ r) × (get_or (set (set ms l b) r b) k false ≡ get_or ms k false))
two-set ms l r k b hl hr = elim (set_at (set ms l b) r k b (let e = length-set ms l b in omega arith)) [
  | inl t ↦ inl (inr t.0, t.1)
  | inr t ↦ elim (set_at ms l k b hl) [
    | inl u ↦ inl (inl u.0, t.1 ∙ u.1)
    | inr u ↦ inr (u.0, t.0, t.1 ∙ u.1)
  ]
]

not_both : (b : Bool) → b ≡ false → b ≡ true → ⊥
not_both b e f = let z : ◌≡◌ {A = ℕ} 0 1 = cc in omega arith

cell_in : (r : ℕ) (out out' : List Places) → ((y : Places) → In y out → In y out') → CellOf r out → CellOf r out'
cell_in r out out' f (y, i, e) = (y, in_has out' y (f y (has_in out y i)), e)

-- the cells of a pair that goes out are marked
pub marked_drawn : (ms : List Bool) (out : List Places) (l r : ℕ) → l < length ms → r < length ms → Marked ms out → Marked (set (set ms l true) r true) ((l, r) ∷ out)
marked_drawn ms out l r hl hr M = record {
  marked_out = λ k e. elim (two-set ms l r k true hl hr) [
    | inl t ↦ ((l, r), in_has ((l, r) ∷ out) (l, r) (inl refl), t.0)
    | inr t ↦ cell_in k out ((l, r) ∷ out) (λ y i. inr i) (M.marked_out k (sym t.2 ∙ e))
  ];
  out_marked = λ k c. elim (two-set ms l r k true hl hr) [
    | inl t ↦ t.1
    | inr t ↦ t.2 ∙ M.out_marked k (older k t.0 t.1 c.0 (has_in ((l, r) ∷ out) c.0 c.1) c.2)
  ];
}
  where
    older : (k : ℕ) → k ≢ l → k ≢ r → (y : Places) → In y ((l, r) ∷ out) → (k ≡ y.0) ⊎ (k ≡ y.1) → CellOf k out
    older k m n y (inl e) (inl f) = absurd (m (f ∙ ap (λ (z : Places). z.0) e))
    older k m n y (inl e) (inr f) = absurd (n (f ∙ ap (λ (z : Places). z.1) e))
    older k m n y (inr i) f = (y, in_has out y i, f)

-- those of a pair that comes off are unmarked
pub marked_off : (ms : List Bool) (out : List Places) (l r : ℕ) → l < length ms → r < length ms → Marked ms out →
    ((y : Places) → Has (without (l, r) out) y → (k : ℕ) → (k ≡ y.0) ⊎ (k ≡ y.1) → (k ≢ l) × (k ≢ r)) → Marked (set (set ms l false) r false) (without (l, r) out)
marked_off ms out l r hl hr M alone = record {
  marked_out = λ k e. elim (two-set ms l r k false hl hr) [
    | inl t ↦ absurd (not_both (get_or (set (set ms l false) r false) k false) t.1 e)
    | inr t ↦ (let c = M.marked_out k (sym t.2 ∙ e) in (c.0, in_has (without (l, r) out) c.0 (without_other (l, r) c.0 out (other k t.0 t.1 c.0 c.2) (has_in out c.0 c.1)), c.2))
  ];
  out_marked = λ k c. elim (two-set ms l r k false hl hr) [
    | inl t ↦ absurd (gone k t.0 (alone c.0 c.1 k c.2))
    | inr t ↦ t.2 ∙ M.out_marked k (cell_in k (without (l, r) out) out (λ y i. without_in (l, r) y out i) c)
  ];
}
  where
    other : (k : ℕ) → k ≢ l → k ≢ r → (y : Places) → (k ≡ y.0) ⊎ (k ≡ y.1) → y ≢ (l, r)
    other k m n y (inl f) e = m (f ∙ ap (λ (z : Places). z.0) e)
    other k m n y (inr f) e = n (f ∙ ap (λ (z : Places). z.1) e)

    gone : (k : ℕ) → (k ≡ l) ⊎ (k ≡ r) → (k ≢ l) × (k ≢ r) → ⊥
    gone k (inl e) a = a.0 e
    gone k (inr e) a = a.1 e

-- none is marked while none is out
pub marked_none : (ms : List Bool) → ((r : ℕ) → get_or ms r false ≡ false) → Marked ms []
marked_none ms h = record {
  marked_out = λ r e. absurd (not_both (get_or ms r false) (h r) e);
  out_marked = λ r c. absurd (has_in [] c.0 c.1);
}
