-- Lists of active pairs by rising lower place. Assumes nothing.
use Rattle.std.proofs.Common.{◌≡◌, ℕ, zero, suc, ◌+◌, ◌<◌, ◌≤◌, min, ◌≢◌, ◌⊎◌, List, [], ◌∷◌, ◌++◌, map, length, Some, sym, refl, ap, ◌∙◌, subst, inl, inr, arith}
use Rattle.std.specs.List.{slice_get}
use Rattle.std.proofs.lemmas.Bool.{cases_eq}
use Rattle.calculus.specs.Books.{RuleBook, Laws}
use Rattle.calculus.specs.Nets.{Net, Good, Active}
use Rattle.calculus.specs.Nets.{Pair as CPair}
use Rattle.calculus.proofs.Rewrite.{sized, facing, two}
use Rattle.pairs.specs.Pairs.{lower, InOrder}
use Rattle.ledger.specs.Places.{Places, places, times_out}
use Rattle.ledger.proofs.Members.{In, has_in, in_has, nth_in, in_map, in_append, append_left, append_right}
use Rattle.ledger.proofs.Times.{one_same, one_other, decide, out_cons, times_in}
use Rattle.ledger.proofs.Crowds.{crowd}
use Rattle.ledger.proofs.Balance.{Climbing, climbing, one_pair}

-- the other way round
pub climbs : (qs : List CPair) → Climbing qs → (i j : ℕ) (P Q : CPair) → i < j → slice_get qs i ≡ Some P → slice_get qs j ≡ Some Q → lower P < lower Q
climbs [] c i j P Q h e f = absurd (let z : ◌≡◌ {A = ℕ} 0 1 = cc in omega arith)
climbs (q ∷ qs) c zero zero P Q h e f = absurd (omega arith)
climbs (q ∷ qs) c zero (suc j) P Q h e f = let z : q ≡ P = cc in subst (λ (p : CPair). lower p < lower Q) z (c.0 Q (nth_in qs j Q f))
climbs (q ∷ qs) c (suc i) zero P Q h e f = absurd (omega arith)
climbs (q ∷ qs) c (suc i) (suc j) P Q h e f = climbs qs c.1 i j P Q (omega arith) e f

climb_more : (qs : List CPair) (P : CPair) → Climbing qs → ((Q : CPair) → In Q qs → lower Q < lower P) → Climbing (qs ++ P ∷ [])
climb_more [] P c h = (λ Q i. absurd i, tt)
climb_more (q ∷ qs) P c h = (λ Q i. above Q (in_append qs (P ∷ []) Q i), climb_more qs P c.1 (λ Q i. h Q (inr i)))
  where
    above : (Q : CPair) → In Q qs ⊎ In Q (P ∷ []) → lower q < lower Q
    above Q (inl i) = c.0 Q i
    above Q (inr (inl e)) = subst (λ (p : CPair). lower q < lower p) (sym e) (h q (inl refl))
    above Q (inr (inr i)) = absurd i

-- those of which Is holds, with their lower place below n
abbrev pub Below : (CPair → Type 0) → ℕ → CPair → Type 0
Below Is n P = Is P × (lower P < n)

pub order_none : (Is : CPair → Type 0) → InOrder (Below Is 0) []
order_none Is = record { each = λ P i. absurd (has_in [] P i); all = λ P h. absurd (let z = h.1 in let y : ⊥ = omega arith in y); rising = climbs [] tt }

-- none has the lower place n
pub order_skip : (Is : CPair → Type 0) (n : ℕ) (qs : List CPair) → InOrder (Below Is n) qs → ((P : CPair) → Is P → lower P ≢ n) → InOrder (Below Is (n + 1)) qs
order_skip Is n qs o h = record {
  each = λ P i. (let t = o.each P i in let l = t.1 in (t.0, omega arith));
  all = λ P t. o.all P (t.0, (let l = t.1 in let m = h P t.0 in omega arith));
  rising = o.rising;
}

-- P alone has it
pub order_more : (Is : CPair → Type 0) (n : ℕ) (qs : List CPair) (P : CPair) → InOrder (Below Is n) qs → Is P → lower P ≡ n → ((Q : CPair) → Is Q → lower Q ≡ n → Q ≡ P) → InOrder (Below Is (n + 1)) (qs ++ P ∷ [])
order_more Is n qs P o a e only = record {
  each = λ Q i. each Q (in_append qs (P ∷ []) Q (has_in (qs ++ P ∷ []) Q i));
  all = λ Q t. in_has (qs ++ P ∷ []) Q (all Q t.0 t.1 (number (lower Q)));
  rising = climbs (qs ++ P ∷ []) (climb_more qs P (climbing qs o.rising) (λ Q i. (let l = (o.each Q (in_has qs Q i)).1 in omega arith)));
}
  where
    number : (m : ℕ) → (m ≡ n) ⊎ (m ≢ n)
    number m = cases_eq m n

    each : (Q : CPair) → In Q qs ⊎ In Q (P ∷ []) → Below Is (n + 1) Q
    each Q (inl i) = let t = o.each Q (in_has qs Q i) in let l = t.1 in (t.0, omega arith)
    each Q (inr (inl z)) = subst (Below Is (n + 1)) (sym z) (a, omega arith)
    each Q (inr (inr i)) = absurd i

    all : (Q : CPair) → Is Q → lower Q < n + 1 → (lower Q ≡ n) ⊎ (lower Q ≢ n) → In Q (qs ++ P ∷ [])
    all Q q h (inl z) = append_right qs (P ∷ []) Q (inl (only Q q z))
    all Q q h (inr z) = append_left qs (P ∷ []) Q (has_in qs Q (o.all Q (q, omega arith)))

-- the bound changes nothing any more
pub order_all : (Is : CPair → Type 0) (n : ℕ) (qs : List CPair) → InOrder (Below Is n) qs → ((P : CPair) → Is P → lower P < n) → InOrder Is qs
order_all Is n qs o h = record { each = λ P i. (o.each P i).0; all = λ P a. o.all P (a, h P a); rising = o.rising }

-- active pairs in order are at most 512
pub few_listed : (K : RuleBook) → Laws K → (A : Net) → Good K A → ((r k : ℕ) → A.kind r ≡ Some k → r < 1024) → (qs : List CPair) → ((P : CPair) → In P qs → Active K A P) → Climbing qs → length qs ≤ 512
few_listed K laws A good small qs act c =
    let t = crowd 1024 (map places qs) low apart (λ y i. once qs c y) in
    let e = lengths qs in
    omega arith
  where
    lengths : (ps : List CPair) → length (map places ps) ≡ length ps
    lengths [] = refl
    lengths (p ∷ ps) = let e = lengths ps in omega arith

    low : (y : Places) → In y (map places qs) → (y.0 < 1024) × (y.1 < 1024) × (y.0 ≢ y.1)
    low y i =
        let t = in_map places qs y i in
        let P = t.0 in
        let p = act P t.1 in
        let e = ap (λ (z : Places). z.0) t.2 in
        let f = ap (λ (z : Places). z.1) t.2 in
        let a = small P.left P.rule.left p.left in
        let b = small P.right P.rule.right p.right in
        (omega arith, omega arith, λ z. two K laws good.finite.0 A (sized K A good) P (facing K A P p) (sym e ∙ z ∙ f))

    side : (Q : CPair) (y : Places) (r : ℕ) → y ≡ places Q → (r ≡ y.0) ⊎ (r ≡ y.1) → (r ≡ Q.left) ⊎ (r ≡ Q.right)
    side Q y r e (inl f) = inl (f ∙ ap (λ (z : Places). z.0) e)
    side Q y r e (inr f) = inr (f ∙ ap (λ (z : Places). z.1) e)

    apart : (y z : Places) (r : ℕ) → In y (map places qs) → In z (map places qs) → (r ≡ y.0) ⊎ (r ≡ y.1) → (r ≡ z.0) ⊎ (r ≡ z.1) → y ≡ z
    apart y z r i j a b =
        let t = in_map places qs y i in
        let u = in_map places qs z j in
        t.2 ∙ ap places (one_pair K laws A good t.0 u.0 r (act t.0 t.1) (act u.0 u.1) (side t.0 y r t.2 a) (side u.0 z r u.2 b)) ∙ sym u.2

    none : (n : ℕ) → (n ≡ 0) ⊎ (1 ≤ n)
    none zero = inl refl
    none (suc n) = inr (omega arith)

    once : (ps : List CPair) → Climbing ps → (x : Places) → times_out x (map places ps) ≤ 1
    once [] c x = omega arith
    once (q ∷ ps) c x =
        let a = out_cons x (places q) (map places ps) in
        let b = once ps c.1 x in
        elim (decide x (places q)) [
          | inl t ↦ elim (none (times_out x (map places ps))) [
            | inl e ↦ (let d = one_same x (places q) t.0 in omega arith)
            | inr e ↦ absurd (
                let j = in_map places ps x (times_in x (map places ps) e) in
                let k = c.0 j.0 j.1 in
                let n : lower q ≡ lower j.0 = ap (λ (z : Places). min z.0 z.1) (sym t.0 ∙ j.2) in
                let w : ⊥ = omega arith in
                w
                )
          ]
          | inr t ↦ (let d = one_other x (places q) t.0 in omega arith)
        ]
