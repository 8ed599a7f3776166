-- Pairs that share no cell, with their cells below n, are at most half as many. Assumes nothing.
use Rattle.std.proofs.Common.{◌≡◌, ℕ, zero, suc, ◌+◌, ◌<◌, ◌≤◌, Bool, cond, eqb, ◌≢◌, ◌⊎◌, List, [], ◌∷◌, length, sym, refl, ap, ◌∙◌, inl, inr, arith}
use Rattle.std.proofs.lemmas.Bool.{eq-eqb, ne_eqb, cases_eq}
use Rattle.ledger.specs.Places.{Places, times_out}
use Rattle.ledger.proofs.Members.{In}
use Rattle.ledger.proofs.Times.{one, one_same, out_cons}

-- f 0 + f 1 + .. + f (n - 1)
abbrev upto : ℕ → (ℕ → ℕ) → ℕ
upto zero f = 0
upto (suc n) f = upto n f + f n

upto_add : (n : ℕ) (f g : ℕ → ℕ) → upto n (λ r. f r + g r) ≡ upto n f + upto n g
upto_add zero f g = refl
upto_add (suc n) f g = let e = upto_add n f g in omega arith

upto_le : (n : ℕ) (f : ℕ → ℕ) → ((r : ℕ) → f r ≤ 1) → upto n f ≤ n
upto_le zero f h = omega arith
upto_le (suc n) f h = let e = upto_le n f h in let k = h n in omega arith

-- 1 if the two are the same number
abbrev tick : ℕ → ℕ → ℕ
tick a r = cond (eqb a r) 1 0

tick_same : (a r : ℕ) → a ≡ r → tick a r ≡ 1
tick_same a r e = ap (λ (b : Bool). cond b 1 0) (eq-eqb a r e)

tick_other : (a r : ℕ) → a ≢ r → tick a r ≡ 0
tick_other a r n = ap (λ (b : Bool). cond b 1 0) (ne_eqb a r n)

none_below : (n a : ℕ) → n ≤ a → upto n (tick a) ≡ 0
none_below zero a h = refl
none_below (suc n) a h = let e = none_below n a (omega arith) in let z : a ≢ n = omega arith in let k = tick_other a n z in omega arith

one_below : (n a : ℕ) → a < n → upto n (tick a) ≡ 1
one_below zero a h = absurd (omega arith)
one_below (suc n) a h = elim (cases_eq a n) [
  | inl e ↦ (let z = none_below n a (omega arith) in let k = tick_same a n e in omega arith)
  | inr e ↦ (let l : a < n = omega arith in let z = one_below n a l in let k = tick_other a n e in omega arith)
]

-- how many pairs have the cell r
abbrev having : List Places → ℕ → ℕ
having [] r = 0
having (y ∷ ys) r = (tick y.0 r + tick y.1 r) + having ys r

zeros : (n : ℕ) → upto n (λ _. 0) ≡ 0
zeros zero = refl
zeros (suc n) = let e = zeros n in omega arith

total : (n : ℕ) (ys : List Places) → ((y : Places) → In y ys → (y.0 < n) × (y.1 < n)) → upto n (having ys) ≡ length ys + length ys
total n [] h = zeros n
total n (y ∷ ys) h =
    let a = upto_add n (λ r. tick y.0 r + tick y.1 r) (having ys) in
    let b = upto_add n (tick y.0) (tick y.1) in
    let c = one_below n y.0 (h y (inl refl)).0 in
    let d = one_below n y.1 (h y (inl refl)).1 in
    let e = total n ys (λ z i. h z (inr i)) in
    omega arith

-- a cell of a pair that no other pair of the list has
held_by : (x : Places) (ys : List Places) (r : ℕ) → ((y : Places) → In y ys → (r ≡ y.0) ⊎ (r ≡ y.1) → y ≡ x) → x.0 ≢ x.1 → having ys r ≤ times_out x ys
held_by x [] r h n = omega arith
held_by x (y ∷ ys) r h n =
    let a = out_cons x y ys in
    let b = held_by x ys r (λ z i. h z (inr i)) n in
    go a b (cases_eq y.0 r) (cases_eq y.1 r)
  where
    go : times_out x (y ∷ ys) ≡ one x y + times_out x ys → having ys r ≤ times_out x ys → (y.0 ≡ r) ⊎ (y.0 ≢ r) → (y.1 ≡ r) ⊎ (y.1 ≢ r) → having (y ∷ ys) r ≤ times_out x (y ∷ ys)
    go a b (inl e) (inl f) =
        let z = h y (inl refl) (inl (sym e)) in
        absurd (n (ap (λ (v : Places). v.0) (sym z) ∙ e ∙ sym f ∙ ap (λ (v : Places). v.1) z))
    go a b (inl e) (inr f) =
        let z = h y (inl refl) (inl (sym e)) in
        let k = one_same x y (sym z) in
        let l = tick_same y.0 r e in
        let m = tick_other y.1 r f in
        omega arith
    go a b (inr e) (inl f) =
        let z = h y (inl refl) (inr (sym f)) in
        let k = one_same x y (sym z) in
        let l = tick_other y.0 r e in
        let m = tick_same y.1 r f in
        omega arith
    go a b (inr e) (inr f) =
        let l = tick_other y.0 r e in
        let m = tick_other y.1 r f in
        omega arith

-- some pair of the list has the cell, or none has
holder : (ys : List Places) (r : ℕ) → ((y : Places) × In y ys × ((r ≡ y.0) ⊎ (r ≡ y.1))) ⊎ (having ys r ≡ 0)
holder [] r = inr refl
holder (y ∷ ys) r = go (cases_eq y.0 r) (cases_eq y.1 r) (holder ys r)
  where
    go : (y.0 ≡ r) ⊎ (y.0 ≢ r) → (y.1 ≡ r) ⊎ (y.1 ≢ r) → ((z : Places) × In z ys × ((r ≡ z.0) ⊎ (r ≡ z.1))) ⊎ (having ys r ≡ 0) →
        ((z : Places) × In z (y ∷ ys) × ((r ≡ z.0) ⊎ (r ≡ z.1))) ⊎ (having (y ∷ ys) r ≡ 0)
    go (inl e) f h = inl (y, inl refl, inl (sym e))
    go (inr e) (inl f) h = inl (y, inl refl, inr (sym f))
    go (inr e) (inr f) (inl h) = inl (h.0, inr h.1, h.2)
    go (inr e) (inr f) (inr h) = inr (let l = tick_other y.0 r e in let m = tick_other y.1 r f in omega arith)

-- the pairs of a list share no cell, stand there once each, and have their cells below n
pub crowd : (n : ℕ) (ys : List Places) →
    ((y : Places) → In y ys → (y.0 < n) × (y.1 < n) × (y.0 ≢ y.1)) →
    ((y z : Places) (r : ℕ) → In y ys → In z ys → (r ≡ y.0) ⊎ (r ≡ y.1) → (r ≡ z.0) ⊎ (r ≡ z.1) → y ≡ z) →
    ((y : Places) → In y ys → times_out y ys ≤ 1) → length ys + length ys ≤ n
crowd n ys low apart once =
    let t = total n ys (λ y i. ((low y i).0, (low y i).1)) in
    let l = upto_le n (having ys) each in
    omega arith
  where
    each : (r : ℕ) → having ys r ≤ 1
    each r = elim (holder ys r) [
      | inl h ↦ (let a = held_by h.0 ys r (λ y i e. apart y h.0 r i h.1 e h.2) (low h.0 h.1).2 in let b = once h.0 h.1 in omega arith)
      | inr e ↦ omega arith
    ]
