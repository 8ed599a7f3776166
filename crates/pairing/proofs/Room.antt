-- At most as many distinct numbers below n as n. Assumes nothing.
use Rattle.std.proofs.Common.{◌≡◌, ℕ, zero, suc, ◌<◌, ◌≤◌, cond, eqb, ltb, ◌≢◌, sym, ◌∙◌, inl, inr, arith}
use Rattle.std.proofs.lemmas.Bool.{cases_lt, cases_eq, cond-true, cond-false, eq-eqb, ne_eqb, lt-ltb, le-ltb}

abbrev Once : ℕ → (ℕ → ℕ) → Type 0
Once n l = (i k : ℕ) → i < n → k < n → l i ≡ l k → i ≡ k

pub room : (N n : ℕ) (l : ℕ → ℕ) → ((k : ℕ) → k < n → l k < N) → Once n l → n ≤ N
room zero zero l s o = omega arith
room zero (suc n) l s o = let z = s n (omega arith) in omega arith
room (suc N) zero l s o = omega arith
room (suc N) (suc n) l s o = let z = room N n l' s' o' in omega arith
  where
    l' : ℕ → ℕ
    l' k = cond (eqb (l k) N) (l n) (l k)

    top : (k : ℕ) → l k ≡ N → l' k ≡ l n
    top k e = cond-true (eqb (l k) N) (l n) (l k) (eq-eqb (l k) N e)

    low : (k : ℕ) → l k ≢ N → l' k ≡ l k
    low k e = cond-false (eqb (l k) N) (l n) (l k) (ne_eqb (l k) N e)

    s' : (k : ℕ) → k < n → l' k < N
    s' k h = elim (cases_eq (l k) N) [
      | inl e ↦
          let a = top k e in
          let b = s n (omega arith) in
          let c : l n ≢ N = λ d. (let z = o k n (omega arith) (omega arith) (e ∙ sym d) in omega arith) in
          omega arith
      | inr e ↦ let a = low k e in let b = s k (omega arith) in omega arith
    ]

    o' : Once n l'
    o' i k hi hk e = elim (cases_eq (l i) N) [
      | inl p ↦ elim (cases_eq (l k) N) [
        | inl q ↦ o i k (omega arith) (omega arith) (p ∙ sym q)
        | inr q ↦ absurd (let z = o n k (omega arith) (omega arith) (sym (top i p) ∙ e ∙ low k q) in omega arith)
      ]
      | inr p ↦ elim (cases_eq (l k) N) [
        | inl q ↦ absurd (let z = o i n (omega arith) (omega arith) (sym (low i p) ∙ e ∙ top k q) in omega arith)
        | inr q ↦ o i k (omega arith) (omega arith) (sym (low i p) ∙ e ∙ low k q)
      ]
    ]

-- room for one more
pub room_more : (N n : ℕ) (l : ℕ → ℕ) (x : ℕ) → ((k : ℕ) → k < n → l k < N) → Once n l → x < N → ((k : ℕ) → k < n → l k ≢ x) → n < N
room_more N n l x s o h fr = let z = room N (suc n) l' s' o' in omega arith
  where
    l' : ℕ → ℕ
    l' k = cond (ltb k n) (l k) x

    old : (k : ℕ) → k < n → l' k ≡ l k
    old k e = cond-true (ltb k n) (l k) x (lt-ltb k n e)

    last : (k : ℕ) → n ≤ k → l' k ≡ x
    last k e = cond-false (ltb k n) (l k) x (le-ltb k n e)

    s' : (k : ℕ) → k < suc n → l' k < N
    s' k t = elim (cases_lt k n) [
      | inl e ↦ let a = old k e in let b = s k e in omega arith
      | inr e ↦ let a = last k e in omega arith
    ]

    o' : Once (suc n) l'
    o' i k hi hk e = elim (cases_lt i n) [
      | inl p ↦ elim (cases_lt k n) [
        | inl q ↦ o i k p q (sym (old i p) ∙ e ∙ old k q)
        | inr q ↦ absurd (fr i p (sym (old i p) ∙ e ∙ last k q))
      ]
      | inr p ↦ elim (cases_lt k n) [
        | inl q ↦ absurd (fr k q (sym (old k q) ∙ sym e ∙ last i p))
        | inr q ↦ omega arith
      ]
    ]
