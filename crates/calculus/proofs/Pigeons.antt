-- Numbers below n, each given one below m of its own: n is at most m. Assumes nothing.
use Rattle.std.proofs.Common.{◌≡◌, ℕ, zero, suc, ◌<◌, ◌≤◌, ◌≢◌, ◌⊎◌, sym, refl, ◌∙◌, subst, inl, inr, arith}
use Rattle.calculus.proofs.Wiring.{number}

-- m in the place of h
trade_by : (h m j : ℕ) → (j ≡ h) ⊎ (j ≢ h) → ℕ
trade_by h m j (inl e) = m
trade_by h m j (inr n) = j

trade : ℕ → ℕ → ℕ → ℕ
trade h m j = trade_by h m j (number j h)

trade_hit : (h m j : ℕ) → j ≡ h → trade h m j ≡ m
unfolding trade trade_by
trade_hit h m j e = go (number j h)
  where
    go : (d : (j ≡ h) ⊎ (j ≢ h)) → trade_by h m j d ≡ m
    go (inl z) = refl
    go (inr n) = absurd (n e)

trade_miss : (h m j : ℕ) → j ≢ h → trade h m j ≡ j
unfolding trade trade_by
trade_miss h m j k = go (number j h)
  where
    go : (d : (j ≡ h) ⊎ (j ≢ h)) → trade_by h m j d ≡ j
    go (inl z) = absurd (k z)
    go (inr n) = refl

pub fits : (n m : ℕ) (Q : ℕ → ℕ → Type 0) → ((i : ℕ) → i < n → (j : ℕ) × (j < m) × Q i j) → ((i k j : ℕ) → Q i j → Q k j → i ≡ k) → n ≤ m
fits zero m Q f u = omega arith
fits (suc n) zero Q f u = absurd (let t = f 0 (omega arith) in let h = t.1 in let z : ⊥ = omega arith in z)
fits (suc n) (suc m) Q f u =
    let last = f n (omega arith) in
    let ih = fits n m (λ i j. Q i (trade last.0 m j)) (λ i h. go i h (f i (omega arith)) last) (λ i k j. u i k (trade last.0 m j)) in
    omega arith
  where
    go : (i : ℕ) → i < n → (t : (j : ℕ) × (j < suc m) × Q i j) → (l : (j : ℕ) × (j < suc m) × Q n j) → (j : ℕ) × (j < m) × Q i (trade l.0 m j)
    go i h t l =
        let a : t.0 ≢ l.0 = λ e. let z = u i n l.0 (subst (Q i) e t.2) l.2 in let y : ⊥ = omega arith in y in
        let tm = t.1 in
        let lm = l.1 in
        elim (number t.0 m) [
          | inl e ↦ (l.0, omega arith, subst (Q i) (e ∙ sym (trade_hit l.0 m l.0 refl)) t.2)
          | inr n ↦ (t.0, omega arith, subst (Q i) (sym (trade_miss l.0 m t.0 a)) t.2)
        ]
