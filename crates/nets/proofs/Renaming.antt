-- The change of names by which new cells take their places undoes itself. Assumes nothing.
use Rattle.std.proofs.Common.{◌≡◌, ℕ, zero, suc, ◌+◌, ◌<◌, cond, eqb, ◌≢◌, ◌⊎◌, sym, refl, ap, ◌∙◌, subst, inl, inr, arith}
use Rattle.std.proofs.lemmas.Bool.{cases_eq}
use Rattle.nets.specs.Rewiring.{Places, renamed}
use Rattle.calculus.specs.Spots.{Spot, end, port, carry}
use Rattle.calculus.specs.Alike.{SameLinks}
use Rattle.calculus.proofs.Splice.{Mutual}

-- 1024 + i and the place of new cell i change names, for the first n
abbrev pub swaps : (ℕ → ℕ) → ℕ → ℕ → ℕ
swaps pl zero r = r
swaps pl (suc n) r = cond (eqb r (pl n)) (1024 + n) (cond (eqb r (1024 + n)) (pl n) (swaps pl n r))

same' : {A : Type 0} (x y : ℕ) (a b : A) → x ≡ y → cond (eqb x y) a b ≡ a
same' x y a b e = grind (arith)

other' : {A : Type 0} (x y : ℕ) (a b : A) → x ≢ y → cond (eqb x y) a b ≡ b
other' x y a b e = grind (arith)

pub fewer : (pl : ℕ → ℕ) (n : ℕ) → Places pl (suc n) → Places pl n
fewer pl n P = record { low = λ i h. P.low i (omega arith); apart = λ i j h k. P.apart i j (omega arith) (omega arith) }

pub swaps_else : (pl : ℕ → ℕ) (n r : ℕ) → ((i : ℕ) → i < n → (r ≢ pl i) × (r ≢ 1024 + i)) → swaps pl n r ≡ r
swaps_else pl zero r h = refl
swaps_else pl (suc n) r h =
    let t = h n (omega arith) in
    other' r (pl n) (1024 + n) _ t.0 ∙ other' r (1024 + n) (pl n) (swaps pl n r) t.1 ∙ swaps_else pl n r (λ i k. h i (omega arith))

pub swaps_new : (pl : ℕ → ℕ) (n i : ℕ) → Places pl n → i < n → swaps pl n (1024 + i) ≡ pl i
swaps_new pl zero i P h = absurd (omega arith)
swaps_new pl (suc n) i P h =
    let l : pl n < 1024 = P.low n (omega arith) in
    other' (1024 + i) (pl n) (1024 + n) _ (omega arith) ∙ go (λ k. swaps_new pl n i (fewer pl n P) k) (cases_eq i n)
  where
    go : (i < n → swaps pl n (1024 + i) ≡ pl i) → (i ≡ n) ⊎ (i ≢ n) → cond (eqb (1024 + i) (1024 + n)) (pl n) (swaps pl n (1024 + i)) ≡ pl i
    go ih (inl e) = same' (1024 + i) (1024 + n) (pl n) (swaps pl n (1024 + i)) (ap (λ (i : ℕ). 1024 + i) e) ∙ ap pl (sym e)
    go ih (inr k) = other' (1024 + i) (1024 + n) (pl n) (swaps pl n (1024 + i)) (λ e. k (omega arith)) ∙ ih (omega arith)

pub swaps_old : (pl : ℕ → ℕ) (n i : ℕ) → Places pl n → i < n → swaps pl n (pl i) ≡ 1024 + i
swaps_old pl zero i P h = absurd (omega arith)
swaps_old pl (suc n) i P h = go (λ k. swaps_old pl n i (fewer pl n P) k) (cases_eq i n)
  where
    go : (i < n → swaps pl n (pl i) ≡ 1024 + i) → (i ≡ n) ⊎ (i ≢ n) → swaps pl (suc n) (pl i) ≡ 1024 + i
    go ih (inl e) = same' (pl i) (pl n) (1024 + n) _ (ap pl e) ∙ ap (λ (i : ℕ). 1024 + i) (sym e)
    go ih (inr k) =
        let l : pl i < 1024 = P.low i h in
        other' (pl i) (pl n) (1024 + n) _ (λ e. k (P.apart i n h (omega arith) e))
        ∙ other' (pl i) (1024 + n) (pl n) (swaps pl n (pl i)) (omega arith) ∙ ih (omega arith)

abbrev Kept : (ℕ → ℕ) → ℕ → ℕ → Type 0
Kept pl n r = (i : ℕ) → i < n → (r ≢ pl i) × (r ≢ 1024 + i)

pub which : (pl : ℕ → ℕ) (n r : ℕ) → ((i : ℕ) × (i < n) × (r ≡ pl i)) ⊎ (((i : ℕ) × (i < n) × (r ≡ 1024 + i)) ⊎ ((i : ℕ) → i < n → (r ≢ pl i) × (r ≢ 1024 + i)))
which pl zero r = inr (inr (λ i h. absurd (omega arith)))
which pl (suc n) r = go (cases_eq r (pl n)) (cases_eq r (1024 + n)) (which pl n r)
  where
    go : (r ≡ pl n) ⊎ (r ≢ pl n) → (r ≡ 1024 + n) ⊎ (r ≢ 1024 + n) → ((i : ℕ) × (i < n) × (r ≡ pl i)) ⊎ (((i : ℕ) × (i < n) × (r ≡ 1024 + i)) ⊎ Kept pl n r) →
        ((i : ℕ) × (i < suc n) × (r ≡ pl i)) ⊎ (((i : ℕ) × (i < suc n) × (r ≡ 1024 + i)) ⊎ Kept pl (suc n) r)
    go (inl e) q w = inl (n, omega arith, e)
    go (inr a) (inl e) w = inr (inl (n, omega arith, e))
    go (inr a) (inr b) (inl (i, h, e)) = inl (i, omega arith, e)
    go (inr a) (inr b) (inr (inl (i, h, e))) = inr (inl (i, omega arith, e))
    go (inr a) (inr b) (inr (inr k)) = inr (inr (λ i h. at i h (cases_eq i n)))
      where
        at : (i : ℕ) → i < suc n → (i ≡ n) ⊎ (i ≢ n) → (r ≢ pl i) × (r ≢ 1024 + i)
        at i h (inl e) = subst (λ (i : ℕ). (r ≢ pl i) × (r ≢ 1024 + i)) (sym e) (a, b)
        at i h (inr o) = k i (omega arith)

pub swaps_twice : (pl : ℕ → ℕ) (n r : ℕ) → Places pl n → swaps pl n (swaps pl n r) ≡ r
swaps_twice pl n r P = go (which pl n r)
  where
    f : ℕ → ℕ
    f = swaps pl n

    go : ((i : ℕ) × (i < n) × (r ≡ pl i)) ⊎ (((i : ℕ) × (i < n) × (r ≡ 1024 + i)) ⊎ Kept pl n r) → f (f r) ≡ r
    go (inl (i, h, e)) = ap (λ (r : ℕ). f (f r)) e ∙ ap f (swaps_old pl n i P h) ∙ swaps_new pl n i P h ∙ sym e
    go (inr (inl (i, h, e))) = ap (λ (r : ℕ). f (f r)) e ∙ ap f (swaps_new pl n i P h) ∙ swaps_old pl n i P h ∙ sym e
    go (inr (inr k)) = ap f (swaps_else pl n r k) ∙ swaps_else pl n r k

module _ (f : ℕ → ℕ) (ff : (r : ℕ) → f (f r) ≡ r) where
  pub move_twice : (x : Spot) → carry f (carry f x) ≡ x
  move_twice (end e) = refl
  move_twice (port r j) = ap (λ (r : ℕ). port r j) (ff r)

  pub renamed_mutual : (m : Spot → Spot) → Mutual m → Mutual (renamed f m)
  renamed_mutual m inv x = ap (λ (z : Spot). carry f (m z)) (move_twice (m (carry f x))) ∙ ap (carry f) (inv (carry f x)) ∙ move_twice x

  pub renamed_same : (m : Spot → Spot) → SameLinks (carry f) (carry f) m (renamed f m)
  renamed_same m = record {
    there = λ x l. (ap (λ (z : Spot). carry f (m z)) (move_twice x), move_twice x);
    back = λ y l. (sym (move_twice (m (carry f y))), move_twice y);
  }
