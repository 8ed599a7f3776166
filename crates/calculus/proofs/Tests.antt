-- Tests over lists and over the numbers below a bound, and what they tell. Assumes nothing.
use Rattle.std.proofs.Common.{◌≡◌, ℕ, zero, suc, ◌<◌, Bool, true, false, ◌&&◌, ◌||◌, List, [], ◌∷◌, length, Some, refl, subst, inl, inr, not-suc-le-zero, arith}
use Rattle.std.specs.List.{slice_get}
use Rattle.std.proofs.lemmas.Option.{slice_get_past}
use Rattle.std.proofs.lemmas.Bool.{and_parts, or_cases, both_ways, cases_lt}

-- each entry passes
abbrev pub every? : {X : Type 0} → (X → Bool) → List X → Bool
every? f [] = true
every? f (x ∷ xs) = f x && every? f xs

pub every_at : {X : Type 0} (f : X → Bool) (xs : List X) → every? f xs ≡ true → (i : ℕ) (x : X) → slice_get xs i ≡ Some x → f x ≡ true
every_at f [] t i x e = let z : ◌≡◌ {A = ℕ} 0 1 = cc in absurd (omega arith)
every_at f (y ∷ ys) t zero x e = let p : y ≡ x = cc in subst (λ v. f v ≡ true) p (and_parts (f y) (every? f ys) t).0
every_at f (y ∷ ys) t (suc i) x e = every_at f ys (and_parts (f y) (every? f ys) t).1 i x e

-- a list of tests passes when each of them does
abbrev pub pass? : List Bool → Bool
pass? bs = every? (λ b. b) bs

pub passed : (bs : List Bool) → pass? bs ≡ true → (i : ℕ) (b : Bool) → slice_get bs i ≡ Some b → b ≡ true
passed bs t i b e = every_at (λ b. b) bs t i b e

-- some entry passes
abbrev pub some? : {X : Type 0} → (X → Bool) → List X → Bool
some? f [] = false
some? f (x ∷ xs) = f x || some? f xs

pub some_one : {X : Type 0} (f : X → Bool) (xs : List X) → some? f xs ≡ true → (x : X) × (f x ≡ true)
some_one f [] t = absurd (both_ways false refl t)
some_one f (x ∷ xs) t =
    elim (or_cases (f x) (some? f xs) t) [ inl e ↦ (x, e) | inr e ↦ some_one f xs e ]

-- each number below the bound passes
abbrev pub below? : (ℕ → Bool) → ℕ → Bool
below? f zero = true
below? f (suc n) = f n && below? f n

pub below_at : (f : ℕ → Bool) (n : ℕ) → below? f n ≡ true → (k : ℕ) → k < n → f k ≡ true
below_at f zero t k h = absurd (not-suc-le-zero h)
below_at f (suc n) t k h =
    elim (cases_lt k n) [
      | inl less ↦ below_at f n (and_parts (f n) (below? f n) t).1 k less
      | inr more ↦ let e : n ≡ k = omega arith in subst (λ v. f v ≡ true) e (and_parts (f n) (below? f n) t).0
    ]

-- the second test passes where the first does
abbrev pub if? : Bool → Bool → Bool
if? true b = b
if? false b = true

pub if_then : (a b : Bool) → if? a b ≡ true → a ≡ true → b ≡ true
if_then true b t e = t
if_then false b t e = absurd (both_ways false refl e)

pub nth_within : {X : Type 0} (xs : List X) (i : ℕ) (x : X) → slice_get xs i ≡ Some x → i < length xs
nth_within xs i x e =
    elim (cases_lt i (length xs)) [
      | inl less ↦ less
      | inr more ↦ let p = slice_get_past xs i more in let z : ◌≡◌ {A = ℕ} 0 1 = cc in absurd (omega arith)
    ]
