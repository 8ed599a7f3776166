-- The highest bit of the occupancy map that is not set. Assumes nothing.
use Rattle.std.proofs.Common.{◌≡◌, ℕ, suc, ◌+◌, ◌-◌, ◌*◌, ◌/◌, ◌%◌, ◌^◌, ◌<◌, ◌≤◌, ◌≢◌, ◌⊎◌, List, [], ◌∷◌, ◌++◌, length, get_or, Some, sym, refl, ap, ◌∙◌, subst, ap₂, inl, inr, arith, pow_mono}
use lib.Count.{count_leading_zeros, leading_top}
use Rattle.std.proofs.lemmas.List.{length_push, get_or_push, get_or_append_left}
use Rattle.std.proofs.lemmas.Bool.{cases_eq}
use Rattle.nets.specs.Layout.{bit}
use Rattle.nets.specs.Seating.{Highest}

abbrev Each : (ℕ → Type 0) → Type 0
Each P = P 0 × P 1 × P 2 × P 3 × P 4 × P 5 × P 6 × P 7

each : (P : ℕ → Type 0) → Each P → (j : ℕ) → j < 8 → P j
each P e j h =
    elim (cases_eq j 0) [
      | inl z ↦ subst P (sym z) e.0
      | inr n₀ ↦
          elim (cases_eq j 1) [
            | inl z ↦ subst P (sym z) e.1
            | inr n₁ ↦
                elim (cases_eq j 2) [
                  | inl z ↦ subst P (sym z) e.2
                  | inr n₂ ↦
                      elim (cases_eq j 3) [
                        | inl z ↦ subst P (sym z) e.3
                        | inr n₃ ↦
                            elim (cases_eq j 4) [
                              | inl z ↦ subst P (sym z) e.4
                              | inr n₄ ↦
                                  elim (cases_eq j 5) [
                                    | inl z ↦ subst P (sym z) e.5
                                    | inr n₅ ↦
                                        elim (cases_eq j 6) [
                                          | inl z ↦ subst P (sym z) e.6
                                          | inr n₆ ↦
                                              (let z : j ≡ 7 = omega arith in subst P (sym z) e.7)
                                        ]
                                  ]
                            ]
                      ]
                ]
          ]
    ]

full_bit : (j : ℕ) → j < 8 → 255 / 2 ^ j % 2 ≡ 1
full_bit = each (λ j. 255 / 2 ^ j % 2 ≡ 1) (refl, refl, refl, refl, refl, refl, refl, refl)

free_bit : (a b : ℕ) → a + b ≡ 255 → (j : ℕ) → j < 8 → 2 ^ j ≤ a → a < 2 ^ suc j → b / 2 ^ j % 2 ≡ 0
free_bit a b e = each (λ j. 2 ^ j ≤ a → a < 2 ^ suc j → b / 2 ^ j % 2 ≡ 0)
    ((λ p q. omega arith), (λ p q. omega arith), (λ p q. omega arith), (λ p q. omega arith), (λ p q. omega arith), (λ p q. omega arith), (λ p q. omega arith), (λ p q. omega arith))

set_bit : (a b : ℕ) → a + b ≡ 255 → (j : ℕ) → j < 8 → a < 2 ^ j → b / 2 ^ j % 2 ≡ 1
set_bit a b e =
    each (λ j. a < 2 ^ j → b / 2 ^ j % 2 ≡ 1)
    ((λ p. omega arith), (λ p. omega arith), (λ p. omega arith), (λ p. omega arith), (λ p. omega arith), (λ p. omega arith), (λ p. omega arith), (λ p. omega arith))

pub full_above : (ms : List ℕ) (i : ℕ) → ((k : ℕ) → i ≤ k → k < 128 → get_or ms k 0 ≡ 255) → (k : ℕ) → i * 8 ≤ k → k < 1024 → bit ms k ≡ 1
full_above ms i f k h l = ap (λ (b : ℕ). b / 2 ^ (k % 8) % 2) (f (k / 8) (omega arith) (omega arith)) ∙ full_bit (k % 8) (omega arith)

-- the highest vacant place is in the highest byte that is not full
pub found : (ms : List ℕ) (i : ℕ) → i < 128 → get_or ms i 0 < 256 → 255 - get_or ms i 0 ≢ 0 → ((k : ℕ) → i + 1 ≤ k → k < 128 → get_or ms k 0 ≡ 255) →
    Highest ms (Some (i * 8 + (7 - count_leading_zeros 8 (255 - get_or ms i 0))))
found ms i h lt n f =
    let t = leading_top 8 (255 - get_or ms i 0) (omega arith) (omega arith) in
    let e : 7 - count_leading_zeros 8 (255 - get_or ms i 0) ≡ t.0 = omega (arith, t.1) in
    let j8 : t.0 < 8 = omega (arith, t.1) in
    let q : (i * 8 + t.0) / 8 ≡ i = omega arith in
    let r : (i * 8 + t.0) % 8 ≡ t.0 = omega arith in
    let z : get_or ms i 0 / 2 ^ t.0 % 2 ≡ 0 = free_bit (255 - get_or ms i 0) (get_or ms i 0) (omega arith) t.0 j8 t.2 t.3 in
    (omega arith, ap (λ (v : ℕ). bit ms (i * 8 + v)) e ∙ ap₂ (λ (x y : ℕ). get_or ms x 0 / 2 ^ y % 2) q r ∙ z, λ k a b. above t.0 t.3 k (omega arith) b (cases_eq (k / 8) i))
  where
    above : (j : ℕ) → 255 - get_or ms i 0 < 2 ^ suc j → (k : ℕ) → i * 8 + j < k → k < 1024 → (k / 8 ≡ i) ⊎ (k / 8 ≢ i) → bit ms k ≡ 1
    above j s k a b (inl e) =
        let p : 2 ^ suc j ≤ 2 ^ (k % 8) = pow_mono (omega arith) in
        ap (λ (x : ℕ). get_or ms x 0 / 2 ^ (k % 8) % 2) e ∙ set_bit (255 - get_or ms i 0) (get_or ms i 0) (omega arith) (k % 8) (omega arith) (omega arith)
    above j s k a b (inr o) = full_above ms (i + 1) f k (omega arith) b

-- the bytes that are still to be looked at, from the first on; the others are full
pub record Rest (ms rest : List ℕ) (count : ℕ) : Type 0 where
  pub counted : count ≡ 0
  pub within : length rest ≤ length ms
  pub front : (k : ℕ) → k < length rest → get_or rest k 0 ≡ get_or ms k 0
  pub full : (k : ℕ) → length rest ≤ k → k < 128 → get_or ms k 0 ≡ 255

pub rest_all : (ms : List ℕ) → length ms ≡ 128 → Rest ms ms 0
rest_all ms l = record { counted = refl; within = omega arith; front = λ k h. refl; full = λ k h i. absurd (omega arith) }

-- the last of them
module _ (ms rest more : List ℕ) (count b : ℕ) (R : Rest ms rest count) (e : rest ≡ more ++ b ∷ []) where
  long : length rest ≡ length more + 1
  long = ap length e ∙ length_push more b

  pub last_low : length more < length ms
  last_low = let l = long in let w = R.within in omega arith

  pub last_byte : get_or ms (length more) 0 ≡ b
  last_byte = sym (R.front (length more) (let l = long in omega arith)) ∙ ap (λ (xs : List ℕ). get_or xs (length more) 0) e ∙ get_or_push more b 0 (length more) refl

  pub full_past : (k : ℕ) → length more + 1 ≤ k → k < 128 → get_or ms k 0 ≡ 255
  full_past k h l = R.full k (let z = long in omega arith) l

  pub rest_less : b ≡ 255 → (n : ℕ) → n ≡ count → Rest ms more n
  rest_less full n c = record {
    counted = c ∙ R.counted;
    within = let l = last_low in omega arith;
    front = λ k h. sym (get_or_append_left more (b ∷ []) 0 k h) ∙ ap (λ (xs : List ℕ). get_or xs k 0) (sym e) ∙ R.front k (let z = long in omega arith);
    full = λ k h l. go k h l (cases_eq k (length more));
  }
    where
      go : (k : ℕ) → length more ≤ k → k < 128 → (k ≡ length more) ⊎ (k ≢ length more) → get_or ms k 0 ≡ 255
      go k h l (inl z) = ap (λ (k : ℕ). get_or ms k 0) z ∙ last_byte ∙ full
      go k h l (inr o) = full_past k (omega arith) l
