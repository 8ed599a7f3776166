-- Bits of the occupancy map that turn. Assumes nothing.
use Rattle.std.proofs.Common.{◌≡◌, ℕ, ◌+◌, ◌-◌, ◌*◌, ◌/◌, ◌%◌, ◌^◌, ◌<◌, ◌≤◌, ◌≢◌, ◌⊎◌, List, length, get_or, set, sym, ap, ◌∙◌, inl, inr, arith, length-set, get_or-set_other, get_or-set_same}
use native.Mathlib.Nat.{div-eq_of_lt}
use lib.Bits.{bit_xor, xor_shr, xor_mod, xor_zero_r}
use Rattle.std.proofs.lemmas.Bool.{cases_eq, cases_lt}
use Rattle.std.proofs.lemmas.Nat.{pow-add, shl-shr, pow_below}
use Rattle.nets.specs.Layout.{bit}
use Rattle.nets.specs.Seating.{Flipped}

small_div : (a b : ℕ) → a < b → a / b ≡ 0
small_div a b h = div-eq_of_lt h

-- bit i of the bit j
bit_same : (j : ℕ) → 2 ^ j / 2 ^ j % 2 ≡ 1
bit_same j =
    let e : 1 * 2 ^ j / 2 ^ j ≡ 1 = shl-shr 1 j in
    let o : 1 * 2 ^ j ≡ 2 ^ j = omega arith in
    let z : 2 ^ j / 2 ^ j ≡ 1 = ap (λ (v : ℕ). v / 2 ^ j) (sym o) ∙ e in
    ap (λ (v : ℕ). v % 2) z

bit_other : (i j : ℕ) → i ≢ j → 2 ^ j / 2 ^ i % 2 ≡ 0
bit_other i j n = go (cases_lt j i)
  where
    go : (j < i) ⊎ (i ≤ j) → 2 ^ j / 2 ^ i % 2 ≡ 0
    go (inl h) = ap (λ (v : ℕ). v % 2) (small_div (2 ^ j) (2 ^ i) (pow_below j i h))
    go (inr h) =
        let d = j - i - 1 in
        let e : j ≡ (1 + (j - i - 1)) + i = omega arith in
        let a : 2 ^ j ≡ 2 ^ (1 + (j - i - 1)) * 2 ^ i = ap (λ (v : ℕ). 2 ^ v) e ∙ pow-add 2 (1 + (j - i - 1)) i in
        let b : 2 ^ j / 2 ^ i ≡ 2 ^ (1 + (j - i - 1)) = ap (λ (v : ℕ). v / 2 ^ i) a ∙ shl-shr (2 ^ (1 + (j - i - 1))) i in
        let c : 2 ^ (1 + (j - i - 1)) ≡ 2 * 2 ^ (j - i - 1) = pow-add 2 1 (j - i - 1) in
        let f : 2 ^ j / 2 ^ i ≡ 2 * 2 ^ (j - i - 1) = b ∙ c in
        omega arith

bit_xor_lem : (a b i : ℕ) → bit_xor a b / 2 ^ i % 2 ≡ bit_xor (a / 2 ^ i % 2) (b / 2 ^ i % 2)
bit_xor_lem a b i = ap (λ (v : ℕ). v % 2) (xor_shr a b i) ∙ xor_mod (a / 2 ^ i) (b / 2 ^ i) 1

turn : (x : ℕ) → x < 2 → bit_xor x 1 ≡ 1 - x
turn x h = go (cases_eq x 0)
  where
    go : (x ≡ 0) ⊎ (x ≢ 0) → bit_xor x 1 ≡ 1 - x
    go (inl e) = ap (λ (x : ℕ). bit_xor x 1) e ∙ ap (λ (x : ℕ). 1 - x) (sym e)
    go (inr n) = let e : x ≡ 1 = omega arith in ap (λ (x : ℕ). bit_xor x 1) e ∙ ap (λ (x : ℕ). 1 - x) (sym e)

pub flips : (bs : List ℕ) (r v : ℕ) → length bs ≡ 128 → r < 1024 → v ≡ 2 ^ (r % 8) → Flipped bs r (set bs (r / 8) (bit_xor (get_or bs (r / 8) 0) v))
flips bs r v l h e = record { long = simp length-set; here = same; other = λ k n. go k n (cases_eq (k / 8) (r / 8)) }
  where
    cs : List ℕ
    cs = set bs (r / 8) (bit_xor (get_or bs (r / 8) 0) v)

    at : get_or (set bs (r / 8) (bit_xor (get_or bs (r / 8) 0) v)) (r / 8) 0 ≡ bit_xor (get_or bs (r / 8) 0) (2 ^ (r % 8))
    at = get_or-set_same bs (r / 8) (bit_xor (get_or bs (r / 8) 0) v) 0 (omega arith) ∙ ap (bit_xor (get_or bs (r / 8) 0)) e

    same : bit (set bs (r / 8) (bit_xor (get_or bs (r / 8) 0) v)) r ≡ 1 - bit bs r
    same =
        ap (λ (b : ℕ). b / 2 ^ (r % 8) % 2) at ∙ bit_xor_lem (get_or bs (r / 8) 0) (2 ^ (r % 8)) (r % 8)
        ∙ ap (bit_xor (bit bs r)) (bit_same (r % 8)) ∙ turn (bit bs r) (omega arith)

    go : (k : ℕ) → k ≢ r → (k / 8 ≡ r / 8) ⊎ (k / 8 ≢ r / 8) → bit (set bs (r / 8) (bit_xor (get_or bs (r / 8) 0) v)) k ≡ bit bs k
    go k n (inl q) =
        let o : k % 8 ≢ r % 8 = λ z. n (omega arith) in
        ap (λ (i : ℕ). get_or (set bs (r / 8) (bit_xor (get_or bs (r / 8) 0) v)) i 0 / 2 ^ (k % 8) % 2) q
        ∙ ap (λ (b : ℕ). b / 2 ^ (k % 8) % 2) at ∙ bit_xor_lem (get_or bs (r / 8) 0) (2 ^ (r % 8)) (k % 8)
        ∙ ap (bit_xor (get_or bs (r / 8) 0 / 2 ^ (k % 8) % 2)) (bit_other (k % 8) (r % 8) o)
        ∙ xor_zero_r (get_or bs (r / 8) 0 / 2 ^ (k % 8) % 2) ∙ ap (λ (i : ℕ). get_or bs i 0 / 2 ^ (k % 8) % 2) (sym q)
    go k n (inr q) = ap (λ (b : ℕ). b / 2 ^ (k % 8) % 2) (get_or-set_other bs (r / 8) (k / 8) (bit_xor (get_or bs (r / 8) 0) v) 0 q)
