-- Pairs in slots that go round: one more at the end, one fewer at either end.
use Rattle.std.proofs.Common.{◌≡◌, ℕ, zero, suc, ◌+◌, ◌-◌, ◌%◌, ◌<◌, ◌≢◌, List, [], ◌∷◌, ◌++◌, map, reverse, length, set, get_or, refl, ap, ◌∙◌, add-zero, add_assoc, arith, get_or-set_other, get_or-set_same}
use Rattle.std.specs.List.{range_with_len}
use Rattle.std.proofs.lemmas.List.FromFn.{map-range_with_len_more}
use Rattle.std.proofs.lemmas.List.{reverse-append, get_or_default}
use Rattle.strategies.specs.declared.pair.Pair.{Pair}
use Rattle.strategies.specs.Orders.{free}

-- two lists made by counting agree where their functions do
pub counting_same : {X : Type 0} (f g : ℕ → X) (a b n : ℕ) → ((k : ℕ) → k < n → f (a + k) ≡ g (b + k)) → map f (range_with_len a n) ≡ map g (range_with_len b n)
counting_same f g a b zero h = refl
counting_same f g a b (suc n) h =
    let front : f a ≡ g b = simp add-zero at (h 0 (omega arith)) in
    let rest = counting_same f g (a + 1) (b + 1) n (λ k l. simp (add_assoc) (h (1 + k) (omega arith))) in
    cc

-- n pairs from a slot on, going round
abbrev pub from_slot : List Pair → ℕ → ℕ → List Pair
from_slot ps first n = map (λ k. get_or ps ((first + k) % 512) free) (range_with_len 0 n)

-- the pair written after the last is the latest
pub written_last : (ps : List Pair) (first n s : ℕ) (p : Pair) → n < 512 → s ≡ (first + n) % 512 → length ps ≡ 512 → from_slot (set ps s p) first (n + 1) ≡ from_slot ps first n ++ p ∷ []
written_last ps first n s p lt e l =
    let now : ℕ → Pair = λ k. get_or (set ps s p) ((first + k) % 512) free in
    let more = map-range_with_len_more now 0 n n (omega arith) in
    let others = counting_same now (λ k. get_or ps ((first + k) % 512) free) 0 0 n (λ k h. let ne : (first + (0 + k)) % 512 ≢ s = omega arith in simp get_or-set_other) in
    let inside : s < length ps = omega arith in
    let same : get_or (set ps s p) s free ≡ p = rw get_or-set_same in
    let last : now n ≡ p = rw (← e) same in
    more ∙ (rw (others, last))

-- the latest goes out
pub latest_out : (ps : List Pair) (first n s : ℕ) (p : Pair) → 0 < n → s ≡ (first + (n - 1)) % 512 → length ps ≡ 512 → p ≡ get_or ps s p → from_slot ps first n ≡ from_slot ps first (n - 1) ++ p ∷ []
latest_out ps first n s p h e l at =
    let more = map-range_with_len_more (λ k. get_or ps ((first + k) % 512) free) 0 (n - 1) (n - 1) (omega arith) in
    let here = at ∙ get_or_default ps s p free (omega arith) in
    let q : n ≡ n - 1 + 1 = omega arith in
    ap (λ (m : ℕ). from_slot ps first m) q ∙ (more ∙ rw (here, e))

-- the earliest goes out
pub earliest_out : (ps : List Pair) (first n s : ℕ) (p : Pair) → 0 < n → s ≡ (first + 0) % 512 → length ps ≡ 512 → p ≡ get_or ps s p → from_slot ps first n ≡ p ∷ from_slot ps ((first + 1) % 512) (n - 1)
earliest_out ps first zero s p h e l at = absurd (omega arith)
earliest_out ps first (suc n) s p h e l at =
    let round : (k : ℕ) → (first + (1 + k)) % 512 ≡ ((first + 1) % 512 + (0 + k)) % 512 = λ k. omega arith in
    let rest = counting_same (λ k. get_or ps ((first + k) % 512) free) (λ k. get_or ps (((first + 1) % 512 + k) % 512) free) 1 0 n (λ k l. ap (λ (i : ℕ). get_or ps i free) (round k)) in
    let here = at ∙ get_or_default ps s p free (omega arith) in
    let q : suc n - 1 ≡ n = omega arith in
    rw (here, e, q, rest)

-- the last of a list is the first of its reverse
pub last_first : (xs ys : List Pair) (p : Pair) → xs ≡ ys ++ p ∷ [] → reverse xs ≡ p ∷ reverse ys
last_first xs ys p e = rw e (reverse-append ys (p ∷ []))
