-- The occupancy map: its bits, places and set bits. Assumes nothing.
use Rattle.std.proofs.Common.{◌≡◌, ℕ, zero, suc, ◌+◌, ◌*◌, ◌/◌, ◌%◌, ◌^◌, ◌<◌, ◌≤◌, Bool, true, false, cond, eqb, ◌≢◌, ◌⊎◌, List, length, get_or, take, Some, None, sum_by, sym, refl, ap, ◌∙◌, subst, inl, inr, add-one, arith}
use native.Mathlib.Nat.{zero-div}
use lib.Count.{ones, ones-le, ones_step, ones-ones}
use Rattle.std.proofs.lemmas.List.Sums.{sum_by_more, sum_by-le}
use Rattle.std.proofs.lemmas.List.Elements.{All-from_get_or}
use Rattle.std.proofs.lemmas.List.{get_or_past, take_all}
use Rattle.std.proofs.lemmas.Bool.{cases_eq}
use Rattle.nets.specs.Layout.{bit}
use Rattle.nets.specs.Meaning.{Content, kind_at, net_of, cells_below}

step : (n m : ℕ) → n / 2 ≡ m → ones n ≡ n % 2 + ones m
step n m e = ones_step n ∙ ap (λ (x : ℕ). n % 2 + ones x) e

eight : (a b c d e f g h i s t u v w x y z : ℕ) → a ≡ s + b → b ≡ t + c → c ≡ u + d → d ≡ v + e → e ≡ w + f → f ≡ x + g → g ≡ y + h → h ≡ z + i → i ≡ 0 → a ≡ s + t + u + v + w + x + y + z
eight a b c d e f g h i s t u v w x y z p q r k l m n o j = omega arith

-- the eight bits of a byte
byte : (b : ℕ) → b < 256 → ones b ≡ b / 1 % 2 + b / 2 % 2 + b / 4 % 2 + b / 8 % 2 + b / 16 % 2 + b / 32 % 2 + b / 64 % 2 + b / 128 % 2
byte b h =
    let one : b / 1 ≡ b = omega arith in
    rw one
    (eight (ones b) (ones (b / 2)) (ones (b / 4)) (ones (b / 8)) (ones (b / 16)) (ones (b / 32)) (ones (b / 64)) (ones (b / 128)) (ones 0) (b % 2) (b / 2 % 2) (b / 4 % 2) (b / 8 % 2) (b / 16 % 2) (b / 32 % 2) (b / 64 % 2) (b / 128 % 2)
    (step b (b / 2) refl)
    (step (b / 2) (b / 4) (omega arith))
    (step (b / 4) (b / 8) (omega arith))
    (step (b / 8) (b / 16) (omega arith))
    (step (b / 16) (b / 32) (omega arith))
    (step (b / 32) (b / 64) (omega arith))
    (step (b / 64) (b / 128) (omega arith))
    (step (b / 128) 0 (omega arith))
    (ones-ones 0))

-- bit j of byte i
pub bit_at : (bs : List ℕ) (i j k : ℕ) → j < 8 → i * 8 + j ≡ k → bit bs k ≡ get_or bs i 0 / 2 ^ j % 2
bit_at bs i j k h e =
    let q : k / 8 ≡ i = omega arith in
    let r : k % 8 ≡ j = omega arith in
    simp (q, r)

-- a place past the map has no cell
pub bit_past : (bs : List ℕ) (r : ℕ) → length bs ≤ r / 8 → bit bs r ≡ 0
bit_past bs r h =
    let z : get_or bs (r / 8) 0 ≡ 0 = get_or_past bs (r / 8) 0 h in
    let y : bit bs r ≡ 0 / 2 ^ (r % 8) % 2 = ap (λ (v : ℕ). v / 2 ^ (r % 8) % 2) z in
    y ∙ ap (λ (v : ℕ). v % 2) (zero-div (2 ^ (r % 8)))

pub bit_low : (bs : List ℕ) (r : ℕ) → length bs ≡ 128 → bit bs r ≡ 1 → r < 1024
bit_low bs r l e = go (cases_eq (bit bs r) 0) (r_cases r)
  where
    r_cases : (r : ℕ) → (r < 1024) ⊎ (1024 ≤ r)
    r_cases r = grind (arith)

    go : (bit bs r ≡ 0) ⊎ (bit bs r ≢ 0) → (r < 1024) ⊎ (1024 ≤ r) → r < 1024
    go q (inl h) = h
    go q (inr h) = let z = bit_past bs r (omega arith) in absurd (omega arith)

-- one more place: its bit is whether a cell stands there
told : (c : Content) (n : ℕ) → elim (kind_at c n) [ None ↦ 0 | Some k ↦ 1 ] ≡ bit c.occupied n
told c n = go (cases_eq (bit c.occupied n) 1)
  where
    go : (bit c.occupied n ≡ 1) ⊎ (bit c.occupied n ≢ 1) → elim (kind_at c n) [ None ↦ 0 | Some k ↦ 1 ] ≡ bit c.occupied n
    go (inl e) =
        let b : eqb (bit c.occupied n) 1 ≡ true = grind (arith) in
        ap (λ (t : Bool). elim (cond t (Some (get_or c.kinds n 0)) None) [ None ↦ 0 | Some k ↦ 1 ]) b ∙ sym e
    go (inr e) =
        let b : eqb (bit c.occupied n) 1 ≡ false = grind (arith) in
        let z : bit c.occupied n ≡ 0 = omega arith in
        ap (λ (t : Bool). elim (cond t (Some (get_or c.kinds n 0)) None) [ None ↦ 0 | Some k ↦ 1 ]) b ∙ sym z

one_more : (c : Content) (n m : ℕ) → n + 1 ≡ m → cells_below (net_of c) m ≡ cells_below (net_of c) n + bit c.occupied n
unfolding cells_below
one_more c n m e = ap (cells_below (net_of c)) (sym e ∙ add-one n) ∙ ap (λ (x : ℕ). cells_below (net_of c) n + x) (told c n)

up : (a b c d e f g h i s t u v w x y z : ℕ) → b ≡ a + s → c ≡ b + t → d ≡ c + u → e ≡ d + v → f ≡ e + w → g ≡ f + x → h ≡ g + y → i ≡ h + z → i ≡ a + (s + t + u + v + w + x + y + z)
up a b c d e f g h i s t u v w x y z p q r k l m n o = omega arith

module _ (c : Content) (i : ℕ) where
  abbrev B : ℕ → ℕ
  B = cells_below (net_of c)

  at : (j n m : ℕ) → j < 8 → i * 8 + j ≡ n → n + 1 ≡ m → cells_below (net_of c) m ≡ cells_below (net_of c) n + get_or c.occupied i 0 / 2 ^ j % 2
  at j n m h e k = one_more c n m k ∙ ap (λ (x : ℕ). B n + x) (bit_at c.occupied i j n h e)

  eight_places : get_or c.occupied i 0 < 256 → cells_below (net_of c) (i * 8 + 8) ≡ cells_below (net_of c) (i * 8) + ones (get_or c.occupied i 0)
  eight_places h =
      up (B (i * 8)) (B (i * 8 + 1)) (B (i * 8 + 2)) (B (i * 8 + 3)) (B (i * 8 + 4)) (B (i * 8 + 5)) (B (i * 8 + 6)) (B (i * 8 + 7)) (B (i * 8 + 8)) _ _ _ _ _ _ _ _
      (at 0 (i * 8) (i * 8 + 1) (omega arith) (omega arith) (omega arith))
      (at 1 (i * 8 + 1) (i * 8 + 2) (omega arith) (omega arith) (omega arith))
      (at 2 (i * 8 + 2) (i * 8 + 3) (omega arith) (omega arith) (omega arith))
      (at 3 (i * 8 + 3) (i * 8 + 4) (omega arith) (omega arith) (omega arith))
      (at 4 (i * 8 + 4) (i * 8 + 5) (omega arith) (omega arith) (omega arith))
      (at 5 (i * 8 + 5) (i * 8 + 6) (omega arith) (omega arith) (omega arith))
      (at 6 (i * 8 + 6) (i * 8 + 7) (omega arith) (omega arith) (omega arith))
      (at 7 (i * 8 + 7) (i * 8 + 8) (omega arith) (omega arith) (omega arith))
      ∙ ap (λ (x : ℕ). B (i * 8) + x) (sym (byte (get_or c.occupied i 0) h))

-- the live cells are the set bits
pub cells_are_bits : (c : Content) → ((k : ℕ) → get_or c.occupied k 0 < 256) → (i : ℕ) → i ≤ length c.occupied →
    cells_below (net_of c) (i * 8) ≡ sum_by ones (take i c.occupied)
unfolding cells_below
cells_are_bits c f zero h = refl
cells_are_bits c f (suc i) h =
    let e : suc i * 8 ≡ i * 8 + 8 = omega arith in
    ap (cells_below (net_of c)) e ∙ eight_places c i (f i) ∙ ap (λ (x : ℕ). x + ones (get_or c.occupied i 0)) (cells_are_bits c f i (omega arith))
    ∙ sym (sum_by_more ones c.occupied i 0 (omega arith)) ∙ ap (λ (k : ℕ). sum_by ones (take k c.occupied)) (add-one i)

-- a byte has at most eight set bits
pub few_ones : (bs : List ℕ) → ((k : ℕ) → get_or bs k 0 < 256) → sum_by ones bs ≤ 8 * length bs
few_ones bs f = let s = sum_by-le ones 8 bs (All-from_get_or (λ b. ones b ≤ 8) bs 0 (λ i h. ones-le 8 (get_or bs i 0) (f i))) in omega arith

-- the same of a map that a table has
pub live_ones : (bs : List ℕ) (n : ℕ) → ((k : ℕ) → get_or bs k 0 < 256) → length bs ≡ 128 → n ≡ sum_by ones bs → (c : Content) → c.occupied ≡ bs → n ≡ cells_below (net_of c) 1024
live_ones bs n f l s c e =
    let t : take 128 c.occupied ≡ bs = ap (take 128) e ∙ take_all 128 bs (omega arith) in
    let h : 128 ≤ length c.occupied = subst (λ (xs : List ℕ). 128 ≤ length xs) (sym e) (omega arith) in
    s ∙ ap (sum_by ones) (sym t) ∙ sym (cells_are_bits c (λ k. subst (λ (xs : List ℕ). get_or xs k 0 < 256) (sym e) (f k)) 128 h)
