-- How many places are occupied. Assumes nothing.
use Rattle.std.proofs.Common.{◌≡◌, ℕ, zero, suc, ◌+◌, ◌<◌, ◌≤◌, Bool, true, false, cond, eqb, ltb, ◌≢◌, ◌⊎◌, List, get_or, Some, None, sym, refl, ap, ◌∙◌, subst, inl, inr, arith}
use Rattle.std.proofs.lemmas.Bool.{cases_eq}
use Rattle.nets.specs.Layout.{bit}
use Rattle.nets.specs.Meaning.{Content, kind_at, net_of, cells_below}
use Rattle.nets.specs.Seating.{bits_below, Flipped, FlippedIf, Taken}

pub all_set : (ms : List ℕ) (n : ℕ) → ((k : ℕ) → k < n → bit ms k ≡ 1) → bits_below ms n ≡ n
unfolding bits_below
all_set ms zero f = refl
all_set ms (suc n) f = let a = all_set ms n (λ k h. f k (omega arith)) in let b = f n (omega arith) in omega arith

pub at_most : (ms : List ℕ) (n : ℕ) → bits_below ms n ≤ n
unfolding bits_below
at_most ms zero = omega arith
at_most ms (suc n) = let a = at_most ms n in let b : bit ms n ≤ 1 = omega arith in omega arith

same_below : (ms ns : List ℕ) (n : ℕ) → ((k : ℕ) → k < n → bit ns k ≡ bit ms k) → bits_below ns n ≡ bits_below ms n
unfolding bits_below
same_below ms ns zero f = refl
same_below ms ns (suc n) f = let a = same_below ms ns n (λ k h. f k (omega arith)) in let b = f n (omega arith) in omega arith

pub one_more : (ms ns : List ℕ) (r : ℕ) → Flipped ms r ns → bit ms r ≡ 0 → (n : ℕ) → r < n → bits_below ns n ≡ bits_below ms n + 1
unfolding bits_below
one_more ms ns r F z zero h = absurd (omega arith)
one_more ms ns r F z (suc n) h = go (cases_eq r n) (λ k. one_more ms ns r F z n k)
  where
    go : (r ≡ n) ⊎ (r ≢ n) → (r < n → bits_below ns n ≡ bits_below ms n + 1) → bits_below ns n + bit ns n ≡ bits_below ms n + bit ms n + 1
    go (inl e) ih =
        let a = same_below ms ns n (λ k l. F.other k (omega arith)) in
        let b = ap (bit ns) e in
        let c = ap (bit ms) e in
        let d = F.here in
        omega arith
    go (inr o) ih = let a = ih (omega arith) in let b = F.other n (λ e. o (sym e)) in omega arith

-- the live cells are the occupied places
told : (c : Content) (n : ℕ) → elim (kind_at c n) [ None ↦ 0 | Some k ↦ 1 ] ≡ bit c.occupied n
told c n = go (cases_eq (bit c.occupied n) 1)
  where
    go : (bit c.occupied n ≡ 1) ⊎ (bit c.occupied n ≢ 1) → elim (kind_at c n) [ None ↦ 0 | Some k ↦ 1 ] ≡ bit c.occupied n
    go (inl e) =
        let b : eqb (bit c.occupied n) 1 ≡ true = grind (arith) in
        ap (λ (t : Bool). elim (cond t (Some (get_or c.kinds n 0)) None) [ None ↦ 0 | Some k ↦ 1 ]) b ∙ sym e
    go (inr e) =
        let b : eqb (bit c.occupied n) 1 ≡ false = grind (arith) in
        let z : bit c.occupied n ≡ 0 = omega arith in
        ap (λ (t : Bool). elim (cond t (Some (get_or c.kinds n 0)) None) [ None ↦ 0 | Some k ↦ 1 ]) b ∙ sym z

pub cells_are : (c : Content) (n : ℕ) → cells_below (net_of c) n ≡ bits_below c.occupied n
unfolding cells_below bits_below
cells_are c zero = refl
cells_are c (suc n) = let a = cells_are c n in let b = told c n in omega arith

-- what was done and what was not
pub not_flipped : (b : Bool) (ms ns : List ℕ) (r : ℕ) → b ≡ false → FlippedIf b ms r ns → ns ≡ ms
not_flipped b ms ns r e f = subst (λ (b : Bool). FlippedIf b ms r ns) e f

pub is_flipped : (b : Bool) (ms ns : List ℕ) (r : ℕ) → b ≡ true → FlippedIf b ms r ns → Flipped ms r ns
is_flipped b ms ns r e f = subst (λ (b : Bool). FlippedIf b ms r ns) e f

pub not_taken : (b : Bool) (ms ns : List ℕ) (r : ℕ) → b ≡ false → Taken b ms r ns → ns ≡ ms
not_taken b ms ns r e f = subst (λ (b : Bool). Taken b ms r ns) e f

pub is_taken : (b : Bool) (ms ns : List ℕ) (r : ℕ) → b ≡ true → Taken b ms r ns → Taken true ms r ns
is_taken b ms ns r e f = subst (λ (b : Bool). Taken b ms r ns) e f

-- room for a fourth new cell
pub fourth_room : (n p q t : ℕ) (m₀ m₁ m₂ m₃ : List ℕ) → bits_below m₀ 1024 + n ≤ 1026 → FlippedIf (ltb n 1) m₀ p m₁ → FlippedIf (ltb n 2) m₁ q m₂ → Taken (ltb 2 n) m₂ t m₃ → ltb 3 n ≡ true → bits_below m₃ 1024 < 1024
fourth_room n p q t m₀ m₁ m₂ m₃ h f g k w =
    let l : 3 < n = grind (arith) in
    let b1 : ltb n 1 ≡ false = grind (arith) in
    let b2 : ltb n 2 ≡ false = grind (arith) in
    let b3 : ltb 2 n ≡ true = grind (arith) in
    let x = is_taken (ltb 2 n) m₂ m₃ t b3 k in
    let y = one_more m₂ m₃ t x.1 x.0.1 1024 x.0.0 in
    let e = ap (λ (m : List ℕ). bits_below m 1024) (not_flipped (ltb n 2) m₁ m₂ q b2 g ∙ not_flipped (ltb n 1) m₀ m₁ p b1 f) in
    omega arith
