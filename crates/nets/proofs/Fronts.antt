-- The map in which just the first places are occupied. Assumes nothing.
use Rattle.std.proofs.Common.{◌≡◌, ℕ, zero, suc, ◌≢◌, subst, ◌+◌, ◌-◌, ◌*◌, ◌/◌, ◌%◌, ◌^◌, ◌<◌, ◌≤◌, Bool, true, false, cond, eqb, ltb, ◌⊎◌, List, length, get_or, sym, refl, ap, ◌∙◌, inl, inr, arith}
use denote.Param.Members.{Mut}
use Rattle.std.specs.Fn.{Called}
use Rattle.std.specs.Array.{IsFromFnResultFrom}
use Rattle.std.proofs.lemmas.Bool.{cases_lt, cases_eq}
use Rattle.calculus.proofs.Tests.{below?, below_at}
use Rattle.nets.specs.Layout.{bit}
use Rattle.nets.specs.Inner.{Front}
use Rattle.nets.proofs.Places.{bit_at, bit_past}

-- the lowest b bits of a byte are set, and no other
low? : ℕ → ℕ → Bool
low? b j = eqb ((2 ^ b - 1) / 2 ^ j % 2) (cond (ltb j b) 1 0)

lows : below? (λ b. below? (low? b) 8) 9 ≡ true
unfolding low?
lows = refl

pub low_bits : (b j : ℕ) → b < 9 → j < 8 → (2 ^ b - 1) / 2 ^ j % 2 ≡ cond (ltb j b) 1 0
unfolding low?
low_bits b j h k = let t = below_at (low? b) 8 (below_at (λ b. below? (low? b) 8) 9 lows b h) j k in grind (arith)

-- byte by byte to place by place
pub front_of : (n : ℕ) (map : List ℕ) → n ≤ 1024 → length map ≡ 128 →
    ((i j : ℕ) → i < 128 → j < 8 → get_or map i 0 / 2 ^ j % 2 ≡ cond (ltb (i * 8 + j) n) 1 0) → Front n map
front_of n map few l f = (l, λ r. go r (cases_lt r 1024))
  where
    go : (r : ℕ) → (r < 1024) ⊎ (1024 ≤ r) → bit map r ≡ cond (ltb r n) 1 0
    go r (inl h) =
        let e : r / 8 * 8 + r % 8 ≡ r = omega arith in
        bit_at map (r / 8) (r % 8) r (omega arith) e ∙ f (r / 8) (r % 8) (omega arith) (omega arith) ∙ ap (λ (k : ℕ). cond (ltb k n) 1 0) e
    go r (inr h) =
        let b : ltb r n ≡ false = grind (arith) in
        bit_past map r (omega arith) ∙ sym (ap (λ (t : Bool). cond t 1 0) b)

-- what a closure that only reads gives at each index, where it makes an array
pub made : {F : Type 0} (g : Mut F (ℕ × Unit {0}) ℕ) (f : F) (P : ℕ → ℕ → Type 0) → ((i y : ℕ) (q : F) → Called g f (i, tt) y q → (q ≡ f) × P i y) →
    (ys : List ℕ) (i n : ℕ) → IsFromFnResultFrom g f ys i n → (k : ℕ) → i ≤ k → k < i + n → P k (get_or ys k 0)
made g f P c ys i zero t k a b = absurd (omega arith)
made g f P c ys i (suc n) (q, y, e, s, t) k a b =
    let d = c i y q s in
    go (cases_eq k i) (λ o. made g f P c ys (i + 1) n (subst (λ (p : _). IsFromFnResultFrom g p ys (i + 1) n) d.0 t) k (omega arith) (omega arith))
  where
    go : (k ≡ i) ⊎ (k ≢ i) → (k ≢ i → P k (get_or ys k 0)) → P k (get_or ys k 0)
    go (inl d) h = subst (λ (k : ℕ). P k (get_or ys k 0)) (sym d) (subst (P i) (sym (e.1 0)) (c i y q s).1)
    go (inr o) h = h o
