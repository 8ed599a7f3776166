use Rattle.std.proofs.Common.{◌≡◌, ℕ, ◌+◌, ◌-◌, ◌*◌, ◌/◌, ◌%◌, ◌^◌, ◌<◌, Bool, cond, ltb, ap, ◌∙◌, arith}
use Rattle.std.proofs.lemmas.Nat.{pow_below}
use Rattle.nets.proofs.Fronts.{low_bits}
use Rattle.nets.proofs.drafting.front_byte.Goals as goal

same_test : (a b c d : ℕ) → (a < b → c < d) → (c < d → a < b) → ltb a b ≡ ltb c d
same_test a b c d f g = grind (arith)

pub returns-then-before-ge8 : goal.returns-then-before-ge8
returns-then-before-ge8 c j h =
    low_bits 8 j (omega arith) h ∙ ap (λ (t : Bool). cond t 1 0) (same_test j 8 (c.args.i * 8 + j) c.args.cells (λ k. omega arith) (λ k. h))

pub returns-else-before-ge8 : goal.returns-else-before-ge8
returns-else-before-ge8 c j h =
    let p : 2 ^ c.saturating_sub-before.result < 256 = pow_below c.saturating_sub-before.result 8 c.if-before-ge8.false in
    let e : 1 * 2 ^ c.saturating_sub-before.result % 256 ≡ 2 ^ c.saturating_sub-before.result = omega arith in
    ap (λ (x : ℕ). (x - 1) / 2 ^ j % 2) e ∙ low_bits c.saturating_sub-before.result j (omega arith) h
    ∙ ap (λ (t : Bool). cond t 1 0) (same_test j c.saturating_sub-before.result (c.args.i * 8 + j) c.args.cells (λ k. omega arith) (λ k. omega arith))
