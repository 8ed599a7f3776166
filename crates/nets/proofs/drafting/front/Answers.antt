use Rattle.std.proofs.Common.{◌≡◌, ℕ, ◌+◌, ◌*◌, ◌/◌, ◌%◌, ◌^◌, ◌<◌, cond, ltb, rules, arith}
use Rattle.nets.proofs.Fronts.{front_of, made}
use Rattle.nets.proofs.drafting.front.Goals as goal

pub returns : goal.returns
returns c =
    front_of c.args.cells c.from_fn.result c.requires c.from_fn.ensures.items.long
    (λ i j h k. made _ _ (λ i y. (j : ℕ) → j < 8 → y / 2 ^ j % 2 ≡ cond (ltb (i * 8 + j) c.args.cells) 1 0) (λ i y q s. search rules) c.from_fn.result 0 128 c.from_fn.ensures.items.each i (omega arith) h j k)
