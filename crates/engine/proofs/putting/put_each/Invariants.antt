use Rattle.std.proofs.Common.{◌+◌, ◌≤◌, length, take}
use Rattle.engine.specs.Calls.{Puts}
use Rattle.engine.proofs.putting.put_each.Given as goal

abbrev pub invariant-loop-pair : goal.invariant-loop-pair
invariant-loop-pair g l = length (g.S.Strategy.bag l.initial.strategy) + length l.pairs ≤ 512 → Puts g.S.Strategy l.initial.strategy (take l.pair-index l.pairs) l.strategy
