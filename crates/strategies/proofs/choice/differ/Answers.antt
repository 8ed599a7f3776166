use Rattle.std.proofs.Common.{arith}
use Rattle.strategies.specs.declared.pair.Pair.{Pair}
use Rattle.strategies.proofs.Choosing.{two_choices}
use Rattle.strategies.proofs.choice.differ.Goals as goal

early : Pair
early = record { left = 0; right = 1; cells = 0 }

late : Pair
late = record { left = 2; right = 3; cells = 4 }

pub returns : goal.returns
unfolding early late
returns c =
    two_choices c.in_ok-stack.stack c.take.new.self c.in_ok-ring.ring c.take-2.new.self early late c.unwrap.result c.unwrap-2.result c.take.result c.take-2.result (omega arith) c.in_ok-stack.ensures c.in_ok-ring.ensures c.unwrap.ensures c.unwrap-2.ensures c.take.ensures.own c.take-2.ensures.own
