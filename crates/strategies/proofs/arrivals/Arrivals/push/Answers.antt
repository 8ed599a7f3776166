use Rattle.std.proofs.Common.{arith}
use Rattle.std.proofs.lemmas.List.FromFn.{length-map-range_with_len}
use Rattle.strategies.proofs.Slots.{written_last}
use Rattle.strategies.proofs.arrivals.Arrivals.push.Goals as goal

pub returns : goal.returns
returns c =
    written_last _ c.args.self.now.first c.args.self.now.count c.slot-slot.result c.args.pair
    (simp length-map-range_with_len at c.requires)
    c.slot-slot.ensures
    (omega arith)
