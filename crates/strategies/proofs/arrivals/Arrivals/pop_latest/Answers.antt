use Rattle.std.proofs.Common.{arith}
use Rattle.std.proofs.lemmas.List.FromFn.{length-map-range_with_len}
use Rattle.strategies.proofs.Slots.{latest_out, last_first}
use Rattle.strategies.proofs.arrivals.Arrivals.pop_latest.Goals as goal

pub returns : goal.returns
returns c =
    last_first _ _ _ (latest_out _ c.args.self.now.first c.args.self.now.count c.slot.result c.index.result.now
    (simp length-map-range_with_len at c.requires)
    c.slot.ensures
    (omega arith)
    c.index.ensures)
