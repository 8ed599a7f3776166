use Rattle.std.proofs.Common.{arith}
use Rattle.std.proofs.lemmas.List.Sorted.{length_permutation}
use Rattle.strategies.specs.Orders.{earliest_first}
use Rattle.strategies.proofs.Ends.{one_more_of}
use Rattle.strategies.proofs.line.LineStrategy.put.Goals as goal

pub returns-clause-bags : goal.returns-clause-bags
returns-clause-bags g c =
    let same = g.met.E.End.same in
    let long = length_permutation _ _ (same (earliest_first c.args.self.now.waiting)) in
    record { room = omega arith; more = one_more_of _ _ _ _ _ c.push.ensures (same _) (same _) }
