use Rattle.std.proofs.Common.{subst, sym}
use Rattle.strategies.specs.Bags.{Taken}
use Rattle.strategies.specs.Orders.{earliest_first, LineTaken}
use Rattle.strategies.proofs.Ends.{taken_bags, taken_own}
use Rattle.strategies.proofs.line.LineStrategy.take.Goals as goal

pub returns : goal.returns
returns g c =
    let order = g.E.End.order in
    let s = c.args.self.now in
    let b = c.pop.new.waiting in
    record {
      bags = subst (λ r. Taken (order (earliest_first s.waiting)) r (order (earliest_first b))) (sym c.ok_or.ensures.value) (taken_bags order c.pop.result s.waiting b g.met.E.End.same c.pop.ensures);
      own = subst (λ r. LineTaken order s r (record s { waiting = b })) (sym c.ok_or.ensures.value) (taken_own order c.pop.result s b c.pop.ensures);
    }
