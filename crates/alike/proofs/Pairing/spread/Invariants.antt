use Rattle.pairing.proofs.Steps.{Laid}
use Rattle.alike.specs.Pairings.{pairs, SameNets}
use Rattle.alike.specs.Sides.{graph_of}
use Rattle.alike.proofs.Pairing.spread.Given as goal

abbrev pub invariant-loop-p : goal.invariant-loop-p
invariant-loop-p l = record {
  nets : SameNets l.fn.self l.self;
  laid : Laid (graph_of l.fn.self.ours) (graph_of l.fn.self.theirs) l.p (pairs l.self);
}
