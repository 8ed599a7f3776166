use Rattle.pairing.proofs.Steps.{Turn}
use Rattle.alike.specs.Pairings.{pairs, SameNets}
use Rattle.alike.specs.Sides.{graph_of}
use Rattle.alike.proofs.Pairing.settle.Given as goal

abbrev pub invariant-loop-number : goal.invariant-loop-number
invariant-loop-number l = record {
  nets : SameNets l.fn.self l.self;
  turn : Turn (graph_of l.fn.self.ours) (graph_of l.fn.self.theirs) l.h l.number (pairs l.fn.self) (pairs l.self);
}
