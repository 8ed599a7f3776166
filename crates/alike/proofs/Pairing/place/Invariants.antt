use Rattle.pairing.proofs.Steps.{Sought}
use Rattle.alike.specs.Pairings.{pairs, SameNets}
use Rattle.alike.specs.Sides.{graph_of}
use Rattle.alike.proofs.Pairing.place.Given as goal

abbrev pub invariant-loop-q : goal.invariant-loop-q
invariant-loop-q l = record {
  nets : SameNets l.fn.self l.self;
  sought : Sought (graph_of l.fn.self.ours) (graph_of l.fn.self.theirs) l.p.number (pairs l.fn.self) l.q (pairs l.self);
}
