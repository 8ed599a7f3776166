use Rattle.std.proofs.Common.{◌-◌}
use Rattle.pairing.proofs.Steps.{Wave}
use Rattle.alike.specs.Pairings.{pairs, SameNets}
use Rattle.alike.specs.Sides.{graph_of}
use Rattle.alike.proofs.Pairing.attempt.Given as goal

abbrev pub invariant-loop-h : goal.invariant-loop-h
invariant-loop-h l = record {
  nets : SameNets l.fn.self l.self;
  wave : Wave (graph_of l.fn.self.ours) (graph_of l.fn.self.theirs) (pairs l.fn.self).count (pairs l.initial.self) l.h (pairs l.self);
}

abbrev pub decreases-loop-h : goal.decreases-loop-h
decreases-loop-h l = 1094 - l.h
