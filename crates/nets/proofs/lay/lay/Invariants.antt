use Rattle.std.proofs.Common.{vec_items}
use Rattle.books.specs.Tables.{wires_of}
use Rattle.nets.specs.Rewiring.{Laying}
use Rattle.nets.proofs.lay.lay.Given as goal

abbrev pub invariant-loop-from : goal.invariant-loop-from
invariant-loop-from l = Laying (vec_items l.initial.links.targets) (wires_of l.rule) l.places l.from-index (vec_items l.links.targets)
