use Rattle.std.proofs.Common.{vec_items}
use Rattle.nets.proofs.Filling.{Done}
use Rattle.nets.proofs.seats.fill.Given as goal

abbrev pub invariant-loop-cell : goal.invariant-loop-cell
invariant-loop-cell l = Done l.new l.cell-iterator.a.rest.now l.places l.cell-iterator.b.rest.now (vec_items l.initial.cells) (vec_items l.cells)
