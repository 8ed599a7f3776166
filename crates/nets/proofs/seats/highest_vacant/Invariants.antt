use Rattle.nets.proofs.Vacancy.{Rest}
use Rattle.nets.proofs.seats.highest_vacant.Given as goal

abbrev pub invariant-loop-i : goal.invariant-loop-i
invariant-loop-i l = Rest l.map l.i-iterator.iter.iter.rest.now l.i-iterator.iter.count
