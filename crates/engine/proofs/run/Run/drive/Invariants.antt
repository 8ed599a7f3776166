use Rattle.engine.specs.Calls.{Turns}
use Rattle.engine.proofs.run.Run.drive.Given as goal

abbrev pub invariant-loop-done : goal.invariant-loop-done
invariant-loop-done g l = Turns g.B.Book.meaning g.S.Strategy l.done l.initial.self l.self
