use Rattle.engine.specs.Inner.{PutUpTo}
use Rattle.engine.proofs.putting.put_active.Given as goal

abbrev pub invariant-loop-place : goal.invariant-loop-place
invariant-loop-place g l = PutUpTo g.B.Book.meaning g.S.Strategy l.net l.initial.strategy l.place l.strategy
