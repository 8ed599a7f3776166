use Rattle.std.proofs.Common.{ℕ, ◌<◌}
use Rattle.calculus.specs.Spots.{port}
use Rattle.nets.specs.Drafts.{plan, Faulty}
use Rattle.nets.proofs.draft.Draft.check_cell.Given as goal

abbrev pub invariant-loop-port : goal.invariant-loop-port
invariant-loop-port l = (j : ℕ) → j < l.port → Faulty (plan l.self) (port l.place j) → ⊥
