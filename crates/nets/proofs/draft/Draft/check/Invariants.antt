use Rattle.std.proofs.Common.{ℕ, ◌<◌}
use Rattle.calculus.specs.Spots.{end, port}
use Rattle.nets.specs.Drafts.{plan, Faulty}
use Rattle.nets.proofs.draft.Draft.check.Given as goal

abbrev pub invariant-loop-e : goal.invariant-loop-e
invariant-loop-e l = (i : ℕ) → i < l.e → Faulty (plan l.self) (end i) → ⊥

abbrev pub invariant-loop-place : goal.invariant-loop-place
invariant-loop-place l =
    ((i : ℕ) → i < l.self.ends → Faulty (plan l.self) (end i) → ⊥) × ((r : ℕ) → r < l.place → (j : ℕ) → Faulty (plan l.self) (port r j) → ⊥)
