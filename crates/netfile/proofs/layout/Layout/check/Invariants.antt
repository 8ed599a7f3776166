use Rattle.std.proofs.Common.{ℕ, ◌<◌}
use Rattle.netfile.specs.Passes.{MutualAt, nth_spot}
use Rattle.netfile.proofs.layout.Layout.check.Given as goal

abbrev pub invariant-loop-i : goal.invariant-loop-i
invariant-loop-i g l = (k : ℕ) → k < l.i → MutualAt (g.B.Book.meaning l.self.book) l.self.bytes l.self.head (nth_spot l.self.head.ends k)
