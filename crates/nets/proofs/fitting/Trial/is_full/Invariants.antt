use Rattle.std.proofs.Common.{ℕ, ◌<◌, get_or}
use Rattle.books.specs.Tables.{arities_of}
use Rattle.nets.specs.Noting.{FullRow}
use Rattle.nets.proofs.fitting.Trial.is_full.Given as goal

abbrev pub invariant-loop-i : goal.invariant-loop-i
invariant-loop-i l = (k : ℕ) → k < l.i → FullRow k 0 (get_or (arities_of l.self.rule.now) k 0) l.notes.mates
