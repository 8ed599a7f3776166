-- The tables are the book's: one test, which antt computes.
use Rattle.std.proofs.Common.{refl}
use Rattle.calculus.specs.Counts.{counts}
use Rattle.books.proofs.Shelves.{shelved}
use Rattle.books.proofs.counts.CountsBook.rule.Goals as goal

pub returns : goal.returns
returns c = shelved counts c.look.ensures refl
