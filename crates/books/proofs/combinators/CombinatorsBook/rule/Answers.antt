-- The tables are the book's: one test, which antt computes.
use Rattle.std.proofs.Common.{refl}
use Rattle.calculus.specs.Combinators.{combinators}
use Rattle.books.proofs.Shelves.{shelved}
use Rattle.books.proofs.combinators.CombinatorsBook.rule.Goals as goal

pub returns : goal.returns
returns c = shelved combinators c.look.ensures refl
