use Rattle.calculus.proofs.Worked.{books_lawful_lem}
use Rattle.calculus.proofs.books_lawful.Goals as goal

pub returns : goal.returns
returns c = books_lawful_lem
