use Rattle.calculus.proofs.TiedRewriting.{tie_rewriting_lem}
use Rattle.calculus.proofs.tie_rewriting.Goals as goal

pub returns : goal.returns
returns c = tie_rewriting_lem
