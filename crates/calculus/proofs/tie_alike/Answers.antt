use Rattle.calculus.proofs.Ties.{tie_alike_lem}
use Rattle.calculus.proofs.tie_alike.Goals as goal

pub returns : goal.returns
returns c = tie_alike_lem
