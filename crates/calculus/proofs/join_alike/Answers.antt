use Rattle.calculus.proofs.Joins.{join_alike_lem}
use Rattle.calculus.proofs.join_alike.Goals as goal

pub returns : goal.returns
returns c = join_alike_lem
