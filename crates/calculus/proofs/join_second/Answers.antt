use Rattle.calculus.proofs.Joins.{join_second_lem}
use Rattle.calculus.proofs.join_second.Goals as goal

pub returns : goal.returns
returns c = join_second_lem
