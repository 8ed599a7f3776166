use Rattle.calculus.proofs.Joins.{join_good_lem}
use Rattle.calculus.proofs.join_good.Goals as goal

pub returns : goal.returns
returns c = join_good_lem
