use Rattle.calculus.proofs.Joins.{join_first}
use Rattle.calculus.proofs.join_first.Goals as goal

pub returns : goal.returns
returns c = join_first
