use Rattle.calculus.proofs.Ties.{tie_good_lem}
use Rattle.calculus.proofs.tie_good.Goals as goal

pub returns : goal.returns
returns c = tie_good_lem
