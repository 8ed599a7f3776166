use Rattle.calculus.proofs.AnyOrder.{splices_commute_lem}
use Rattle.calculus.proofs.splices_commute.Goals as goal

pub returns : goal.returns
returns c = splices_commute_lem
