use Rattle.calculus.proofs.Unique.{stays_good_lem}
use Rattle.calculus.proofs.stays_good.Goals as goal

pub returns : goal.returns
returns c = stays_good_lem
