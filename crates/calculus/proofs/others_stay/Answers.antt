use Rattle.calculus.proofs.Respects.{others_stay_lem}
use Rattle.calculus.proofs.others_stay.Goals as goal

pub returns : goal.returns
returns c = others_stay_lem
