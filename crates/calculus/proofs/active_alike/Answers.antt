use Rattle.calculus.proofs.Respects.{active_alike_lem}
use Rattle.calculus.proofs.active_alike.Goals as goal

pub returns : goal.returns
returns c = active_alike_lem
