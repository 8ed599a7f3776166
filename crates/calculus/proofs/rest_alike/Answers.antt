use Rattle.calculus.proofs.Respects.{rest_alike_lem}
use Rattle.calculus.proofs.rest_alike.Goals as goal

pub returns : goal.returns
returns c = rest_alike_lem
