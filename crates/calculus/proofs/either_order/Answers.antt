use Rattle.calculus.proofs.Respects.{either_order}
use Rattle.calculus.proofs.either_order.Goals as goal

pub returns : goal.returns
returns c = either_order
