use Rattle.calculus.proofs.Unique.{rewritable}
use Rattle.calculus.proofs.rewritable.Goals as goal

pub returns : goal.returns
returns c = rewritable
