use Rattle.calculus.proofs.Respects.{rewriting_alike_lem}
use Rattle.calculus.proofs.rewriting_alike.Goals as goal

pub returns : goal.returns
returns c = rewriting_alike_lem
