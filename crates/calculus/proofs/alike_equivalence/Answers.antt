use Rattle.calculus.proofs.Respects.{equivalence}
use Rattle.calculus.proofs.alike_equivalence.Goals as goal

pub returns : goal.returns
returns c = equivalence
