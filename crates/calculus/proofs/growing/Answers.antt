use Rattle.calculus.proofs.Worked.{growing}
use Rattle.calculus.proofs.growing.Goals as goal

pub returns : goal.returns
returns c = growing
