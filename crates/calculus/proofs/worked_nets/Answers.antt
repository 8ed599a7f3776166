use Rattle.calculus.proofs.Worked.{worked_nets_lem}
use Rattle.calculus.proofs.worked_nets.Goals as goal

pub returns : goal.returns
returns c = worked_nets_lem
