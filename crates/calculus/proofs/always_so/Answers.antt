use Rattle.calculus.proofs.Worked.{always_so_lem}
use Rattle.calculus.proofs.always_so.Goals as goal

pub returns : goal.returns
returns c = always_so_lem
