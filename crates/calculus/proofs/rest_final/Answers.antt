use Rattle.calculus.proofs.Grid.{rest_final_lem}
use Rattle.calculus.proofs.rest_final.Goals as goal

pub returns : goal.returns
returns c = rest_final_lem
