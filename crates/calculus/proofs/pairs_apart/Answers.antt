use Rattle.calculus.proofs.Respects.{pairs_apart_lem}
use Rattle.calculus.proofs.pairs_apart.Goals as goal

pub returns : goal.returns
returns c = pairs_apart_lem
