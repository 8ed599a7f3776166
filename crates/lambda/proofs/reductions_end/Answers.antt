use Rattle.lambda.proofs.Reducing.{reductions_end_lem}
use Rattle.lambda.proofs.reductions_end.Goals as goal

pub returns : goal.returns
returns c = reductions_end_lem
