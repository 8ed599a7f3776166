use Rattle.lambda.proofs.Reducing.{nets_reduce_terms_lem}
use Rattle.lambda.proofs.nets_reduce_terms.Goals as goal

pub returns : goal.returns
returns c = nets_reduce_terms_lem
