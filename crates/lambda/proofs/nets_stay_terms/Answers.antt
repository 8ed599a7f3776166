use Rattle.lambda.proofs.Reducing.{nets_stay_terms_lem}
use Rattle.lambda.proofs.nets_stay_terms.Goals as goal

pub returns : goal.returns
returns c = nets_stay_terms_lem
