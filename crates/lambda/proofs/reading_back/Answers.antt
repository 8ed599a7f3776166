use Rattle.lambda.proofs.Deciding.{reading_back_lem}
use Rattle.lambda.proofs.reading_back.Goals as goal

pub returns : goal.returns
returns c = reading_back_lem
