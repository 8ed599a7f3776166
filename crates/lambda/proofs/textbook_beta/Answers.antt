use Rattle.lambda.proofs.Textbook.{textbook_beta_lem}
use Rattle.lambda.proofs.textbook_beta.Goals as goal

pub returns : goal.returns
returns c = textbook_beta_lem
