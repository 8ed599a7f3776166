use Rattle.lambda.proofs.Indexing.{one_term_lem}
use Rattle.lambda.proofs.one_term.Goals as goal

pub returns : goal.returns
returns c = one_term_lem
