use Rattle.lambda.proofs.Contracting.{pairs_are_redexes_lem}
use Rattle.lambda.proofs.pairs_are_redexes.Goals as goal

pub returns : goal.returns
returns c = pairs_are_redexes_lem
