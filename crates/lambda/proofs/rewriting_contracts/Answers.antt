use Rattle.lambda.proofs.Contracting.{rewriting_contracts_lem}
use Rattle.lambda.proofs.rewriting_contracts.Goals as goal

pub returns : goal.returns
returns c = rewriting_contracts_lem
