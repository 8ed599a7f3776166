use Rattle.ledger.proofs.Balance.{at_most_512_lem}
use Rattle.ledger.proofs.at_most_512.Goals as goal

pub returns : goal.returns
returns c = at_most_512_lem
