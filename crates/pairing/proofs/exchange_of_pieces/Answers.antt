use Rattle.pairing.proofs.Exchange.{exchange}
use Rattle.pairing.proofs.exchange_of_pieces.Goals as goal

pub returns : goal.returns
returns c = exchange
