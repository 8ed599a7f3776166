use Rattle.lambda.proofs.Indexing.{text_order_lem}
use Rattle.lambda.proofs.text_order.Goals as goal

pub returns : goal.returns
returns c = text_order_lem
