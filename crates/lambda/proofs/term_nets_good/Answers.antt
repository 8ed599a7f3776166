use Rattle.lambda.proofs.Good.{term_nets_good_lem}
use Rattle.lambda.proofs.term_nets_good.Goals as goal

pub returns : goal.returns
returns c = term_nets_good_lem
