use Rattle.pairs.proofs.Sharing.{few_pairs_lem}
use Rattle.pairs.proofs.laws.few_pairs.Goals as goal

pub returns : goal.returns
returns c = few_pairs_lem
