use Rattle.binding.proofs.Linearity.{linear_terms_lem}
use Rattle.binding.proofs.linear_terms.Goals as goal

pub returns : goal.returns
returns c = linear_terms_lem
