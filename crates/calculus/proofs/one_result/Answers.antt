use Rattle.calculus.proofs.Unique.{results_once}
use Rattle.calculus.proofs.one_result.Goals as goal

pub returns : goal.returns
returns c = results_once
