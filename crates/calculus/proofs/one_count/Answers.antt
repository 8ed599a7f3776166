use Rattle.calculus.proofs.Unique.{counted_once}
use Rattle.calculus.proofs.one_count.Goals as goal

pub returns : goal.returns
returns c = counted_once
