use Rattle.calculus.proofs.Grid.{confluent}
use Rattle.calculus.proofs.confluent.Goals as goal

pub returns : goal.returns
returns c = confluent
