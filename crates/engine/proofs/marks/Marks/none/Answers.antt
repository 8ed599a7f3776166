use Rattle.std.proofs.Common.{false}
use Rattle.engine.proofs.Nothing.{get_d_replicate}
use Rattle.engine.proofs.marks.Marks.none.Goals as goal

pub returns : goal.returns
returns c = λ k. get_d_replicate 1024 k false
