use Rattle.std.proofs.Common.{refl}
use Rattle.nets.specs.Meaning.{content}
use Rattle.nets.proofs.table.Table.cells.Goals as goal

pub returns : goal.returns
returns c = record { live = c.count_set.ensures.cells (content c.args.self.now) refl; bits = c.count_set.ensures.bits }
