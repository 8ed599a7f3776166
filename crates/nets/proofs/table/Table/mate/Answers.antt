use Rattle.std.proofs.Common.{rules}
use Rattle.nets.specs.Views.{at}
use Rattle.nets.proofs.Standing.{mated}
use Rattle.nets.proofs.table.Table.mate.Goals as goal

pub returns : goal.returns
returns c = mated c.args.self.now (at c.args.spot) c.then.result c.has.result c.has.ensures c.then.ensures.variant (search rules)
