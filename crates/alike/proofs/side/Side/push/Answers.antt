use Rattle.alike.proofs.Sides.{one_more}
use Rattle.alike.proofs.side.Side.push.Goals as goal

pub push-requires : goal.push-requires
push-requires c = one_more c.args.self.now c.args.row.number c.args.row.small c.requires
