use Rattle.std.proofs.Common.{◌*◌, refl, ap, ◌∙◌, arith}
use Rattle.nets.specs.Layout.{slot_of}
use Rattle.nets.proofs.Slots.{read}
use Rattle.nets.proofs.Finishing.{facing_told}
use Rattle.nets.proofs.table.Table.are_facing.Goals as goal

pub returns : goal.returns
returns c =
    facing_told c.args.self.now c.args.left c.args.right c.slot.result (grind (arith)) c.if-right-ge-FIRST_END.false
    (c.slot.ensures ∙ ap slot_of (read c.args.self.now.links (c.args.left * 4) (c.args.left * 4) c.index.result.now refl (omega (arith, c.is_occupied.ensures.low c.if-not-is_occupied.false)) c.index.ensures))
