use Rattle.std.proofs.Common.{vec_items, sym, ap, ◌∙◌}
use Rattle.nets.specs.Layout.{slot_of}
use Rattle.nets.proofs.Slots.{whole, read}
use Rattle.nets.proofs.Splicing.{splice_closed, splice_open}
use Rattle.nets.proofs.links.Links.splice.Goals as goal

pub returns-then-slot : goal.returns-then-slot
returns-then-slot c =
    let l = c.args.self.now in
    splice_closed (vec_items l.targets) (slot_of c.args.a) (slot_of c.args.b)
    (sym (ap slot_of (read l c.slot.result (slot_of c.args.a) c.index-x.result.now c.slot.ensures c.requires.first c.index-x.ensures)) ∙ sym c.slot-3.ensures ∙ c.if-slot.true ∙ c.slot-4.ensures)

pub returns : goal.returns
returns c =
    let l = c.args.self.now in
    rw c.join.ensures
    (splice_open (vec_items l.targets) (slot_of c.args.a) (slot_of c.args.b) c.index-x.result.now c.index-y.result.now (whole l)
    (read l c.slot.result (slot_of c.args.a) c.index-x.result.now c.slot.ensures c.requires.first c.index-x.ensures)
    (read l c.slot-2.result (slot_of c.args.b) c.index-y.result.now c.slot-2.ensures c.requires.second c.index-y.ensures)
    (λ e. c.if-slot.false (c.slot-3.ensures ∙ e ∙ sym c.slot-4.ensures)))
