use Rattle.std.proofs.Common.{sym, ◌∙◌}
use Rattle.pairing.proofs.Rows.{row_none, slot_none}
use Rattle.nets.specs.Meaning.{net}
use Rattle.nets.specs.Views.{at}
use Rattle.alike.proofs.Graphs.{linked_with, linked_not}
use Rattle.alike.proofs.side.Side.link.Goals as goal

pub returns-in_default : goal.returns-in_default
returns-in_default c =
    let p = c.args.port in
    let n = net c.args.self.now.table.now in
    record { row = sym (row_none n p.row.number p.number c.in_default.ensures); number = sym (slot_none n p.row.number p.number c.in_default.ensures) }

pub of-requires : goal.of-requires
of-requires c =
    let p = c.args.port in
    let s = c.in-Some.ensures in
    (linked_with c.args.self.now.table.now p.row.number p.number s.0 (at c.in-Some.spot) (at c.in-Some-mate.mate) s.1 c.in-Some-mate.ensures).2

pub returns-in-Some-mate : goal.returns-in-Some-mate
returns-in-Some-mate c =
    let p = c.args.port in
    let s = c.in-Some.ensures in
    let u = linked_with c.args.self.now.table.now p.row.number p.number s.0 (at c.in-Some.spot) (at c.in-Some-mate.mate) s.1 c.in-Some-mate.ensures in
    record { row = c.of.ensures.row ∙ u.0; number = c.of.ensures.number ∙ u.1 }

pub returns-in-None : goal.returns-in-None
returns-in-None c =
    let p = c.args.port in
    let s = c.in-Some.ensures in
    let u = linked_not c.args.self.now.table.now p.row.number p.number s.0 (at c.in-Some.spot) s.1 c.in-None.ensures in
    record { row = u.0; number = u.1 }
