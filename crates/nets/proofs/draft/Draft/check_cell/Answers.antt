use Rattle.std.proofs.Common.{◌+◌, ap, vec_items, below_more, arith}
use Rattle.std.proofs.lemmas.List.{get_or_read}
use Rattle.books.specs.declared.table.Cell.{Cell}
use Rattle.nets.specs.Layout.{blank}
use Rattle.nets.proofs.Plans.{none_above}
use Rattle.nets.proofs.draft.Draft.check_cell.Goals as goal

pub loop-port-preserved : goal.loop-port-preserved
loop-port-preserved c = below_more _ _ c.loop-port.invariant c.in_ok-check_spot.ensures

pub returns-in_ok-check_spot : goal.returns-in_ok-check_spot
returns-in_ok-check_spot c =
    none_above c.args.self.now c.args.place (c.loop-port.port + 1)
    (let d = c.args.self.now in
    let e = get_or_read (vec_items d.places) c.args.place c.index.result.now (omega (arith, c.requires, d.room, d.every)) c.index.ensures blank in
    omega (arith, ap (λ (x : Cell). x.arity) e))
    (below_more _ _ c.loop-port.invariant c.in_ok-check_spot.ensures)
