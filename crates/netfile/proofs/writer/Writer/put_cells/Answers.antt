use Rattle.std.proofs.Common.{arith}
use Rattle.nets.specs.Meaning.{content, net, arity_at}
use Rattle.netfile.specs.Writing.{place_words}
use Rattle.netfile.proofs.Cells.{arity_small, places-length}
use Rattle.netfile.proofs.Puts.{puts_length, puts_no_pieces, puts_more}
use Rattle.netfile.proofs.writer.Writer.put_cells.Goals as goal

pub loop-place-init : goal.loop-place-init
loop-place-init c = puts_no_pieces c.args.self.now _

pub put_cell-requires-clause-fits : goal.put_cell-requires-clause-fits
put_cell-requires-clause-fits c =
    let t = c.args.numbering.now.table.now in
    let so_far = places-length (arity_at (content t)) (net t) (arity_small t) c.loop-place.place in
    omega (arith, puts_length (omega (arith, so_far, c.requires)) c.loop-place.invariant, so_far, c.loop-place.invariant.put.long, c.requires)

pub loop-place-preserved : goal.loop-place-preserved
loop-place-preserved c =
    puts_more (place_words c.args.numbering.now.table.now) c.loop-place.place (omega (arith, c.requires)) c.loop-place.invariant c.put_cell.ensures
