use Rattle.std.proofs.Common.{arith}
use Rattle.calculus.specs.Spots.{end}
use Rattle.nets.specs.Meaning.{net}
use Rattle.netfile.specs.Files.{link_of}
use Rattle.netfile.proofs.Cells.{links-length}
use Rattle.netfile.proofs.Puts.{puts_length, puts_no_pieces, puts_same, puts_more}
use Rattle.netfile.proofs.writer.Writer.put_ends.Goals as goal

pub loop-e-init : goal.loop-e-init
loop-e-init c = puts_no_pieces c.args.self.now _

pub put-requires : goal.put-requires
put-requires c =
    let so_far = links-length (net c.args.numbering.now.table.now) c.loop-e.e end in
    omega (arith, puts_length (omega (arith, so_far, c.requires)) c.loop-e.invariant, so_far, c.loop-e.invariant.put.long, c.requires)

pub loop-e-preserved : goal.loop-e-preserved
loop-e-preserved c =
    puts_more (λ i. link_of (net c.args.numbering.now.table.now) (end i)) c.loop-e.e (omega (arith, c.requires)) c.loop-e.invariant
    (puts_same c.put.ensures _ c.link_word.ensures)
