use Rattle.std.proofs.Common.{arith}
use Rattle.calculus.specs.Spots.{port}
use Rattle.nets.specs.Meaning.{net}
use Rattle.netfile.specs.Files.{link_of}
use Rattle.netfile.proofs.Cells.{links-length}
use Rattle.netfile.proofs.Puts.{puts_length, puts_no_pieces, puts_same, puts_more}
use Rattle.netfile.proofs.writer.Writer.put_ports.Goals as goal

pub loop-j-init : goal.loop-j-init
loop-j-init c = puts_no_pieces c.args.self.now _

pub put-requires : goal.put-requires
put-requires c =
    let so_far = links-length (net c.args.numbering.now.table.now) c.loop-j.j (port c.args.place) in
    omega (arith, puts_length (omega (arith, so_far, c.requires.fits)) c.loop-j.invariant, so_far, c.loop-j.invariant.put.long, c.requires.fits)

pub loop-j-preserved : goal.loop-j-preserved
loop-j-preserved c =
    puts_more (λ i. link_of (net c.args.numbering.now.table.now) (port c.args.place i)) c.loop-j.j (omega (arith, c.requires.fits)) c.loop-j.invariant
    (puts_same c.put.ensures _ c.link_word.ensures)
