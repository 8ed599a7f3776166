use Rattle.std.proofs.Common.{arith}
use Rattle.nets.specs.Meaning.{net}
use Rattle.netfile.specs.Words.{cell_word}
use Rattle.netfile.proofs.Cells.{cell_whole}
use Rattle.netfile.proofs.Puts.{puts_same, puts_then, puts_wrapped}
use Rattle.netfile.proofs.writer.Writer.put_cell.Goals as goal

pub returns : goal.returns
returns c =
    puts_same (puts_then (omega (arith, c.requires.fits)) (puts_wrapped (cell_word c.in-Some-Some.kind) c.put.ensures) c.put_ports.ensures) _
    (cell_whole (net c.args.numbering.now.table.now) c.args.place c.in-Some-Some.kind c.in-Some-Some.arity _ _ c.in-Some-Some.ensures c.in-Some-Some.ensures')
