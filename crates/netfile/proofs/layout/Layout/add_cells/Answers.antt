use Rattle.std.proofs.Common.{◌<◌, arith}
use Rattle.netfile.specs.Layout.{LayoutView}
use Rattle.netfile.proofs.Mutuals.{cell_ok}
use Rattle.netfile.proofs.Built.{cell_known}
use Rattle.netfile.proofs.layout.Layout.add_cells.Goals as goal

-- a cell of the file is there
pub unwrap-cell-requires : goal.unwrap-cell-requires
unwrap-cell-requires g c =
    let f = c.self.inside.file in
    let K = g.B.Book.meaning f.book.now in
    let l : LayoutView _ = record { book = f.book.now; bytes = f.bytes.now; head = f.head; starts = c.self.inside.starts.now } in
    let i = c.loop-start.start-index in
    let less : i < f.head.cells = omega (arith, c.loop-start-test.true, c.self.invariant.long) in
    let known = cell_known K l c.self.invariant.laid i less in
    cell_ok K f.bytes.now _ _ c.cell_at.ensures known.0 known.1
