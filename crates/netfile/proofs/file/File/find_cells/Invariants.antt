use Rattle.netfile.proofs.Verdicts.{Reached}
use Rattle.netfile.proofs.file.File.find_cells.Given as goal

abbrev pub invariant-loop-start : goal.invariant-loop-start
invariant-loop-start g l = Reached (g.B.Book.meaning l.self.book.now) l.self.bytes.now l.self.head l.start-index l.at l.start-items
