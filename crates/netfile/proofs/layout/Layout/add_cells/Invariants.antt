use Rattle.nets.specs.Drafts.{plan}
use Rattle.netfile.specs.Building.{Celled}
use Rattle.netfile.proofs.layout.Layout.add_cells.Given as goal

abbrev pub invariant-loop-start : goal.invariant-loop-start
invariant-loop-start g l = Celled (g.B.Book.meaning l.self.book) l.self l.start-index (plan l.draft)
