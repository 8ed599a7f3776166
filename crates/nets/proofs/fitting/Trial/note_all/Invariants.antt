use Rattle.books.specs.Tables.{wires_of}
use Rattle.nets.specs.Noting.{Marked}
use Rattle.nets.proofs.fitting.Trial.note_all.Given as goal

abbrev pub invariant-loop-from : goal.invariant-loop-from
invariant-loop-from l = Marked l.self.left l.self.right l.self.rule.now (wires_of l.self.rule.now) l.from-index l.notes.mates
