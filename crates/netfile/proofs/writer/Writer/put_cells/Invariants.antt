use Rattle.netfile.specs.Words.{each}
use Rattle.netfile.specs.Writing.{Puts, place_words}
use Rattle.netfile.proofs.writer.Writer.put_cells.Given as goal

-- the cells so far are written
abbrev pub invariant-loop-place : goal.invariant-loop-place
invariant-loop-place l = Puts l.initial.self (each l.place (place_words l.numbering.table.now)) l.self
