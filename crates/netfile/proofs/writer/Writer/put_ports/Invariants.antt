use Rattle.netfile.specs.Writing.{Puts, port_words}
use Rattle.netfile.proofs.writer.Writer.put_ports.Given as goal

-- the links so far are written
abbrev pub invariant-loop-j : goal.invariant-loop-j
invariant-loop-j l = Puts l.initial.self (port_words l.numbering.table.now l.place l.j) l.self
