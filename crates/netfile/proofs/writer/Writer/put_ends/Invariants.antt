use Rattle.calculus.specs.Spots.{end}
use Rattle.nets.specs.Meaning.{net}
use Rattle.netfile.specs.Words.{each}
use Rattle.netfile.specs.Files.{link_of}
use Rattle.netfile.specs.Writing.{Puts}
use Rattle.netfile.proofs.writer.Writer.put_ends.Given as goal

-- the links so far are written
abbrev pub invariant-loop-e : goal.invariant-loop-e
invariant-loop-e l = Puts l.initial.self (each l.e (λ i. link_of (net l.numbering.table.now) (end i))) l.self
