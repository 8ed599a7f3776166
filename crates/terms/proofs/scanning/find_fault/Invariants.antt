use Rattle.std.proofs.Common.{[], take}
use Rattle.terms.specs.Scanning.{want, run, Shows}
use Rattle.terms.proofs.scanning.find_fault.Given as goal

abbrev pub invariant-loop-i : goal.invariant-loop-i
invariant-loop-i l = Shows l.mode l.scanner (run (want []) (take l.i l.text))
