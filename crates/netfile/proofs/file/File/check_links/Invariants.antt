use Rattle.netfile.specs.Passes.{NameAll}
use Rattle.netfile.proofs.file.File.check_links.Given as goal

abbrev pub invariant-loop-at : goal.invariant-loop-at
invariant-loop-at g l = NameAll l.self.bytes.now l.self.head l.from l.at
