use Rattle.std.proofs.Common.{◌≡◌, ◌-◌, length}
use Rattle.terms.specs.Walking.{Due, Anything}
use Rattle.compile.specs.Building.{Reading}
use Rattle.compile.proofs.builder.Builder.walk.Given as goal

abbrev pub invariant-loop-byte : goal.invariant-loop-byte
invariant-loop-byte l = (l.self.text.now ≡ l.fn.self.text.now) × Due (Reading l.self) Anything

abbrev pub decreases-loop-byte : goal.decreases-loop-byte
decreases-loop-byte l = length l.self.text.now - l.self.at
