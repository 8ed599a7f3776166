use Rattle.std.proofs.Common.{◌≡◌, ◌-◌, length}
use Rattle.terms.specs.Walking.{Due, Anything}
use Rattle.terms.proofs.text_walk.TextWalk.walk.Given as goal

abbrev pub invariant-loop-byte : goal.invariant-loop-byte
invariant-loop-byte g l = (g.Self.TextWalk.text l.self ≡ g.Self.TextWalk.text l.fn.self) × Due (g.Self.TextWalk.Reading l.self) Anything

abbrev pub decreases-loop-byte : goal.decreases-loop-byte
decreases-loop-byte g l = length (g.Self.TextWalk.text l.self) - g.Self.TextWalk.at l.self
