-- Names for the ports of a rule's new cells, so that `N1 0` is port 0 of N1. Assumes nothing.
use Rattle.std.specs.Prelude.{ℕ}
use Rattle.calculus.specs.Books.{RulePort, N}

-- port j of the first, second, third and fourth new cell
abbrev pub N1 : ℕ → RulePort
N1 = N 0

abbrev pub N2 : ℕ → RulePort
N2 = N 1

abbrev pub N3 : ℕ → RulePort
N3 = N 2

abbrev pub N4 : ℕ → RulePort
N4 = N 3
