-- Counting with zero, successor and addition as a rule book. Assumes nothing.
use Rattle.std.specs.Prelude.{ℕ, List, [], ◌∷◌}
use Rattle.std.specs.List.{slice_get}
use Rattle.calculus.specs.Books.{L, R, Rule, RuleBook}
use Rattle.calculus.specs.NewCells.{N1, N2}

-- the kinds: zero, the successor of the number at its port 1, and the sum: its principal port is at the first number, port 1 at the second, port 2 at the result
abbrev pub Z : ℕ
Z = 0

abbrev pub S : ℕ
S = 1

abbrev pub A : ℕ
A = 2

-- the arities of Z, S and A
abbrev pub arities : List ℕ
arities = 0 ∷ 1 ∷ 2 ∷ []

--               /-- R1
--      Z-------A           ==>   R1 ------- R2
--               \-- R2
abbrev pub ZA : Rule
ZA = record { left = Z; right = A; cells = []; wires = (R 1, R 2) ∷ [] }

--               /-- R1                   1-- R1
-- L1 --S-------A           ==>   L1 --0 N2
--               \-- R2                 A 2--1 N1 0-- R2
--                                             S
abbrev pub SA : Rule
SA =
    record {
      left = S;
      right = A;
      cells = S ∷ A ∷ [];
      wires = (N1 0, R 2) ∷ (N1 1, N2 2) ∷ (N2 0, L 1) ∷ (N2 1, R 1) ∷ [];
    }

-- book 1
abbrev pub counts : RuleBook
counts = record { number = 1; arity = slice_get arities; rules = ZA ∷ SA ∷ [] }
