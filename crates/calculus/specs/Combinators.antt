-- The interaction combinators γ, δ and ε as a rule book. Assumes nothing.
use Rattle.std.specs.Prelude.{ℕ, List, [], ◌∷◌}
use Rattle.std.specs.List.{slice_get}
use Rattle.calculus.specs.Books.{L, R, Rule, RuleBook}
use Rattle.calculus.specs.NewCells.{N1, N2, N3, N4}

-- the kinds
abbrev pub γ : ℕ
γ = 0

abbrev pub δ : ℕ
δ = 1

abbrev pub ε : ℕ
ε = 2

-- the arities of γ, δ and ε
abbrev pub arities : List ℕ
arities = 2 ∷ 2 ∷ 0 ∷ []

-- L1 --\         /-- R1         L1 --\ /-- R1
--       γ-------γ         ==>         X
-- L2 --/         \-- R2         L2 --/ \-- R2
abbrev pub γγ : Rule
γγ = record { left = γ; right = γ; cells = []; wires = (L 1, R 2) ∷ (L 2, R 1) ∷ [] }

-- L1 --\         /-- R1         L1 ------- R1
--       δ-------δ         ==>
-- L2 --/         \-- R2         L2 ------- R2
abbrev pub δδ : Rule
δδ = record { left = δ; right = δ; cells = []; wires = (L 1, R 1) ∷ (L 2, R 2) ∷ [] }

--       ε-------ε         ==>   nothing
abbrev pub εε : Rule
εε = record { left = ε; right = ε; cells = []; wires = [] }

-- L1 --\         /-- R1         L1 --0 N1 1-------1 N3 0-- R1
--       γ-------δ         ==>          δ 2--\ /--2 γ
-- L2 --/         \-- R2                      X
--                               L2 --0 N2 1--/ \--1 N4 0-- R2
--                                      δ 2-------2 γ
abbrev pub γδ : Rule
γδ =
    record {
      left = γ;
      right = δ;
      cells = δ ∷ δ ∷ γ ∷ γ ∷ [];
      wires =
          (N1 0, L 1)
          ∷ (N2 0, L 2)
          ∷ (N3 0, R 1)
          ∷ (N4 0, R 2)
          ∷ (N1 1, N3 1)
          ∷ (N1 2, N4 1)
          ∷ (N2 1, N3 2)
          ∷ (N2 2, N4 2)
          ∷ [];
    }

-- L1 --\                        L1 --0 N1 ε
--       γ-------ε         ==>
-- L2 --/                        L2 --0 N2 ε
abbrev pub γε : Rule
γε = record { left = γ; right = ε; cells = ε ∷ ε ∷ []; wires = (N1 0, L 1) ∷ (N2 0, L 2) ∷ [] }

-- L1 --\                        L1 --0 N1 ε
--       δ-------ε         ==>
-- L2 --/                        L2 --0 N2 ε
abbrev pub δε : Rule
δε = record { left = δ; right = ε; cells = ε ∷ ε ∷ []; wires = (N1 0, L 1) ∷ (N2 0, L 2) ∷ [] }

-- book 0
abbrev pub combinators : RuleBook
combinators = record { number = 0; arity = slice_get arities; rules = γγ ∷ δδ ∷ εε ∷ γδ ∷ γε ∷ δε ∷ [] }
