-- Pairs by their places, L first. Assumes nothing.
use Rattle.std.specs.Prelude.{◌≡◌, ℕ, Bool, cond, ◌&&◌, ◌⊎◌, List, [], ◌∷◌, sum_by, ◌==◌}
use Rattle.std.specs.List.{ContainsAt as Has}
use Rattle.calculus.specs.Nets.{Pair as CPair}
use Rattle.strategies.specs.declared.pair.Pair.{Pair as Waiting}

-- two places, that of L first
abbrev pub Places : Type 0
Places = ℕ × ℕ

abbrev pub places : CPair → Places
places P = (P.left, P.right)

abbrev pub are : Places → Places → Bool
are x y = x.0 == y.0 && x.1 == y.1

-- how often a pair in these places is out
abbrev pub times_out : Places → List Places → ℕ
times_out x ys = sum_by (λ y. cond (are x y) 1 0) ys

-- how often a pair in these places waits
abbrev pub times_waiting : Places → List Waiting → ℕ
times_waiting x ps = sum_by (λ p. cond (are x (p.left, p.right)) 1 0) ps

-- the list without the first pair in these places
abbrev pub without : Places → List Places → List Places
without x [] = []
without x (y ∷ ys) = cond (are x y) ys (y ∷ without x ys)

-- the place is of a cell of one of these pairs
abbrev pub CellOf : ℕ → List Places → Type 0
CellOf r ys = (y : Places) × Has ys y × ((r ≡ y.0) ⊎ (r ≡ y.1))
