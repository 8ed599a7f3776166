-- Reaching: rewriting active pairs one by one, or none. Assumes nothing.
use Rattle.std.specs.Prelude.{ℕ, List, [], ◌∷◌}
use Rattle.calculus.specs.Books.{RuleBook}
use Rattle.calculus.specs.Nets.{Net, Pair}
use Rattle.calculus.specs.Rewriting.{Rewriting}

-- one rewriting of some active pair, the new cells at some vacant places
pub record Step (K : RuleBook) (A B : Net) : Type 0 where
  pub pair : Pair
  pub place : ℕ → ℕ
  pub rewriting : Rewriting K A pair place B

-- B is reached from A; the list has the position in the book of each rule used, the first one first
pub data Reaches (K : RuleBook) : List ℕ → Net → Net → Type 0 where
  none : {A : Net} → Reaches K [] A A
  step : {A B C : Net} {is : List ℕ} → (s : Step K A B) → Reaches K is B C → Reaches K (s.pair.position ∷ is) A C
