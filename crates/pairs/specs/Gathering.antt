-- What the private functions that gather pairs tell each other; no public contract cites it. Assumes nothing.
use Rattle.std.specs.Prelude.{◌≡◌, ℕ, zero, suc, ◌<◌, ◌≤◌, Bool, true, false, cond, ◌≢◌, ◌⊎◌, List, [], ◌∷◌, map, length, Some, None, Option, nat_lt, slice_index}
use Rattle.std.specs.List.{ContainsAt as Has, flat_map}
use Rattle.calculus.specs.Spots.{Spot, end, port}
use Rattle.calculus.specs.Books.{RuleBook}
use Rattle.calculus.specs.Nets.{Net, Active, Pair as CPair}
use Rattle.strategies.specs.declared.pair.Pair.{Pair as Waiting}
use Rattle.pairs.specs.Pairs.{waiting, lower, InOrder}

-- the cell whose principal port the spot is, if it is one
abbrev pub cell_at : Spot → List ℕ
cell_at (end e) = []
cell_at (port r zero) = r ∷ []
cell_at (port r (suc j)) = []

-- the cell whose principal port x is linked with, or that there is none
abbrev pub Across : Net → Spot → Option ℕ → Type 0
Across A x (Some r) = (A.mate x ≡ port r 0) × (A.mate x ≢ x)
Across A x None = (r : ℕ) → A.mate x ≡ port r 0 → A.mate x ≡ x

-- whether a cell of kind k in the place r is L beside one of kind l in the place s
abbrev pub IsLeft : ℕ → ℕ → ℕ → ℕ → Bool → Type 0
IsLeft k r l s true = (k < l) ⊎ ((k ≡ l) × (r < s))
IsLeft k r l s false = (l < k) ⊎ ((l ≡ k) × (s ≤ r))

-- the auxiliary ports of the cells in the places p and q
abbrev pub ports : ℕ → ℕ → List Spot
ports p q = port p 1 ∷ port p 2 ∷ port q 1 ∷ port q 2 ∷ []

-- the cells whose principal ports are linked with these ports
abbrev pub neighbours : Net → ℕ → ℕ → List ℕ
neighbours A p q = flat_map (λ x. cell_at (A.mate x)) (ports p q)

-- x put in before the first that has a greater key
abbrev pub put : {X : Type 0} → (X → ℕ) → X → List X → List X
put key x [] = x ∷ []
put key x (y ∷ ys) = cond (nat_lt (key x) (key y)) (x ∷ y ∷ ys) (y ∷ put key x ys)

-- no two places are one, and an active pair with one cell among them has both there
pub record Whole (K : RuleBook) (A : Net) (places : List ℕ) : Type 0 where
  pub few : length places ≤ 8
  pub apart : (i j : ℕ) → i < length places → j < length places → slice_index places i ≡ slice_index places j → i ≡ j
  pub left : (P : CPair) → Active K A P → Has places (lower P) → Has places P.left
  pub right : (P : CPair) → Active K A P → Has places (lower P) → Has places P.right

-- the active pairs with their lower cell among the places, in order
pub record Gathered (K : RuleBook) (A : Net) (places : List ℕ) (ps : List Waiting) : Type 0 where
  pub pairs : List CPair
  pub order : InOrder (λ P. Active K A P × Has places (lower P)) pairs
  pub same : ps ≡ map waiting pairs
