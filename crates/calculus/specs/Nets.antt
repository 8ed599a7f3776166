-- Nets, their well-formedness, active pairs and rest. Assumes nothing.
use Rattle.std.specs.Prelude.{◌≡◌, ℕ, ◌<◌, ◌≢◌, Some, Option}
use Rattle.std.specs.List.{slice_get}
use Rattle.calculus.specs.Spots.{Spot, end, port}
use Rattle.calculus.specs.Books.{Rule, RuleBook, HasPort}

-- a net: how many ends it has; the kind of the cell in each place, if one stands there; what each spot is linked with; how many closed loops it has
-- a spot that is not there is linked with itself
pub record Net : Type 0 where
  pub ends : ℕ
  pub kind : ℕ → Option ℕ
  pub mate : Spot → Spot
  pub loops : ℕ

-- the spot is there: an end of the net, or a port of a cell, by the book's arity of its kind
abbrev pub Stands : RuleBook → Net → Spot → Type 0
Stands K A (end e) = e < A.ends
Stands K A (port r j) = (k : ℕ) × (A.kind r ≡ Some k) × HasPort K k j

-- a net of the book K, as every net is: its cells are finitely many and of the book's kinds, and each port and each end is linked with exactly one other, never itself
pub record Good (K : RuleBook) (A : Net) : Type 0 where
  pub finite : (n : ℕ) × ((r k : ℕ) → A.kind r ≡ Some k → r < n)
  pub known : (r k : ℕ) → A.kind r ≡ Some k → HasPort K k 0
  pub twice : (x : Spot) → A.mate (A.mate x) ≡ x
  pub linked : (x : Spot) → Stands K A x → A.mate x ≢ x
  pub there : (x : Spot) → A.mate x ≢ x → Stands K A x

-- two places, L first, with a rule and its position in the book
pub record Pair : Type 0 where
  pub left : ℕ
  pub right : ℕ
  pub position : ℕ
  pub rule : Rule

-- an active pair: two cells whose principal ports are linked and whose kinds have a rule; for equal kinds L is the cell in the lower place
pub record Active (K : RuleBook) (A : Net) (P : Pair) : Type 0 where
  pub listed : slice_get K.rules P.position ≡ Some P.rule
  pub left : A.kind P.left ≡ Some P.rule.left
  pub right : A.kind P.right ≡ Some P.rule.right
  pub facing : A.mate (port P.left 0) ≡ port P.right 0
  pub first : P.rule.left ≡ P.rule.right → P.left < P.right

-- at rest: no active pair is left
abbrev pub AtRest : RuleBook → Net → Type 0
AtRest K A = (P : Pair) → Active K A P → ⊥
