-- Active pairs of a net in order, and which of them a rewriting makes. Assumes nothing.
use Rattle.std.specs.Prelude.{◌≡◌, ℕ, ◌<◌, ◌≤◌, min, ◌≢◌, ◌⊎◌, List, length, Some, None, Option}
use Rattle.std.specs.List.{ContainsAt as Has, slice_get}
use Rattle.calculus.specs.Books.{RuleBook, Laws}
use Rattle.calculus.specs.Nets.{Net, Good, Active, Pair as CPair}
use Rattle.strategies.specs.declared.pair.Pair.{Pair as Waiting}

-- the pair as it waits: its places, L first, and the number of new cells of its rule
abbrev pub waiting : CPair → Waiting
waiting P = record { left = P.left; right = P.right; cells = length P.rule.cells }

abbrev pub lower : CPair → ℕ
lower P = min P.left P.right

-- the list has just the pairs of which Is holds, each once, by rising lower place
pub record InOrder (Is : CPair → Type 0) (qs : List CPair) : Type 0 where
  pub each : (P : CPair) → Has qs P → Is P
  pub all : (P : CPair) → Is P → Has qs P
  pub rising : (i j : ℕ) (P Q : CPair) → i < j → slice_get qs i ≡ Some P → slice_get qs j ≡ Some Q → lower P < lower Q

-- Q is active after the pair P of A was rewritten to give B, and was not before, unless it is P that formed again
abbrev pub Became : RuleBook → Net → CPair → Net → CPair → Type 0
Became K A P B Q = Active K B Q × (Active K A Q → Q ≡ P)

-- the active pair with a cell in the place, or that there is none
abbrev pub PairAt : RuleBook → Net → ℕ → Option Waiting → Type 0
PairAt K A r (Some p) = (P : CPair) × Active K A P × (waiting P ≡ p) × ((P.left ≡ r) ⊎ (P.right ≡ r))
PairAt K A r None = (P : CPair) → Active K A P → (P.left ≢ r) × (P.right ≢ r)

-- the lower place of a pair that waits
abbrev pub least : Waiting → ℕ
least p = min p.left p.right

-- the active pair whose lower cell is in the place, or that there is none
abbrev pub LedBy : RuleBook → Net → ℕ → Option Waiting → Type 0
LedBy K A r (Some p) = (P : CPair) × Active K A P × (waiting P ≡ p) × (lower P ≡ r)
LedBy K A r None = (P : CPair) → Active K A P → lower P ≢ r

-- a net whose cells stand in places below 1,024 has at most 512 active pairs
abbrev pub FewPairs : Type 0
FewPairs =
    (K : RuleBook) (A : Net) (qs : List CPair) → Laws K → Good K A → ((r k : ℕ) → A.kind r ≡ Some k → r < 1024) →
    ((P : CPair) → Has qs P → Active K A P) → ((i j : ℕ) (P : CPair) → slice_get qs i ≡ Some P → slice_get qs j ≡ Some P → i ≡ j) → length qs ≤ 512
