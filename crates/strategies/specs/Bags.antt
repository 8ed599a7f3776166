-- What the calls of a strategy answer, and what they do to the bag of pairs that wait in it. Assumes nothing.
use Rattle.std.specs.Prelude.{◌≡◌, ℕ, ◌<◌, ◌≤◌, min, List, [], ◌∷◌, length, Ok, Err, Result}
use Rattle.std.specs.List.Sorted.{IsPermutation}
use Rattle.refusals.specs.declared.faults.StrategyFault.{StrategyFault}
use Rattle.refusals.specs.declared.faults.StrategyFault.TheVariants.{Empty, Full}
use Rattle.strategies.specs.declared.pair.Pair.{Pair}

-- the same pairs, each as often, in whatever order
abbrev pub SameBag : List Pair → List Pair → Type 0
SameBag one other = IsPermutation one other

-- some waiting pair, and the bag without it; which pair that is stays open
abbrev pub SomeWaiting : List Pair → Pair → List Pair → Type 0
SomeWaiting before pair after = SameBag before (pair ∷ after)

-- a refusal: its reason holds, its case is the one that names the reason, and the bag is as it was
pub record Refused (reason : Type 0) (named : StrategyFault) (before : List Pair) (given : StrategyFault) (after : List Pair) : Type 0 where
  pub due : reason
  pub fault : given ≡ named
  pub kept : SameBag before after

-- there was room, and the pair waits beside those that did
pub record Added (before : List Pair) (pair : Pair) (after : List Pair) : Type 0 where
  pub room : length before < 512
  pub more : SameBag (pair ∷ before) after

-- clear: none waits
abbrev pub Cleared : List Pair → Type 0
Cleared after = after ≡ []

-- put: the pair waits too; full exactly when 512 or more wait
abbrev pub Put : List Pair → Pair → Result (Unit {0}) StrategyFault → List Pair → Type 0
Put before pair (Ok _) after = Added before pair after
Put before pair (Err fault) after = Refused (512 ≤ length before) Full before fault after

-- take: some waiting pair, which waits no more; empty exactly when none waits
abbrev pub Taken : List Pair → Result Pair StrategyFault → List Pair → Type 0
Taken before (Ok pair) after = SomeWaiting before pair after
Taken before (Err fault) after = Refused (length before ≡ 0) Empty before fault after

-- count: how many wait, 512 if more do
abbrev pub counted : List Pair → ℕ
counted bag = min (length bag) 512
