-- What each call of two strategies side by side does to the one and to the other. Assumes nothing.
use Rattle.std.specs.Prelude.{◌≡◌, ◌<◌, ◌≤◌, List, ◌++◌, length, Err, Result}
use Rattle.refusals.specs.declared.faults.StrategyFault.{StrategyFault}
use Rattle.refusals.specs.declared.faults.StrategyFault.TheVariants.{Full}
use Rattle.strategies.specs.Behaviour.{Behaviour}
use Rattle.strategies.specs.declared.pair.Pair.{Pair}
use Rattle.strategies.specs.declared.split.Split.{Split}

module _ {S T : Type 0} (one : Behaviour S) (other : Behaviour T) where
  -- the pairs of both parts
  abbrev pub split_bag : Split S T → List Pair
  split_bag s = one.bag s.first ++ other.bag s.second

  -- clear clears both parts
  pub record SplitCleared (before after : Split S T) : Type 0 where
    pub cleared_first : one.clearing before.first after.first
    pub cleared_second : other.clearing before.second after.second

  -- put: refused when 512 or more wait in both parts together, and then nothing changes; else into the first part if the pair has fewer than two new cells, into the second if not, and the other part stays
  pub record SplitPut (before : Split S T) (pair : Pair) (answer : Result (Unit {0}) StrategyFault) (after : Split S T) : Type 0 where
    pub full : 512 ≤ length (split_bag before) → (answer ≡ Err Full) × (after ≡ before)
    pub few : length (split_bag before) < 512 → pair.cells < 2 → one.putting before.first pair answer after.first × (after.second ≡ before.second)
    pub many : length (split_bag before) < 512 → 2 ≤ pair.cells → other.putting before.second pair answer after.second × (after.first ≡ before.first)

  -- take: from the first part while any pair waits there, else from the second, and the other part stays
  pub record SplitTaken (before : Split S T) (answer : Result Pair StrategyFault) (after : Split S T) : Type 0 where
    pub from_first : 0 < length (one.bag before.first) → one.taking before.first answer after.first × (after.second ≡ before.second)
    pub from_second : length (one.bag before.first) ≡ 0 → other.taking before.second answer after.second × (after.first ≡ before.first)
