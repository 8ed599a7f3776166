-- Which active pairs of a net wait and which are out. Assumes nothing.
use Rattle.std.specs.Prelude.{◌≡◌, ℕ, ◌+◌, ◌<◌, ◌≤◌, Bool, true, false, List, length, Some, slice_index_or}
use Rattle.std.specs.List.{ContainsAt as Has}
use Rattle.calculus.specs.Books.{RuleBook, Laws}
use Rattle.calculus.specs.Nets.{Net, Good, Active}
use Rattle.calculus.specs.Nets.{Pair as CPair}
use Rattle.strategies.specs.declared.pair.Pair.{Pair as Waiting}
use Rattle.pairs.specs.Pairs.{waiting}
use Rattle.ledger.specs.Places.{Places, places, times_out, times_waiting, CellOf}

-- the pairs waiting, each with its rule's number of new cells, and the pairs out are together exactly the active pairs, each once
pub record Balanced (K : RuleBook) (A : Net) (bag : List Waiting) (out : List Places) : Type 0 where
  pub waits : (p : Waiting) → Has bag p → (P : CPair) × Active K A P × (p ≡ waiting P)
  pub is_out_lem : (y : Places) → Has out y → (P : CPair) × Active K A P × (y ≡ places P)
  pub once : (P : CPair) → Active K A P → times_waiting (places P) bag + times_out (places P) out ≡ 1

-- exactly the cells of the pairs out are marked
pub record Marked (marks : List Bool) (out : List Places) : Type 0 where
  pub marked_out : (r : ℕ) → slice_index_or marks r false ≡ true → CellOf r out
  pub out_marked : (r : ℕ) → CellOf r out → slice_index_or marks r false ≡ true

-- at most 512 pairs wait or are out, where the cells stand in places below 1,024
abbrev pub AtMost512 : Type 0
AtMost512 =
    (K : RuleBook) (A : Net) (bag : List Waiting) (out : List Places) → Laws K → Good K A → ((r k : ℕ) → A.kind r ≡ Some k → r < 1024) →
    Balanced K A bag out → length bag + length out ≤ 512
