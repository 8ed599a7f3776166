-- Which waiting pair comes: one of those that wait, and which of them is really open. Assumes nothing.
use Rattle.std.specs.Prelude.{◌≢◌, List, Ok}
use Rattle.std.specs.List.{ContainsAt as Has}
use Rattle.strategies.specs.declared.pair.Pair.{Pair}
use Rattle.strategies.specs.declared.line.Line.{Line}
use Rattle.strategies.specs.declared.stack.Latest.{Latest}
use Rattle.strategies.specs.declared.ring.Earliest.{Earliest}
use Rattle.strategies.specs.Bags.{SameBag, SomeWaiting}
use Rattle.strategies.specs.Orders.{stack_pairs, ring_pairs, StackTaken, RingTaken}

-- the pair is one of the bag
abbrev pub Waited : List Pair → Pair → Type 0
Waited bag pair = Has bag pair

-- a stack and a ring with equal bags: each takes some waiting pair, and these are two pairs
pub record OpenChoice (from_stack from_ring : Pair) : Type 0 where
  pub stack : Line Latest
  pub stack_after : Line Latest
  pub ring : Line Earliest
  pub ring_after : Line Earliest
  pub equal : SameBag (stack_pairs stack) (ring_pairs ring)
  pub stack_takes : StackTaken stack (Ok from_stack) stack_after
  pub stack_some : SomeWaiting (stack_pairs stack) from_stack (stack_pairs stack_after)
  pub ring_takes : RingTaken ring (Ok from_ring) ring_after
  pub ring_some : SomeWaiting (ring_pairs ring) from_ring (ring_pairs ring_after)
  pub differ : from_stack ≢ from_ring
