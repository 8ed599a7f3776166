-- In which order the pairs of a stack and of a ring wait, and what each call does to that order. Assumes nothing.
use Rattle.std.specs.Prelude.{◌≡◌, ℕ, ◌+◌, ◌%◌, List, [], ◌∷◌, ◌++◌, map, reverse, Ok, Err, vec_items, Result, slice_index_or}
use Rattle.std.specs.List.{range_with_len}
use Rattle.refusals.specs.declared.faults.StrategyFault.{StrategyFault}
use Rattle.strategies.specs.declared.pair.Pair.{Pair}
use Rattle.strategies.specs.declared.arrivals.Arrivals.{Arrivals}
use Rattle.strategies.specs.declared.line.Line.{Line}
use Rattle.strategies.specs.declared.stack.Latest.{Latest}
use Rattle.strategies.specs.declared.ring.Earliest.{Earliest}

-- what a slot holds before any pair came to it
abbrev pub free : Pair
free = record { left = 0; right = 0; cells = 0 }

-- the pair that came k-th after the earliest: slots go round
abbrev pub arrival : Arrivals → ℕ → Pair
arrival a k = slice_index_or (vec_items a.pairs) ((a.first + k) % 512) free

-- the pairs in the order of their arrival
abbrev pub earliest_first : Arrivals → List Pair
earliest_first a = map (arrival a) (range_with_len 0 a.count)

-- the pairs against the order of their arrival
abbrev pub latest_first : Arrivals → List Pair
latest_first a = reverse (earliest_first a)

-- the pairs of a line, in the order in which they are taken
abbrev pub line_pairs : {E : Type 0} → (List Pair → List Pair) → Line E → List Pair
line_pairs order s = order (earliest_first s.waiting)

-- no pair is left
abbrev pub LineCleared : {E : Type 0} → (List Pair → List Pair) → Line E → Line E → Type 0
LineCleared order before after = line_pairs order after ≡ []

-- the pair takes its place in the order; a refusal keeps the whole line
abbrev pub LinePut : {E : Type 0} → (List Pair → List Pair) → (List Pair → Pair → List Pair) → Line E → Pair → Result (Unit {0}) StrategyFault → Line E → Type 0
LinePut order arrived before pair (Ok _) after = line_pairs order after ≡ arrived (line_pairs order before) pair
LinePut order arrived before pair (Err _) after = after ≡ before

-- the next pair comes; a refusal keeps the whole line
abbrev pub LineTaken : {E : Type 0} → (List Pair → List Pair) → Line E → Result Pair StrategyFault → Line E → Type 0
LineTaken order before (Ok pair) after = line_pairs order before ≡ pair ∷ line_pairs order after
LineTaken order before (Err _) after = after ≡ before

-- the pairs of a stack, latest first
abbrev pub stack_pairs : Line Latest → List Pair
stack_pairs = line_pairs reverse

-- no pair is left
abbrev pub StackCleared : Line Latest → Line Latest → Type 0
StackCleared = LineCleared reverse

-- the pair is the first, before those that waited; a refusal keeps the whole stack
abbrev pub StackPut : Line Latest → Pair → Result (Unit {0}) StrategyFault → Line Latest → Type 0
StackPut = LinePut reverse (λ ps p. p ∷ ps)

-- the latest pair comes; a refusal keeps the whole stack
abbrev pub StackTaken : Line Latest → Result Pair StrategyFault → Line Latest → Type 0
StackTaken = LineTaken reverse

-- the pairs of a ring, earliest first
abbrev pub ring_pairs : Line Earliest → List Pair
ring_pairs = line_pairs (λ ps. ps)

-- no pair is left
abbrev pub RingCleared : Line Earliest → Line Earliest → Type 0
RingCleared = LineCleared (λ ps. ps)

-- the pair is the last, after those that waited; a refusal keeps the whole ring
abbrev pub RingPut : Line Earliest → Pair → Result (Unit {0}) StrategyFault → Line Earliest → Type 0
RingPut = LinePut (λ ps. ps) (λ ps p. ps ++ p ∷ [])

-- the earliest pair comes; a refusal keeps the whole ring
abbrev pub RingTaken : Line Earliest → Result Pair StrategyFault → Line Earliest → Type 0
RingTaken = LineTaken (λ ps. ps)
