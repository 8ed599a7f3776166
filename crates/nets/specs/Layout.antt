-- Where each spot of a net stands in a table, and what its slots keep. Assumes nothing.
use Rattle.std.specs.Prelude.{◌≡◌, ℕ, ◌+◌, ◌-◌, ◌*◌, ◌/◌, ◌%◌, ◌^◌, Bool, true, cond, ◌&&◌, List, map, ◌==◌, ◌≢◌, nat_le, nat_lt, slice_index, slice_index_or}
use Rattle.calculus.specs.Spots.{Spot, end, port}
use Rattle.books.specs.declared.table.Cell.{Cell}
use Rattle.nets.specs.declared.link.Link.{Link}

-- how many slots there are: four a row, in 1,024 rows for cells, 6 for scratch and 64 for ends
abbrev pub slots : ℕ
slots = 4376

-- the slot of a spot
abbrev pub code : Spot → ℕ
code (end e) = (1030 + e) * 4
code (port r j) = r * 4 + j

-- the first slot of an end's row
abbrev pub is_of_end : ℕ → Bool
is_of_end k = k % 4 == 0 && nat_le 4120 k

-- the spot of a slot
abbrev pub decode : ℕ → Spot
decode k = cond (is_of_end k) (end (k / 4 - 1030)) (port (k / 4) (k % 4))

abbrev pub slot_of : Link → ℕ
slot_of l = l.row * 4 + l.port

abbrev pub nil : Link
nil = record { row = 0; port = 0 }

-- the slot that slot k is linked with
abbrev pub goal : List Link → ℕ → ℕ
goal links k = slot_of (slice_index_or links k nil)

-- the cell that a place of a new table has, and does not show
abbrev pub blank : Cell
blank = record { kind = 0; arity = 0 }

-- kind and arity by place
abbrev pub kinds : List Cell → List ℕ
kinds cells = map (λ c. c.kind) cells

abbrev pub arities : List Cell → List ℕ
arities cells = map (λ c. c.arity) cells

-- 1 if a cell stands in the place r, else 0: bit r % 8 of byte r / 8
abbrev pub bit : List ℕ → ℕ → ℕ
bit occupied r = slice_index occupied (r / 8) / 2 ^ (r % 8) % 2

-- a cell stands there and has this port, or there is such an end
abbrev pub stands : List ℕ → List ℕ → ℕ → Spot → Bool
stands arities occupied ends (end e) = nat_lt e ends
stands arities occupied ends (port r j) = bit occupied r == 1 && nat_le j (slice_index arities r)

-- the same by slots
abbrev pub is_used : List ℕ → List ℕ → ℕ → ℕ → Bool
is_used arities occupied ends k =
    cond (is_of_end k) (nat_lt (k / 4 - 1030) ends) (bit occupied (k / 4) == 1 && nat_le (k % 4) (slice_index arities (k / 4)))

-- each slot in use names one in use, which names it back and is another
abbrev pub NamesStanding : List Link → List ℕ → List ℕ → ℕ → Type 0
NamesStanding links arities occupied ends = (k : ℕ) → is_used arities occupied ends k ≡ true → is_used arities occupied ends (goal links k) ≡ true

abbrev pub NamesBack : List Link → List ℕ → List ℕ → ℕ → Type 0
NamesBack links arities occupied ends = (k : ℕ) → is_used arities occupied ends k ≡ true → goal links (goal links k) ≡ k

abbrev pub NamesOther : List Link → List ℕ → List ℕ → ℕ → Type 0
NamesOther links arities occupied ends = (k : ℕ) → is_used arities occupied ends k ≡ true → goal links k ≢ k
