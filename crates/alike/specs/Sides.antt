-- The net of a side, and the rows that it lists; the contracts of private functions alone cite these. Assumes nothing.
use Rattle.std.specs.Prelude.{ℕ, length, slice_index}
use Rattle.pairing.specs.Graph.{Graph}
use Rattle.alike.specs.declared.side.Side.{Side}
use Rattle.alike.specs.Rows.{rows}

-- the rows of its net
abbrev pub graph_of : Side → Graph
graph_of s = rows s.table.now

-- how many rows it lists
abbrev pub size : Side → ℕ
size s = length s.rows.items

-- the one at k
abbrev pub row_at : Side → ℕ → ℕ
row_at s k = slice_index s.rows.items k
