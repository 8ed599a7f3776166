-- A table's rows as a graph, and what is answered of a row and a port; the contracts of private functions alone cite these. Assumes nothing.
use Rattle.std.specs.Prelude.{◌≡◌, ℕ, ◌+◌, ◌<◌, true, false, Some, None, Option}
use Rattle.pairing.specs.Graph.{Graph}
use Rattle.pairing.specs.Rows.{graph, is_port, spot}
use Rattle.nets.specs.declared.table.Table.{Table}
use Rattle.nets.specs.declared.spot.Spot.{Spot as Seen}
use Rattle.nets.specs.Meaning.{net}
use Rattle.nets.specs.Views.{at}
use Rattle.alike.specs.declared.row.Kind.{Kind}
use Rattle.alike.specs.declared.row.Kind.TheVariants.{Cell, End}

-- the graph of the net that a table holds
abbrev pub rows : Table → Graph
rows t = graph (net t)

-- the number that a graph has for what stands in a row: 0 for nothing
abbrev pub kind_number : Option Kind → ℕ
kind_number None = 0
kind_number (Some (Cell k)) = 65 + k
kind_number (Some (End e)) = e + 1

-- an end is one of at most 64, so that its kind has no cell's number
abbrev pub IsFew : Option Kind → Type 0
IsFew None = Unit {0}
IsFew (Some (Cell k)) = Unit {0}
IsFew (Some (End e)) = e < 64

-- the spot of row r and port j, or that no such row has that port
abbrev pub Spotted : ℕ → ℕ → Option Seen → Type 0
Spotted r j None = is_port r j ≡ false
Spotted r j (Some x) = (is_port r j ≡ true) × (at x ≡ spot r j)
