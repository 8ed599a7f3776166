-- How many cells and wires the table of a rule has, and what stands there. Assumes nothing.
use Rattle.std.proofs.Common.{◌≡◌, ℕ, ◌<◌, length, get_or, Some, sym, ap, ◌∙◌}
use Rattle.std.proofs.lemmas.List.{length-map}
use Rattle.std.proofs.lemmas.Option.{slice_get-map, slice_get-get_or}
use Rattle.std.specs.List.{slice_get}
use Rattle.std.specs.Option.{option_map}
use Rattle.books.specs.declared.table.Wire.{Wire}
use Rattle.books.specs.declared.table.RuleTable.{RuleTable}
use Rattle.books.specs.Tables.{joined, wires_of, Depicts}
use Rattle.calculus.specs.Books.{Rule, RuleBook}

pub cells_same : (K : RuleBook) (r : RuleTable) (w : Rule) → Depicts K r w → length r.cells.now ≡ length w.cells
cells_same K r w D = sym (length-map r.cells.now (λ c. c.kind)) ∙ ap length D.kinds

pub wires_long : (r : RuleTable) → length (wires_of r) ≡ length r.wires.now
wires_long r = length-map r.wires.now joined

-- wire i
pub wire_at : (r : RuleTable) (i : ℕ) (d : Wire) → i < length r.wires.now → slice_get (wires_of r) i ≡ Some (joined (get_or r.wires.now i d))
wire_at r i d h = slice_get-map joined r.wires.now i ∙ ap (option_map joined) (slice_get-get_or r.wires.now i d h)
