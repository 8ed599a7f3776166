-- The rule that an owned one holds. Assumes nothing.
use Rattle.std.specs.Prelude.{◌≡◌, ◌<◌, ◌⊎◌, map, take, length, Some, None, Option}
use Rattle.books.specs.declared.table.OwnedRule.{OwnedRule}
use Rattle.books.specs.declared.table.RuleTable.{RuleTable}
use Rattle.books.specs.Tables.{joined, wires_of, kinds_of, arities_of}

-- the owned rule o and the table r are one rule: its kinds, its new cells, and its wires, in order
pub record Holds (o : OwnedRule) (r : RuleTable) : Type 0 where
  pub left : r.left ≡ o.left
  pub right : r.right ≡ o.right
  pub kinds : kinds_of r ≡ map (λ c. c.kind) (take o.cell_count o.cells)
  pub arities : arities_of r ≡ map (λ c. c.arity) (take o.cell_count o.cells)
  pub wires : wires_of r ≡ map joined (take o.wire_count o.wires)

-- what is kept of a table: its rule, or nothing where it has more than four new cells or eight wires
abbrev pub Kept : RuleTable → Option OwnedRule → Type 0
Kept r (Some o) = Holds o r
Kept r None = (4 < length r.cells.now) ⊎ (8 < length r.wires.now)
