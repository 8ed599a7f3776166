-- The rule that a table of the code holds. Assumes nothing.
use Rattle.std.specs.Prelude.{◌≡◌, ℕ, List, map, Some, Option}
use Rattle.books.specs.declared.table.RulePort.{RulePort as Named}
use Rattle.books.specs.declared.table.RulePort.TheVariants.{L as OfL, R as OfR, N as OfN}
use Rattle.books.specs.declared.table.Wire.{Wire}
use Rattle.books.specs.declared.table.RuleTable.{RuleTable}
use Rattle.calculus.specs.Books.{RulePort, L, R, N, Rule, RuleBook}

-- the port that the code names
abbrev pub port_of : Named → RulePort
port_of (OfL j) = L j
port_of (OfR j) = R j
port_of (OfN i j) = N i j

-- the ports that one wire joins
abbrev pub joined : Wire → RulePort × RulePort
joined v = (port_of v.0, port_of v.1)

-- the wires of a table
abbrev pub wires_of : RuleTable → List (RulePort × RulePort)
wires_of r = map joined r.wires.now

-- the kinds of its new cells, from N1 on
abbrev pub kinds_of : RuleTable → List ℕ
kinds_of r = map (λ c. c.kind) r.cells.now

-- their arities
abbrev pub arities_of : RuleTable → List ℕ
arities_of r = map (λ c. c.arity) r.cells.now

-- the table r is the rule w of the book K: its kinds, its new cells with their arities, and its wires, in order
pub record Depicts (K : RuleBook) (r : RuleTable) (w : Rule) : Type 0 where
  pub left : r.left ≡ w.left
  pub right : r.right ≡ w.right
  pub kinds : kinds_of r ≡ w.cells
  pub arities : map {B = Option ℕ} Some (arities_of r) ≡ map K.arity w.cells
  pub wires : wires_of r ≡ w.wires
