-- When the table of a rule can be used on two cells. Assumes nothing.
use Rattle.std.specs.Prelude.{◌≡◌, ℕ, ◌<◌, ◌≤◌, Bool, true, false, ◌≢◌, length, slice_index}
use Rattle.calculus.specs.Books.{RulePort, L, R, N, Wired}
use Rattle.books.specs.declared.table.RuleTable.{RuleTable}
use Rattle.books.specs.Tables.{arities_of, wires_of}

-- the ports that a rule pairs: the auxiliary ports of L, which has a of them, and of R, which has b, and all ports of the new cells
abbrev pub Paired : ℕ → ℕ → RuleTable → RulePort → Type 0
Paired a b r (L j) = (1 ≤ j) × (j ≤ a)
Paired a b r (R j) = (1 ≤ j) × (j ≤ b)
Paired a b r (N i j) = (i < length r.cells.now) × (j ≤ slice_index (arities_of r) i)

-- the table has at most four new cells, of arity at most 2, and pairs these ports and no others, each with exactly one other
pub record Fitting (a b : ℕ) (r : RuleTable) : Type 0 where
  pub few : length r.cells.now ≤ 4
  pub arities : (i : ℕ) → i < length r.cells.now → slice_index (arities_of r) i ≤ 2
  pub pairs_all : (x : RulePort) → Paired a b r x → (y : RulePort) × Wired (wires_of r) x y
  pub pairs_only : (x y : RulePort) → Wired (wires_of r) x y → Paired a b r x
  pub with_one : (x y z : RulePort) → Wired (wires_of r) x y → Wired (wires_of r) x z → y ≡ z
  pub with_other : (x y : RulePort) → Wired (wires_of r) x y → x ≢ y

-- the answer says whether it holds
abbrev pub Told : Type 0 → Bool → Type 0
Told P true = P
Told P false = P → ⊥
