-- How a book's rules are looked up in a table of a row and a column for each kind. Assumes nothing.
use Rattle.std.specs.Prelude.{◌≡◌, ℕ, List, Some, None, Option}
use Rattle.std.specs.Borrow.{Bor}
use Rattle.std.specs.List.{slice_get}
use Rattle.books.specs.declared.table.RuleTable.{RuleTable}

-- what f gives at the value, if there is one
abbrev pub then : {X Y : Type 0} → Option X → (X → Option Y) → Option Y
then None f = None
then (Some x) f = f x

-- the rule in row a and column b, if there are such a row and column and a rule stands there
abbrev pub rule_at : List (Bor (List (Option (Bor RuleTable)))) → ℕ → ℕ → Option RuleTable
rule_at rows a b = then (then (slice_get rows a) (λ row. slice_get row.now b)) (λ o. then o (λ r. Some r.now))

pub record Looked (rows : List (Bor (List (Option (Bor RuleTable))))) (a b : ℕ) (o : Option RuleTable) : Type 0 where
  pub found : o ≡ rule_at rows a b
