-- A book of one rule, for the tests. Assumes nothing.
use Rattle.std.specs.Prelude.{◌≡◌, ℕ, zero, suc, ◌≤◌, List, [], ◌∷◌, None, refl}
use Rattle.std.proofs.Common.{not-suc-le-zero}
use Rattle.std.specs.List.{slice_get}
use Rattle.calculus.specs.Books.{Rule, RuleBook, Laws}
use Rattle.calculus.proofs.Lawful.{lawful}
use Rattle.books.specs.declared.table.OwnedRule.{OwnedRule}
use Rattle.books.specs.declared.table.RuleTable.{RuleTable}
use Rattle.books.specs.Tables.{Depicts}
use Rattle.books.specs.Owning.{Holds}

-- two cells of kind 0 vanish
abbrev pub vanish : Rule
vanish = record { left = 0; right = 0; cells = []; wires = [] }

abbrev pub arities : List ℕ
arities = 0 ∷ []

abbrev pub one_rule : RuleBook
one_rule = record { number = 63; arity = slice_get arities; rules = vanish ∷ [] }

beyond : (k : ℕ) → 64 ≤ k → slice_get arities k ≡ None
beyond zero h = absurd (not-suc-le-zero h)
beyond (suc k) h = refl

pub one_rule_lawful : Laws one_rule
one_rule_lawful = lawful one_rule beyond refl

-- what the owned rule lends is that rule
abbrev pub Keeps : OwnedRule → Type 0
Keeps o = (r : RuleTable) → Holds o r → Depicts one_rule r vanish
