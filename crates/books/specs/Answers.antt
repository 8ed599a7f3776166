-- What a book answers when it is asked for the rule of two kinds. Assumes nothing.
use Rattle.std.specs.Prelude.{◌≡◌, ℕ, ◌⊎◌, Some, None, Option}
use Rattle.std.specs.List.{slice_get}
use Rattle.books.specs.declared.table.RuleTable.{RuleTable}
use Rattle.books.specs.Tables.{Depicts}
use Rattle.calculus.specs.Books.{Rule, RuleBook}

-- the rule is for the kinds a and b, in one of the two orders
abbrev pub Meant : Rule → ℕ → ℕ → Type 0
Meant w a b = ((w.left ≡ a) × (w.right ≡ b)) ⊎ ((w.left ≡ b) × (w.right ≡ a))

-- the table r is a rule of the book, and for the kinds a and b
pub record Found (K : RuleBook) (a b : ℕ) (r : RuleTable) : Type 0 where
  pub position : ℕ
  pub rule : Rule
  pub listed : slice_get K.rules position ≡ Some rule
  pub meant : Meant rule a b
  pub depicts : Depicts K r rule

-- the rule for the kinds a and b, in either order, or that the book has none
abbrev pub Answers : RuleBook → ℕ → ℕ → Option RuleTable → Type 0
Answers K a b (Some r) = Found K a b r
Answers K a b None = (i : ℕ) (w : Rule) → slice_get K.rules i ≡ Some w → Meant w a b → ⊥
