-- What the private functions that test a rule's table tell each other; no public contract cites it. Assumes nothing.
use Rattle.std.specs.Prelude.{◌≡◌, ℕ, ◌+◌, ◌*◌, ◌<◌, ◌≤◌, Bool, true, false, ◌≢◌, ◌⊎◌, List, length, Some, None, Option, slice_index, slice_index_or, slice_set}
use Rattle.std.specs.List.{slice_get}
use Rattle.calculus.specs.Books.{RulePort, L, R, N}
use Rattle.books.specs.declared.table.RuleTable.{RuleTable}
use Rattle.books.specs.Tables.{arities_of, wires_of}
use Rattle.nets.specs.Fitting.{Paired, Fitting}

-- the new cells have arity at most 2
abbrev pub Small : RuleTable → Type 0
Small r = (i : ℕ) → i < length r.cells.now → slice_index (arities_of r) i ≤ 2

-- where the mate of a port is noted
abbrev pub note_of : RulePort → ℕ
note_of (L j) = 16 + j
note_of (R j) = 20 + j
note_of (N i j) = i * 4 + j

-- nothing is noted at a, or b
abbrev pub Agrees : List (Option ℕ) → ℕ → ℕ → Type 0
Agrees mates a b = (slice_index_or mates a None ≡ None) ⊎ (slice_index_or mates a None ≡ Some b)

-- a and b are noted as mates; no where they are one or one is noted with another
abbrev pub Noted : List (Option ℕ) → ℕ → ℕ → List (Option ℕ) → Bool → Type 0
Noted ms a b ns true = (a ≢ b) × Agrees ms a b × Agrees ms b a × (ns ≡ slice_set (slice_set ms a (Some b)) b (Some a))
Noted ms a b ns false = a ≢ b → Agrees ms a b → Agrees ms b a → ⊥

-- one of the first n wires joins x and y
abbrev pub Tied : List (RulePort × RulePort) → ℕ → RulePort → RulePort → Type 0
Tied ws n x y = (k : ℕ) × (p : RulePort × RulePort) × (k < n) × (slice_get ws k ≡ Some p) × (((x ≡ p.0) × (y ≡ p.1)) ⊎ ((x ≡ p.1) × (y ≡ p.0)))

-- just the first n wires are noted
pub record Marked (a b : ℕ) (r : RuleTable) (ws : List (RulePort × RulePort)) (n : ℕ) (mates : List (Option ℕ)) : Type 0 where
  pub long : length mates ≡ 24
  pub tied : (x y : RulePort) → Tied ws n x y → Paired a b r x × (x ≢ y) × (slice_index_or mates (note_of x) None ≡ Some (note_of y))
  pub free : (x : RulePort) → Paired a b r x → (slice_index_or mates (note_of x) None ≡ None) ⊎ ((y : RulePort) × Tied ws n x y)

-- all wires are noted; no where the rule does not fit
abbrev pub AllNoted : ℕ → ℕ → RuleTable → List (Option ℕ) → Bool → Type 0
AllNoted a b r mates true = (n : ℕ) × (length (wires_of r) ≤ n) × Marked a b r (wires_of r) n mates
AllNoted a b r mates false = Fitting a b r → ⊥

-- every port that the rule is to pair is noted
abbrev pub Full : ℕ → ℕ → RuleTable → List (Option ℕ) → Type 0
Full a b r mates = (x : RulePort) → Paired a b r x → slice_index_or mates (note_of x) None ≢ None

-- the ports from the one number to the other, of one row, are noted
abbrev pub FullRow : ℕ → ℕ → ℕ → List (Option ℕ) → Type 0
FullRow row from to mates = (j : ℕ) → from ≤ j → j ≤ to → slice_index_or mates (row * 4 + j) None ≢ None
