-- Rules and rule books as data, and the laws of a rule book. Assumes nothing.
use Rattle.std.specs.Prelude.{◌≡◌, ℕ, ◌≤◌, ◌≢◌, ◌⊎◌, List, [], ◌∷◌, length, Some, Option}
use Rattle.std.specs.List.{slice_get}

-- a port that a rule speaks of: L1 and L2 are `L 1` and `L 2`, R1 and R2 likewise; port j of the new cell N1 is `N 0 j`, of N2 `N 1 j`, and so on
pub data RulePort : Type 0 where
  L : ℕ → RulePort
  R : ℕ → RulePort
  N : ℕ → ℕ → RulePort

-- a rule: the kinds of L and R, the kinds of the new cells from N1 on, and which ports it pairs
pub record Rule : Type 0 where
  pub left : ℕ
  pub right : ℕ
  pub cells : List ℕ
  pub wires : List (RulePort × RulePort)

-- a rule book: its number, the arity of each kind that it has, and its rules; a rule is known by its position in the list
pub record RuleBook : Type 0 where
  pub number : ℕ
  pub arity : ℕ → Option ℕ
  pub rules : List Rule

-- the book has the kind k, and a cell of that kind has a port j
abbrev pub HasPort : RuleBook → ℕ → ℕ → Type 0
HasPort K k j = (a : ℕ) × (K.arity k ≡ Some a) × (j ≤ a)

-- some wire of the list joins x and y
abbrev pub Wired : List (RulePort × RulePort) → RulePort → RulePort → Type 0
Wired [] x y = ⊥
Wired (p ∷ ps) x y = ((x ≡ p.0) × (y ≡ p.1)) ⊎ (((x ≡ p.1) × (y ≡ p.0)) ⊎ Wired ps x y)

module _ (K : RuleBook) (w : Rule) where
  -- the auxiliary ports of L and R: they leave with their cells
  abbrev pub Leaving : RulePort → Type 0
  Leaving (L j) = (1 ≤ j) × HasPort K w.left j
  Leaving (R j) = (1 ≤ j) × HasPort K w.right j
  Leaving (N i j) = ⊥

  -- all ports of the new cells
  abbrev pub Entering : RulePort → Type 0
  Entering (L j) = ⊥
  Entering (R j) = ⊥
  Entering (N i j) = (k : ℕ) × (slice_get w.cells i ≡ Some k) × HasPort K k j

-- L and R exchanged, and the new cells renumbered by f
abbrev pub exchange : (ℕ → ℕ) → RulePort → RulePort
exchange f (L j) = R j
exchange f (R j) = L j
exchange f (N i j) = N (f i) j

-- exchanging L and R gives the same rule up to a one-to-one renumbering of the new cells
pub record Symmetric (w : Rule) : Type 0 where
  pub to : ℕ → ℕ
  pub from : ℕ → ℕ
  pub cells : (i k : ℕ) → slice_get w.cells i ≡ Some k → (slice_get w.cells (to i) ≡ Some k) × (from (to i) ≡ i)
  pub back : (i k : ℕ) → slice_get w.cells i ≡ Some k → (slice_get w.cells (from i) ≡ Some k) × (to (from i) ≡ i)
  pub wires : (x y : RulePort) → Wired w.wires x y → Wired w.wires (exchange to x) (exchange to y)

-- what every rule of the book K keeps
pub record RuleLaws (K : RuleBook) (w : Rule) : Type 0 where
  -- L has the lower kind number, and both kinds are the book's
  pub order : w.left ≤ w.right
  pub left_kind : HasPort K w.left 0
  pub right_kind : HasPort K w.right 0
  -- at most four new cells, of kinds in the book
  pub few : length w.cells ≤ 4
  pub cell_kinds : (i k : ℕ) → slice_get w.cells i ≡ Some k → HasPort K k 0
  -- the rule pairs all auxiliary ports of L and R and all ports of the new cells, and no others, each with exactly one other
  pub pairs_all : (x : RulePort) → Leaving K w x ⊎ Entering K w x → (y : RulePort) × Wired w.wires x y
  pub pairs_only : (x y : RulePort) → Wired w.wires x y → Leaving K w x ⊎ Entering K w x
  pub with_one : (x y z : RulePort) → Wired w.wires x y → Wired w.wires x z → y ≡ z
  pub with_other : (x y : RulePort) → Wired w.wires x y → x ≢ y
  -- two cells of one kind may change sides
  pub symmetric : w.left ≡ w.right → Symmetric w

-- what every rule book keeps
pub record Laws (K : RuleBook) : Type 0 where
  pub number : K.number ≤ 63
  pub kinds : (k a : ℕ) → K.arity k ≡ Some a → (k ≤ 63) × (a ≤ 2)
  pub rules : (i : ℕ) (w : Rule) → slice_get K.rules i ≡ Some w → RuleLaws K w
  -- no two rules are for the same two kinds
  pub single : (i j : ℕ) (v w : Rule) → slice_get K.rules i ≡ Some v → slice_get K.rules j ≡ Some w → v.left ≡ w.left → v.right ≡ w.right → i ≡ j
