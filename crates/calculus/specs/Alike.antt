-- When two nets are the same but for the numbers of their places. Assumes nothing.
use Rattle.std.specs.Prelude.{◌≡◌, ℕ, ◌≢◌, Some, Option}
use Rattle.calculus.specs.Spots.{Spot, carry}
use Rattle.calculus.specs.Nets.{Net}

-- cells of one kind in matching places, one to one
pub record SameKinds (to from : ℕ → ℕ) (a b : ℕ → Option ℕ) : Type 0 where
  pub there : (r k : ℕ) → a r ≡ Some k → (b (to r) ≡ Some k) × (from (to r) ≡ r)
  pub back : (r k : ℕ) → b r ≡ Some k → (a (from r) ≡ Some k) × (to (from r) ≡ r)

-- every link carried along, port by port, and end by end
pub record SameLinks (to from : Spot → Spot) (m n : Spot → Spot) : Type 0 where
  pub there : (x : Spot) → m x ≢ x → (n (to x) ≡ to (m x)) × (from (to x) ≡ x)
  pub back : (y : Spot) → n y ≢ y → (m (from y) ≡ from (n y)) × (to (from y) ≡ y)

-- B is A with its places renumbered
pub record AlikeBy (to from : ℕ → ℕ) (A B : Net) : Type 0 where
  pub ends : A.ends ≡ B.ends
  pub loops : A.loops ≡ B.loops
  pub kinds : SameKinds to from A.kind B.kind
  pub links : SameLinks (carry to) (carry from) A.mate B.mate

-- two nets are alike when some one-to-one renumbering of their cells keeps every kind, every end and every link, and their loop numbers are equal
abbrev pub Alike : Net → Net → Type 0
Alike A B = (to : ℕ → ℕ) × (from : ℕ → ℕ) × AlikeBy to from A B
