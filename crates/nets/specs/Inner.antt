-- What private functions tell each other; no public contract cites it. Assumes nothing.
use Rattle.std.specs.Prelude.{◌≡◌, ℕ, ◌<◌, Bool, cond, List, length, Ok, Err, Result, nat_lt}
use Rattle.calculus.specs.Spots.{Spot, port}
use Rattle.nets.specs.declared.spot.Spot.{Spot as Seen}
use Rattle.nets.specs.Layout.{stands, bit}
use Rattle.nets.specs.Meaning.{Content}
use Rattle.nets.specs.Views.{at}
use Rattle.nets.specs.Drafts.{Plan, Faulty, Before}

-- whether x is there
abbrev pub there : Content → Spot → Bool
there c x = stands c.arities c.occupied c.ends x

-- no spot's link is at fault, or the first whose is
abbrev pub Checked : Plan → Result (Unit {0}) Seen → Type 0
Checked p (Ok _) = (x : Spot) → Faulty p x → ⊥
Checked p (Err x) = Faulty p (at x) × ((y : Spot) → Before y (at x) → Faulty p y → ⊥)

-- the same of the cell in place r
abbrev pub CheckedCell : Plan → ℕ → Result (Unit {0}) Seen → Type 0
CheckedCell p r (Ok _) = (j : ℕ) → Faulty p (port r j) → ⊥
CheckedCell p r (Err x) = (j : ℕ) × (at x ≡ port r j) × Faulty p (at x) × ((i : ℕ) → i < j → Faulty p (port r i) → ⊥)

-- the same of the one spot x
abbrev pub CheckedSpot : Plan → Spot → Result (Unit {0}) Seen → Type 0
CheckedSpot p x (Ok _) = Faulty p x → ⊥
CheckedSpot p x (Err y) = (at y ≡ x) × Faulty p x

-- just the first n places are occupied
abbrev pub Front : ℕ → List ℕ → Type 0
Front n map = (length map ≡ 128) × ((r : ℕ) → bit map r ≡ cond (nat_lt r n) 1 0)
