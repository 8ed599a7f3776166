-- Lists of splices of a wiring, and the count of what they close. Assumes nothing.
use Rattle.std.proofs.Common.{◌≡◌, ℕ, ◌+◌, ◌⊎◌, List, [], ◌∷◌}
use Rattle.calculus.specs.Spots.{Spot}
unfoldable pub use Rattle.calculus.specs.Splicing.{same, through, closes, Out, Ready}

-- a list of splices, one after the other
abbrev pub run : List (Spot × Spot) → (Spot → Spot) → Spot → Spot
run [] m = m
run (s ∷ ss) m = run ss (through s.0 s.1 m)

-- how many circuits they close
abbrev pub tally : List (Spot × Spot) → (Spot → Spot) → ℕ
tally [] m = 0
tally (s ∷ ss) m = closes s.0 s.1 m + tally ss (through s.0 s.1 m)

-- y and z are spliced with each other
abbrev pub Partner : List (Spot × Spot) → Spot → Spot → Type 0
Partner [] y z = ⊥
Partner (s ∷ ss) y z = ((y ≡ s.0) × (z ≡ s.1)) ⊎ (((y ≡ s.1) × (z ≡ s.0)) ⊎ Partner ss y z)
