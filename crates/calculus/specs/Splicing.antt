-- Splicing two spots of a net: both vanish, and their wires run through. Assumes nothing.
use Rattle.std.specs.Prelude.{◌≡◌, ℕ, ◌+◌, Bool, true, false, ◌&&◌, ◌≢◌, List, [], ◌∷◌, ◌==◌}
use Rattle.std.specs.List.Sorted.{IsPermutation}
use Rattle.calculus.specs.Spots.{Spot, end, port}
use Rattle.calculus.specs.Nets.{Net}

-- the two are one spot
abbrev pub same : Spot → Spot → Bool
same (end e) (end f) = e == f
same (end e) (port q j) = false
same (port p i) (end f) = false
same (port p i) (port q j) = p == q && i == j

-- the wires of a and b run through: who was linked with a is linked with b's mate, and the other way round; a and b are linked no more
unfoldable pub through : Spot → Spot → (Spot → Spot) → Spot → Spot
through a b m x =
    elim (same x a) [
      | true ↦ x
      | false ↦ elim (same x b) [
        | true ↦ x
        | false ↦ elim (same (m x) a) [
          | true ↦ m b
          | false ↦ elim (same (m x) b) [ true ↦ m a | false ↦ m x ]
        ]
      ]
    ]

-- one, if a and b were linked with each other: the wire closes
unfoldable pub closes : Spot → Spot → (Spot → Spot) → ℕ
closes a b m = elim (same (m a) b) [ true ↦ 1 | false ↦ 0 ]

-- a and b spliced
abbrev pub splice : Spot → Spot → Net → Net
splice a b A = record { ends = A.ends; kind = A.kind; mate = through a b A.mate; loops = A.loops + closes a b A.mate }

-- a list of splices, one after the other
abbrev pub splices : List (Spot × Spot) → Net → Net
splices [] A = A
splices (s ∷ ss) A = splices ss (splice s.0 s.1 A)

-- x is no spot of the list
abbrev pub Out : Spot → List (Spot × Spot) → Type 0
Out x [] = Unit {0}
Out x (s ∷ ss) = (x ≢ s.0) × (x ≢ s.1) × Out x ss

-- the spots of the list are linked, and all different
abbrev pub Ready : List (Spot × Spot) → (Spot → Spot) → Type 0
Ready [] m = Unit {0}
Ready (s ∷ ss) m = (s.0 ≢ s.1) × (m s.0 ≢ s.0) × (m s.1 ≢ s.1) × Out s.0 ss × Out s.1 ss × Ready ss m

-- splices at distinct spots commute, loop number included: made in any order they give the same net
abbrev pub SplicesCommute : Type 0
SplicesCommute =
    (A : Net) (xs ys : List (Spot × Spot)) → ((x : Spot) → A.mate (A.mate x) ≡ x) → Ready xs A.mate → IsPermutation xs ys → splices xs A ≡ splices ys A
