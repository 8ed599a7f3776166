-- What is answered of a table. Assumes nothing.
use Rattle.std.specs.Prelude.{◌≡◌, ◌≢◌, Some, None, Option}
use Rattle.calculus.specs.Spots.{Spot, end, port}
use Rattle.calculus.specs.Nets.{Net}
use Rattle.nets.specs.declared.spot.Spot.{Spot as Seen}
use Rattle.nets.specs.declared.spot.Spot.TheVariants.{End, Port}

-- the spot that a view names
abbrev pub at : Seen → Spot
at (End e) = end e
at (Port r j) = port r j

-- what x is linked with: another spot, which is linked with x; or that x is not there
abbrev pub Mated : Net → Spot → Option Seen → Type 0
Mated A x None = A.mate x ≡ x
Mated A x (Some y) = (A.mate x ≡ at y) × (at y ≢ x) × (A.mate (at y) ≡ x)
