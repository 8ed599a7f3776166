-- Spots: the places of a net where a wire can end. Assumes nothing.
use Rattle.std.specs.Prelude.{ℕ}

-- end e of the net, or port j of the cell in place r; port 0 is the principal port, the others are auxiliary
pub data Spot : Type 0 where
  end : ℕ → Spot
  port : ℕ → ℕ → Spot

-- a spot after the places are renumbered by f; ends keep their numbers
abbrev pub carry : (ℕ → ℕ) → Spot → Spot
carry f (end e) = end e
carry f (port r j) = port (f r) j
