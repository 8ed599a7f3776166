-- A net as a graph: rows below 1,030 for its places, row 1,030 + e for end e. Assumes nothing.
use Rattle.std.specs.Prelude.{◌≡◌, ℕ, ◌+◌, ◌-◌, ◌<◌, ◌≤◌, Bool, cond, ◌||◌, ◌≢◌, Some, None, Option, ◌==◌, nat_lt}
use Rattle.calculus.specs.Spots.{Spot, end, port}
use Rattle.calculus.specs.Nets.{Net}
use Rattle.calculus.specs.Alike.{Alike}
use Rattle.pairing.specs.Graph.{Graph, Isomorphic}

-- the row and the port of a spot
abbrev pub row_of : Spot → ℕ
row_of (end e) = 1030 + e
row_of (port r j) = r

abbrev pub port_number : Spot → ℕ
port_number (end e) = 0
port_number (port r j) = j

-- the spot of a row and a port
unfoldable pub spot : ℕ → ℕ → Spot
spot r j = cond (nat_lt r 1030) (port r j) (end (r - 1030))

-- a cell's row has its kind and 65
abbrev pub kind_number : Option ℕ → ℕ
kind_number None = 0
kind_number (Some k) = 65 + k

-- whether the row may have the port: an end has port 0 alone
abbrev pub is_port : ℕ → ℕ → Bool
is_port r j = nat_lt r 1030 || j == 0

-- the row of end e has the kind e + 1
unfoldable pub graph : Net → Graph
graph M = record {
  kind = λ r. cond (nat_lt r 1030) (kind_number (M.kind r)) (cond (nat_lt (r - 1030) M.ends) (r - 1029) 0);
  row = λ r j. cond (is_port r j) (row_of (M.mate (spot r j))) r;
  slot = λ r j. cond (is_port r j) (port_number (M.mate (spot r j))) j;
}

-- at most 64 ends, cells of at most three ports in places below 1,024, and mutual links between what is there
pub record Fits (M : Net) : Type 0 where
  pub few : M.ends ≤ 64
  pub cells : (r k : ℕ) → M.kind r ≡ Some k → r < 1024
  pub twice : (x : Spot) → M.mate (M.mate x) ≡ x
  pub linked : (e : ℕ) → e < M.ends → M.mate (end e) ≢ end e
  pub ports : (r j : ℕ) → M.mate (port r j) ≢ port r j → (j < 3) × (k : ℕ) × (M.kind r ≡ Some k)
  pub ends : (e : ℕ) → M.mate (end e) ≢ end e → e < M.ends

-- two nets are alike exactly when they have equally many loops and their graphs can be renumbered into each other
pub record SameByRows (M N : Net) : Type 0 where
  pub to : M.loops ≡ N.loops → Isomorphic (graph M) (graph N) → Alike M N
  pub fro : Alike M N → (M.loops ≡ N.loops) × Isomorphic (graph M) (graph N)

-- of all nets that have rows
abbrev pub AlikeByRows : Type 0
AlikeByRows = (M N : Net) → Fits M → Fits N → SameByRows M N
