-- The net of a table. Assumes nothing.
use Rattle.std.specs.Prelude.{◌≡◌, ℕ, zero, suc, ◌+◌, cond, List, Some, None, vec_items, Option, ◌==◌, slice_index}
use Rattle.calculus.specs.Spots.{Spot}
use Rattle.calculus.specs.Books.{RuleBook}
use Rattle.calculus.specs.Nets.{Net}
use Rattle.nets.specs.declared.link.Link.{Link}
use Rattle.nets.specs.declared.table.Table.{Table}
use Rattle.nets.specs.Layout.{kinds, arities, code, decode, goal, bit, stands}

-- what the fields of a table hold
pub record Content : Type 0 where
  pub links : List Link
  pub kinds : List ℕ
  pub arities : List ℕ
  pub occupied : List ℕ
  pub ends : ℕ
  pub loops : ℕ

abbrev pub content : Table → Content
content t = record {
  links = vec_items t.links.targets;
  kinds = kinds (vec_items t.places);
  arities = arities (vec_items t.places);
  occupied = t.occupied;
  ends = t.ends;
  loops = t.loops;
}

abbrev pub kind_at : Content → ℕ → Option ℕ
kind_at c r = cond (bit c.occupied r == 1) (Some (slice_index c.kinds r)) None

abbrev pub arity_at : Content → ℕ → Option ℕ
arity_at c r = cond (bit c.occupied r == 1) (Some (slice_index c.arities r)) None

-- a spot that stands is linked with what its slot names, any other with itself
abbrev pub mate_of : Content → Spot → Spot
mate_of c x = cond (stands c.arities c.occupied c.ends x) (decode (goal c.links (code x))) x

abbrev pub net_of : Content → Net
net_of c = record { ends = c.ends; kind = kind_at c; mate = mate_of c; loops = c.loops }

-- the net that a table holds
abbrev pub net : Table → Net
net t = net_of (content t)

-- the table's kinds and arities are the book's
abbrev pub OfBook : RuleBook → Table → Type 0
OfBook K t = (r k : ℕ) → (net t).kind r ≡ Some k → K.arity k ≡ arity_at (content t) r

-- how many of the places below n have a cell
unfoldable pub cells_below : Net → ℕ → ℕ
cells_below A zero = 0
cells_below A (suc n) = cells_below A n + elim (A.kind n) [ None ↦ 0 | Some k ↦ 1 ]
