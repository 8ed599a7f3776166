-- Nets given as data. Assumes nothing.
use Rattle.std.specs.Prelude.{ℕ, true, false, List, [], ◌∷◌}
use Rattle.std.specs.List.{slice_get}
use Rattle.calculus.specs.Spots.{Spot}
use Rattle.calculus.specs.Nets.{Net}
use Rattle.calculus.specs.Splicing.{same}

-- the spot that the list links with x, or x itself
abbrev pub linked : List (Spot × Spot) → Spot → Spot
linked [] x = x
linked (l ∷ ls) x = elim (same x l.0) [ true ↦ l.1 | false ↦ elim (same x l.1) [ true ↦ l.0 | false ↦ linked ls x ] ]

-- a drawing: a number of ends, the kinds of the cells from place 0 on, the links, and a number of loops
pub record Drawing : Type 0 where
  pub ends : ℕ
  pub kinds : List ℕ
  pub links : List (Spot × Spot)
  pub loops : ℕ

-- the net that it shows
abbrev pub drawn : Drawing → Net
drawn D = record { ends = D.ends; kind = slice_get D.kinds; mate = linked D.links; loops = D.loops }
