-- The link word of a spot of a table.
use Rattle.std.proofs.Common.{◌≡◌, ℕ, ◌≢◌, List, [], ◌∷◌, Some, None, Option, unwrap_or, sym, ap, ◌∙◌}
use Rattle.calculus.specs.Spots.{Spot, end, port, carry}
use Rattle.nets.specs.declared.table.Table.{Table}
use Rattle.nets.specs.declared.spot.Spot.{Spot as Seen}
use Rattle.nets.specs.Meaning.{content, net, cells_below}
use Rattle.nets.specs.Views.{at, Mated}
use Rattle.nets.proofs.Places.{bit_low}
use Rattle.nets.proofs.Standing.{is_there, port_there}
use Rattle.netfile.specs.Words.{link_word}
use Rattle.netfile.specs.Files.{link_of}
use Rattle.netfile.specs.Writing.{Numbered, by_number, Inside}

-- what is linked stands in one of the table's places
pub inside : (t : Table) (y : Spot) → (net t).mate y ≢ y → Inside y
inside t (end e) h = tt
inside t (port r j) h =
    let a = port_there (content t) r j (is_there (content t) (port r j) h) in bit_low t.occupied r t.wide a.0

pub mate_inside : (t : Table) (x : Spot) (y : Seen) → Mated (net t) x (Some y) → Inside (at y)
mate_inside t x y m = inside t (at y) (λ e. m.1 (sym e ∙ m.2))

-- the mate of a spot, or the spot where it has none
pub mated : (t : Table) (x : Seen) (o : Option Seen) → Inside (at x) → Mated (net t) (at x) o → Inside (at (unwrap_or o x)) × ((net t).mate (at x) ≡ at (unwrap_or o x))
mated t x None i m = (i, m)
mated t x (Some y) i m = (mate_inside t (at x) y m, m.0)

-- a link word by the numbers of the cells
pub link_is : (t : Table) (numbers : List ℕ) (x y : Spot) (w : ℕ) → Numbered t numbers → Inside y → (net t).mate x ≡ y →
    w ≡ link_word (by_number numbers y) → w ∷ [] ≡ link_of (net t) x
link_is t numbers x (end e) w n h m i = ap (λ v. v ∷ []) (i ∙ ap (λ y. link_word (carry (cells_below (net t)) y)) (sym m))
link_is t numbers x (port r j) w n h m i =
    ap (λ v. v ∷ []) (i ∙ ap (λ q. link_word (port q j)) (n r h) ∙ ap (λ y. link_word (carry (cells_below (net t)) y)) (sym m))
