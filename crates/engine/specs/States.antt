-- What the states of a net hold. Assumes nothing.
use Rattle.std.specs.Prelude.{ℕ, Bool, false, slice_index_or}
use Rattle.calculus.specs.Books.{RuleBook}
use Rattle.calculus.specs.Nets.{Net as CNet}
use Rattle.nets.specs.Meaning.{net, OfBook}
use Rattle.engine.specs.declared.marks.Marks.{Marks}
use Rattle.engine.specs.declared.net.Net.{Net}
use Rattle.engine.specs.declared.run.Run.{Run}
use Rattle.engine.specs.declared.slip.Slip.{Slip}
use Rattle.ledger.specs.Places.{Places}

-- the net that is held
abbrev pub held : {B : Type 0} → Net B → CNet
held n = net n.table

-- the net that a run works on, as it is now
abbrev pub now_on : {B S : Type 0} → Run B S → CNet
now_on x = held x.net

-- the cells are of the net's book, kinds and arities; so is every net that was compiled, read or left
abbrev pub Proper : {B : Type 0} → (B → RuleBook) → Net B → Type 0
Proper mean n = OfBook (mean n.book) n.table

-- the cell in the place is marked
abbrev pub has_mark : Marks → ℕ → Bool
has_mark m r = slice_index_or m.cells r false

-- the cell in the place is marked as out
abbrev pub marked : {B S : Type 0} → Run B S → ℕ → Bool
marked x r = has_mark x.marks r

-- the places of the pair that a slip is for
abbrev pub slip_places : Slip → Places
slip_places s = (s.left, s.right)
