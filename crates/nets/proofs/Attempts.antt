-- A draft takes a cell or names a link where no fault is due. Assumes nothing.
use Rattle.std.proofs.Common.{◌≡◌, ℕ, ◌<◌, ◌≤◌, true, Option, None, Result, Ok, Err, IsOk, sym, refl, ◌∙◌}
use Rattle.std.proofs.lemmas.Bool.{lt-ltb, le-leb}
use Rattle.std.proofs.lemmas.Option.{none-some}
use Rattle.calculus.specs.Spots.{Spot}
use Rattle.nets.specs.declared.draft.Draft.{Draft}
use Rattle.nets.specs.declared.fault.DraftFault.{DraftFault}
use Rattle.nets.specs.Drafts.{Plan, planned, nameable, cell_fault, link_fault, Attempt}

-- a cell where there is room and its arity is at most 2
pub cell_free : (p : Plan) (a : ℕ) → p.cells < 1024 → a ≤ 2 → cell_fault p a ≡ None
cell_free p a room low = rw (lt-ltb p.cells 1024 room, le-leb a 2 low) refl

-- a link where the one spot is there and the other can be in a table
pub link_free : (p : Plan) (x y : Spot) → planned p x ≡ true → nameable y ≡ true → link_fault p x y ≡ None
link_free p x y there can = rw (there, can) refl

-- what is tried is done where no fault is due
pub attempt_ok : {due : Option DraftFault} {d e : Draft} {Done : Type 0} (r : Result (Unit {0}) DraftFault) → Attempt due d Done r e → due ≡ None → IsOk r
attempt_ok (Ok x) a free = refl
attempt_ok (Err fault) a free = absurd (none-some fault (sym free ∙ sym a.answer))
