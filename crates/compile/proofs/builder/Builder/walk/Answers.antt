use Rattle.std.proofs.Common.{sym, ◌∙◌, subst}
use Rattle.terms.proofs.Fronts.{at_end, past}
use Rattle.compile.specs.Building.{Reading}
use Rattle.compile.proofs.Steps.{stands_there}
use Rattle.compile.proofs.builder.Builder.walk.Goals as goal

pub returns : goal.returns
returns c =
    let b = c.loop-byte.self in
    let (same, (z, _, r)) = c.loop-byte.invariant in
    let end = at_end b.text.now b.at z (past b.text.now b.at (sym c.byte.ensures ∙ c.in_default.is)) (stands_there b z r) in
    record { same = same; whole = subst (Reading b) end r }
