use Rattle.std.proofs.Common.{sym, ◌∙◌, subst}
use Rattle.terms.proofs.Fronts.{at_end, past}
use Rattle.terms.proofs.text_walk.TextWalk.walk.Goals as goal

pub returns : goal.returns
returns g c =
    let w = c.loop-byte.self in
    let text = g.Self.TextWalk.text w in
    let at = g.Self.TextWalk.at w in
    let (same, (z, _, r)) = c.loop-byte.invariant in
    let end = at_end text at z (past text at (sym c.byte.ensures ∙ c.in_default.is)) (g.met.Self.TextWalk.stands w z r) in
    record { same = same; whole = subst (g.Self.TextWalk.Reading w) end r }
