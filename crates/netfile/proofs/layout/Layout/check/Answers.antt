use Rattle.std.proofs.Common.{ℕ, subst, arith, below_more}
use Rattle.std.proofs.lemmas.Result.{err_from_is_err_and}
use Rattle.netfile.specs.Passes.{FaultAt, MutualAt, nth_spot}
use Rattle.netfile.proofs.Mutuals.{nth_fault, all_mutual}
use Rattle.netfile.proofs.layout.Layout.check.Goals as goal

pub returns-in_err-check_spot : goal.returns-in_err-check_spot
returns-in_err-check_spot g c =
    let p = err_from_is_err_and c.from_residual.result c.from_residual.ensures.1 in
    let f = c.self.inside.file in
    let K = g.B.Book.meaning f.book.now in
    let fault = rw (← c.self.view_is) at c.in_err-check_spot.ensures in
    let ones = rw (← c.self.view_is) at c.loop-i.invariant in
    rw (p.1, p.2, ← c.self.view_is)
    (nth_fault K f.bytes.now f.head c.self.inside.starts.now c.self.invariant.laid (g.met.B.Book.lawful f.book.now) f.headed c.loop-i.i _
    (subst (λ x. FaultAt K f.bytes.now f.head x c.in_err-check_spot.field-0.0) c.spot.ensures fault) ones)

pub loop-i-preserved : goal.loop-i-preserved
loop-i-preserved g c =
    let f = c.self.inside.file in
    let K = g.B.Book.meaning f.book.now in
    let one = rw (← c.self.view_is) at c.in_ok-check_spot.ensures in
    let ones = rw (← c.self.view_is) at c.loop-i.invariant in
    rw (← c.self.view_is)
    (below_more (λ (k : ℕ). MutualAt K f.bytes.now f.head (nth_spot f.head.ends k)) c.loop-i.i ones
    (subst (MutualAt K f.bytes.now f.head) c.spot.ensures one))

pub returns : goal.returns
returns g c =
    let f = c.self.inside.file in
    let ones = rw (← c.self.view_is) at c.loop-i.invariant in
    rw (← c.self.view_is)
    (all_mutual (g.B.Book.meaning f.book.now) f.bytes.now f.head c.self.inside.starts.now c.self.invariant.laid (g.met.B.Book.lawful f.book.now)
    (λ k less. ones k (omega (arith, c.spots-i-end.ensures))))
