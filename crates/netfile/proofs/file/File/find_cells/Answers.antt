use Rattle.std.proofs.Common.{◌≡◌, subst, arith}
use Rattle.std.proofs.lemmas.List.{length-take-le}
use Rattle.std.proofs.lemmas.Result.{err_from_is_err_and}
use Rattle.netfile.proofs.Verdicts.{Reached, ends_fault, reached_none, reached_more, reached_fault, reached_all, left_over}
use Rattle.netfile.proofs.file.File.find_cells.Goals as goal

pub returns-in_err-check_links : goal.returns-in_err-check_links
returns-in_err-check_links g c =
    let p = err_from_is_err_and c.from_residual.result c.from_residual.ensures.1 in
    let f = c.args.self.now in
    rw (p.1, p.2) (ends_fault (g.B.Book.meaning f.book.now) f.bytes.now f.head f.headed _ c.in_err-check_links.ensures)

pub loop-start-init : goal.loop-start-init
loop-start-init g c =
    let f = c.args.self.now in
    reached_none (g.B.Book.meaning f.book.now) f.bytes.now f.head f.headed _ (length-take-le f.head.cells _ (omega (arith, f.head.small))) c.in_ok-check_links.ensures

pub returns-in_err-at : goal.returns-in_err-at
returns-in_err-at g c =
    let p = err_from_is_err_and c.from_residual-in_err-at.result c.from_residual-in_err-at.ensures.1 in
    let f = c.args.self.now in
    rw (p.1, p.2)
    (reached_fault (g.B.Book.meaning f.book.now) f.bytes.now f.head f.headed _ c.loop-start.invariant (omega (arith, c.loop-start-test.true, c.loop-start.invariant.wide)) c.in_err-at.ensures)

pub loop-start-preserved : goal.loop-start-preserved
loop-start-preserved g c =
    let f = c.args.self.now in
    reached_more (g.B.Book.meaning f.book.now) f.bytes.now f.head f.headed
    (g.met.B.Book.lawful f.book.now) c.loop-start.invariant (omega (arith, c.loop-start-test.true, c.loop-start.invariant.wide)) c.in_ok-at.ensures

pub returns-in-Some : goal.returns-in-Some
returns-in-Some g c =
    let f = c.args.self.now in
    let K = g.B.Book.meaning f.book.now in
    let all : c.loop-start.start-index ≡ f.head.cells = omega (arith, c.loop-start.invariant.wide) in
    let r = subst (λ n. Reached K f.bytes.now f.head n c.loop-start.at c.loop-start.start-items) all c.loop-start.invariant in
    left_over K f.bytes.now f.head f.headed r.due r.named c.in-Some.ensures.0

pub returns-in-None : goal.returns-in-None
returns-in-None g c =
    let f = c.args.self.now in
    let K = g.B.Book.meaning f.book.now in
    let all : c.loop-start.start-index ≡ f.head.cells = omega (arith, c.loop-start.invariant.wide) in
    let r = subst (λ n. Reached K f.bytes.now f.head n c.loop-start.at c.loop-start.start-items) all c.loop-start.invariant in
    reached_all K f.bytes.now f.head f.headed _ r c.in-None.ensures
