use Rattle.std.proofs.Common.{arith}
use Rattle.netfile.proofs.Mutuals.{port_absent, port_found}
use Rattle.netfile.proofs.layout.Layout.word_of.Goals as goal

-- no cell stands there
pub returns-in_err-found-in-Port : goal.returns-in_err-found-in-Port
returns-in_err-found-in-Port g c =
    let f = c.self.inside.file in
    let start = c.in_ok-start-in-Port.ensures.lookup.3.1 0 in
    rw (← c.self.view_is, c.in-Port.is, c.from_residual-in_err-found-in-Port.ensures)
    (port_absent (g.B.Book.meaning f.book.now) f.bytes.now f.head c.self.inside.starts.now c.self.invariant.laid
    c.in-Port.cell c.in-Port.port c.in_ok-start-in-Port.field-0.now c.cell_at.result start c.cell_at.ensures c.in_err-found-in-Port.ensures.value)

pub returns-in_ok-found-in-Port : goal.returns-in_ok-found-in-Port
returns-in_ok-found-in-Port g c =
    let f = c.self.inside.file in
    let start = c.in_ok-start-in-Port.ensures.lookup.3 in
    rw (← c.self.view_is, c.in-Port.is, c.then_some-in-Port.ensures)
    (port_found (g.B.Book.meaning f.book.now) f.bytes.now f.head c.self.inside.starts.now c.self.invariant.laid
    c.in-Port.cell c.in-Port.port c.in_ok-start-in-Port.field-0.now c.cell_at.result c.in_ok-found-in-Port.found
    (omega (arith, start.0, c.self.invariant.long)) (start.1 0) c.cell_at.ensures c.in_ok-found-in-Port.ensures.value)
