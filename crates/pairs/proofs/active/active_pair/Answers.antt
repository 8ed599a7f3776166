use Rattle.std.proofs.Common.{sym, arith}
use Rattle.nets.specs.Meaning.{net}
use Rattle.nets.proofs.Standing.{twice}
use Rattle.pairs.proofs.Meeting.{few, no_cell, no_other, no_second, no_rule, as_left, as_right}
use Rattle.pairs.proofs.active.active_pair.Goals as goal

pub returns-in_err-kind : goal.returns-in_err-kind
returns-in_err-kind g c =
    rw c.from_residual.ensures
    (no_cell (g.B.Book.meaning c.args.book.now) (g.met.B.Book.lawful c.args.book.now) (net c.args.table.now) (twice c.args.table.now) c.args.place (sym c.in_err-kind.ensures))

pub returns-in_err-other : goal.returns-in_err-other
returns-in_err-other g c =
    rw c.from_residual-in_err-other.ensures
    (no_other (g.B.Book.meaning c.args.book.now) (g.met.B.Book.lawful c.args.book.now) (net c.args.table.now) (twice c.args.table.now) c.args.place c.in_err-other.ensures)

pub returns-in_err-across : goal.returns-in_err-across
returns-in_err-across g c =
    rw c.from_residual-in_err-across.ensures
    (no_second (g.B.Book.meaning c.args.book.now) (g.met.B.Book.lawful c.args.book.now) (net c.args.table.now) (twice c.args.table.now) c.args.place c.in_ok-other.other
    c.in_ok-other.ensures.0 (sym c.in_err-across.ensures))

pub returns-in_err-rule : goal.returns-in_err-rule
returns-in_err-rule g c =
    rw c.from_residual-in_err-rule.ensures
    (no_rule (g.B.Book.meaning c.args.book.now) (g.met.B.Book.lawful c.args.book.now) (net c.args.table.now) (twice c.args.table.now) c.args.place c.in_ok-other.other
    c.in_ok-other.ensures.0 c.in_ok-kind.kind c.in_ok-across.across (sym c.in_ok-kind.ensures) (sym c.in_ok-across.ensures) c.in_err-rule.ensures)

pub overflow_cast-cells : goal.overflow_cast-cells
overflow_cast-cells g c =
    let n = few (g.B.Book.meaning c.args.book.now) (g.met.B.Book.lawful c.args.book.now) (net c.args.table.now) (twice c.args.table.now) c.args.place c.in_ok-other.other
    c.in_ok-other.ensures.0 c.in_ok-kind.kind c.in_ok-across.across (sym c.in_ok-kind.ensures) (sym c.in_ok-across.ensures) c.in_ok-rule.rule c.in_ok-rule.ensures in
    omega arith

pub returns-then-is_left : goal.returns-then-is_left
returns-then-is_left g c =
    as_left (g.B.Book.meaning c.args.book.now) (g.met.B.Book.lawful c.args.book.now) (net c.args.table.now) (twice c.args.table.now) c.args.place c.in_ok-other.other
    c.in_ok-other.ensures.0 c.in_ok-kind.kind c.in_ok-across.across (sym c.in_ok-kind.ensures) (sym c.in_ok-across.ensures)
    c.in_ok-rule.rule c.in_ok-rule.ensures (c.if-is_left.ensures)

pub returns-else-is_left : goal.returns-else-is_left
returns-else-is_left g c =
    as_right (g.B.Book.meaning c.args.book.now) (g.met.B.Book.lawful c.args.book.now) (net c.args.table.now) (twice c.args.table.now) c.args.place c.in_ok-other.other
    c.in_ok-other.ensures.0 c.in_ok-kind.kind c.in_ok-across.across (sym c.in_ok-kind.ensures) (sym c.in_ok-across.ensures)
    c.in_ok-rule.rule c.in_ok-rule.ensures c.in_ok-other.ensures.1 (c.if-is_left.ensures)
