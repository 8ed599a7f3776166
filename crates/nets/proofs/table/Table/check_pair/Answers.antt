use Rattle.std.proofs.Common.{Ok}
use Rattle.nets.proofs.Readiness.{against, limited}
use Rattle.nets.proofs.table.Table.check_pair.Goals as goal

pub returns-in-Ok : goal.returns-in-Ok
returns-in-Ok g c =
    against (g.B.Book.meaning c.args.book.now) (g.met.B.Book.lawful c.args.book.now) c.args.self.now c.args.left c.args.right (Ok c.in-Some.rule)
    (c.in-Some.ensures, c.in-Ok.ensures.0, c.in-Ok.ensures.1)

pub returns-in-Err : goal.returns-in-Err
returns-in-Err g c =
    rw c.from.ensures
    (limited (g.B.Book.meaning c.args.book.now) (g.met.B.Book.lawful c.args.book.now) c.args.self.now c.args.left c.args.right c.in-Some.rule c.in-Some.ensures c.in-Err.limit
    c.in-Err.ensures)
