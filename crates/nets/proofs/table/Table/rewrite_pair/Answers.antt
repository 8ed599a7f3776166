use Rattle.std.proofs.Common.{subst}
use Rattle.calculus.specs.Nets.{Pair}
use Rattle.nets.specs.ByBook.{RewroteAt}
use Rattle.nets.proofs.Readiness.{replaceable, same_pair}
use Rattle.nets.proofs.table.Table.rewrite_pair.Goals as goal

pub replace-requires : goal.replace-requires
replace-requires g c =
    replaceable (g.B.Book.meaning c.args.book.now) (g.met.B.Book.lawful c.args.book.now) c.args.self.now c.args.left c.args.right c.in_ok-rule.rule c.in_ok-rule.ensures.0 (c.in_ok-rule.ensures.1, c.in_ok-rule.ensures.2)

pub returns-clause-rewrites : goal.returns-clause-rewrites
returns-clause-rewrites g c =
    let K = g.B.Book.meaning c.args.book.now in
    let laws = g.met.B.Book.lawful c.args.book.now in
    let C = c.in_ok-rule.ensures.0 in
    λ ofb P at act.
    subst (λ (Q : Pair). RewroteAt K c.args.self.now Q c.replace.result.items c.replace.new.self)
    (same_pair K laws c.args.self.now c.args.left c.args.right c.in_ok-rule.rule C P at act)
    (c.replace.ensures K C.position C.rule laws ofb C.depicts C.ready.active).0
