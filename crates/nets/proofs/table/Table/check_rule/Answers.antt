use Rattle.std.proofs.Common.{◌≡◌, Some, Option, subst, arith}
use Rattle.std.proofs.lemmas.Result.{err_from_is_err_and}
use Rattle.books.specs.declared.table.RuleTable.{RuleTable}
use Rattle.nets.specs.Seating.{RuleReady, Chosen}
use Rattle.nets.proofs.Readiness.{limited}
use Rattle.nets.proofs.table.Table.check_rule.Goals as goal

pub returns-in_err-check_limits : goal.returns-in_err-check_limits
returns-in_err-check_limits g c =
    let K = g.B.Book.meaning c.args.book.now in
    let t = c.args.self.now in
    let r = c.in_ok-rule.rule in
    let e : c.rule.result ≡ Some r = grind (arith) in
    let C : RuleReady K t c.args.left c.args.right r = subst (λ (o : Option RuleTable). Chosen K t c.args.left c.args.right o) e c.rule.ensures in
    let p = err_from_is_err_and c.from_residual-in_err-check_limits.result c.from_residual-in_err-check_limits.ensures.1 in
    rw (p.1, p.2) (limited K (g.met.B.Book.lawful c.args.book.now) t c.args.left c.args.right r C c.in_err-check_limits.field-0.0 c.in_err-check_limits.ensures)
