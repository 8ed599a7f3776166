use Rattle.std.proofs.lemmas.Result.{err_from_is_err_and}
use Rattle.nets.proofs.Suiting.{limited, active_suits, rewrote_somewhere}
use Rattle.nets.proofs.table.Table.rewrite.Goals as goal

pub returns-in_err-check-clause-rewrites : goal.returns-in_err-check-clause-rewrites
returns-in_err-check-clause-rewrites c =
    let p = err_from_is_err_and c.from_residual.result c.from_residual.ensures.1 in
    λ K i w laws ofb dep act.
    rw (p.1, p.2)
    (limited c.args.self.now c.args.left c.args.right c.args.rule.now c.in_err-check.field-0.0 c.in_err-check.ensures
    (active_suits K c.args.rule.now w dep laws c.args.self.now c.args.left c.args.right i ofb act))

pub returns-clause-rewrites : goal.returns-clause-rewrites
returns-clause-rewrites c = λ K i w laws ofb dep act.
    rewrote_somewhere K c.args.self.now c.replace.new.self c.args.left c.args.right i w c.replace.result.items (c.replace.ensures K i w laws ofb dep act).0
