use Rattle.std.proofs.Common.{below_more}
use Rattle.std.proofs.lemmas.Result.{err_from_is_err_and}
use Rattle.nets.proofs.Plans.{first_port}
use Rattle.nets.proofs.draft.Draft.check.Goals as goal

pub loop-e-preserved : goal.loop-e-preserved
loop-e-preserved c = below_more _ _ c.loop-e.invariant c.in_ok-check_spot.ensures

pub loop-place-preserved : goal.loop-place-preserved
loop-place-preserved c = (c.loop-place.invariant.0, below_more _ _ c.loop-place.invariant.1 c.in_ok-check_cell.ensures)

pub returns-in_err-check_cell : goal.returns-in_err-check_cell
returns-in_err-check_cell c =
    let p = err_from_is_err_and c.from_residual-in_err-check_cell.result c.from_residual-in_err-check_cell.ensures.1 in
    rw (p.1, p.2) (first_port c.args.self.now c.loop-place.place c.in_err-check_cell.field-0.0 c.in_err-check_cell.ensures c.loop-place.invariant.0 c.loop-place.invariant.1)
