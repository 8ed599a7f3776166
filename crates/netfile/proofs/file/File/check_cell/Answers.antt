use Rattle.std.proofs.Common.{inr}
use Rattle.std.proofs.lemmas.Result.{err_from_is_err_and}
use Rattle.netfile.proofs.file.File.check_cell.Goals as goal

pub returns-in_err-check_links : goal.returns-in_err-check_links
returns-in_err-check_links g c =
    let p = err_from_is_err_and c.from_residual-in_err-check_links.result c.from_residual-in_err-check_links.ensures.1 in
    let cell = c.in_ok-cell.cell in
    let is = c.in_ok-cell.ensures in
    rw (p.1, p.2) (inr (cell.arity, (is.0, (cell.kind, is.1, is.2)), c.in_err-check_links.ensures))
