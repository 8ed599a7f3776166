use Rattle.std.proofs.Common.{[], ◌∷◌, Ok, Err}
use Rattle.engine.specs.Accounts.{draw, rewrite, put_back}
use Rattle.engine.specs.Accounts.Tells.{opened, called}
use Rattle.engine.proofs.account.rewrite_one.Goals as goal

pub returns-in-Err : goal.returns-in-Err
returns-in-Err g c = (
  put_back c.in-Err.slip c.put_back.result ∷ rewrite c.in-Ok.slip (Err (c.in-Err.field-0-0, c.in-Err.slip)) ∷ draw (Ok c.in-Ok.slip) ∷ [],
  called (put_back c.in-Err.slip c.put_back.result) (called (rewrite c.in-Ok.slip (Err (c.in-Err.field-0-0, c.in-Err.slip))) (called (draw (Ok c.in-Ok.slip)) opened c.in-Ok.ensures) c.in-Err.ensures) c.put_back.ensures,
)

pub returns-in_default-rewrite : goal.returns-in_default-rewrite
returns-in_default-rewrite g c =
    (rewrite c.in-Ok.slip (Ok tt) ∷ draw (Ok c.in-Ok.slip) ∷ [], called (rewrite c.in-Ok.slip (Ok tt)) (called (draw (Ok c.in-Ok.slip)) opened c.in-Ok.ensures) c.in_default-rewrite.ensures)

pub returns-in_default : goal.returns-in_default
returns-in_default g c = (draw (Err c.in_default.field-0) ∷ [], called (draw (Err c.in_default.field-0)) opened c.in_default.ensures)
