use Rattle.std.proofs.Common.{[], ◌∷◌, Ok, Err}
use Rattle.engine.specs.Accounts.{draw, put_back}
use Rattle.engine.specs.Accounts.Tells.{opened, called}
use Rattle.engine.proofs.account.try_pair.Goals as goal

pub returns-in-Ok : goal.returns-in-Ok
returns-in-Ok g c = (
  put_back c.in-Ok.slip c.put_back.result ∷ draw (Ok c.in-Ok.slip) ∷ [],
  called (put_back c.in-Ok.slip c.put_back.result) (called (draw (Ok c.in-Ok.slip)) opened c.in-Ok.ensures) c.put_back.ensures,
)

pub returns-in_default : goal.returns-in_default
returns-in_default g c = (draw (Err c.in_default.field-0) ∷ [], called (draw (Err c.in_default.field-0)) opened c.in_default.ensures)
