-- One account after another. Assumes nothing.
use Rattle.std.proofs.Common.{◌++◌}
use Rattle.calculus.specs.Books.{RuleBook}
use Rattle.strategies.specs.Behaviour.{Behaviour}
use Rattle.engine.specs.declared.run.Run.{Run}
use Rattle.engine.specs.Accounts.{Account, Tells}
use Rattle.engine.specs.Accounts.Tells.{opened, called}

module _ {B S : Type 0} (mean : B → RuleBook) (acts : Behaviour S) where
  pub tells_on : {x y z : Run B S} {es fs : Account} → Tells mean acts x es y → Tells mean acts y fs z → Tells mean acts x (fs ++ es) z
  tells_on t opened = t
  tells_on t (called e u c) = called e (tells_on t u) c
