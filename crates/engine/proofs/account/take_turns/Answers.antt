use Rattle.std.proofs.Common.{◌++◌}
use Rattle.engine.specs.Accounts.{drive}
use Rattle.engine.specs.Accounts.Tells.{called}
use Rattle.engine.proofs.Accounting.{tells_on}
use Rattle.engine.proofs.account.take_turns.Goals as goal

pub returns : goal.returns
returns g c =
    let a = c.try_pair.ensures in
    let b = c.rewrite_one.ensures in
    (b.0 ++ a.0, called (drive c.args.limit c.drive.result) (tells_on g.B.Book.meaning g.S.Strategy a.1 b.1) c.drive.ensures)
