use Rattle.engine.proofs.Agreeing.{any_two_agree}
use Rattle.engine.proofs.progress.compare_progress.Goals as goal

pub returns-in-Less-clause-agree : goal.returns-in-Less-clause-agree
returns-in-Less-clause-agree g c = any_two_agree g.B.Book.meaning g.met.B.Book.lawful g.met.B.Book.same g.S.Strategy g.T.Strategy c.args.first.now c.args.second.now

pub returns-in-Equal-clause-agree : goal.returns-in-Equal-clause-agree
returns-in-Equal-clause-agree g c = any_two_agree g.B.Book.meaning g.met.B.Book.lawful g.met.B.Book.same g.S.Strategy g.T.Strategy c.args.first.now c.args.second.now

pub returns-in-Greater-clause-agree : goal.returns-in-Greater-clause-agree
returns-in-Greater-clause-agree g c = any_two_agree g.B.Book.meaning g.met.B.Book.lawful g.met.B.Book.same g.S.Strategy g.T.Strategy c.args.first.now c.args.second.now
