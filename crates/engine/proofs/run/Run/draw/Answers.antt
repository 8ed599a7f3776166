use Rattle.std.proofs.Common.{refl}
use Rattle.engine.proofs.Keeping.{keeps_drawn}
use Rattle.engine.proofs.run.Run.draw.Goals as goal

pub returns : goal.returns
returns g c = record {
  pair = c.unwrap-pair.result;
  taken = rw c.unwrap-pair.ensures at c.take.ensures.bags;
  own = rw c.unwrap-pair.ensures at c.take.ensures.own;
  slip = refl;
  marks = c.set.ensures;
  net = refl;
  stamp = refl;
  count = refl;
  running = λ out R. keeps_drawn g.B.Book.meaning g.met.B.Book.lawful g.S.Strategy c.args.self.now out R _ c.unwrap-pair.result (rw c.unwrap-pair.ensures at c.take.ensures.bags) c.set.ensures refl;
}
