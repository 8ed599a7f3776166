use Rattle.std.proofs.Common.{List, refl, ap, ◌∙◌}
use Rattle.ledger.specs.Places.{Places}
use Rattle.engine.specs.States.{marked}
use Rattle.engine.specs.Running.{Running}
use Rattle.engine.proofs.Puttings.{puts_bag}
use Rattle.engine.proofs.Keeping.{marked_is_out, keeps_returned}
use Rattle.engine.proofs.Objecting.{pair_of, put_of}
use Rattle.engine.proofs.run.Run.put_back.Goals as goal

pub returns-in-Some : goal.returns-in-Some
returns-in-Some g c =
    let mean = g.B.Book.meaning in
    let laws = g.met.B.Book.lawful in
    let acts = g.S.Strategy in
    let x = c.args.self.now in
    let D = c.is_out-is_out.ensures.0 c.if-not-is_out.false in
    let H = D.1 in
    let active = H.ready.active in
    let marks = rw c.spend-left.ensures at c.set.ensures in
    let is = λ (out : List Places) (R : Running mean acts x out). marked_is_out mean laws acts x out R D.0 active (ap (marked x) H.at.0 ∙ H.left) in
    let puts = λ (out : List Places) (R : Running mean acts x out).
    put_of mean laws acts x out R D.0 active (is out R) c.in-Some.pair
    (pair_of mean laws acts x out R D.0 active c.args.slip.left H.at.0 c.in-Some.pair (rw c.spend-left.ensures at c.in-Some.ensures))
    c.put.new.self c.put.result c.put.ensures.bags c.put.ensures.own in
    record {
      pair = D.0;
      out_here = H;
      marks = marks;
      net = refl;
      stamp = refl;
      count = refl;
      puts = puts;
      running = λ out R. keeps_returned mean laws acts x out R D.0 active (is out R) c.args.slip.left c.args.slip.right H.at.0 H.at.1 _ (puts_bag acts (puts out R)) marks refl;
    }

pub returns-in_default : goal.returns-in_default
returns-in_default g c =
    let D = c.is_out-is_out.ensures.0 c.if-not-is_out.false in
    let H = D.1 in
    absurd (((rw c.spend-left.ensures at c.in_default.ensures) D.0 H.ready.active).0 H.at.0)
