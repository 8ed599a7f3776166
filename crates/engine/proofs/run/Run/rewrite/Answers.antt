use Rattle.std.proofs.Common.{List, sym, refl, ap, ◌∙◌, subst, inl, inr, arith}
use Rattle.strategies.specs.declared.pair.Pair.{Pair as Waiting}
use Rattle.ledger.specs.Places.{Places}
use Rattle.engine.specs.States.{marked}
use Rattle.engine.specs.Running.{Running}
use Rattle.engine.specs.Calls.{Objects}
use Rattle.engine.specs.Inner.{PutEach}
use Rattle.engine.proofs.Puttings.{puts_bag}
use Rattle.engine.proofs.Keeping.{marked_is_out, keeps_rewritten}
use Rattle.engine.proofs.Objecting.{objects, is_here, puts_of, same_run}
use Rattle.engine.proofs.run.Run.rewrite.Goals as goal

pub returns-in-Ok : goal.returns-in-Ok
returns-in-Ok g c =
    let mean = g.B.Book.meaning in
    let laws = g.met.B.Book.lawful in
    let acts = g.S.Strategy in
    let x = c.args.self.now in
    let D = c.in-Ok.ensures.due in
    let active = D.2.ready.active in
    let F = c.is_presented.ensures.0 c.if-not-is_presented.false in
    let marks = rw c.spend-left.ensures at c.set.ensures in
    let put = subst (λ (ps : List Waiting). PutEach g.S.Strategy c.args.self.now.strategy ps c.put_each.new.strategy) c.deref.ensures.0 c.put_each.ensures in
    let forms = λ (out : List Places) (R : Running mean acts x out). c.in-Ok.ensures.forms R.proper D.0 D.1 active in
    let is = λ (out : List Places) (R : Running mean acts x out). marked_is_out mean laws acts x out R D.0 active (ap (marked x) D.1.0 ∙ F.left) in
    let puts = λ (out : List Places) (R : Running mean acts x out). puts_of mean laws acts x out R D.0 active (is out R) c.rewrite_pair.new.table c.in-Ok.formed.items (forms out R) c.put_each.new.strategy put in
    record {
      pair = D.0;
      out_here = is_here mean acts x c.args.slip D.0 F D.1 D.2.ready;
      unspent = λ s. elim s [ inl h ↦ (let l = c.if-self-ge-MOST.false in omega arith) | inr f ↦ f D.2.loops ];
      room = D.2.places;
      marks = marks;
      book = refl;
      stamp = refl;
      count = refl;
      rewrites = λ out R. (let f = forms out R in record { seats = f.places; rewrote = f.rewrote; became = f.pairs; order = f.became; puts = puts out R });
      running = λ out R.
          let f = forms out R in
          keeps_rewritten mean laws acts x out R D.0 active (is out R) c.args.slip.left c.args.slip.right D.1.0 D.1.1
          (record { book = c.args.self.now.net.book; table = c.rewrite_pair.new.table }) refl f.places f.rewrote f.pairs f.became _ refl (puts_bag acts (puts out R)) marks;
    }

pub returns-in-Err : goal.returns-in-Err
returns-in-Err g c = (
  subst (Objects g.B.Book.meaning g.S.Strategy c.args.self.now c.args.slip) (sym c.to_run_fault.ensures)
      (objects g.B.Book.meaning g.S.Strategy c.args.self.now c.args.slip c.in-Err.fault (c.is_presented.ensures.0 c.if-not-is_presented.false) c.if-self-ge-MOST.false c.in-Err.ensures.due.0),
  refl,
  same_run c.args.self.now c.rewrite_pair.new.table c.in-Err.ensures.due.1,
)
