use Rattle.std.proofs.Common.{◌≡◌, ℕ, sym, refl, ap, ◌∙◌, subst, arith}
use Rattle.refusals.specs.declared.refusal.Refusal.{Refusal}
use Rattle.refusals.specs.declared.faults.StrategyFault.{StrategyFault}
use Rattle.refusals.specs.Faults.{strategy_refusal}
use Rattle.engine.specs.Calls.{Turns, Stops}
use Rattle.engine.specs.Calls.Turns.{none, turn}
use Rattle.engine.specs.Calls.Stops.{done, empty, refused}
use Rattle.engine.proofs.run.Run.drive.Goals as goal

pub loop-done-init : goal.loop-done-init
loop-done-init g c = none

pub returns-in-Err : goal.returns-in-Err
returns-in-Err g c = record {
  last = c.loop-done.self;
  turns = c.loop-done.invariant;
  stops = subst (λ (n : ℕ). Stops g.B.Book.meaning g.S.Strategy c.args.limit c.loop-done.done n c.loop-done.self c.draw.new.self)
      (sym (ap (λ (r : Refusal). r.number) c.refusal.ensures ∙ ap (λ (f : StrategyFault). (strategy_refusal f).number) c.in-Err.ensures.0))
      (empty {f = c.in-Err.fault} c.loop-done-test.true c.in-Err.ensures);
}

pub returns-in-Err-rewrite : goal.returns-in-Err-rewrite
returns-in-Err-rewrite g c = record {
  last = c.loop-done.self;
  turns = c.loop-done.invariant;
  stops = subst (λ (n : ℕ). Stops g.B.Book.meaning g.S.Strategy c.args.limit c.loop-done.done n c.loop-done.self c.put_back.new.self)
      (ap (λ (r : Refusal). r.number) (sym c.refusal-in-Err-rewrite.ensures))
      (refused c.in-Ok.slip c.in-Err-rewrite.slip c.in-Err-rewrite.fault c.put_back.result c.loop-done-test.true c.in-Ok.ensures c.in-Err-rewrite.ensures c.put_back.ensures);
}

pub loop-done-preserved : goal.loop-done-preserved
loop-done-preserved g c = turn c.in-Ok.slip c.loop-done.invariant c.in-Ok.ensures c.in_default.ensures

pub returns : goal.returns
returns g c =
    let e : c.loop-done.done ≡ c.args.limit = (let a = c.loop-done-test.false in let b = c.loop-done.auto.done-end in omega arith) in
    record {
      last = c.loop-done.self;
      turns = subst (λ (n : ℕ). Turns g.B.Book.meaning g.S.Strategy n c.args.self.now c.loop-done.self) e c.loop-done.invariant;
      stops = done refl;
    }
