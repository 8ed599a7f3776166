use Rattle.std.proofs.Common.{◌≡◌, ℕ, ◌+◌, sym, subst, arith}
use Rattle.engine.specs.Inner.{PutUpTo}
use Rattle.engine.proofs.Keeping.{good_of}
use Rattle.engine.proofs.Scanning.{scan_none, scan_more, scan_skip}
use Rattle.engine.proofs.putting.put_active.Goals as goal
use Rattle.engine.proofs.putting.put_active.Goals.{in-Some, in_default}

pub loop-place-init : goal.loop-place-init
loop-place-init g c = scan_none g.B.Book.meaning g.met.B.Book.lawful g.S.Strategy c.args.net.now c.args.strategy.now

pub loop-place-preserved : goal.loop-place-preserved
loop-place-preserved g c =
    let mean = g.B.Book.meaning in
    let laws = g.met.B.Book.lawful in
    let m = c.args.net.now in
    let s = c.args.strategy.now in
    elim c.match-led_by.branch [
      | in-Some w ↦ subst (PutUpTo mean g.S.Strategy m s (c.loop-place.place + 1)) (sym w.strategy-is)
          (scan_more mean laws g.S.Strategy m s c.loop-place.place c.loop-place.strategy w.put.new.self w.in-Some.pair w.put.result c.loop-place.invariant
          (λ h. w.in-Some.ensures (good_of mean laws g.S.Strategy m h)) w.put.ensures.bags w.put.ensures.own)
      | in_default w ↦ subst (PutUpTo mean g.S.Strategy m s (c.loop-place.place + 1)) (sym w.strategy-is)
          (scan_skip mean laws g.S.Strategy m s c.loop-place.place c.loop-place.strategy c.loop-place.invariant (λ h. w.in_default.ensures (good_of mean laws g.S.Strategy m h)))
    ]

pub returns : goal.returns
returns g c =
    let e : c.loop-place.place ≡ 1024 = (let a = c.loop-place-test.false in let b = c.loop-place.auto.place-end in omega arith) in
    subst (λ (n : ℕ). PutUpTo g.B.Book.meaning g.S.Strategy c.args.net.now c.args.strategy.now n c.loop-place.strategy) e c.loop-place.invariant
