use Rattle.std.proofs.Common.{ℕ, ◌*◌, true, false, sym, subst, arith}
use Rattle.pairing.proofs.Pairs.{Settled, Settles, Cut}
use Rattle.pairing.proofs.Steps.{Wave, wave_none, wave_more, tried_yes, tried_no}
use Rattle.alike.specs.Pairings.{pairs}
use Rattle.alike.specs.Sides.{graph_of}
use Rattle.alike.proofs.Graphs.{sound_rows}
use Rattle.alike.proofs.Pairings.{along, along_back, matched_too, same_trans}
use Rattle.alike.proofs.Pairing.attempt.Goals as goal

pub loop-h-init : goal.loop-h-init
loop-h-init c =
    let m = c.args.self.now in
    let n = c.push.new.self in
    record {
      nets = c.push.ensures.nets;
      wave = subst (λ (h : ℕ). Wave (graph_of m.ours) (graph_of m.theirs) (pairs m).count (pairs n) h (pairs n)) (sym c.count-base.ensures.value)
          (wave_none _ _ c.args.p.number c.args.q.number _ _ (sound_rows m.ours.table.now) (sound_rows m.theirs.table.now) c.requires.settled c.push.ensures.added);
    }

pub settle-requires-clause-settled : goal.settle-requires-clause-settled
settle-requires-clause-settled c =
    let n = c.loop-h.self in
    along_back c.args.self.now n c.loop-h.invariant.nets (λ A B. Settled A B (3 * c.loop-h.h) (pairs n)) c.loop-h.invariant.wave.closed

pub returns-then-not-settle-clause-tried : goal.returns-then-not-settle-clause-tried
returns-then-not-settle-clause-tried c =
    let m = c.args.self.now in
    let n = c.loop-h.self in
    let o = c.settle.new.self in
    let s = c.loop-h.invariant.nets in
    tried_no _ _ c.args.p.number c.args.q.number _ _ (sound_rows m.ours.table.now) (sound_rows m.theirs.table.now) c.requires.settled c.push.ensures.added
    c.loop-h.h (pairs n) c.loop-h.invariant.wave (pairs o) (pairs c.truncate.new.self) (matched_too m n s) (omega arith)
    (along m n s (λ A B. Settles A B c.loop-h.h (pairs n) (pairs o) false) c.if-not-settle.ensures.settles)
    (subst (λ (k : ℕ). Cut (pairs o) k (pairs c.truncate.new.self)) c.count-base.ensures.value c.truncate.ensures.cut)

pub loop-h-preserved : goal.loop-h-preserved
loop-h-preserved c =
    let m = c.args.self.now in
    let n = c.loop-h.self in
    let o = c.settle.new.self in
    let s = c.loop-h.invariant.nets in
    record {
      nets = same_trans m n o s c.settle.ensures.nets;
      wave = wave_more _ _ c.args.p.number c.args.q.number _ _ (sound_rows m.ours.table.now) (sound_rows m.theirs.table.now) c.requires.settled c.push.ensures.added
          c.loop-h.h (pairs n) c.loop-h.invariant.wave (pairs o) (omega arith)
          (along m n s (λ A B. Settles A B c.loop-h.h (pairs n) (pairs o) true) c.if-not-settle.ensures.settles);
    }

pub returns-clause-tried : goal.returns-clause-tried
returns-clause-tried c =
    let m = c.args.self.now in
    let n = c.loop-h.self in
    tried_yes _ _ c.args.p.number c.args.q.number _ _ (sound_rows m.ours.table.now) (sound_rows m.theirs.table.now) c.requires.settled c.push.ensures.added
    c.loop-h.h (pairs n) c.loop-h.invariant.wave (matched_too m n c.loop-h.invariant.nets) (omega arith)
