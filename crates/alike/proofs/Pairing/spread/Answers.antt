use Rattle.std.proofs.Common.{◌*◌, ◌+◌, true, false, sym, ap, ◌∙◌, subst, arith}
use Rattle.pairing.specs.Graph.{Graph}
use Rattle.pairing.proofs.Pairs.{Settled, Placed}
use Rattle.pairing.proofs.Steps.{Laid, laid_more, laid_placed, spread_no, spread_yes}
use Rattle.alike.specs.declared.Pairing.{Pairing}
use Rattle.alike.specs.Pairings.{pairs, SameNets}
use Rattle.alike.specs.Sides.{graph_of}
use Rattle.alike.proofs.Graphs.{within}
use Rattle.alike.proofs.Pairings.{along, along_back, same_trans}
use Rattle.alike.proofs.Pairing.spread.Goals as goal
use Rattle.alike.proofs.Pairing.spread.Goals.{else-is_loose-via-then-is_loose+else-not-place, else-is_loose-via-else-is_loose}

pub place-requires-clause-settled : goal.place-requires-clause-settled
place-requires-clause-settled c =
    let n = c.loop-p.self in
    along_back c.args.self.now n c.loop-p.invariant.nets (λ A B. Settled A B (3 * (pairs n).count) (pairs n)) c.loop-p.invariant.laid.settled

pub returns-then-not-place-clause-spread : goal.returns-then-not-place-clause-spread
returns-then-not-place-clause-spread c =
    let n = c.loop-p.self in
    spread_no _ _ c.loop-p.p (pairs n) c.loop-p.invariant.laid (pairs c.place.new.self)
    (along c.args.self.now n c.loop-p.invariant.nets (λ A B. Placed A B c.loop-p.p (pairs n) (pairs c.place.new.self) false) c.if-not-place.ensures.placed)

pub loop-p-preserved : goal.loop-p-preserved
loop-p-preserved c =
    let m = c.args.self.now in
    let n = c.loop-p.self in
    let p = c.loop-p.p in
    let A = graph_of m.ours in
    let B = graph_of m.theirs in
    let s = c.loop-p.invariant.nets in
    let l = c.loop-p.invariant.laid in
    let S : Pairing → Type 0 = λ z. record { nets : SameNets m z; laid : Laid A B (p + 1) (pairs z) } in
    elim c.else-is_loose.branch [
      | else-is_loose-via-then-is_loose+else-not-place w ↦
          let o = w.place.new.self in
          subst S (sym w.self-is) (record {
            nets = same_trans m n o s w.place.ensures.nets;
            laid = laid_placed A B p (pairs n) l (pairs o) (along m n s (λ A B. Placed A B p (pairs n) (pairs o) true) w.if-not-place.ensures.placed);
          })
      | else-is_loose-via-else-is_loose w ↦
          subst S (sym w.self-is) (record { nets = s; laid = laid_more A B p (pairs n) l (λ h. c.is_loose.ensures.no w.if-is_loose.false (λ e. h (ap (λ (G : Graph). G.kind p) (sym s.0) ∙ e))) })
    ]

pub returns-clause-spread : goal.returns-clause-spread
returns-clause-spread c = spread_yes 1094 _ _ c.loop-p.p _ (within c.args.self.now.ours.table.now) (omega arith) c.loop-p.invariant.laid
