use Rattle.std.proofs.Common.{◌*◌, ◌+◌, true, false, sym, refl, ap, ◌∙◌, subst, rules, arith}
use Rattle.std.proofs.lemmas.Bool.{true≢false}
use Rattle.pairing.specs.Graph.{Graph}
use Rattle.pairing.proofs.Pairs.{Settled, Tried}
use Rattle.pairing.proofs.Steps.{Sought, sought_more, placed_yes, placed_no, refutes_kind, refutes_theirs, free_still, grown_refl, found_some}
use Rattle.alike.specs.declared.Pairing.{Pairing}
use Rattle.alike.specs.Pairings.{pairs, SameNets}
use Rattle.alike.specs.Sides.{graph_of}
use Rattle.alike.proofs.Graphs.{within}
use Rattle.alike.proofs.Pairings.{along, along_back, matched_too, same_trans}
use Rattle.alike.proofs.Pairing.place.Goals as goal
use Rattle.alike.proofs.Pairing.place.Goals.{else-is_none-via-then-is_none+then-is_of+else-attempt, else-is_none-via-then-is_none+else-is_of, else-is_none-via-else-is_none}

pub attempt-requires-clause-settled : goal.attempt-requires-clause-settled
attempt-requires-clause-settled c =
    let n = c.loop-q.self in
    along_back c.args.self.now n c.loop-q.invariant.nets (λ A B. Settled A B (3 * (pairs n).count) (pairs n)) c.loop-q.invariant.sought.settled

pub returns-then-attempt-clause-placed : goal.returns-then-attempt-clause-placed
returns-then-attempt-clause-placed c =
    let m = c.args.self.now in
    let n = c.loop-q.self in
    placed_yes _ _ c.args.p.number (pairs m) c.loop-q.q (pairs n) c.loop-q.invariant.sought (pairs c.attempt.new.self)
    (along m n c.loop-q.invariant.nets (λ A B. Tried A B c.args.p.number c.loop-q.q (pairs n) (pairs c.attempt.new.self) true) c.if-attempt.ensures.tried)

pub loop-q-preserved : goal.loop-q-preserved
loop-q-preserved c =
    let m = c.args.self.now in
    let n = c.loop-q.self in
    let p = c.args.p.number in
    let q = c.loop-q.q in
    let A = graph_of m.ours in
    let B = graph_of m.theirs in
    let s = c.loop-q.invariant.nets in
    let so = c.loop-q.invariant.sought in
    let ok = matched_too m n s in
    let live = c.requires.loose.live in
    let free = free_still A B p (pairs m) q (pairs n) so c.requires.loose.free in
    let next = sought_more A B p (pairs m) q (pairs n) so in
    let S : Pairing → Type 0 = λ z. record { nets : SameNets m z; sought : Sought A B p (pairs m) (q + 1) (pairs z) } in
    elim c.else-is_none.branch [
      | else-is_none-via-then-is_none+then-is_of+else-attempt w ↦
          let o = w.attempt.new.self in
          let t = along m n s (λ A B. Tried A B p q (pairs n) (pairs o) false) w.if-attempt.ensures.tried in
          let u = t.no refl in
          subst S (sym w.self-is) (record { nets = same_trans m n o s w.attempt.ensures.nets; sought = next (pairs o) t.settled t.grown u.0 u.1 })
      | else-is_none-via-then-is_none+else-is_of w ↦
          subst S (sym w.self-is) (record {
            nets = s;
            sought = next (pairs n) so.settled (grown_refl (pairs n)) refl
                (refutes_kind A B (pairs n) p q ok live (λ e. true≢false (sym (w.is_of.ensures.1 (ap (λ (G : Graph). G.kind q) s.1 ∙ sym e ∙ sym c.kind-wanted.ensures.number)) ∙ w.if-is_of.false)));
          })
      | else-is_none-via-else-is_none w ↦
          let k = found_some _ _ q c.find.result (search rules) c.find.ensures in
          subst S (sym w.self-is) (record {
            nets = s;
            sought = next (pairs n) so.settled (grown_refl (pairs n)) refl (refutes_theirs A B (pairs n) p q ok live k.0 (let e = n.even in omega arith, k.2) free);
          })
    ]

pub returns-clause-placed : goal.returns-clause-placed
returns-clause-placed c =
    let m = c.args.self.now in
    placed_no 1094 _ _ _ _ c.loop-q.q _ (within m.theirs.table.now) c.requires.loose.live (omega arith) c.loop-q.invariant.sought
