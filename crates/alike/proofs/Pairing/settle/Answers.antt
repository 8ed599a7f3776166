use Rattle.std.proofs.Common.{false, sym, refl, ap, ◌∙◌, subst, arith}
use Rattle.pairing.proofs.Pairs.{Meets, Settles}
use Rattle.pairing.proofs.Steps.{turn_none, turn_more, stuck_slot, stuck_meet, settles_yes, settles_no}
use Rattle.alike.specs.declared.Pairing.{Pairing}
use Rattle.alike.specs.Pairings.{pairs, SameNets}
use Rattle.alike.specs.Sides.{graph_of}
use Rattle.alike.proofs.Graphs.{sound_rows}
use Rattle.alike.proofs.Pairings.{matched, along, same_trans, row_then, slot_then}
use Rattle.alike.proofs.Pairing.settle.Goals as goal
use Rattle.alike.proofs.Pairing.settle.Goals.{then-x-y-via-then-x-y, then-x-y-via-else-x-y+then-not-meet}

pub loop-number-init : goal.loop-number-init
loop-number-init c = record { nets = (refl, refl); turn = turn_none _ _ _ _ c.requires.settled }

pub meet-requires : goal.meet-requires
meet-requires c =
    let m = c.args.self.now in
    let s = c.loop-number.invariant.nets in
    let x = row_then _ _ s.0 _ _ _ c.link-x.ensures.row c.row-p.ensures in
    λ e. (sound_rows m.ours.table.now).there ((pairs m).ours c.args.h) c.loop-number.number (m.live c.args.h c.requires.below) (omega arith)
    (ap (graph_of m.ours).kind (sym x) ∙ ap (λ (A : _). A.kind c.link-x.result.row.number) (sym s.0) ∙ e)

pub returns-then-x-y : goal.returns-then-x-y
returns-then-x-y c =
    let m = c.args.self.now in
    let n = c.loop-number.self in
    let s = c.loop-number.invariant.nets in
    let t = c.loop-number.invariant.turn in
    let P : Pairing → Type 0 = λ z. record { settles : Settles (graph_of m.ours) (graph_of m.theirs) c.args.h (pairs m) (pairs z) false; nets : SameNets m z } in
    elim c.then-x-y.branch [
      | then-x-y-via-then-x-y w ↦
          let x = slot_then _ _ s.0 _ _ _ c.link-x.ensures.number c.row-p.ensures in
          let y = slot_then _ _ s.1 _ _ _ c.link-y.ensures.number c.row-q.ensures in
          subst P (sym w.self-is) (record {
            settles = settles_no _ _ _ c.loop-number.number _ _ _ refl t
                (stuck_slot _ _ _ c.loop-number.number _ _ (matched m) c.requires.below (omega arith) t (λ e. w.if-x-y.true (x ∙ e ∙ sym y)));
            nets = s;
          })
      | then-x-y-via-else-x-y+then-not-meet w ↦
          let o = w.meet.new.self in
          let x = row_then _ _ s.0 _ _ _ c.link-x.ensures.row c.row-p.ensures in
          let y = row_then _ _ s.1 _ _ _ c.link-y.ensures.row c.row-q.ensures in
          let u = (along m n s (λ A B. Meets A B (pairs n) (pairs o) c.link-x.result.row.number c.link-y.result.row.number false) w.if-not-meet.ensures.meets).no refl in
          subst P (sym w.self-is) (record {
            settles = settles_no _ _ _ c.loop-number.number _ _ _ u.0 t
                (stuck_meet _ _ _ c.loop-number.number _ _ (matched m) c.requires.below (omega arith) t (λ f g i h e. u.1 f g i h (ap f x ∙ e ∙ sym y)));
            nets = same_trans m n o s w.meet.ensures.nets;
          })
    ]

pub loop-number-preserved : goal.loop-number-preserved
loop-number-preserved c =
    let m = c.args.self.now in
    let n = c.loop-number.self in
    let s = c.loop-number.invariant.nets in
    let x = row_then _ _ s.0 _ _ _ c.link-x.ensures.row c.row-p.ensures in
    let y = row_then _ _ s.1 _ _ _ c.link-y.ensures.row c.row-q.ensures in
    let i = slot_then _ _ s.0 _ _ _ c.link-x.ensures.number c.row-p.ensures in
    let j = slot_then _ _ s.1 _ _ _ c.link-y.ensures.number c.row-q.ensures in
    record {
      nets = same_trans m n c.meet.new.self s c.meet.ensures.nets;
      turn = turn_more _ _ _ c.loop-number.number _ _ (matched m) c.requires.below (omega arith) c.loop-number.invariant.turn _ (sym i ∙ c.if-x-y.false ∙ j)
          (simp (sym x, sym y) (c.meet.ensures.meets.yes c.if-not-meet.false));
    }

pub returns-clause-settles : goal.returns-clause-settles
returns-clause-settles c = settles_yes _ _ _ c.loop-number.number _ _ (omega arith) c.loop-number.invariant.turn
