use Rattle.std.proofs.Common.{[], rules, ◌+◌, take, sym, ap, ◌∙◌, subst}
use Rattle.arrayvec.specs.ArrayVec.{ArrayVec}
use Rattle.strategies.specs.declared.pair.Pair.{Pair as Waiting}
use Rattle.nets.specs.Meaning.{net}
use Rattle.pairs.specs.Gathering.{Gathered}
use Rattle.pairs.proofs.Gathers.{gathered_none, gathered_some, room}
use Rattle.pairs.proofs.gather.gather.Goals as goal
use Rattle.pairs.proofs.gather.gather.Goals.{in-Some, in_default}

-- none of no places
pub loop-place-init : goal.loop-place-init
loop-place-init g c = λ _ _. record { pairs = []; order = record { each = search rules; all = search rules; rising = search rules }; same = c.new-found.ensures }

pub loop-place-preserved : goal.loop-place-preserved
loop-place-preserved g c = λ G O.
    let K = g.B.Book.meaning c.args.book.now in
    let laws = g.met.B.Book.lawful c.args.book.now in
    let A = net c.args.table.now in
    let cs = c.args.places.now in
    let i = c.loop-place.place-index in
    let ps = c.loop-place.found.items in
    let D = c.loop-place.invariant G O in
    elim c.match-led_by.branch [
      | in-Some w ↦
          (let F = w.in-Some.ensures G in
          let r = room K laws A G cs i c.loop-place-test.true ps D O w.in-Some.pair F in
          subst (Gathered K A (take (c.loop-place.place-index + 1) cs)) (sym (ap (λ (v : ArrayVec Waiting). v.items) w.found-is ∙ w.insert.ensures r)) (gathered_some K laws A G cs i c.loop-place-test.true ps D O w.in-Some.pair F))
      | in_default w ↦
          subst (λ (v : ArrayVec Waiting). Gathered K A (take (c.loop-place.place-index + 1) cs) v.items) (sym w.found-is)
          (gathered_none K laws A G cs i c.loop-place-test.true ps D (w.in_default.ensures G))
    ]
