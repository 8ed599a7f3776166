use Rattle.std.proofs.Common.{◌≡◌, ◌<◌, vec_items, sym, refl, ap, ◌∙◌}
use Rattle.nets.specs.Layout.{slots, slot_of, code, decode, goal as goal'}
use Rattle.nets.specs.Views.{at}
use Rattle.nets.specs.Drafts.{plan, planned}
use Rattle.nets.proofs.Standing.{code_small}
use Rattle.nets.proofs.Slots.{read}
use Rattle.nets.proofs.Plans.{planned_drawn, names_self, names_absent, not_back}
use Rattle.nets.proofs.draft.Draft.check_spot.Goals as goal
use Rattle.nets.proofs.draft.Draft.check_spot.Goals.{then-there-here-via-then-there-here, then-there-here-via-else-there-here+then-not-has, then-there-here-via-else-there-here+else-not-has+then-slot-here}

pub returns-then-there-here : goal.returns-then-there-here
returns-then-there-here c =
    let d = c.args.self.now in
    let x = at c.args.spot in
    let small : code x < slots = code_small x (planned_drawn d x c.requires) in
    let s : c.slot-here.result ≡ code x = c.slot-here.ensures ∙ c.link.ensures in
    let t : c.slot-there.result ≡ goal' (vec_items d.links.targets) (code x) =
    c.slot-there.ensures ∙ ap slot_of (read d.links c.slot-here.result (code x) c.index-mate.result.now s small c.index-mate.ensures) in
    elim c.then-there-here.branch [
      | then-there-here-via-then-there-here w ↦ (refl, names_self d x c.requires (sym t ∙ w.if-there-here.true ∙ s))
      | then-there-here-via-else-there-here+then-not-has w ↦
          (let m = read d.links c.slot-here.result (code x) c.index-mate.result.now s small c.index-mate.ensures in
          (refl, names_absent d x c.requires (ap (planned (plan d)) (sym (w.spot.ensures ∙ ap decode (ap slot_of m))) ∙ sym w.has.ensures ∙ w.if-not-has.true)))
      | then-there-here-via-else-there-here+else-not-has+then-slot-here w ↦
          (let m = read d.links c.slot-there.result (goal' (vec_items d.links.targets) (code x)) w.index.result.now t (d.links.inside (code x) small) w.index.ensures in
          (refl, not_back d x c.requires (λ e. w.if-slot-here.true (w.slot.ensures ∙ ap slot_of m ∙ e ∙ sym s))))
    ]
