use Rattle.std.proofs.Common.{◌<◌, ◌≢◌, length, sym, refl, ◌∙◌, arith, get_or-set_other, get_or-set_same, below_more}
use Rattle.std.proofs.lemmas.List.{length-set}
use Rattle.nets.specs.Meaning.{net, cells_below}
use Rattle.netfile.proofs.Ranks.{below_le, count_some, count_none}
use Rattle.netfile.proofs.numbering.Numbering.new.Goals as goal
use Rattle.netfile.proofs.numbering.Numbering.new.Goals.{then-is_some, else-is_some}

pub loop-place-init : goal.loop-place-init
unfolding cells_below
loop-place-init c = record { count = refl; numbered = λ r h. absurd (omega arith); all = refl }

pub overflow_add-count : goal.overflow_add-count
overflow_add-count c = omega (arith, c.loop-place.invariant.count, c.loop-place.invariant.all, below_le (net c.args.table.now) c.loop-place.place)

pub loop-place-preserved : goal.loop-place-preserved
loop-place-preserved c =
    let A = net c.args.table.now in
    let n = c.loop-place.place in
    let inv = c.loop-place.invariant in
    let lt : n < length c.loop-place.number-items = omega arith in
    record {
      count = elim c.if-is_some.branch [
        | then-is_some w ↦ w.count-is ∙ count_some A n _ _ inv.count c.kind.ensures (sym w.if-is_some.ensures)
        | else-is_some w ↦ w.count-is ∙ count_none A n _ _ inv.count c.kind.ensures (sym w.if-is_some.ensures)
      ];
      numbered = below_more _ _
          (λ k h. let ne : k ≢ n = omega arith in rw get_or-set_other (inv.numbered k h))
          (rw get_or-set_same inv.count);
      all = length-set c.loop-place.number-items n c.loop-place.count ∙ inv.all;
    }
