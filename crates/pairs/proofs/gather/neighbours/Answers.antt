use Rattle.std.proofs.Common.{ℕ, ◌≡◌, ◌+◌, length, Option, Some, None, List, [], ◌∷◌, ◌++◌, sym, ap, ◌∙◌, append-nil, arith}
use Rattle.arrayvec.specs.ArrayVec.{ArrayVec}
use Rattle.nets.specs.declared.spot.Spot.TheVariants.{End}
use Rattle.nets.specs.Meaning.{net}
use Rattle.pairs.proofs.Near.{seen_more}
use Rattle.pairs.proofs.gather.neighbours.Goals as goal
use Rattle.pairs.proofs.gather.neighbours.Goals.{in-Some, in_default}

pub loop-port-preserved : goal.loop-port-preserved
loop-port-preserved c =
    let more = λ (o : Option ℕ). seen_more (net c.args.table.now) c.args.left c.args.right c.loop-port.port-index (End 0) o (omega arith) in
    elim c.match-cell_across.branch [
      | in-Some w ↦
          (let e : length c.match-cell_across.cells.items ≡ length c.loop-port.cells.items + 1 = ap (λ (v : ArrayVec ℕ). length v.items) w.cells-is ∙ w.push.ensures.len in record {
            so_far = ap (λ (v : ArrayVec ℕ). v.items) w.cells-is ∙ w.push.ensures.items ∙ ap (λ (l : List ℕ). l ++ w.in-Some.cell ∷ []) c.loop-port.invariant.so_far
                ∙ more (Some w.in-Some.cell) w.in-Some.ensures;
            few = omega (arith, c.loop-port.invariant.few);
          })
      | in_default w ↦
          (let e : length c.match-cell_across.cells.items ≡ length c.loop-port.cells.items = ap (λ (v : ArrayVec ℕ). length v.items) w.cells-is in record {
            so_far = ap (λ (v : ArrayVec ℕ). v.items) w.cells-is ∙ c.loop-port.invariant.so_far ∙ sym (append-nil _) ∙ more None w.in_default.ensures;
            few = omega (arith, c.loop-port.invariant.few);
          })
    ]
