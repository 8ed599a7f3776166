use Rattle.std.proofs.Common.{◌≡◌, ℕ, vec_items, inl, inr, arith}
use Rattle.nets.proofs.Filling.{done_more, done_all}
use Rattle.nets.proofs.seats.fill.Goals as goal

long : {l n : ℕ} → n ≡ l → n ≡ 1024 → l ≡ 1024
long e f = omega arith

pub loop-cell-preserved : goal.loop-cell-preserved
loop-cell-preserved c =
    done_more c.args.new.now c.loop-cell.cell-iterator.a.rest.now c.args.places.now c.loop-cell.cell-iterator.b.rest.now
    (vec_items c.args.cells.now) (vec_items c.loop-cell.cells) c.loop-cell.invariant c.requires.places
    (long c.args.cells.now.ok.0 c.requires.long) c.in-Some.cell.now c.next.new.self.a.rest.now c.in-Some.place.now c.next.new.self.b.rest.now
    c.in-Some.ensures.steps.0 c.in-Some.ensures.steps.1

pub returns : goal.returns
returns c =
    done_all c.args.new.now c.loop-cell.cell-iterator.a.rest.now c.args.places.now c.loop-cell.cell-iterator.b.rest.now
    (vec_items c.args.cells.now) (vec_items c.loop-cell.cells) c.loop-cell.invariant c.requires.places (long c.args.cells.now.ok.0 c.requires.long)
    c.requires.paired
    (elim c.in-None.ensures.steps [ inl t ↦ inl t.1.0 | inr t ↦ inr t.1.0 ])
