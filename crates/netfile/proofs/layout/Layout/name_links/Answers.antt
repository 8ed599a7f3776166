use Rattle.std.proofs.Common.{sym, ap, ◌∙◌, inl, inr, arith}
use Rattle.std.proofs.lemmas.Bool.{cases_eq}
use Rattle.netfile.specs.Passes.{nth_spot}
use Rattle.netfile.proofs.Walk.{number, nth_number, number_below, cases_nameable, due_nameable}
use Rattle.netfile.proofs.Built.{naming_wider, naming_then}
use Rattle.netfile.proofs.layout.Layout.name_links.Goals as goal

pub loop-i-preserved : goal.loop-i-preserved
loop-i-preserved g c =
    let f = c.self.inside.file in
    let named = rw (← c.self.view_is) at c.loop-i.invariant in
    let one = rw (← c.self.view_is) at c.name_link.ensures in
    rw (← c.self.view_is)
    (naming_then (g.B.Book.meaning f.book.now) _ named one
    (λ x h.
    elim (cases_eq h.0 c.loop-i.i) [
      | inl e ↦ inr (h.2 ∙ ap (nth_spot f.head.ends) e ∙ sym c.spot.ensures)
      | inr n ↦ inl (h.0, omega (arith, h.1), h.2)
    ]))

pub returns : goal.returns
returns g c =
    let f = c.self.inside.file in
    let K = g.B.Book.meaning f.book.now in
    let e = f.head.ends in
    let n = f.head.cells in
    let named = rw (← c.self.view_is) at c.loop-i.invariant in
    rw (← c.self.view_is)
    (naming_wider K _ named
    (λ x _.
    elim (cases_nameable e n x) [
      | inl there ↦ inl (number e x, omega (arith, number_below e n x there, c.spots-i-end.ensures), sym (nth_number e n x there))
      | inr none ↦ inr (λ w due. none (due_nameable K (g.met.B.Book.lawful f.book.now) f.bytes.now e n x w due))
    ]))
