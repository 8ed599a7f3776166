use Rattle.std.proofs.Common.{◌≡◌, ℕ, Bool, true, false, not, eqb, List, ◌++◌, length, Some, None, Option, sym, refl, ap, ◌∙◌, ap₂, subst, arith}
use Rattle.std.specs.Option.{option_eq}
use Rattle.calculus.specs.Spots.{port}
use Rattle.nets.specs.Meaning.{net}
use Rattle.pairs.specs.Gathering.{neighbours, Across}
use Rattle.pairs.proofs.Meeting.{right_across}
use Rattle.pairs.proofs.Formings.{formed_by}
use Rattle.pairs.proofs.rewrite.rewrite_pair.Goals as goal

other_some : (o : Option ℕ) (x : ℕ) → true ≡ not (option_eq eqb o (Some x)) → o ≡ Some x → ⊥
other_some None x e f = cc
other_some (Some y) x e f =
    let z : y ≡ x = cc in
    let b : eqb y x ≡ true = grind (arith) in
    let n : true ≡ false = e ∙ ap not b in
    cc

pub returns-then-ne-clause-due : goal.returns-then-ne-clause-due
returns-then-ne-clause-due g c =
    let K = g.B.Book.meaning c.args.book.now in
    let A = net c.args.table.now in
    let o = c.cell_across.result in (
      (λ P at R.
          other_some o c.args.right c.if-ne.ensures
          (right_across K A P R.active o (subst (λ (r : ℕ). Across A (port r 0) o) (sym at.0) c.cell_across.ensures) ∙ ap (λ (v : ℕ). Some v) at.1)),
      refl,
    )

pub unwrap-requires : goal.unwrap-requires
unwrap-requires g c = c.try_extend_from_slice.ensures.variant.1 (omega (arith, c.neighbours-cells.ensures.few, c.deref.ensures.1, ap length c.deref.ensures.0))

pub returns-clause-forms : goal.returns-clause-forms
returns-clause-forms g c =
    let K = g.B.Book.meaning c.args.book.now in
    let s = c.args.table.now in
    let more = rw c.unwrap.ensures at c.try_extend_from_slice.ensures.ok in
    λ ofb P at act.
    formed_by K (g.met.B.Book.lawful c.args.book.now) s c.rewrite_pair.new.self P c.in_ok-places.places.items ofb (c.in_ok-places.ensures.rewrites ofb P at act)
    c.deref-2.result.now c.deref-2.ensures.1
    (c.deref-2.ensures.0 ∙ more ∙ ap₂ (λ (a b : List ℕ). a ++ b) (c.neighbours-cells.ensures.which ∙ ap₂ (neighbours (net s)) (sym at.0) (sym at.1)) c.deref.ensures.0)
    c.gather.result.items c.gather.ensures
