use Rattle.std.proofs.Common.{◌≡◌, ◌-◌, ◌∷◌, length, take, Some, slice_get, option_copied, sym, refl, ap, ◌∙◌, subst, arith}
use Rattle.std.proofs.lemmas.List.{length-map}
use Rattle.calculus.specs.Spots.{port}
use Rattle.terms.specs.Walking.{reading, shut}
use Rattle.compile.specs.Building.{BuiltTo, saved}
use Rattle.compile.proofs.Layouts.{number_at}
use Rattle.compile.proofs.Steps.{renamed, builds_argument}
use Rattle.compile.proofs.builder.Builder.enter_argument.Goals as goal

pub returns : goal.returns
returns c =
    let b = c.args.self.now in
    let o = c.unwrap-last.result.now in
    let (z, (es, a, zs, is), (T, reads, w)) = c.requires in
    let next = builds_argument reads (subst (BuiltTo T b) is w) in
    let os = b.opened.items in
    let seen : slice_get os (length os - 1) ≡ Some o =
    sym (subst (λ xs. option_copied (Some c.unwrap-last.result) ≡ slice_get xs (length xs - 1)) c.deref.ensures.0 (subst (λ r. option_copied r ≡ slice_get c.deref.result.now (length c.deref.result.now - 1)) c.unwrap-last.ensures c.last.ensures.value)) in
    let last : slice_get os (length (saved os) - 1) ≡ Some o = ap (λ n. slice_get os (n - 1)) (length-map os (λ p. p.around)) ∙ seen in
    let around = number_at (λ p. p.around) os _ o last in
    record {
      same = refl;
      on = omega arith;
      comes = (
        reading es a (shut es ∷ zs),
        tt,
        (
          T,
          reads,
          renamed next refl refl (ap (λ k. port k 2) (sym (number_at (λ p. p.cell) os _ o last)))
              (c.truncate.ensures.items ∙ ap (λ k. take k b.around.items) (sym around)) (c.truncate-2.ensures.items ∙ ap (λ k. take k b.binders.items) (sym around)) refl,
        ),
      );
    }
