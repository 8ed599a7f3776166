use Rattle.std.proofs.Common.{[], ◌∷◌, ◌++◌, refl, ap, ◌∙◌, subst, arith}
use Rattle.terms.specs.Walking.{reading, due}
use Rattle.compile.specs.Building.{BuiltTo}
use Rattle.compile.proofs.Layouts.{newest}
use Rattle.compile.proofs.Steps.{renamed, builds_function}
use Rattle.compile.proofs.builder.Builder.enter_function.Goals as goal

pub returns : goal.returns
returns c =
    let b = c.args.self.now in
    let (z, (es, f, a, zs, is), (T, reads, w)) = c.requires in
    let next = builds_function reads (subst (BuiltTo T b) is w) c.place_cell.ensures in
    record {
      same = refl;
      on = omega arith;
      comes = (reading es f (due es a ∷ zs), tt, (T, reads, renamed next refl refl refl refl refl (c.push.ensures.items ∙ ap (λ n. b.opened.items ++ newest n b.cells ∷ []) c.len.ensures.value)));
    }
