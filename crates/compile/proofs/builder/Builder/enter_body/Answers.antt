use Rattle.std.proofs.Common.{◌≡◌, ◌+◌, ◌∷◌, length, refl, ap, subst, arith}
use Rattle.terms.specs.Walking.{reading}
use Rattle.terms.proofs.Fronts.{name_at}
use Rattle.compile.specs.Building.{BuiltTo}
use Rattle.compile.proofs.Steps.{renamed, builds_body}
use Rattle.compile.proofs.builder.Builder.enter_body.Goals as goal

pub returns : goal.returns
returns c =
    let b = c.args.self.now in
    let (z, (es, n, t, zs, is), (T, reads, w)) = c.requires in
    let v = subst (BuiltTo T b) is w in
    let name : c.word_at-name.result.now ≡ n = c.word_at-name.ensures.word n (name_at b.text.now b.at es n t zs v.stands) in
    let next = builds_body reads v c.place_cell.ensures in
    record {
      same = refl;
      on = omega arith;
      comes = (
        reading ((n, b.at + 1) ∷ es) t zs,
        tt,
        (T, reads, renamed next (ap (λ m. b.at + (length m + 2)) name) refl refl c.push.ensures.items c.push-2.ensures.items refl),
      );
    }
