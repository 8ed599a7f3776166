use Rattle.std.proofs.Common.{refl, subst, arith}
use Rattle.terms.specs.Walking.{between}
use Rattle.compile.specs.Building.{BuiltTo}
use Rattle.compile.proofs.Steps.{renamed, builds_close}
use Rattle.compile.proofs.builder.Builder.leave.Goals as goal

pub returns : goal.returns
returns c =
    let b = c.args.self.now in
    let (z, (es, zs, is), (T, reads, w)) = c.requires in
    let next = builds_close reads (subst (BuiltTo T b) is w) in
    record { same = refl; on = omega arith; comes = (between zs, tt, (T, reads, renamed next refl refl refl refl refl c.pop.ensures.rest)) }
