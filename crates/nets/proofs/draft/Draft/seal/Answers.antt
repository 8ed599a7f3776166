use Rattle.std.proofs.Common.{refl}
use Rattle.std.proofs.lemmas.Result.{err_from_is_err_and}
use Rattle.nets.proofs.Sealing.{ports_few, names_standing, names_back, names_other, kinds_are, arities_are, links_are}
use Rattle.nets.proofs.draft.Draft.seal.Goals as goal

pub invariant_of-result : goal.invariant_of-result
invariant_of-result c =
    let d = c.args.self in
    let m = c.front.result in
    let F = c.front.ensures in
    let s = c.in_ok-check.ensures in
    record {
      every = d.every;
      ports = ports_few d m F;
      wide = F.0;
      few = d.few;
      counted = d.counted;
      standing = names_standing d m F s;
      back = names_back d m F s;
      other = names_other d m F s;
    }

pub returns : goal.returns
returns c =
    let d = c.args.self in
    let m = c.front.result in
    let F = c.front.ensures in
    (record { ends = refl; loops = refl; kinds = kinds_are d m F; arities = arities_are d m F; links = links_are d m F }, c.in_ok-check.ensures)

pub returns-in_err-check : goal.returns-in_err-check
returns-in_err-check c = let p = err_from_is_err_and c.from_residual.result c.from_residual.ensures.1 in rw (p.1, p.2) c.in_err-check.ensures
