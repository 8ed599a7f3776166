use Rattle.std.proofs.Common.{◌+◌, ◌≢◌, length, get_or, sym, refl, ap, subst, arith}
use Rattle.calculus.specs.Spots.{port}
use Rattle.nets.specs.Drafts.{plan}
use Rattle.nets.specs.Views.{at}
use Rattle.terms.specs.Scopes.{Found}
use Rattle.terms.specs.Walking.{between}
use Rattle.terms.proofs.Fronts.{bound_at}
use Rattle.compile.specs.Building.{BuiltTo}
use Rattle.compile.specs.Linking.{Linked}
use Rattle.compile.proofs.Steps.{renamed, name_found, name_some, name_apart, builds_name}
use Rattle.compile.proofs.builder.Builder.pass_name.Goals as goal

pub unwrap-i-requires : goal.unwrap-i-requires
unwrap-i-requires c =
    let b = c.args.self.now in
    let (z, (es, n, zs, is), (T, reads, w)) = c.requires in
    let v = subst (BuiltTo T b) is w in
    let name = c.word_at-name.ensures.word n (bound_at b.text.now b.at es n zs v.stands) in
    name_some reads v _ (name_found reads v _ name c.deref.ensures.0 c.find_scope.ensures.found)

pub link-requires-clause-apart : goal.link-requires-clause-apart
link-requires-clause-apart c =
    let b = c.args.self.now in
    let i = c.unwrap-i.result in
    let (z, (es, n, zs, is), (T, reads, w)) = c.requires in
    let v = subst (BuiltTo T b) is w in
    let name = c.word_at-name.ensures.word n (bound_at b.text.now b.at es n zs v.stands) in
    let found = name_found reads v _ name c.deref.ensures.0 c.find_scope.ensures.found in
    let here = subst (Found n (length b.around.items) es) c.unwrap-i.ensures found in
    subst (λ xs. at b.spot ≢ port (get_or xs i 0) 1) (sym c.deref-2.ensures.0) (name_apart reads v here)

pub returns : goal.returns
returns c =
    let b = c.args.self.now in
    let i = c.unwrap-i.result in
    let (z, (es, n, zs, is), (T, reads, w)) = c.requires in
    let v = subst (BuiltTo T b) is w in
    let word = bound_at b.text.now b.at es n zs v.stands in
    let name = c.word_at-name.ensures.word n word in
    let found = name_found reads v _ name c.deref.ensures.0 c.find_scope.ensures.found in
    let here = subst (Found n (length b.around.items) es) c.unwrap-i.ensures found in
    let linked = subst (λ xs. Linked (plan b.draft) (at b.spot) (port (get_or xs i 0) 1) (plan c.link.new.draft)) c.deref-2.ensures.0 c.link.ensures in
    let size = ap length name in
    let next = builds_name reads v here linked in
    record { same = refl; on = omega (arith, word.word.some); comes = (between zs, tt, (T, reads, renamed next (ap (λ m. b.at + length m) name) refl refl refl refl refl)) }
