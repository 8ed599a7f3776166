use Rattle.std.proofs.Common.{◌≡◌, ◌+◌, ◌≢◌, true, length, refl, ap, sym, ◌∙◌, subst, arith}
use Rattle.std.proofs.lemmas.List.{length_push}
use Rattle.calculus.specs.Spots.{end}
use Rattle.nets.specs.Drafts.{plan, planned}
use Rattle.nets.specs.Views.{at}
use Rattle.terms.specs.Listing.{listed, Added}
use Rattle.terms.specs.Walking.{between}
use Rattle.terms.proofs.Fronts.{item_at}
use Rattle.compile.specs.Building.{BuiltTo}
use Rattle.compile.specs.Linking.{Linked}
use Rattle.compile.proofs.Steps.{renamed, item_added, item_there, item_apart, builds_item}
use Rattle.compile.proofs.builder.Builder.pass_item.Goals as goal

pub unwrap-requires : goal.unwrap-requires
unwrap-requires c =
    let b = c.args.self.now in
    let (z, (es, n, zs, is), (T, reads, w)) = c.requires in
    let v = subst (BuiltTo T b) is w in
    let word = c.word_at-item.ensures.word n (item_at b.text.now b.at es n zs v.stands) in
    let added = subst (λ m. Added b.items m c.add.result c.add.new.self) word c.add.ensures in
    (item_added reads v b.items c.add.new.self c.add.result refl added).0

pub link-requires : goal.link-requires
link-requires c =
    let b = c.args.self.now in
    let (z, (es, n, zs, is), (T, reads, w)) = c.requires in
    let v = subst (BuiltTo T b) is w in
    let word = c.word_at-item.ensures.word n (item_at b.text.now b.at es n zs v.stands) in
    let added = subst (λ m. Added b.items m c.add.result c.add.new.self) word c.add.ensures in
    let more = (item_added reads v b.items c.add.new.self c.add.result refl added).1 in
    let size : c.len-number.result ≡ length (listed b.items) + 1 = c.len-number.ensures ∙ ap length more ∙ length_push (listed b.items) n in
    record {
      there = (v.ready, subst (λ k. planned (plan b.draft) (end k) ≡ true) (sym size) (item_there reads v));
      apart = subst (λ k. at b.spot ≢ end k) (sym size) (item_apart reads v);
    }

pub returns : goal.returns
returns c =
    let b = c.args.self.now in
    let (z, (es, n, zs, is), (T, reads, w)) = c.requires in
    let v = subst (BuiltTo T b) is w in
    let stands = item_at b.text.now b.at es n zs v.stands in
    let word = c.word_at-item.ensures.word n stands in
    let added = subst (λ m. Added b.items m c.add.result c.add.new.self) word c.add.ensures in
    let more = (item_added reads v b.items c.add.new.self c.add.result refl added).1 in
    let size : c.len-number.result ≡ length (listed b.items) + 1 = c.len-number.ensures ∙ ap length more ∙ length_push (listed b.items) n in
    let linked = subst (λ k. Linked (plan b.draft) (at b.spot) (end k) (plan c.link.new.draft)) size c.link.ensures in
    let long = ap length word in
    let next = builds_item reads v linked in
    record { same = refl; on = omega (arith, stands.word.some); comes = (between zs, tt, (T, reads, renamed next (ap (λ m. b.at + length m) word) more refl refl refl refl)) }
