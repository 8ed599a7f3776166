use Rattle.std.proofs.Common.{◌≡◌, ◌∷◌, [], ◌++◌, ◌&&◌, ◌==◌, Decides, map, vec_items, sym, refl, ap, ◌∙◌, subst, arith}
use Rattle.std.specs.List.{ContainsAt as Has, IsAnyAnswer}
use Rattle.std.specs.Str.{bytes_eq}
use Rattle.std.proofs.lemmas.List.{length-map, map_push}
use Rattle.std.proofs.lemmas.Bool.{both_ways}
use Rattle.terms.specs.Spelling.{spelled, Apart}
use Rattle.terms.specs.Listing.{listed}
use Rattle.terms.proofs.Listings.{apart_more, has_decides}
use Rattle.terms.proofs.items.Items.add.Goals as goal
use Rattle.terms.proofs.items.Items.add.Goals.{After-contains}

-- whether the item is listed
decided : (c : After-contains) → Decides c.contains.result (Has (listed c.args.self.now) (spelled c.in_ok-new.new))
decided c =
    has_decides (vec_items c.args.self.now.items) c.in_ok-new.new c.contains.result
    (subst (λ xs. IsAnyAnswer (λ y b. (bytes_eq y.letters c.in_ok-new.new.letters && (y.len == c.in_ok-new.new.len)) ≡ b) xs c.contains.result) c.deref.ensures.value c.contains.ensures.cases)

pub returns-then-contains : goal.returns-then-contains
returns-then-contains c = ((c.in_ok-new.ensures.0, subst (Has (listed c.args.self.now)) c.in_ok-new.ensures.1 ((decided (goal.at.returns-then-contains c).After-contains).0 c.if-contains.true), refl), refl)

pub returns-then-len-ge63 : goal.returns-then-len-ge63
returns-then-len-ge63 c =
    let e = length-map (vec_items c.args.self.now.items) spelled in
    ((c.in_ok-new.ensures.0, (λ h. both_ways _ c.if-contains.false ((decided (goal.at.returns-then-len-ge63 c).After-contains).1 (subst (Has (listed c.args.self.now)) (sym c.in_ok-new.ensures.1) h))), omega arith), refl)

pub invariant_of-self : goal.invariant_of-self
invariant_of-self c =
    let xs = vec_items c.args.self.now.items in
    record {
      room = omega (arith, c.args.self.now.room, c.push_reserved.ensures.capacity);
      short = omega (arith, c.push_reserved.ensures.len);
      apart = subst Apart (sym c.push_reserved.ensures.items) (apart_more xs c.in_ok-new.new c.args.self.now.apart (λ h. both_ways _ c.if-contains.false ((decided (goal.at.invariant_of-self c).After-contains).1 h)));
    }

pub returns : goal.returns
returns c =
    let xs = vec_items c.args.self.now.items in
    let x = c.in_ok-new.new in
    let e = length-map xs spelled in
    let is : spelled x ≡ c.args.item.now = c.in_ok-new.ensures.1 in (
      c.in_ok-new.ensures.0,
      (λ h. both_ways _ c.if-contains.false ((decided (goal.at.returns c).After-contains).1 (subst (Has (listed c.args.self.now)) (sym is) h))),
      omega arith,
      ap (map spelled) c.push_reserved.ensures.items ∙ map_push spelled xs x ∙ ap (λ w. map spelled xs ++ w ∷ []) is,
    )
