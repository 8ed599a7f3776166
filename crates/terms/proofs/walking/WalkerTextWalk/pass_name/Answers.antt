use Rattle.std.proofs.Common.{rules, ◌≡◌, ℕ, ◌+◌, ◌<◌, ◌≤◌, List, length, get_or, IfSome, Option, sym, refl, ap, ◌∙◌, subst, arith}
use Rattle.std.specs.Option.{option_map}
use Rattle.terms.specs.Bindings.{Meaning, Around, meaning}
use Rattle.terms.specs.Tallying.{meant, Noted}
use Rattle.terms.specs.Scopes.{Surrounding, Found}
use Rattle.terms.specs.Walking.{between, Walk, Walks}
use Rattle.terms.proofs.Fronts.{bound_at}
use Rattle.terms.proofs.Scopes.{found_meant, found_inside}
use Rattle.terms.proofs.Walks.{walk_name}
use Rattle.terms.proofs.walking.WalkerTextWalk.pass_name.Goals as goal
use Rattle.terms.proofs.walking.WalkerTextWalk.pass_name.Goals.{After-map-binder}

-- the place of the name of the abstraction that is found
placed : (c : After-map-binder) → c.map-binder.result ≡ option_map (λ i. get_or c.args.self.now.around.items i 0) c.find_scope-scope.result
placed c = search rules

-- the abstractions around a bound name, and which of them the name is found to mean
around_here : (c : After-map-binder) → Surrounding c.args.self.now.text.now c.args.self.now.around.items (length c.args.self.now.around.items) c.requires.1.0
around_here c = (subst (λ z. Walks c.requires.2.0 c.args.self.now.at c.args.self.now z) c.requires.1.3 c.requires.2.3).held.0

found_here : (c : After-map-binder) → Found c.word_at-name.result.now (length c.args.self.now.around.items) c.requires.1.0 c.find_scope-scope.result
found_here c =
    let s = c.args.self.now in
    let find = subst (λ (xs : List ℕ). (es : Around) → Surrounding s.text.now xs (length xs) es → Found c.word_at-name.result.now (length xs) es c.find_scope-scope.result) c.deref.ensures.0 c.find_scope-scope.ensures.found in
    find c.requires.1.0 (around_here c)

pub note_name-requires : goal.note_name-requires
note_name-requires c =
    let s = c.args.self.now in
    let here = (goal.at.note_name-requires c).After-map-binder in
    subst (λ (r : Option ℕ). IfSome r (λ place. place < 8192)) (sym (placed here))
    (found_inside s.text.now s.around.items c.word_at-name.result.now c.requires.1.0 c.find_scope-scope.result 8192 s.short (around_here here) (found_here here))

pub returns : goal.returns
returns c =
    let s = c.args.self.now in
    let T = c.requires.2.0 in
    let k = c.requires.1 in
    let w = subst (λ z. Walks T s.at s z) k.3 c.requires.2.3 in
    let here = (goal.at.returns c).After-map-binder in
    let n = bound_at s.text.now s.at k.0 k.1 k.2 w.stands in
    let is = c.word_at-name.ensures.word k.1 n in
    let means : meaning k.1 k.0 ≡ meant c.map-binder.result =
    ap (λ (v : List ℕ). meaning v k.0) (sym is) ∙ found_meant s.text.now s.around.items c.word_at-name.result.now k.0 c.find_scope-scope.result (around_here here) (found_here here) ∙ ap meant (sym (placed here)) in
    let noted : Noted s.text.now (meaning k.1 k.0) s.at s.tally c.note_name.new.self = subst (λ (m : Meaning). Noted s.text.now m s.at s.tally c.note_name.new.self) (sym means) (c.note_name.ensures s.text.now) in
    let some : 1 ≤ length c.word_at-name.result.now = subst (λ (v : List ℕ). 1 ≤ length v) (sym is) n.word.some in
    record {
      same = refl;
      on = omega arith;
      comes = (
        between k.2,
        tt,
        (
          T,
          c.requires.2.1,
          c.requires.2.2,
          subst (λ (v : List ℕ). Walk s.text.now T (s.at + length v) s.around.items s.saved.items s.binders s.cells c.note_name.new.self (between k.2)) (sym is)
              (walk_name s.text.now T s.at s.around.items s.saved.items s.binders s.cells s.tally k.0 k.1 k.2 c.note_name.new.self noted w),
        ),
      );
    }
