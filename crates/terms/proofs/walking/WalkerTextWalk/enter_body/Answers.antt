use Rattle.std.proofs.Common.{ℕ, ◌+◌, ◌<◌, true, List, [], ◌∷◌, ◌++◌, length, set, sym, refl, ap, subst, arith}
use Rattle.terms.specs.Walking.{reading, Walk, Walks}
use Rattle.terms.proofs.Fronts.{name_at}
use Rattle.terms.proofs.Walks.{walk_body}
use Rattle.terms.proofs.walking.WalkerTextWalk.enter_body.Goals as goal

pub bounds-self-self : goal.bounds-self-self
bounds-self-self c =
    let s = c.args.self.now in
    let k = c.requires.1 in
    let w = subst (λ z. Walks c.requires.2.0 s.at s z) k.4 c.requires.2.3 in
    let n = name_at s.text.now s.at k.0 k.1 k.2 k.3 w.stands in
    omega (arith, n.word.some, n.inside, s.short)

pub returns : goal.returns
returns c =
    let s = c.args.self.now in
    let T = c.requires.2.0 in
    let k = c.requires.1 in
    let w = subst (λ z. Walks T s.at s z) k.4 c.requires.2.3 in
    let n = name_at s.text.now s.at k.0 k.1 k.2 k.3 w.stands in
    let len = ap length (c.word_at-name.ensures.word k.1 n) in
    let y = reading ((k.1, s.at + 1) ∷ k.0) k.2 k.3 in
    let room : s.at + 1 < length s.binders = omega (arith, n.word.some, n.inside, s.short, s.long) in
    record {
      same = refl;
      on = omega arith;
      comes = (
        y,
        tt,
        (
          T,
          c.requires.2.1,
          c.requires.2.2,
          subst (λ (xs : List ℕ). Walk s.text.now T (s.at + (length c.word_at-name.result.now + 2)) xs s.saved.items (set s.binders (s.at + 1) true) (s.cells + 1) s.tally y) (sym c.push.ensures.items)
              (subst (λ (m : ℕ). Walk s.text.now T (s.at + (m + 2)) (s.around.items ++ (s.at + 1) ∷ []) s.saved.items (set s.binders (s.at + 1) true) (s.cells + 1) s.tally y) (sym len)
              (walk_body s.text.now T s.at s.around.items s.saved.items s.binders s.cells s.tally k.0 k.1 k.2 k.3 room w)),
        ),
      );
    }
