use Rattle.std.proofs.Common.{rules, ◌≡◌, ℕ, ◌+◌, ◌-◌, List, ◌∷◌, length, get_or, sym, refl, subst, arith}
use Rattle.terms.specs.Walking.{reading, shut, Walk, Walks}
use Rattle.terms.proofs.Walks.{walk_argument}
use Rattle.terms.proofs.walking.WalkerTextWalk.enter_argument.Goals as goal

pub returns : goal.returns
returns c =
    let s = c.args.self.now in
    let T = c.requires.2.0 in
    let k = c.requires.1 in
    let w = subst (λ z. Walks T s.at s z) k.3 c.requires.2.3 in
    let y = reading k.0 k.1 (shut k.0 ∷ k.2) in
    let last : c.unwrap-around.result.now ≡ get_or s.saved.items (length s.saved.items - 1) 0 = search rules in
    record {
      same = refl;
      on = omega arith;
      comes = (
        y,
        tt,
        (
          T,
          c.requires.2.1,
          c.requires.2.2,
          subst (λ (xs : List ℕ). Walk s.text.now T (s.at + 1) xs s.saved.items s.binders s.cells s.tally y) (sym c.truncate.ensures.items)
              (walk_argument s.text.now T s.at s.around.items s.saved.items s.binders s.cells s.tally k.0 k.1 k.2 c.unwrap-around.result.now last w),
        ),
      );
    }
