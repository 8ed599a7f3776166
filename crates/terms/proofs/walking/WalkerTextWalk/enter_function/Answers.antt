use Rattle.std.proofs.Common.{ℕ, ◌+◌, List, [], ◌∷◌, ◌++◌, sym, refl, ap, ◌∙◌, subst, arith}
use Rattle.terms.specs.Walking.{reading, due, Walk, Walks}
use Rattle.terms.proofs.Walks.{walk_function}
use Rattle.terms.proofs.walking.WalkerTextWalk.enter_function.Goals as goal

pub returns : goal.returns
returns c =
    let s = c.args.self.now in
    let T = c.requires.2.0 in
    let k = c.requires.1 in
    let w = subst (λ z. Walks T s.at s z) k.4 c.requires.2.3 in
    let y = reading k.0 k.1 (due k.0 k.2 ∷ k.3) in
    record {
      same = refl;
      on = omega arith;
      comes = (
        y,
        tt,
        (
          T,
          c.requires.2.1,
          c.requires.2.2,
          subst (λ (xs : List ℕ). Walk s.text.now T (s.at + 1) s.around.items xs s.binders (s.cells + 1) s.tally y) (sym (c.push.ensures.items ∙ ap (λ (n : ℕ). s.saved.items ++ n ∷ []) c.len.ensures.value))
              (walk_function s.text.now T s.at s.around.items s.saved.items s.binders s.cells s.tally k.0 k.1 k.2 k.3 w),
        ),
      );
    }
