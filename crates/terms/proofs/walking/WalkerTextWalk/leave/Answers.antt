use Rattle.std.proofs.Common.{ℕ, ◌+◌, List, sym, refl, subst, arith}
use Rattle.terms.specs.Walking.{between, Walk, Walks}
use Rattle.terms.proofs.Walks.{walk_close}
use Rattle.terms.proofs.walking.WalkerTextWalk.leave.Goals as goal

pub returns : goal.returns
returns c =
    let s = c.args.self.now in
    let T = c.requires.2.0 in
    let k = c.requires.1 in
    let w = subst (λ z. Walks T s.at s z) k.2 c.requires.2.3 in
    record {
      same = refl;
      on = omega arith;
      comes = (
        between k.1,
        tt,
        (
          T,
          c.requires.2.1,
          c.requires.2.2,
          subst (λ (xs : List ℕ). Walk s.text.now T (s.at + 1) s.around.items xs s.binders s.cells s.tally (between k.1)) (sym c.pop.ensures.rest)
              (walk_close s.text.now T s.at s.around.items s.saved.items s.binders s.cells s.tally k.0 k.1 w),
        ),
      );
    }
