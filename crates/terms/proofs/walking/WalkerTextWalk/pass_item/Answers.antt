use Rattle.std.proofs.Common.{◌≡◌, ℕ, ◌+◌, ◌≤◌, List, length, sym, refl, subst, arith}
use Rattle.terms.specs.Letters.{WordAt, capital}
use Rattle.terms.specs.Bindings.{listed}
use Rattle.terms.specs.Tallying.{Noted}
use Rattle.terms.specs.Walking.{between, Walk, Walks}
use Rattle.terms.proofs.Fronts.{item_at}
use Rattle.terms.proofs.Walks.{walk_item}
use Rattle.terms.proofs.walking.WalkerTextWalk.pass_item.Goals as goal
use Rattle.terms.proofs.walking.WalkerTextWalk.pass_item.Goals.{After-word_at-item}

-- the item that is read is the one to be read
item_here : (c : After-word_at-item) → WordAt c.args.self.now.text.now c.args.self.now.at capital c.requires.1.1 × (c.word_at-item.result.now ≡ c.requires.1.1)
item_here c =
    let s = c.args.self.now in
    let k = c.requires.1 in
    let w = subst (λ z. Walks c.requires.2.0 s.at s z) k.3 c.requires.2.3 in
    let n = item_at s.text.now s.at k.0 k.1 k.2 w.stands in
    (n, c.word_at-item.ensures.word k.1 n)

pub note_item-requires-clause-here : goal.note_item-requires-clause-here
note_item-requires-clause-here c =
    let (n, is) = item_here (goal.at.note_item-requires-clause-here c).After-word_at-item in
    subst (WordAt c.args.self.now.text.now c.args.self.now.at capital) (sym is) n

pub returns : goal.returns
returns c =
    let s = c.args.self.now in
    let T = c.requires.2.0 in
    let k = c.requires.1 in
    let w = subst (λ z. Walks T s.at s z) k.3 c.requires.2.3 in
    let (n, is) = item_here (goal.at.returns c).After-word_at-item in
    let noted : Noted s.text.now (listed k.1) s.at s.tally c.note_item.new.self = subst (λ (v : List ℕ). Noted s.text.now (listed v) s.at s.tally c.note_item.new.self) is c.note_item.ensures in
    let some : 1 ≤ length c.word_at-item.result.now = subst (λ (v : List ℕ). 1 ≤ length v) (sym is) n.word.some in
    record {
      same = refl;
      on = omega arith;
      comes = (
        between k.2,
        tt,
        (
          T,
          c.requires.2.1,
          c.requires.2.2,
          subst (λ (v : List ℕ). Walk s.text.now T (s.at + length v) s.around.items s.saved.items s.binders s.cells c.note_item.new.self (between k.2)) (sym is)
              (walk_item s.text.now T s.at s.around.items s.saved.items s.binders s.cells s.tally k.0 k.1 k.2 c.note_item.new.self noted w),
        ),
      );
    }
