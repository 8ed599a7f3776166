use Rattle.std.proofs.Common.{◌≡◌, ℕ, Bool, true, false, not, eqb, Some, None, Option, sym, refl, ap, ◌∙◌, inl, inr, arith}
use Rattle.std.specs.Option.{option_eq}
use Rattle.std.proofs.lemmas.Bool.{eqb-true}
use Rattle.nets.proofs.Indexing.{p_place, q_place, p_kind, q_kind, p_arity, q_arity}
use Rattle.nets.proofs.Readiness.{no_rule, other_left, other_right, turned_round, rule_ready, other_arity_left, other_arity_right}
use Rattle.nets.proofs.table.Table.rule.Goals as goal
use Rattle.nets.proofs.table.Table.rule.Goals.{then-rule-first-via-then-rule-first, then-rule-first-via-else-rule-first+then-rule-second, then-rule-first-via-else-rule-first+else-rule-second+then-right-left}

same_some : (o : Option ℕ) (x : ℕ) → false ≡ not (option_eq eqb o (Some x)) → o ≡ Some x
same_some None x e = let z : ◌≡◌ {A = ℕ} 0 1 = cc in absurd (omega arith)
same_some (Some y) x e = ap Some (eqb-true y x (not_false (eqb y x) e))
  where
    not_false : (b : Bool) → false ≡ not b → b ≡ true
    not_false true e = refl
    not_false false e = e

other_some : (o : Option ℕ) (x : ℕ) → true ≡ not (option_eq eqb o (Some x)) → o ≡ Some x → ⊥
other_some None x e f = cc
other_some (Some y) x e f =
    let z : y ≡ x = cc in
    let b : eqb y x ≡ true = grind (arith) in
    let n : true ≡ false = e ∙ ap not b in
    cc

pub index-requires : goal.index-requires
index-requires g c = p_place c.args.self.now c.args.left c.args.right c.if-not-are_facing.ensures

pub index-requires-2 : goal.index-requires-2
index-requires-2 g c = q_place c.args.self.now c.args.left c.args.right c.if-not-are_facing.ensures

pub returns-in_err-rule : goal.returns-in_err-rule
returns-in_err-rule g c =
    let F = c.if-not-are_facing.ensures in
    rw c.from_residual.ensures
    (no_rule (g.B.Book.meaning c.args.book.now) (g.met.B.Book.lawful c.args.book.now) c.args.self.now c.args.left c.args.right F
    c.index.result.now.kind c.index-2.result.now.kind (p_kind c.args.self.now c.args.left c.args.right F c.index.result.now c.index.ensures) (q_kind c.args.self.now c.args.left c.args.right F c.index-2.result.now c.index-2.ensures) c.in_err-rule.ensures)

pub returns-then-rule-first : goal.returns-then-rule-first
returns-then-rule-first g c =
    let F = c.if-not-are_facing.ensures in
    let k = p_kind c.args.self.now c.args.left c.args.right F c.index.result.now c.index.ensures in
    let l = q_kind c.args.self.now c.args.left c.args.right F c.index-2.result.now c.index-2.ensures in
    elim c.then-rule-first.branch [
      | then-rule-first-via-then-rule-first w ↦
          other_left (g.B.Book.meaning c.args.book.now) (g.met.B.Book.lawful c.args.book.now) c.args.self.now c.args.left c.args.right F
          c.index.result.now.kind c.index-2.result.now.kind k l c.in_ok-rule.rule c.in_ok-rule.ensures w.if-rule-first.true
      | then-rule-first-via-else-rule-first+then-rule-second w ↦
          other_right (g.B.Book.meaning c.args.book.now) (g.met.B.Book.lawful c.args.book.now) c.args.self.now c.args.left c.args.right F
          c.index.result.now.kind c.index-2.result.now.kind k l c.in_ok-rule.rule c.in_ok-rule.ensures w.if-rule-second.true
      | then-rule-first-via-else-rule-first+else-rule-second+then-right-left w ↦
          turned_round (g.B.Book.meaning c.args.book.now) (g.met.B.Book.lawful c.args.book.now) c.args.self.now c.args.left c.args.right F
          c.index.result.now.kind c.index-2.result.now.kind k l c.in_ok-rule.rule c.in_ok-rule.ensures
          w.if-right-left.true.0 w.if-right-left.true.1
    ]

pub returns-then-ne : goal.returns-then-ne
returns-then-ne g c =
    let t = c.args.self.now in
    let F = c.if-not-are_facing.ensures in
    let x = c.index.result.now in
    let y = c.index-2.result.now in
    other_arity_left (g.B.Book.meaning c.args.book.now) (g.met.B.Book.lawful c.args.book.now) t c.args.left c.args.right F
    x.kind y.kind (p_kind t c.args.left c.args.right F x c.index.ensures) (q_kind t c.args.left c.args.right F y c.index-2.ensures)
    (λ e. other_some c.arity.result x.arity c.if-ne.ensures (c.arity.ensures ∙ e ∙ ap (λ (v : ℕ). Some v) (sym (p_arity t c.args.left c.args.right F x c.index.ensures))))

pub returns-then-ne-2 : goal.returns-then-ne-2
returns-then-ne-2 g c =
    let t = c.args.self.now in
    let F = c.if-not-are_facing.ensures in
    let x = c.index.result.now in
    let y = c.index-2.result.now in
    other_arity_right (g.B.Book.meaning c.args.book.now) (g.met.B.Book.lawful c.args.book.now) t c.args.left c.args.right F
    x.kind y.kind (p_kind t c.args.left c.args.right F x c.index.ensures) (q_kind t c.args.left c.args.right F y c.index-2.ensures)
    (λ e. other_some c.arity-2.result y.arity c.if-ne-2.ensures (c.arity-2.ensures ∙ e ∙ ap (λ (v : ℕ). Some v) (sym (q_arity t c.args.left c.args.right F y c.index-2.ensures))))

pub returns : goal.returns
returns g c =
    let F = c.if-not-are_facing.ensures in
    rule_ready (g.B.Book.meaning c.args.book.now) (g.met.B.Book.lawful c.args.book.now) c.args.self.now c.args.left c.args.right F
    c.index.result.now.kind c.index-2.result.now.kind (p_kind c.args.self.now c.args.left c.args.right F c.index.result.now c.index.ensures) (q_kind c.args.self.now c.args.left c.args.right F c.index-2.result.now c.index-2.ensures) c.in_ok-rule.rule c.in_ok-rule.ensures
    c.if-rule-first.false c.if-rule-second.false
    (λ e. elim c.if-right-left.either [
      | inr n ↦ absurd (n e)
      | inl h ↦ (let o = F.1 in omega arith)
    ])
    (sym c.arity.ensures ∙ same_some c.arity.result c.index.result.now.arity c.if-ne.ensures ∙ ap (λ (v : ℕ). Some v) (p_arity c.args.self.now c.args.left c.args.right F c.index.result.now c.index.ensures))
    (sym c.arity-2.ensures ∙ same_some c.arity-2.result c.index-2.result.now.arity c.if-ne-2.ensures ∙ ap (λ (v : ℕ). Some v) (q_arity c.args.self.now c.args.left c.args.right F c.index-2.result.now c.index-2.ensures))
