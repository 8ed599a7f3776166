use Rattle.std.proofs.Common.{◌≡◌, ℕ, ◌+◌, ◌-◌, ◌<◌, Some, cond, ltb, refl, sym, ap, ◌∙◌, inl, inr, rules, arith}
use Rattle.std.proofs.lemmas.Bool.{cases_lt, eqb-true}
use Rattle.nets.specs.Meaning.{net}
use Rattle.alike.specs.Rows.{kind_number}
use Rattle.alike.proofs.Graphs.{kind_cell, kind_end, fits}
use Rattle.alike.proofs.Numbers.{told, no_cell, is_some_of, end_told, end_is, no_end}
use Rattle.alike.proofs.side.Side.is_of.Goals as goal

pub returns-in-Some-Cell : goal.returns-in-Some-Cell
returns-in-Some-Cell c =
    let t = c.args.self.now.table.now in
    let r = c.args.row.number in
    let s = c.args.row.small in
    let k = c.in-Some-Cell.kind in
    let z : kind_number c.args.kind ≡ 65 + k = search rules in
    let u = told c.kind.result k in
    elim (cases_lt r 1030) [
      | inl h ↦ let y = kind_cell t r h c.kind.result c.kind.ensures in
          (λ e. sym y ∙ u.0 (sym c.eq.ensures ∙ e) ∙ sym z, λ e. c.eq.ensures ∙ u.1 (y ∙ e ∙ z))
      | inr h ↦ (
        λ e. absurd (let l = (fits t).cells r k (sym c.kind.ensures ∙ is_some_of c.kind.result k (sym c.eq.ensures ∙ e)) in omega arith),
        λ e. absurd (no_cell (ltb (r - 1030) t.ends) (r - 1030) k (omega arith) (kind_end t r h ∙ e ∙ z)),
      )
    ]

pub returns-then-row-from : goal.returns-then-row-from
returns-then-row-from c =
    let t = c.args.self.now.table.now in
    let r = c.args.row.number in
    let e = c.in-Some-End.end in
    let a = c.if-row-from.true in
    let b = c.from.ensures in
    let z : kind_number c.args.kind ≡ e + 1 = search rules in
    let u = end_told (ltb e c.ends.result) e in
    let d : r - 1030 ≡ e = omega arith in
    let y = ap (λ (n : ℕ). cond (ltb e n) (e + 1) 0) c.ends.ensures ∙ ap (λ (i : ℕ). cond (ltb i t.ends) (i + 1) 0) (sym d) ∙ kind_end t r (omega arith) in
    (λ h. sym y ∙ u.0 h ∙ sym z, λ h. u.1 (y ∙ h ∙ z))

pub returns-else-row-from : goal.returns-else-row-from
returns-else-row-from c =
    let t = c.args.self.now.table.now in
    let r = c.args.row.number in
    let e = c.in-Some-End.end in
    let b = c.from.ensures in
    let n = c.if-row-from.false in
    let few : e < 64 = search rules in
    let z : kind_number c.args.kind ≡ e + 1 = search rules in (
      λ h. absurd (n (eqb-true r (1030 + c.from.result) h)),
      λ h. absurd (elim (cases_lt r 1030) [
        | inl l ↦ no_end ((net t).kind r) e few (kind_cell t r l ((net t).kind r) refl ∙ h ∙ z)
        | inr l ↦ let i = end_is (ltb (r - 1030) t.ends) (r - 1030) e (kind_end t r l ∙ h ∙ z) in n (omega arith)
      ]),
    )
