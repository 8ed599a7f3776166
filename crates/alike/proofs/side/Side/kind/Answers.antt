use Rattle.std.proofs.Common.{ℕ, ◌+◌, ◌-◌, cond, ltb, ap, ◌∙◌}
use Rattle.alike.specs.Rows.{kind_number}
use Rattle.alike.proofs.Graphs.{kind_cell, kind_end}
use Rattle.alike.proofs.Numbers.{cell_number, end_number}
use Rattle.alike.proofs.side.Side.kind.Goals as goal

pub returns-then-row-lt1030-clause-number : goal.returns-then-row-lt1030-clause-number
returns-then-row-lt1030-clause-number c =
    cell_number c.kind.result c.map.result c.map.ensures.cases ∙ kind_cell c.args.self.now.table.now c.args.row.number c.if-row-lt1030.true c.kind.result c.kind.ensures

pub returns-clause-number : goal.returns-clause-number
returns-clause-number c =
    let e = c.args.row.number - 1030 in
    ap kind_number c.then_some.ensures ∙ end_number (ltb e c.ends.result) e ∙ ap (λ (n : ℕ). cond (ltb e n) (e + 1) 0) c.ends.ensures
    ∙ kind_end c.args.self.now.table.now c.args.row.number c.if-row-lt1030.false
