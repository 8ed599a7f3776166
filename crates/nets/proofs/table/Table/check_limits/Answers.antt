use Rattle.std.proofs.Common.{◌≤◌, arith}
use Rattle.nets.specs.declared.table.Table.{Table}
use Rattle.nets.specs.Meaning.{net, content, cells_below}
use Rattle.nets.proofs.Counting.{at_most, cells_are}
use Rattle.nets.proofs.table.Table.check_limits.Goals as goal
use Rattle.nets.proofs.table.Table.check_limits.Goals.{else-cells-gt2-via-then-cells-gt2+else-cells, else-cells-gt2-via-else-cells-gt2}

-- a table has at most 1,024 cells
few : (t : Table) → cells_below (net t) 1024 ≤ 1024
few t = let a = cells_are (content t) 1024 in let b = at_most t.occupied 1024 in omega arith

pub overflow_sub-cells : goal.overflow_sub-cells
overflow_sub-cells c = omega (arith, few c.args.self.now, c.cells.ensures.live)

pub returns : goal.returns
returns c = (
  c.if-self-gt1073741821.false,
  elim c.else-cells-gt2.branch [
    | else-cells-gt2-via-then-cells-gt2+else-cells w ↦ omega (arith, few c.args.self.now, w.if-cells.false, w.cells.ensures.live)
    | else-cells-gt2-via-else-cells-gt2 w ↦ omega (arith, few c.args.self.now, w.if-cells-gt2.false)
  ],
)
