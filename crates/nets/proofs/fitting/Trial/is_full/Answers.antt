use Rattle.std.proofs.Common.{◌≡◌, ℕ, ◌≤◌, get_or, sym, subst, below_more, arith}
use lib.ListN.{get_or-map}
use Rattle.calculus.specs.Books.{L, R}
use Rattle.books.specs.declared.table.Cell.{Cell}
use Rattle.books.specs.declared.table.RuleTable.{RuleTable}
use Rattle.books.specs.Tables.{arities_of}
use Rattle.nets.specs.Noting.{Full, FullRow}
use Rattle.nets.proofs.Notings.{told_same, told_not, full_row, full_rows}
use Rattle.nets.proofs.fitting.Trial.is_full.Goals as goal

-- the arity of new cell i
arity_read : (r : RuleTable) (i : ℕ) → get_or (arities_of r) i 0 ≡ (get_or r.cells.now i (record { kind = 0; arity = 0 })).arity
arity_read r i = get_or-map (λ (c : Cell). c.arity) r.cells.now i (record { kind = 0; arity = 0 })

pub is_row_full-requires-clause-ports : goal.is_row_full-requires-clause-ports
is_row_full-requires-clause-ports c =
    (omega arith, subst (λ (x : ℕ). x ≤ 2) (arity_read c.args.self.now.rule.now c.loop-i.i) (c.args.self.now.small c.loop-i.i c.loop-i-test.true))

pub returns-then-not-is_row_full : goal.returns-then-not-is_row_full
returns-then-not-is_row_full c = λ f.
    let s = c.args.self.now in
    c.if-not-is_row_full.ensures
    (subst (λ (x : ℕ). FullRow c.loop-i.i 0 x c.args.notes.now.mates) (arity_read s.rule.now c.loop-i.i)
    (full_row s.left s.right s.rule.now s.few s.small s.ports.0 s.ports.1 c.args.notes.now.mates f c.loop-i.i c.loop-i-test.true))

pub loop-i-preserved : goal.loop-i-preserved
loop-i-preserved c =
    below_more _ _ c.loop-i.invariant
    (subst (λ (x : ℕ). FullRow c.loop-i.i 0 x c.args.notes.now.mates) (sym (arity_read c.args.self.now.rule.now c.loop-i.i)) c.if-not-is_row_full.ensures)

pub returns-then-is_row_full : goal.returns-then-is_row_full
returns-then-is_row_full c =
    let s = c.args.self.now in
    told_same (FullRow 5 1 s.right c.args.notes.now.mates) (Full s.left s.right s.rule.now c.args.notes.now.mates) c.is_row_full-then-is_row_full.result
    (λ g. full_rows s.left s.right s.rule.now s.few s.small s.ports.0 s.ports.1 c.args.notes.now.mates (λ k h. c.loop-i.invariant k (omega arith)) c.if-is_row_full.ensures g)
    (λ f j i l. f (R j) (i, l))
    c.is_row_full-then-is_row_full.ensures

pub returns-else-is_row_full : goal.returns-else-is_row_full
returns-else-is_row_full c =
    let s = c.args.self.now in
    told_not (FullRow 4 1 s.left c.args.notes.now.mates) (Full s.left s.right s.rule.now c.args.notes.now.mates) c.is_row_full-2.result c.if-is_row_full.false
    (λ f j i l. f (L j) (i, l))
    c.is_row_full-2.ensures
