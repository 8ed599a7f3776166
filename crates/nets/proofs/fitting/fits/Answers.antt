use Rattle.std.proofs.Common.{sym, ◌∙◌, arith}
use Rattle.nets.specs.Fitting.{Fitting}
use Rattle.nets.specs.Noting.{Full}
use Rattle.nets.proofs.Notings.{told_same, noted_fits, noted_full, small_cells, large_cell}
use Rattle.nets.proofs.fitting.fits.Goals as goal
use Rattle.nets.proofs.fitting.fits.Goals.{then-rule-gt4-via-then-rule-gt4, then-rule-gt4-via-else-rule-gt4+then-not-are_small}

pub returns-then-rule-gt4 : goal.returns-then-rule-gt4
returns-then-rule-gt4 c = λ F. elim c.then-rule-gt4.branch [
  | then-rule-gt4-via-then-rule-gt4 w ↦ (let few = F.few in let many = w.if-rule-gt4.true in omega arith)
  | then-rule-gt4-via-else-rule-gt4+then-not-are_small w ↦ large_cell c.args.rule.now (sym w.if-not-are_small.true ∙ w.are_small.ensures) F.arities
]

pub invariant_of-trial : goal.invariant_of-trial
invariant_of-trial c = record {
  few = c.if-rule-gt4.false;
  small = small_cells c.args.rule.now (sym c.if-not-are_small.false ∙ c.are_small.ensures);
  ports = c.requires.ports;
}

pub returns-then-note_all : goal.returns-then-note_all
returns-then-note_all c =
    let a = c.args.left in
    let b = c.args.right in
    let r = c.args.rule.now in
    let M = c.if-note_all.ensures in
    let small = small_cells c.args.rule.now (sym c.if-not-are_small.false ∙ c.are_small.ensures) in
    told_same (Full c.args.left c.args.right c.args.rule.now c.note_all.new.notes.mates) (Fitting c.args.left c.args.right c.args.rule.now) c.is_full.result
    (noted_fits a b r c.if-rule-gt4.false small c.requires.ports.0 c.requires.ports.1 c.note_all.new.notes.mates M.0 M.1 M.2)
    (noted_full a b r c.if-rule-gt4.false small c.requires.ports.0 c.requires.ports.1 c.note_all.new.notes.mates M.0 M.1 M.2)
    c.is_full.ensures
