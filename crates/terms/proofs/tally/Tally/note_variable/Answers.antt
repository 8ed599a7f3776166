use Rattle.std.proofs.Common.{ap, length, arith}
use Rattle.terms.proofs.Tallies.{tallied_by, sums_variable_new, sums_variable_again}
use Rattle.terms.proofs.tally.Tally.note_variable.Goals as goal

pub returns-then-again : goal.returns-then-again
returns-then-again c text = record {
  tallied = λ us h b.
      let t = c.args.self.now in
      let e = c.note_fault.ensures in
      tallied_by text _ c.note_fault.new.self _ _ _ e.used e.items e.fault
      (sums_variable_again text us t.used t.items.items t.fault c.args.at b h c.args.binder (omega (arith, t.wide, c.requires)) c.requires c.if-again.true);
  counted = let e = ap length c.note_fault.ensures.items in omega (arith, e);
}

pub returns-else-again : goal.returns-else-again
returns-else-again c text = record {
  tallied = λ us h b.
      let t = c.args.self.now in
      sums_variable_new text us t.used t.items.items t.fault c.args.at b h c.args.binder (omega (arith, t.wide, c.requires)) c.requires c.if-again.false;
  counted = omega arith;
}
