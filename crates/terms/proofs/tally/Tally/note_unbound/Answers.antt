use Rattle.std.proofs.Common.{ap, length, arith}
use Rattle.terms.proofs.Tallies.{tallied_by, sums_nothing}
use Rattle.terms.proofs.tally.Tally.note_unbound.Goals as goal

pub returns : goal.returns
returns c text = record {
  tallied = λ us h b.
      let t = c.args.self.now in
      let e = c.note_fault.ensures in
      tallied_by text _ c.note_fault.new.self _ _ _ e.used e.items e.fault (sums_nothing text us t.used t.items.items t.fault c.args.at b h);
  counted = let e = ap length c.note_fault.ensures.items in omega (arith, e);
}
