use Rattle.std.proofs.Common.{[], ◌∷◌, ◌++◌, length, sym, ap, ◌∙◌, subst, arith}
use Rattle.std.specs.List.{Any}
use Rattle.std.proofs.lemmas.Bool.{both_ways}
use Rattle.terms.specs.Letters.{ReadAt, capital}
use Rattle.terms.specs.Bindings.{listed}
use Rattle.terms.specs.Tallying.{Sums}
use Rattle.terms.proofs.Tallies.{tallied_by, sums_item_new, sums_item_again}
use Rattle.terms.proofs.tally.Tally.note_item.Goals as goal

pub returns-then-again : goal.returns-then-again
returns-then-again c = record {
  tallied = λ us h b.
      let t = c.args.self.now in
      let text = c.args.text.now in
      let w = c.args.item.now in
      let listed_before = subst (λ xs. Any (λ p. ReadAt text p capital w) xs) c.deref.ensures.0 (c.find_item-again.ensures.0 c.if-again.true) in
      let e = c.note_fault.ensures in
      tallied_by text _ c.note_fault.new.self _ _ _ e.used (e.items ∙ c.push.ensures.items) e.fault
      (sums_item_again text us t.used t.items.items t.fault c.args.at b h w c.requires.here listed_before);
  counted = let e = ap length c.note_fault.ensures.items in omega (arith, e, c.push.ensures.len);
}

pub returns-else-again : goal.returns-else-again
returns-else-again c = record {
  tallied = λ us h b.
      let t = c.args.self.now in
      let text = c.args.text.now in
      let w = c.args.item.now in
      subst (λ xs. Sums text (us ++ (listed w, c.args.at) ∷ []) t.used xs t.fault) (sym c.push.ensures.items)
      (sums_item_new text us t.used t.items.items t.fault c.args.at b h w c.requires.here
      (λ i. both_ways _ c.if-again.false (c.find_item-again.ensures.1 (subst (λ xs. Any (λ p. ReadAt text p capital w) xs) (sym c.deref.ensures.0) i))));
  counted = omega (arith, c.push.ensures.len);
}
