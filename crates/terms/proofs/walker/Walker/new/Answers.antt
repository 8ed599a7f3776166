use Rattle.std.proofs.Common.{◌≡◌, length, false, [], sym, refl, ap, ◌∙◌, arith}
use lib.ListN.{get_or-replicate}
use Rattle.std.specs.List.{ContainsAt as Has}
use Rattle.std.proofs.lemmas.List.{append-nil}
use Rattle.std.proofs.lemmas.Bool.{both_ways}
use Rattle.terms.specs.Named.{written}
use Rattle.terms.specs.Bindings.{uses, binders}
use Rattle.terms.specs.Walking.{reading}
use Rattle.terms.proofs.walker.Walker.new.Goals as goal

has_none : {X : Type 0} (x : X) → Has [] x → ⊥
has_none x h = omega (arith, h.1)

pub returns : goal.returns
returns c =
    let text = c.args.text.now in
    let g = c.requires.grammatical in
    let T = g.0 in
    let none : length c.new.result.items ≡ 0 = ap length c.new.ensures in
    let closed : length c.new-2.result.items ≡ 0 = ap length c.new-2.ensures in
    let tallied = c.new-3.ensures text in
    record {
      same = refl;
      comes = (
        reading [] T [],
        tt,
        (
          T,
          g.1,
          g.2,
          record {
            us = [];
            bs = [];
            stands = record { inside = omega arith; front = sym g.2 ∙ sym (append-nil (written T)); spelt = (g.1, tt) };
            all_uses = append-nil (uses [] 0 T);
            all_binders = append-nil (binders 0 T);
            all_cells = omega arith;
            before = λ m q h. absurd (has_none _ h);
            tallied = tallied;
            flagged = λ q l. ((λ f. absurd (both_ways _ (get_or-replicate 8192 q false false l) f)), λ i. absurd (has_none _ i));
            held = (none, closed);
            low = (omega arith, omega arith, omega arith, omega (arith, tallied.counted));
          },
        ),
      );
    }
