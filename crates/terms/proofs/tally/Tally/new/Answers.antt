use Rattle.std.proofs.Common.{◌≡◌, length, false, [], ap, inl, inr, arith}
use lib.ListN.{get_or-replicate}
use Rattle.std.specs.List.{ContainsAt as Has}
use Rattle.std.proofs.lemmas.Bool.{both_ways}
use Rattle.terms.proofs.tally.Tally.new.Goals as goal

has_none : {X : Type 0} (x : X) → Has [] x → ⊥
has_none x h = omega (arith, h.1)

pub returns : goal.returns
returns c text =
    let none : length c.new.result.items ≡ 0 = ap length c.new.ensures in
    record {
      flags = λ p l. ((λ e. absurd (both_ways _ (get_or-replicate 8192 p false false l) e)), λ i. absurd (has_none _ i.1));
      stand = λ k l. absurd (omega arith);
      found = λ w q i. absurd (has_none _ i);
      counted = none;
      wrong = λ q w. elim w [ inl h ↦ has_none _ h | inr a ↦ has_none _ a.3 ];
    }
