use Rattle.std.proofs.Common.{[], refl, ap, length, arith}
use Rattle.std.proofs.lemmas.List.Sorted.{length_permutation}
use Rattle.strategies.proofs.Ends.{none_of_none}
use Rattle.strategies.proofs.Choosing.{let_in, of_two}
use Rattle.strategies.proofs.choice.line_of_two.Goals as goal

pub unwrap-requires-2 : goal.unwrap-requires-2
unwrap-requires-2 g c =
    let added = rw c.unwrap.ensures at c.put.ensures.bags in
    let long = length_permutation _ _ added.more in
    let none = ap length c.in_ok-line.ensures in
    let_in _ _ _ _ (omega arith) c.put-2.ensures.bags

pub returns : goal.returns
returns g c =
    let empty = none_of_none _ _ (g.met.E.End.same []) refl in
    of_two g.E.End.order g.E.End.arrived c.in_ok-line.line c.put.new.self c.put-2.new.self c.args.early c.args.late empty g.met.E.End.one_more c.in_ok-line.ensures (rw c.unwrap.ensures at c.put.ensures.own) (rw c.unwrap-2.ensures at c.put-2.ensures.own)
