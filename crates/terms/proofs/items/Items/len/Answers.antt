use Rattle.std.proofs.Common.{vec_items, arith}
use Rattle.std.proofs.lemmas.List.{length-map}
use Rattle.terms.specs.Spelling.{spelled}
use Rattle.terms.proofs.items.Items.len.Goals as goal

pub returns : goal.returns
returns c = let e = length-map (vec_items c.args.self.now.items) spelled in omega (arith, e)
