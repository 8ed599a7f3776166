use Rattle.std.proofs.Common.{◌%◌, arith}
use Rattle.std.proofs.lemmas.Nat.{one_shl}
use Rattle.nets.proofs.Flips.{flips}
use Rattle.nets.proofs.seats.flip.Goals as goal

pub returns : goal.returns
returns c = flips c.args.map.now c.args.place _ (omega arith) c.requires (one_shl (c.args.place % 8) 8 (omega arith))
