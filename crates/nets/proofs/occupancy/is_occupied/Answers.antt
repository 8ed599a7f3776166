use Rattle.std.proofs.Common.{◌/◌, ◌≤◌, length, arith}
use Rattle.nets.proofs.Places.{bit_past}
use Rattle.nets.proofs.occupancy.is_occupied.Goals as goal

pub returns-else-byte-lt128 : goal.returns-else-byte-lt128
returns-else-byte-lt128 c =
    let h : length c.args.map.now ≤ c.args.place / 8 = omega arith in
    let z = bit_past c.args.map.now c.args.place h in
    record { bit = grind (arith); low = λ e. absurd (grind (arith)) }
