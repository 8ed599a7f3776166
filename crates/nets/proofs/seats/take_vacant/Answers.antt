use Rattle.std.proofs.Common.{◌≡◌, ℕ, ◌<◌, true, Some, None, Option, is_some, refl, List, arith}
use Rattle.nets.specs.Seating.{bits_below, Highest}
use Rattle.nets.proofs.Counting.{all_set}
use Rattle.nets.proofs.seats.take_vacant.Goals as goal

found : (ms : List ℕ) (o : Option ℕ) → bits_below ms 1024 < 1024 → Highest ms o → is_some o ≡ true
found ms None h a = absurd (let e = all_set ms 1024 a in omega arith)
found ms (Some r) h a = refl

pub unwrap-place-requires : goal.unwrap-place-requires
unwrap-place-requires c = found c.args.map.now c.highest_vacant.result c.requires c.highest_vacant.ensures
