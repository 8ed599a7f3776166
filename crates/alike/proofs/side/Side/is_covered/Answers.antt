use Rattle.std.proofs.Common.{◌≢◌, refl, rules}
use Rattle.std.proofs.lemmas.Iterator.{YieldsList-from_range, serves_from_Range}
use Rattle.pairing.proofs.Pairs.{Listed, Loose}
use Rattle.alike.specs.Sides.{graph_of, size, row_at}
use Rattle.alike.proofs.Graphs.{within}
use Rattle.alike.proofs.Ranges.{all_below}
use Rattle.alike.proofs.Sides.{covers}
use Rattle.alike.proofs.side.Side.is_covered.Goals as goal

pub all-requires : goal.all-requires
all-requires c = record { can = search rules; finite = search rules; callable = serves_from_Range (λ x q e. search rules) (λ x a b. search rules) }

pub returns : goal.returns
returns c =
    let s = c.args.self.now in
    let A = graph_of s in
    let n = size s in
    let l = row_at s in
    covers A n l c.all.result (within s.table.now)
    (all_below _ _ _ c.all.result (λ p. A.kind p ≢ 0 → Listed n l p) (Loose A n l) 1094 c.all.ensures.ran (YieldsList-from_range 0 1094 1094 refl refl)
    (λ x q e. search rules) (λ x q e. search rules))
