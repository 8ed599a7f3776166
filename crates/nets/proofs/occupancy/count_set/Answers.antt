use Rattle.std.proofs.Common.{◌≡◌, sum_by, rules, tests, arith}
use lib.Count.{ones}
use Rattle.std.proofs.lemmas.Iterator.{YieldsList-from_slice, YieldsList-from_map}
use Rattle.std.proofs.lemmas.Iterator.Consumers.{YieldsList-at, fits_by_from_yields_list, sum_by_from_yields_List}
use Rattle.nets.proofs.Places.{few_ones, live_ones}
use Rattle.nets.proofs.occupancy.count_set.Goals as goal

pub sum-requires-clause-fits : goal.sum-requires-clause-fits
sum-requires-clause-fits c =
    fits_by_from_yields_list ones c.args.map.now c.map.result 65536
    (YieldsList-from_map _ ones (YieldsList-at c.map.ensures.source (YieldsList-from_slice c.args.map.now (cc))) c.map.ensures.closure (λ x r q k. search (rules, tests)))
    (omega (arith, few_ones c.args.map.now c.fits-map))

pub returns : goal.returns
returns c =
    let s : c.sum.result ≡ sum_by ones c.args.map.now =
    sum_by_from_yields_List ones c.args.map.now c.map.result c.sum.result c.sum.ensures.ran
    (YieldsList-from_map _ ones (YieldsList-at c.map.ensures.source (YieldsList-from_slice c.args.map.now (cc))) c.map.ensures.closure (λ x r q k. search (rules, tests))) in
    record { bits = s; cells = live_ones c.args.map.now c.sum.result c.fits-map (omega arith) s }
