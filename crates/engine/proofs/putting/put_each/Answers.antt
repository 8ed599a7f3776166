use Rattle.engine.specs.Calls.Puts.{none}
use Rattle.engine.proofs.Puttings.{puts_next}
use Rattle.engine.proofs.putting.put_each.Goals as goal

pub loop-pair-init : goal.loop-pair-init
loop-pair-init g c = λ h. none

pub loop-pair-preserved : goal.loop-pair-preserved
loop-pair-preserved g c = λ h.
    puts_next g.S.Strategy c.args.pairs.now c.loop-pair.pair-index c.loop-pair-test.true h (c.loop-pair.invariant h) c.put.new.self c.put.result (record { left = 0; right = 0; cells = 0 }) c.put.ensures.bags c.put.ensures.own
