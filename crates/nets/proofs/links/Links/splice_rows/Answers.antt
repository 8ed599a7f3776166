use Rattle.std.proofs.Common.{◌≡◌, vec_items, arith, zero-add, add-zero}
use Rattle.nets.proofs.Strings.{strung_none, strung_down}
use Rattle.nets.proofs.links.Links.splice_rows.Goals as goal

pub loop-port-init : goal.loop-port-init
loop-port-init c = record { few = omega arith; rest = λ us k t. rw zero-add t }

pub loop-port-preserved : goal.loop-port-preserved
loop-port-preserved c = record {
  few = omega (arith, c.splice-loops.ensures.few);
  rest = strung_down (vec_items c.args.self.now.targets) (vec_items c.loop-port.self.targets) (vec_items c.splice-loops.new.self.targets) c.args.row c.args.gate c.loop-port.port c.args.ports
      c.splice-loops.result c.loop-port.loops c.loop-port-test.true c.splice-loops.ensures c.loop-port.invariant.rest;
}

pub returns : goal.returns
returns c =
    let e : c.loop-port.port ≡ 0 = omega arith in
    rw (← add-zero c.loop-port.loops)
    (c.loop-port.invariant.rest (vec_items c.loop-port.self.targets) 0 (rw e (strung_none (vec_items c.loop-port.self.targets) c.args.row c.args.gate)))
