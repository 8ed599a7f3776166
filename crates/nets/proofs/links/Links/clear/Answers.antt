use Rattle.std.proofs.Common.{◌≡◌, ℕ, ◌+◌, ◌*◌, ◌<◌, List, Some, None, Option, vec_items, sym, refl, subst, arith}
use Rattle.nets.specs.declared.link.Link.{Link}
use Rattle.nets.specs.Rewiring.{Parked, Cleared}
use Rattle.nets.proofs.Slots.{whole, read}
use Rattle.nets.proofs.Parking.{parked_none, parked_down, cleared_by}
use Rattle.nets.proofs.links.Links.clear.Goals as goal

pub loop-port-init : goal.loop-port-init
loop-port-init c = λ us P. P

pub loop-port-preserved : goal.loop-port-preserved
loop-port-preserved c = λ us P.
    let spare = rw c.in-Some.is at c.requires.second in
    parked_down (vec_items c.args.self.now.targets) (vec_items c.loop-port.self.targets) c.args.row c.in-Some.spare c.loop-port.port c.args.ports c.index-mate.result.now (record { row = c.in-Some.spare; port = c.loop-port.port })
    c.loop-port-test.true (whole c.loop-port.self) c.requires.first spare.0 spare.1 (omega arith)
    (read c.loop-port.self c.slot.result (c.args.row * 4 + c.loop-port.port) c.index-mate.result.now c.slot.ensures (omega arith) c.index-mate.ensures) refl
    c.loop-port.invariant us (rw (← c.join.ensures) P)

pub returns : goal.returns
returns c =
    let spare = rw c.in-Some.is at c.requires.second in
    let e : c.loop-port.port ≡ 0 = omega arith in
    cleared_by (vec_items c.args.self.now.targets) c.args.row c.args.spare c.in-Some.spare c.args.ports (vec_items c.loop-port.self.targets) spare.0 c.in-Some.is
    (c.loop-port.invariant (vec_items c.loop-port.self.targets) (rw e (parked_none (vec_items c.loop-port.self.targets) c.args.row c.in-Some.spare)))
