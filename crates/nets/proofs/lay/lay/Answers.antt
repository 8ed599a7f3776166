use Rattle.std.proofs.Common.{◌≡◌, ◌+◌, ◌<◌, length, get_or, vec_items, sym, subst, arith}
use Rattle.books.specs.declared.table.Wire.{Wire}
use Rattle.books.specs.declared.table.RulePort.TheVariants.{L}
use Rattle.books.specs.Tables.{port_of, wires_of}
use Rattle.books.proofs.Depicted.{wires_long, wire_at}
use Rattle.nets.specs.Layout.{slot_of}
use Rattle.nets.specs.Rewiring.{Known, seat_of, Laying}
use Rattle.nets.proofs.Slots.{whole}
use Rattle.nets.proofs.Laying.{known_both, laid_none, laid_all, from_small, to_small, laid_more}
use Rattle.nets.proofs.lay.lay.Goals as goal

pub loop-from-init : goal.loop-from-init
loop-from-init c = laid_none (vec_items c.args.links.now.targets) (wires_of c.args.rule.now) c.args.places.now

-- what is read past the last wire
abbrev past : Wire
past = (L 0, L 0)

pub moved-requires : goal.moved-requires
moved-requires c =
    let i = c.loop-from.from-index in
    let h : i < length c.args.rule.now.wires.now = omega arith in
    let k : Known c.args.places.now (port_of (get_or c.args.rule.now.wires.now i past).0) = (known_both (wires_of c.args.rule.now) c.args.places.now c.requires i _ _ (wire_at c.args.rule.now i past h)).0 in
    grind arith

pub moved-requires-in-loop-from : goal.moved-requires-in-loop-from
moved-requires-in-loop-from c =
    let i = c.loop-from.from-index in
    let h : i < length c.args.rule.now.wires.now = omega arith in
    let k : Known c.args.places.now (port_of (get_or c.args.rule.now.wires.now i past).1) = (known_both (wires_of c.args.rule.now) c.args.places.now c.requires i _ _ (wire_at c.args.rule.now i past h)).1 in
    grind arith

pub join-requires-clause-first : goal.join-requires-clause-first
join-requires-clause-first c =
    let i = c.loop-from.from-index in
    let h : i < length c.args.rule.now.wires.now = omega arith in
    let s = from_small (wires_of c.args.rule.now) c.args.places.now c.requires (vec_items c.args.links.now.targets) (vec_items c.loop-from.links.targets) i c.loop-from.invariant _ _ (wire_at c.args.rule.now i past h) in
    omega (arith, c.moved.ensures, s)

pub join-requires-clause-second : goal.join-requires-clause-second
join-requires-clause-second c =
    let i = c.loop-from.from-index in
    let h : i < length c.args.rule.now.wires.now = omega arith in
    let s = to_small (wires_of c.args.rule.now) c.args.places.now c.requires (vec_items c.args.links.now.targets) (vec_items c.loop-from.links.targets) i c.loop-from.invariant _ _ (wire_at c.args.rule.now i past h) in
    omega (arith, c.moved-in-loop-from.ensures, s)

pub loop-from-preserved : goal.loop-from-preserved
loop-from-preserved c =
    let i = c.loop-from.from-index in
    let h : i < length c.args.rule.now.wires.now = omega arith in
    let from : slot_of c.moved.result ≡ seat_of c.args.places.now (port_of (get_or c.args.rule.now.wires.now i past).0) = omega (arith, c.moved.ensures) in
    let to : slot_of c.moved-in-loop-from.result ≡ seat_of c.args.places.now (port_of (get_or c.args.rule.now.wires.now i past).1) = omega (arith, c.moved-in-loop-from.ensures) in
    subst (Laying (vec_items c.args.links.now.targets) (wires_of c.args.rule.now) c.args.places.now (i + 1)) (sym c.join.ensures)
    (laid_more (wires_of c.args.rule.now) c.args.places.now c.requires (vec_items c.args.links.now.targets) (vec_items c.loop-from.links.targets) i c.loop-from.invariant _ _
    (wire_at c.args.rule.now i past h) c.moved.result c.moved-in-loop-from.result (whole c.loop-from.links) from to)

pub returns : goal.returns
returns c =
    laid_all (vec_items c.args.links.now.targets) (vec_items c.loop-from.links.targets) (wires_of c.args.rule.now) c.args.places.now c.loop-from.from-index
    (let z = wires_long c.args.rule.now in omega arith) c.loop-from.invariant
