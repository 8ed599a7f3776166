use Rattle.std.proofs.Common.{ℕ, ◌+◌, ◌-◌, ◌<◌, ◌≤◌, ltb, ◌≢◌, List, length, vec_items, sym, refl, ap, ◌∙◌, subst, arith}
use Rattle.books.specs.Tables.{wires_of}
use Rattle.books.proofs.Depicted.{cells_same}
use Rattle.nets.specs.Layout.{kinds, arities}
use Rattle.nets.specs.Meaning.{Content, content}
use Rattle.nets.specs.Rewiring.{Room, Places, Laid, Filled}
use Rattle.nets.specs.ByBook.{seat}
use Rattle.nets.specs.Rewrites.{ports_at}
use Rattle.nets.proofs.Counting.{cells_are}
use Rattle.nets.proofs.Seatings.{turn_is, turn_small, places}
use Rattle.nets.proofs.Altering.{cleared_if, if_spare}
use Rattle.nets.proofs.Filling.{listed_kinds, listed_arities}
use Rattle.nets.proofs.Finishing.{Did, relinked_of, downwards, p_on, q_on, p_low, q_low, room_of, few_loops, slots_other, slots_standing, slots_back, few_ports, map_long, rewriting_K, of_book_K, seats_K}
use Rattle.nets.proofs.Indexing.{p_place, q_place, p_arity, q_arity, p_few, q_few}
use Rattle.nets.proofs.table.Table.replace.Goals as goal
use Rattle.nets.proofs.table.Table.replace.Goals.{After-take_places-places, After-fill}

pub index-requires : goal.index-requires
index-requires c = p_place c.args.self.now c.args.left c.args.right c.requires.facing

pub index-requires-2 : goal.index-requires-2
index-requires-2 c = q_place c.args.self.now c.args.left c.args.right c.requires.facing

pub take_places-places-requires : goal.take_places-places-requires
take_places-places-requires c =
    let e = cells_are (content c.args.self.now) 1024 in
    let f = c.requires.places in
    record {
      first = p_low c.args.self.now c.args.left c.args.right c.requires.facing;
      second = q_low c.args.self.now c.args.left c.args.right c.requires.facing;
      few = c.requires.fitting.few;
      room = omega arith;
    }

pub clear-left_row-requires : goal.clear-left_row-requires
clear-left_row-requires c =
    let s = c.args.self.now in
    let h = p_low s c.args.left c.args.right c.requires.facing in
    let t : c.from-turn.result ≤ 1 = omega (arith, c.from-turn.ensures, turn_is c.args.left c.args.right, turn_small c.args.left c.args.right) in
    let e = p_arity s c.args.left c.args.right c.requires.facing c.index.result.now c.index.ensures in
    record { first = omega arith; second = if_spare (λ t. (t < 1030) × (c.args.left ≢ t)) _ _ c.then_some-left_spare.result c.then_some-left_spare.ensures (omega arith, λ z. omega arith); few = omega (arith, s.ports c.args.left) }

pub clear-right_row-requires : goal.clear-right_row-requires
clear-right_row-requires c =
    let s = c.args.self.now in
    let h = q_low s c.args.left c.args.right c.requires.facing in
    let t : c.from-turn.result ≤ 1 = omega (arith, c.from-turn.ensures, turn_is c.args.left c.args.right, turn_small c.args.left c.args.right) in
    let e = q_arity s c.args.left c.args.right c.requires.facing c.index-2.result.now c.index-2.ensures in
    record { first = omega arith; second = if_spare (λ t. (t < 1030) × (c.args.right ≢ t)) _ _ c.then_some-right_spare.result c.then_some-right_spare.ensures (omega arith, λ z. omega arith); few = omega (arith, s.ports c.args.right) }

-- the places of the new cells
seats : (c : After-take_places-places) → Places (seat c.take_places-places.result.items) (length c.args.rule.now.cells.now)
seats c =
    places c.args.left c.args.right (length c.args.rule.now.cells.now) c.args.self.now.occupied c.take_places-places.result.items c.take_places-places.new.map c.take_places-places.ensures
    c.requires.fitting.few c.requires.facing.1
    (p_low c.args.self.now c.args.left c.args.right c.requires.facing) (q_low c.args.self.now c.args.left c.args.right c.requires.facing)
    (p_on c.args.self.now c.args.left c.args.right c.requires.facing) (q_on c.args.self.now c.args.left c.args.right c.requires.facing)

pub splice_rows-first-requires-clause-few : goal.splice_rows-first-requires-clause-few
splice_rows-first-requires-clause-few c = omega (arith, p_few c.args.self.now c.args.left c.args.right c.requires.facing c.index.result.now c.index.ensures)

pub splice_rows-second-requires-clause-few : goal.splice_rows-second-requires-clause-few
splice_rows-second-requires-clause-few c = omega (arith, q_few c.args.self.now c.args.left c.args.right c.requires.facing c.index-2.result.now c.index-2.ensures)

pub lay-requires : goal.lay-requires
lay-requires c =
    subst (Room (wires_of c.args.rule.now)) (sym c.deref.ensures.0)
    (room_of (ports_at c.args.self.now c.args.left) (ports_at c.args.self.now c.args.right) c.args.rule.now c.requires.fitting
    (c.args.self.now.ports c.args.left) (c.args.self.now.ports c.args.right) c.take_places-places.result.items c.take_places-places.ensures.number
    (seats (goal.at.lay-requires c).After-take_places-places))

pub fill-requires : goal.fill-requires
fill-requires c = record {
  long = c.args.self.now.places.ok.0 ∙ c.args.self.now.every;
  paired = omega (arith, c.take_places-places.ensures.number, ap length c.deref-2.ensures.0);
  places = subst (λ (ps : List ℕ). Places (seat ps) (length c.args.rule.now.cells.now)) (sym c.deref-2.ensures.0) (seats (goal.at.fill-requires c).After-take_places-places);
}

-- what the table holds in the end
abbrev after : After-fill → Content
after c = record {
  links = vec_items c.splice_rows-second.new.self.targets;
  kinds = kinds (vec_items c.fill.new.cells);
  arities = arities (vec_items c.fill.new.cells);
  occupied = c.take_places-places.new.map;
  ends = c.args.self.now.ends;
  loops = c.args.self.now.loops + c.splice_rows-first.result + c.splice_rows-second.result;
}

filled : (c : After-fill) → Filled (vec_items c.args.self.now.places) c.args.rule.now.cells.now (length c.args.rule.now.cells.now) c.take_places-places.result.items (vec_items c.fill.new.cells)
filled c =
    subst (λ (ps : List ℕ). Filled (vec_items c.args.self.now.places) c.args.rule.now.cells.now (length c.args.rule.now.cells.now) ps (vec_items c.fill.new.cells)) c.deref-2.ensures.0 c.fill.ensures

did : (c : After-fill) → Did c.args.self.now c.args.left c.args.right c.args.rule.now (after c)
did c =
    let s = c.args.self.now in
    let p = c.args.left in
    let q = c.args.right in
    let r = c.args.rule.now in
    let F = c.requires.facing in
    let ps = c.take_places-places.result.items in
    record {
      ps = c.take_places-places.result.items;
      seated = c.take_places-places.ensures;
      relinked = relinked_of s p q r ps
          (vec_items c.clear-left_row.new.self.targets) (vec_items c.clear-right_row.new.self.targets) (vec_items c.lay.new.links.targets) (vec_items c.splice_rows-first.new.self.targets) (vec_items c.splice_rows-second.new.self.targets)
          c.from-turn.result c.index.result.now.arity c.index-2.result.now.arity c.clear-left_row.result c.clear-right_row.result c.splice_rows-first.result c.splice_rows-second.result
          (s.loops + c.splice_rows-first.result + c.splice_rows-second.result)
          (c.from-turn.ensures ∙ turn_is p q) (p_arity s p q F c.index.result.now c.index.ensures) (q_arity s p q F c.index-2.result.now c.index-2.ensures)
          (cleared_if (vec_items s.links.targets) p (1024 + c.from-turn.result) c.index.result.now.arity (ltb c.from-turn.result (length r.cells.now)) (vec_items c.clear-left_row.new.self.targets) c.clear-left_row.result c.then_some-left_spare.result c.then_some-left_spare.ensures c.clear-left_row.ensures)
          (cleared_if (vec_items c.clear-left_row.new.self.targets) q (1025 - c.from-turn.result) c.index-2.result.now.arity (ltb (1 - c.from-turn.result) (length r.cells.now)) (vec_items c.clear-right_row.new.self.targets) c.clear-right_row.result c.then_some-right_spare.result c.then_some-right_spare.ensures c.clear-right_row.ensures)
          (subst (λ (ps : List ℕ). Laid (vec_items c.clear-right_row.new.self.targets) (wires_of r) ps (vec_items c.lay.new.links.targets)) c.deref.ensures.0 c.lay.ensures) c.splice_rows-first.ensures c.splice_rows-second.ensures refl;
      kinds = listed_kinds (vec_items s.places) r.cells.now (length r.cells.now) ps (vec_items c.fill.new.cells) (filled c);
      arities = listed_arities (vec_items s.places) r.cells.now (length r.cells.now) ps (vec_items c.fill.new.cells) (filled c);
      ends = refl;
    }

pub invariant_of-self : goal.invariant_of-self
invariant_of-self c =
    let s = c.args.self.now in
    let p = c.args.left in
    let q = c.args.right in
    let r = c.args.rule.now in
    let Y = c.requires in
    let W = did c in
    record {
      every = c.fill.ensures.long ∙ s.every;
      ports = few_ports s p q r Y (after c) W;
      wide = map_long s p q r Y (after c) W;
      few = s.few;
      counted = few_loops s p q r Y (after c) W;
      standing = slots_standing s p q r Y (after c) W;
      back = slots_back s p q r Y (after c) W;
      other = slots_other s p q r Y (after c) W;
    }

pub returns : goal.returns
unfolding did
returns c =
    let e = (goal.at.returns c).After-fill in
    let s = c.args.self.now in
    let p = c.args.left in
    let q = c.args.right in
    let r = c.args.rule.now in
    let Y = c.requires in
    λ K i w laws ofb dep act. (
      record {
        number = e.take_places-places.ensures.number ∙ cells_same K r w dep;
        seats = seats_K s p q r Y (after e) (did e) K w i laws ofb dep act;
        rewriting = rewriting_K s p q r Y (after e) (did e) K w i laws ofb dep act;
        of_book = of_book_K s p q r Y (after e) (did e) K w i laws ofb dep act;
      },
      downwards s p q r Y (after e) (did e),
    )
