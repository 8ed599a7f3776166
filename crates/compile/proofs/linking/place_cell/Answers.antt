use Rattle.std.proofs.Common.{◌≡◌, true, ◌≢◌, is_ok, ap, subst, arith}
use Rattle.calculus.specs.Spots.{port}
use Rattle.nets.specs.Views.{at}
use Rattle.nets.specs.Drafts.{plan, planned}
use Rattle.nets.proofs.Attempts.{cell_free, attempt_ok}
use Rattle.compile.proofs.Links.{planned_added, new_port, old_spot}
use Rattle.compile.proofs.linking.place_cell.Goals as goal

pub unwrap-requires : goal.unwrap-requires
unwrap-requires c =
    let (next, room) = c.requires.next in
    attempt_ok _ c.add_cell.ensures (cell_free (plan c.args.draft.now) 2 (omega arith) (omega arith))

pub link-requires : goal.link-requires
link-requires c =
    let x = at c.args.spot in
    let j = c.args.port in
    let p = plan c.args.draft.now in
    let next = c.requires.next.0 in
    let (there, low) = c.requires.there in
    let added = c.add_cell.ensures.done (ap is_ok c.unwrap.ensures) in
    record {
      there = (planned_added _ _ 0 2 added x there, subst (λ r. planned (plan c.add_cell.new.self) (port r j) ≡ true) next (new_port _ _ j added low));
      apart = subst (λ r. x ≢ port r j) next (old_spot p x j there);
    }

pub returns : goal.returns
returns c = (plan c.add_cell.new.self, c.add_cell.ensures.done (ap is_ok c.unwrap.ensures), c.link.ensures)
