use Rattle.std.proofs.Common.{is_ok, ap}
use Rattle.nets.specs.Views.{at}
use Rattle.nets.specs.Drafts.{plan}
use Rattle.nets.proofs.Attempts.{link_free, attempt_ok}
use Rattle.compile.proofs.Links.{planned_nameable, planned_named, linked_both}
use Rattle.compile.proofs.linking.link.Goals as goal

pub unwrap-requires : goal.unwrap-requires
unwrap-requires c =
    let d = c.args.draft.now in
    let (here, there) = c.requires.there in
    attempt_ok _ c.name_link.ensures (link_free (plan d) (at c.args.from) (at c.args.to) here (planned_nameable d (at c.args.to) there))

pub unwrap-requires-2 : goal.unwrap-requires-2
unwrap-requires-2 c =
    let d = c.args.draft.now in
    let (here, there) = c.requires.there in
    let one = c.name_link.ensures.done (ap is_ok c.unwrap.ensures) in
    attempt_ok _ c.name_link-2.ensures
    (link_free (plan c.name_link.new.self) (at c.args.to) (at c.args.from) (planned_named _ _ _ _ one (at c.args.to) there) (planned_nameable d (at c.args.from) here))

pub returns : goal.returns
returns c =
    linked_both _ _ _ (at c.args.from) (at c.args.to) c.requires.apart c.requires.there.0
    (c.name_link.ensures.done (ap is_ok c.unwrap.ensures)) (c.name_link-2.ensures.done (ap is_ok c.unwrap-2.ensures))
