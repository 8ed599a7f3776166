use Rattle.std.proofs.Common.{is_ok, ap}
use Rattle.nets.specs.Views.{at}
use Rattle.netfile.specs.Layout.{LayoutView}
use Rattle.nets.proofs.Attempts.{attempt_ok}
use Rattle.netfile.proofs.Mutuals.{link_ok}
use Rattle.netfile.proofs.Built.{named_due, link_room, naming_one}
use Rattle.netfile.proofs.layout.Layout.name_link.Goals as goal

-- a link that is due is there
pub unwrap-target-requires : goal.unwrap-target-requires
unwrap-target-requires g c =
    let f = c.self.inside.file in
    let l : LayoutView _ = record { book = f.book.now; bytes = f.bytes.now; head = f.head; starts = c.self.inside.starts.now } in
    let due = rw (← c.self.view_is) at c.in-Some.ensures in
    let (y, names) = named_due (g.B.Book.meaning f.book.now) l c.self.invariant.laid (at c.args.spot) due in
    link_ok f.bytes.now f.head _ _ c.link_at.ensures y names

pub unwrap-requires : goal.unwrap-requires
unwrap-requires g c =
    let f = c.self.inside.file in
    let K = g.B.Book.meaning f.book.now in
    let l : LayoutView _ = record { book = f.book.now; bytes = f.bytes.now; head = f.head; starts = c.self.inside.starts.now } in
    let due = rw (← c.self.view_is) at c.in-Some.ensures in
    let before = rw (← c.self.view_is) at c.requires in
    let names = rw c.unwrap-target.ensures at c.link_at.ensures in
    attempt_ok _ c.name_link.ensures (link_room K l c.self.invariant.laid _ before (at c.args.spot) (at c.unwrap-target.result) _ due names)

pub returns-in-Some : goal.returns-in-Some
returns-in-Some g c =
    let f = c.self.inside.file in
    let K = g.B.Book.meaning f.book.now in
    let l : LayoutView _ = record { book = f.book.now; bytes = f.bytes.now; head = f.head; starts = c.self.inside.starts.now } in
    let due = rw (← c.self.view_is) at c.in-Some.ensures in
    let before = rw (← c.self.view_is) at c.requires in
    let names = rw c.unwrap-target.ensures at c.link_at.ensures in
    rw (← c.self.view_is)
    (naming_one K l c.self.invariant.laid _ before (at c.args.spot) (at c.unwrap-target.result) c.in-Some.word _ (c.name_link.ensures.done (ap is_ok c.unwrap.ensures)) due names)
