use Rattle.std.proofs.Common.{subst}
use Rattle.nets.specs.Views.{at}
use Rattle.netfile.specs.Reading.{Mutual}
use Rattle.netfile.proofs.Order.{same_word}
use Rattle.netfile.proofs.layout.Layout.check_spot.Goals as goal

pub returns-in_default : goal.returns-in_default
returns-in_default g c w due =
    let s = c.args.self.now in
    let K = g.B.Book.meaning s.book in
    let x = at c.args.spot in
    subst (λ n. Mutual K s.bytes s.head.ends s.head.cells x n) (same_word K s.bytes s.head.ends s.head.cells x c.in-Some.ensures due)
    (c.is_mutual.ensures.0 c.if-not-is_mutual.false)
