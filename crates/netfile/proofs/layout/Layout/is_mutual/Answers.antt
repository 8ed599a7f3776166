use Rattle.std.proofs.Common.{◌≡◌, false, ◌≢◌, ◌↔◌, IsTrue, MatchResult, rules}
use Rattle.nets.specs.Views.{at}
use Rattle.netfile.proofs.Mutuals.{refuted, at_injective, mutual_with, tells_mutual}
use Rattle.netfile.proofs.layout.Layout.is_mutual.Goals as goal

-- the target is not there
pub returns-in_default-word_of : goal.returns-in_default-word_of
returns-in_default-word_of g c =
    let f = c.self.inside.file in
    let none = rw (← c.self.view_is) at c.in_default-word_of.ensures in
    rw (← c.self.view_is)
    (refuted _
    (λ m.
    let back = (mutual_with (g.B.Book.meaning f.book.now) f.bytes.now f.head (at c.args.spot) (at c.in-Ok.target) c.in-Ok.ensures m).1 in
    none back.0 back.1))

pub returns-then-ne : goal.returns-then-ne
returns-then-ne g c =
    let f = c.self.inside.file in
    let due = rw (← c.self.view_is) at c.in-Some.ensures in
    let apart : c.in-Ok.target ≢ c.args.spot = search rules in
    let tells : MatchResult c.link_at-then-ne.result (λ z. IsTrue c.is_ok_and.result ↔ (z ≡ c.args.spot)) (λ _. c.is_ok_and.result ≡ false) = search rules in
    rw (← c.self.view_is)
    (tells_mutual (g.B.Book.meaning f.book.now) f.bytes.now f.head c.args.spot (at c.in-Ok.target) c.in-Some.back c.args.word _ c.link_at-then-ne.result
    c.in-Ok.ensures (λ s. apart (at_injective _ _ s)) due c.link_at-then-ne.ensures tells)
