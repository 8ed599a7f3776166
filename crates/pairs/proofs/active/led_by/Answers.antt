use Rattle.std.proofs.Common.{ℕ, eqb, ap, ◌∙◌}
use Rattle.std.specs.Bool.{then_some}
use Rattle.nets.specs.Meaning.{net}
use Rattle.pairs.proofs.Gathers.{led_if}
use Rattle.pairs.proofs.active.led_by.Goals as goal

pub returns : goal.returns
returns g c = λ G.
    led_if (g.B.Book.meaning c.args.book.now) (g.met.B.Book.lawful c.args.book.now) (net c.args.table.now) G c.args.place c.in_ok-pair.pair c.in_ok-pair.ensures c.then_some.result
    (c.then_some.ensures ∙ ap (λ (n : ℕ). then_some (eqb n c.args.place) c.in_ok-pair.pair) c.lower.ensures)
