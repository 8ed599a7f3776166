-- What is true of a run at every moment since it was opened. Assumes nothing.
use Rattle.std.specs.Prelude.{List}
use Rattle.calculus.specs.Books.{RuleBook}
use Rattle.strategies.specs.Behaviour.{Behaviour}
use Rattle.ledger.specs.Places.{Places}
use Rattle.ledger.specs.Ledger.{Balanced, Marked}
use Rattle.engine.specs.declared.run.Run.{Run}
use Rattle.engine.specs.States.{now_on, Proper}

-- the run works on a net of its book, and the pairs in `out` are those that are out: the pairs waiting in its strategy and the pairs out are together exactly the active pairs of its net, each once, and exactly the cells of the pairs out are marked
pub record Running {B S : Type 0} (mean : B → RuleBook) (acts : Behaviour S) (x : Run B S) (out : List Places) : Type 0 where
  pub proper : Proper mean x.net
  pub balanced : Balanced (mean x.net.book) (now_on x) (acts.bag x.strategy) out
  pub marks : Marked x.marks.cells out
