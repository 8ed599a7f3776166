-- A sealed net from a text. Assumes nothing.
use Rattle.std.specs.Prelude.{◌≡◌, ℕ, List, Ok, Err, Result}
use Rattle.refusals.specs.declared.faults.TextFault.{TextFault}
use Rattle.refusals.specs.declared.memory.OrMemory.{OrMemory}
use Rattle.calculus.specs.Combinators.{combinators}
use Rattle.books.specs.declared.combinators.Combinators.{Combinators}
use Rattle.nets.specs.Meaning.{OfBook}
use Rattle.terms.specs.declared.items.Items.{Items}
use Rattle.terms.specs.Named.{Named, items as items_of}
use Rattle.terms.specs.Bindings.{net_under}
use Rattle.terms.specs.Texts.{Reads}
use Rattle.terms.specs.Listing.{listed}
use Rattle.compile.specs.Compiling.{Answered}
use Rattle.engine.specs.declared.sealed.Sealed.{Sealed}
use Rattle.engine.specs.States.{held}

-- the text is a linear term within the limits; its items are listed in text order; the net is the term's, of the combinator book, cell i in place i
pub record SealedAs (text : List ℕ) (n : Sealed Combinators) (is : Items) : Type 0 where
  pub term : Named
  pub reads : Reads text term
  pub items : listed is ≡ items_of term
  pub net : held n.net ≡ net_under (items_of term) term
  pub proper : OfBook combinators n.net.table

-- such a net, or the fault that is due, or that memory is wanting
abbrev pub SealedFrom : List ℕ → Result (Sealed Combinators × Items) (OrMemory TextFault) → Type 0
SealedFrom text (Ok r) = SealedAs text r.0 r.1
SealedFrom text (Err f) = Answered text (Err f)
