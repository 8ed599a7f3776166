-- What compiling a text answers. Assumes nothing.
use Rattle.std.specs.Prelude.{◌≡◌, ℕ, List, Ok, Err, Result}
use Rattle.refusals.specs.declared.faults.TextFault.{TextFault}
use Rattle.refusals.specs.declared.memory.OrMemory.{OrMemory}
use Rattle.calculus.specs.Combinators.{combinators}
use Rattle.nets.specs.Meaning.{net as net_of, OfBook}
use Rattle.terms.specs.Named.{Named, items as items_of}
use Rattle.terms.specs.Bindings.{net_under}
use Rattle.terms.specs.Texts.{Reads, Due}
use Rattle.terms.specs.Listing.{listed}
use Rattle.compile.specs.declared.compiler.Compiled.{Compiled}

-- the text is a linear term within the limits; its items are listed in text order; the table is of the combinator book and holds the term's net, cell i in place i
pub record CompiledAs (text : List ℕ) (c : Compiled) : Type 0 where
  pub term : Named
  pub reads : Reads text term
  pub items : listed c.items ≡ items_of term
  pub net : net_of c.table ≡ net_under (items_of term) term
  pub book : OfBook combinators c.table

-- such a net, or the fault that is due, or that memory is wanting
abbrev pub Answered : List ℕ → Result Compiled (OrMemory TextFault) → Type 0
Answered text (Ok c) = CompiledAs text c
Answered text (Err (OrMemory.Fault f)) = Due text f
Answered text (Err OrMemory.Memory) = Unit {0}
