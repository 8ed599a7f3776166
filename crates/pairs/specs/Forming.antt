-- Rewriting a pair, and the pairs that become active by it. Assumes nothing.
use Rattle.std.specs.Prelude.{◌≡◌, ℕ, List, map, Ok, Err, Result}
use Rattle.calculus.specs.Books.{RuleBook}
use Rattle.calculus.specs.Nets.{Active, Pair as CPair}
use Rattle.strategies.specs.declared.pair.Pair.{Pair as Waiting}
use Rattle.nets.specs.declared.fault.PairFault.{PairFault}
use Rattle.nets.specs.declared.table.Table.{Table}
use Rattle.nets.specs.Meaning.{net, OfBook}
use Rattle.nets.specs.ByBook.{At, RewroteAt}
use Rattle.arrayvec.specs.ArrayVec.{ArrayVec}
use Rattle.pairs.specs.Pairs.{waiting, InOrder, Became}

-- P was rewritten, and these pairs became active by it, in order
pub record FormedBy (K : RuleBook) (s : Table) (P : CPair) (t : Table) (ps : List Waiting) : Type 0 where
  pub places : List ℕ
  pub rewrote : RewroteAt K s P places t
  pub pairs : List CPair
  pub became : InOrder (Became K (net s) P (net t)) pairs
  pub same : ps ≡ map waiting pairs

-- the active pair of these places, in a table of the book, is rewritten, and the answer has the pairs that became active by it
abbrev pub Forms : RuleBook → Table → ℕ → ℕ → Table → Result (ArrayVec Waiting) PairFault → Type 0
Forms K s p q t (Ok f) = OfBook K s → (P : CPair) → At p q P → Active K (net s) P → FormedBy K s P t f.items
Forms K s p q t (Err e) = Unit {0}
