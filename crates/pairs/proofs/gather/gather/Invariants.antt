use Rattle.std.proofs.Common.{take}
use Rattle.calculus.specs.Nets.{Good}
use Rattle.nets.specs.Meaning.{net}
use Rattle.pairs.specs.Gathering.{Whole, Gathered}
use Rattle.pairs.proofs.gather.gather.Given as goal

abbrev pub invariant-loop-place : goal.invariant-loop-place
invariant-loop-place g l =
    Good (g.B.Book.meaning l.book) (net l.table) → Whole (g.B.Book.meaning l.book) (net l.table) l.places →
    Gathered (g.B.Book.meaning l.book) (net l.table) (take l.place-index l.places) l.found.items
