-- Rewriting a pair of a table in place, by the book: when it is refused, and what it promises. Assumes nothing.
use Rattle.std.specs.Prelude.{◌≡◌, ℕ, ◌+◌, ◌≤◌, List, length, Some, None, Ok, Err, Option, Result, slice_index}
use Rattle.arrayvec.specs.ArrayVec.{ArrayVec}
use Rattle.calculus.specs.Books.{RuleBook}
use Rattle.calculus.specs.Nets.{Pair, Active}
use Rattle.calculus.specs.Rewriting.{Rewriting}
use Rattle.nets.specs.declared.fault.PairFault.{PairFault}
use Rattle.nets.specs.declared.fault.PairFault.TheVariants.{NotReady, LoopsFull, NoPlace}
use Rattle.nets.specs.declared.table.Table.{Table}
use Rattle.nets.specs.Meaning.{net, content, arity_at, OfBook, cells_below}
use Rattle.nets.specs.Rewrites.{LoopsFree, Seats}

-- the pair has these places, L first
abbrev pub At : ℕ → ℕ → Pair → Type 0
At p q P = (P.left ≡ p) × (P.right ≡ q)

-- an active pair of cells whose arities are the book's
pub record Ready (K : RuleBook) (t : Table) (P : Pair) : Type 0 where
  pub active : Active K (net t) P
  pub left : K.arity P.rule.left ≡ arity_at (content t) P.left
  pub right : K.arity P.rule.right ≡ arity_at (content t) P.right

-- the rule's new cells do not outnumber the vacant places plus two
abbrev pub RoomForRule : Table → Pair → Type 0
RoomForRule t P = cells_below (net t) 1024 + length P.rule.cells ≤ 1026

-- what is against rewriting the pair in these places, the first of it
abbrev pub PairCause : RuleBook → Table → ℕ → ℕ → PairFault → Type 0
PairCause K t p q NotReady = (P : Pair) → At p q P → Ready K t P → ⊥
PairCause K t p q LoopsFull = (P : Pair) × At p q P × Ready K t P × (LoopsFree t → ⊥)
PairCause K t p q NoPlace = (P : Pair) × At p q P × Ready K t P × LoopsFree t × (RoomForRule t P → ⊥)

pub record PairAllowed (K : RuleBook) (t : Table) (P : Pair) : Type 0 where
  pub ready : Ready K t P
  pub loops : LoopsFree t
  pub places : RoomForRule t P

-- what is against it, or that nothing is
abbrev pub Against : RuleBook → Table → ℕ → ℕ → Option PairFault → Type 0
Against K t p q (Some e) = PairCause K t p q e
Against K t p q None = (P : Pair) × At p q P × PairAllowed K t P

-- which answer is due, and that a refusal changes nothing
abbrev pub PairDue : {X : Type 0} → RuleBook → Table → ℕ → ℕ → Table → Result X PairFault → Type 0
PairDue K s p q t (Ok x) = (P : Pair) × At p q P × PairAllowed K s P
PairDue K s p q t (Err e) = PairCause K s p q e × (t ≡ s)

-- where new cell i stands: place i of the answer
abbrev pub seat : List ℕ → ℕ → ℕ
seat places i = slice_index places i

-- t is s with the pair rewritten, the new cells in these places, a place for each, every other cell in its place, and a table of the book again
pub record RewroteAt (K : RuleBook) (s : Table) (P : Pair) (places : List ℕ) (t : Table) : Type 0 where
  pub number : length places ≡ length P.rule.cells
  pub seats : Seats (net s) P (seat places)
  pub rewriting : Rewriting K (net s) P (seat places) (net t)
  pub of_book : OfBook K t

-- the active pair of these places, in a table of the book, is rewritten by its rule
abbrev pub RewritesPair : RuleBook → Table → ℕ → ℕ → Table → Result (ArrayVec ℕ) PairFault → Type 0
RewritesPair K s p q t (Ok places) = OfBook K s → (P : Pair) → At p q P → Active K (net s) P → RewroteAt K s P places.items t
RewritesPair K s p q t (Err e) = Unit {0}
