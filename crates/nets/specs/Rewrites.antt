-- Rewriting a table in place: when it is refused, and what it promises. Assumes nothing.
use Rattle.std.specs.Prelude.{◌≡◌, ℕ, ◌+◌, ◌<◌, ◌≤◌, ◌≢◌, length, Some, Ok, Err, Result, slice_index}
use Rattle.std.specs.List.{slice_get}
use Rattle.calculus.specs.Spots.{port}
use Rattle.calculus.specs.Books.{Rule, RuleBook, Laws}
use Rattle.calculus.specs.Nets.{Net, Pair, Active}
use Rattle.calculus.specs.Rewriting.{Rewriting}
use Rattle.calculus.specs.Theorems.{Free}
use Rattle.books.specs.declared.table.RuleTable.{RuleTable}
use Rattle.books.specs.Tables.{Depicts}
use Rattle.nets.specs.declared.fault.RewriteFault.{RewriteFault}
use Rattle.nets.specs.declared.fault.RewriteFault.TheVariants.{NotFacing, Unfit, LoopsFull, NoPlace}
use Rattle.nets.specs.declared.table.Table.{Table}
use Rattle.nets.specs.Meaning.{net, content, OfBook, cells_below}
use Rattle.nets.specs.Fitting.{Fitting}

-- the places hold two cells whose principal ports are linked
abbrev pub Face : Net → ℕ → ℕ → Type 0
Face A p q = (A.mate (port p 0) ≡ port q 0) × (p ≢ q)

-- how many auxiliary ports the cell in the place has
abbrev pub ports_at : Table → ℕ → ℕ
ports_at t r = slice_index (content t).arities r

-- the table of the rule is for these cells: L in place p, R in place q
pub record Suits (t : Table) (p q : ℕ) (r : RuleTable) : Type 0 where
  pub left : (net t).kind p ≡ Some r.left
  pub right : (net t).kind q ≡ Some r.right
  pub fitting : Fitting (ports_at t p) (ports_at t q) r

-- there are at most 1,073,741,821 loops
abbrev pub LoopsFree : Table → Type 0
LoopsFree t = (net t).loops ≤ 1073741821

-- the new cells do not outnumber the vacant places plus two
abbrev pub PlacesFree : Table → RuleTable → Type 0
PlacesFree t r = cells_below (net t) 1024 + length r.cells.now ≤ 1026

-- the first thing that is against it, or that nothing is
abbrev pub Cause : Table → ℕ → ℕ → RuleTable → RewriteFault → Type 0
Cause t p q r NotFacing = Face (net t) p q → ⊥
Cause t p q r Unfit = Face (net t) p q × (Suits t p q r → ⊥)
Cause t p q r LoopsFull = Face (net t) p q × Suits t p q r × (LoopsFree t → ⊥)
Cause t p q r NoPlace = Face (net t) p q × Suits t p q r × LoopsFree t × (PlacesFree t r → ⊥)

pub record Allowed (t : Table) (p q : ℕ) (r : RuleTable) : Type 0 where
  pub facing : Face (net t) p q
  pub suits : Suits t p q r
  pub loops : LoopsFree t
  pub places : PlacesFree t r

-- which answer is due, and that a refusal changes nothing
abbrev pub Due : {X : Type 0} → Table → ℕ → ℕ → RuleTable → Table → Result X RewriteFault → Type 0
Due s p q r t (Ok x) = Allowed s p q r
Due s p q r t (Err e) = Cause s p q r e × (t ≡ s)

-- each new cell takes a vacant place or one that the pair gives up, no two the same
pub record Seats (A : Net) (P : Pair) (place : ℕ → ℕ) : Type 0 where
  pub low : (i k : ℕ) → slice_get P.rule.cells i ≡ Some k → place i < 1024
  pub free : Free A P place

-- t is s with the pair rewritten, the new cells in places of their own, every other cell in its place, and a table of the book again
pub record Rewrote (K : RuleBook) (s : Table) (P : Pair) (t : Table) : Type 0 where
  pub place : ℕ → ℕ
  pub seats : Seats (net s) P place
  pub rewriting : Rewriting K (net s) P place (net t)
  pub of_book : OfBook K t

-- a limit of the table, and no fault of the pair or its rule
abbrev pub Limit : RewriteFault → Type 0
Limit NotFacing = ⊥
Limit Unfit = ⊥
Limit LoopsFull = Unit {0}
Limit NoPlace = Unit {0}

-- an active pair of a table of the book is rewritten by its rule, unless a limit is met
abbrev pub Outcome : {X : Type 0} → RuleBook → Table → Pair → Table → Result X RewriteFault → Type 0
Outcome K s P t (Ok x) = Rewrote K s P t
Outcome K s P t (Err e) = Limit e

-- two places, L first, with the rule in position i
abbrev pub pair : ℕ → ℕ → ℕ → Rule → Pair
pair p q i w = record { left = p; right = q; position = i; rule = w }

-- whatever the book
abbrev pub Rewrites : {X : Type 0} → Table → ℕ → ℕ → RuleTable → Table → Result X RewriteFault → Type 0
Rewrites s p q r t x =
    (K : RuleBook) (i : ℕ) (w : Rule) → Laws K → OfBook K s → Depicts K r w → Active K (net s) (pair p q i w) → Outcome K s (pair p q i w) t x
