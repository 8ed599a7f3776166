-- What the private functions that seat the new cells and replace a pair tell each other; no public contract cites it. Assumes nothing.
use Rattle.std.specs.Prelude.{◌≡◌, ℕ, zero, suc, ◌+◌, ◌-◌, ◌<◌, ◌≤◌, min, max, Bool, true, false, ◌≢◌, List, length, Some, None, Ok, Err, Option, Result, nat_lt}
use Rattle.calculus.specs.Books.{Rule, RuleBook, Laws}
use Rattle.calculus.specs.Nets.{Net, Active}
use Rattle.books.specs.declared.table.RuleTable.{RuleTable}
use Rattle.books.specs.Tables.{Depicts}
use Rattle.nets.specs.declared.fault.RewriteFault.{RewriteFault}
use Rattle.nets.specs.declared.fault.PairFault.{PairFault}
use Rattle.nets.specs.declared.fault.PairFault.TheVariants.{NotReady}
use Rattle.nets.specs.declared.fault.Limit.{Limit}
use Rattle.nets.specs.declared.fault.Limit.TheVariants.{Loops, Places}
use Rattle.nets.specs.declared.table.Table.{Table}
use Rattle.nets.specs.Layout.{bit}
use Rattle.nets.specs.Meaning.{net, OfBook, cells_below}
use Rattle.nets.specs.Fitting.{Fitting}
use Rattle.nets.specs.Rewrites.{Face, ports_at, pair, LoopsFree, Cause, Allowed}
use Rattle.nets.specs.ByBook.{Ready, PairCause, seat, RewroteAt}

-- how many of the places below n are occupied
unfoldable pub bits_below : List ℕ → ℕ → ℕ
bits_below map zero = 0
bits_below map (suc n) = bits_below map n + bit map n

-- the bit of r has turned, the others stand
pub record Flipped (ms : List ℕ) (r : ℕ) (ns : List ℕ) : Type 0 where
  pub long : length ns ≡ length ms
  pub here : bit ns r ≡ 1 - bit ms r
  pub other : (k : ℕ) → k ≢ r → bit ns k ≡ bit ms k

-- it has where that was asked for
abbrev pub FlippedIf : Bool → List ℕ → ℕ → List ℕ → Type 0
FlippedIf true ms r ns = Flipped ms r ns
FlippedIf false ms r ns = ns ≡ ms

-- the highest place that is vacant, if one is
abbrev pub Highest : List ℕ → Option ℕ → Type 0
Highest map (Some r) = (r < 1024) × (bit map r ≡ 0) × ((k : ℕ) → r < k → k < 1024 → bit map k ≡ 1)
Highest map None = (k : ℕ) → k < 1024 → bit map k ≡ 1

-- it is taken where that was asked for
abbrev pub Taken : Bool → List ℕ → ℕ → List ℕ → Type 0
Taken true ms r ns = Highest ms (Some r) × Flipped ms r ns
Taken false ms r ns = ns ≡ ms

-- the places of n new cells: the two given up, lower first, then vacant ones from the top down
pub record Seated (p q n : ℕ) (ms ps ns : List ℕ) : Type 0 where
  pub number : length ps ≡ n
  pub first : 0 < n → seat ps 0 ≡ min p q
  pub second : 1 < n → seat ps 1 ≡ max p q
  pub lefts : List ℕ
  pub rights : List ℕ
  pub thirds : List ℕ
  pub low : FlippedIf (nat_lt n 1) ms (min p q) lefts
  pub high : FlippedIf (nat_lt n 2) lefts (max p q) rights
  pub third : Taken (nat_lt 2 n) rights (seat ps 2) thirds
  pub fourth : Taken (nat_lt 3 n) thirds (seat ps 3) ns

-- that nothing is against the rewrite by a rule, or what is
abbrev pub Checked : Table → ℕ → ℕ → RuleTable → Result (Unit {0}) RewriteFault → Type 0
Checked t p q r (Ok x) = Allowed t p q r
Checked t p q r (Err e) = Cause t p q r e

-- r is the rule of the pair in these places, which is ready
pub record RuleReady (K : RuleBook) (t : Table) (p q : ℕ) (r : RuleTable) : Type 0 where
  pub position : ℕ
  pub rule : Rule
  pub depicts : Depicts K r rule
  pub ready : Ready K t (pair p q position rule)

-- the rule of the pair in these places, if it is ready
abbrev pub Chosen : RuleBook → Table → ℕ → ℕ → Option RuleTable → Type 0
Chosen K t p q (Some r) = RuleReady K t p q r
Chosen K t p q None = PairCause K t p q NotReady

-- there is room for n new cells
abbrev pub RoomFor : Table → ℕ → Type 0
RoomFor t n = cells_below (net t) 1024 + n ≤ 1026

-- that no limit is against n new cells, or which is
abbrev pub Limiting : Table → ℕ → Result (Unit {0}) Limit → Type 0
Limiting t n (Ok x) = LoopsFree t × RoomFor t n
Limiting t n (Err Loops) = LoopsFree t → ⊥
Limiting t n (Err Places) = LoopsFree t × (RoomFor t n → ⊥)

-- the rule by which the pair in these places can be rewritten, or what is against that
abbrev pub RuleChecked : RuleBook → Table → ℕ → ℕ → Result RuleTable PairFault → Type 0
RuleChecked K t p q (Ok r) = RuleReady K t p q r × LoopsFree t × RoomFor t (length r.cells.now)
RuleChecked K t p q (Err e) = PairCause K t p q e

-- a limit as a fault of the one call and of the other
abbrev pub to_rewrite_fault : Limit → RewriteFault
to_rewrite_fault Loops = RewriteFault.LoopsFull
to_rewrite_fault Places = RewriteFault.NoPlace

abbrev pub to_pair_fault : Limit → PairFault
to_pair_fault Loops = PairFault.LoopsFull
to_pair_fault Places = PairFault.NoPlace

-- the table of a rule can replace the pair in these places
pub record Replaceable (t : Table) (p q : ℕ) (r : RuleTable) : Type 0 where
  pub facing : Face (net t) p q
  pub fitting : Fitting (ports_at t p) (ports_at t q) r
  pub loops : LoopsFree t
  pub places : RoomFor t (length r.cells.now)

-- the new cells stand in the two places given up, lower place first, then in vacant places from the top down, none skipped
pub record Downwards (A : Net) (p q n : ℕ) (place : ℕ → ℕ) : Type 0 where
  pub first : 0 < n → place 0 ≡ min p q
  pub second : 1 < n → place 1 ≡ max p q
  pub vacant : (i : ℕ) → 2 ≤ i → i < n → (place i < 1024) × (A.kind (place i) ≡ None)
  pub down : 3 < n → place 3 < place 2
  pub third : 2 < n → (r : ℕ) → place 2 < r → r < 1024 → A.kind r ≢ None
  pub fourth : 3 < n → (r : ℕ) → place 3 < r → r < 1024 → r ≢ place 2 → A.kind r ≢ None

-- an active pair of a table of the book is rewritten by its rule, the new cells seated so
abbrev pub Replaced : Table → ℕ → ℕ → RuleTable → List ℕ → Table → Type 0
Replaced s p q r places t =
    (K : RuleBook) (i : ℕ) (w : Rule) → Laws K → OfBook K s → Depicts K r w → Active K (net s) (pair p q i w) →
    RewroteAt K s (pair p q i w) places t × Downwards (net s) p q (length r.cells.now) (seat places)
