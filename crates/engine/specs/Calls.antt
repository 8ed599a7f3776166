-- What the calls of a run answer and do. Assumes nothing.
use Rattle.std.specs.Prelude.{◌≡◌, ℕ, ◌+◌, ◌<◌, ◌≤◌, Bool, true, false, ◌⊎◌, List, [], ◌∷◌, map, length, Ok, Err, Result, slice_set}
use Rattle.calculus.specs.Books.{RuleBook}
use Rattle.calculus.specs.Nets.{Active, AtRest}
use Rattle.calculus.specs.Nets.{Pair as CPair}
use Rattle.refusals.specs.declared.faults.StrategyFault.{StrategyFault}
use Rattle.refusals.specs.declared.faults.StrategyFault.TheVariants.{Empty}
use Rattle.refusals.specs.declared.faults.RunFault.{RunFault}
use Rattle.refusals.specs.declared.faults.RunFault.TheVariants.{Foreign, NoPlace, Spent, Busy}
use Rattle.refusals.specs.Faults.{run_refusal}
use Rattle.strategies.specs.Behaviour.{Behaviour}
use Rattle.strategies.specs.declared.pair.Pair.{Pair as Waiting}
use Rattle.strategies.specs.Bags.{Put, Taken, Cleared}
use Rattle.engine.specs.declared.sealed.Sealed.{Sealed}
use Rattle.engine.specs.declared.normal.Normal.{Normal}
use Rattle.engine.specs.declared.run.Run.{Run}
use Rattle.engine.specs.declared.slip.Slip.{Slip}
use Rattle.nets.specs.Rewrites.{LoopsFree}
use Rattle.nets.specs.ByBook.{At, Ready, RoomForRule, RewroteAt}
use Rattle.pairs.specs.Pairs.{InOrder, Became, waiting}
use Rattle.engine.specs.States.{now_on, Proper, marked, slip_places}
use Rattle.ledger.specs.Places.{Places, without}
use Rattle.engine.specs.Running.{Running}

module _ {S : Type 0} (acts : Behaviour S) where
  -- the pairs are put one after the other, none is refused, and each put leaves the strategy's state as its own relation says
  pub data Puts : S → List Waiting → S → Type 0 where
    none : {s : S} → Puts s [] s
    put : {s t u : S} {p : Waiting} {ps : List Waiting} → Put (acts.bag s) p (Ok tt) (acts.bag t) → acts.putting s p (Ok tt) t → Puts t ps u → Puts s (p ∷ ps) u

-- the run that a sealed net, a strategy and a stamp are opened to
pub record Opens {B S : Type 0} (mean : B → RuleBook) (acts : Behaviour S) (n : Sealed B) (s : S) (given : ℕ) (x : Run B S) : Type 0 where
  pub net : x.net ≡ n.net
  pub stamp : x.stamp ≡ given
  pub count : x.count ≡ 0
  pub unmarked : (r : ℕ) → marked x r ≡ false
  -- the strategy is cleared, and then every active pair put by rising lower place
  pub cleared : S
  pub clears : acts.clearing s cleared
  pub empty : Cleared (acts.bag cleared)
  pub puts : Proper mean n.net → (ps : List CPair) × InOrder (Active (mean n.net.book) (now_on x)) ps × Puts acts cleared (map waiting ps) x.strategy
  pub running : Proper mean n.net → Running mean acts x []

module _ {B S : Type 0} (mean : B → RuleBook) (acts : Behaviour S) where
  -- a draw that answers a slip: some waiting pair, with this run's stamp; its cells are marked, and nothing else changes
  pub record Drew (x : Run B S) (s : Slip) (y : Run B S) : Type 0 where
    pub pair : Waiting
    pub taken : Taken (acts.bag x.strategy) (Ok pair) (acts.bag y.strategy)
    pub own : acts.taking x.strategy (Ok pair) y.strategy
    pub slip : s ≡ record { stamp = x.stamp; left = pair.left; right = pair.right }
    pub marks : y.marks.cells ≡ slice_set (slice_set x.marks.cells pair.left true) pair.right true
    pub net : y.net ≡ x.net
    pub stamp : y.stamp ≡ x.stamp
    pub count : y.count ≡ x.count
    pub running : (out : List Places) → Running mean acts x out → Running mean acts y (slip_places s ∷ out)

  -- a draw is refused exactly when no pair waits, and then nothing changes
  abbrev pub Draws : Run B S → Result Slip StrategyFault → Run B S → Type 0
  Draws x (Ok s) y = Drew x s y
  Draws x (Err f) y = (f ≡ Empty) × (length (acts.bag x.strategy) ≡ 0) × (y ≡ x)

  -- the slip's pair is out here: it has this run's stamp, its cells are marked, and they are an active pair, L first
  pub record OutHere (x : Run B S) (s : Slip) (P : CPair) : Type 0 where
    pub stamp : s.stamp ≡ x.stamp
    pub left : marked x s.left ≡ true
    pub right : marked x s.right ≡ true
    pub at : At s.left s.right P
    pub ready : Ready (mean x.net.book) x.net.table P

  -- 100,000,000 interactions are made, or there are over 1,073,741,821 loops
  abbrev pub IsSpent : Run B S → Type 0
  IsSpent x = (100000000 ≤ x.count) ⊎ (LoopsFree x.net.table → ⊥)

  -- why a rewrite is refused: the first reason that holds
  abbrev pub Objects : Run B S → Slip → RunFault → Type 0
  Objects x s Foreign = (P : CPair) → OutHere x s P → ⊥
  Objects x s Spent = ((P : CPair) × OutHere x s P) × IsSpent x
  Objects x s NoPlace = (P : CPair) × OutHere x s P × (IsSpent x → ⊥) × (RoomForRule x.net.table P → ⊥)
  Objects x s Busy = ⊥

  -- a rewrite that is not refused: the slip's pair is rewritten by its rule, the new cells in places of their own and every other cell in its place; one interaction more; its cells are unmarked; and each pair that became active is put, by rising lower place
  pub record Rewrites (x : Run B S) (s : Slip) (P : CPair) (y : Run B S) : Type 0 where
    pub seats : List ℕ
    pub rewrote : RewroteAt (mean x.net.book) x.net.table P seats y.net.table
    pub became : List CPair
    pub order : InOrder (Became (mean x.net.book) (now_on x) P (now_on y)) became
    pub puts : Puts acts x.strategy (map waiting became) y.strategy

  pub record Accepted (x : Run B S) (s : Slip) (y : Run B S) : Type 0 where
    pub pair : CPair
    pub out_here : OutHere x s pair
    pub unspent : IsSpent x → ⊥
    pub room : RoomForRule x.net.table pair
    pub marks : y.marks.cells ≡ slice_set (slice_set x.marks.cells s.left false) s.right false
    pub book : y.net.book ≡ x.net.book
    pub stamp : y.stamp ≡ x.stamp
    pub count : y.count ≡ x.count + 1
    pub rewrites : (out : List Places) → Running mean acts x out → Rewrites x s pair y
    pub running : (out : List Places) → Running mean acts x out → Running mean acts y (without (slip_places s) out)

  -- which answer is due; a refusal hands the slip back and changes nothing
  abbrev pub Spends : Run B S → Slip → Result (Unit {0}) (RunFault × Slip) → Run B S → Type 0
  Spends x s (Ok _) y = Accepted x s y
  Spends x s (Err e) y = Objects x s e.0 × (e.1 ≡ s) × (y ≡ x)

  -- a put back that says yes: the pair is out here, and waits again; its cells are unmarked, and nothing else changes
  pub record Returned (x : Run B S) (s : Slip) (y : Run B S) : Type 0 where
    pub pair : CPair
    pub out_here : OutHere x s pair
    pub marks : y.marks.cells ≡ slice_set (slice_set x.marks.cells s.left false) s.right false
    pub net : y.net ≡ x.net
    pub stamp : y.stamp ≡ x.stamp
    pub count : y.count ≡ x.count
    pub puts : (out : List Places) → Running mean acts x out → Puts acts x.strategy (waiting pair ∷ []) y.strategy
    pub running : (out : List Places) → Running mean acts x out → Running mean acts y (without (slip_places s) out)

  -- no exactly when the pair is not out here, and then nothing changes
  abbrev pub PutsBack : Run B S → Slip → Bool → Run B S → Type 0
  PutsBack x s true y = Returned x s y
  PutsBack x s false y = ((P : CPair) → OutHere x s P → ⊥) × (y ≡ x)

  -- so many turns, each a draw and a rewrite
  pub data Turns : ℕ → Run B S → Run B S → Type 0 where
    none : {x : Run B S} → Turns 0 x x
    turn : {n : ℕ} {w x y z : Run B S} (s : Slip) → Turns n w x → Draws x (Ok s) y → Spends y s (Ok tt) z → Turns (n + 1) w z

  -- after so many turns, at x, the drive stops, leaving y: the limit is done; or draw is refused; or rewrite is refused, and the pair is put back
  pub data Stops (limit turns : ℕ) : ℕ → Run B S → Run B S → Type 0 where
    done : {x : Run B S} → turns ≡ limit → Stops limit turns 0 x x
    empty : {x y : Run B S} {f : StrategyFault} → turns < limit → Draws x (Err f) y → Stops limit turns 14 x y
    refused : {w x y z : Run B S} (s t : Slip) (f : RunFault) (b : Bool) → turns < limit → Draws w (Ok s) x → Spends x s (Err (f, t)) y → PutsBack y t b z → Stops limit turns (run_refusal f).number w z

  -- a drive answers how many turns it did and why it stopped
  pub record Drives (x : Run B S) (limit : ℕ) (r : ℕ × ℕ) (y : Run B S) : Type 0 where
    pub last : Run B S
    pub turns : Turns r.0 x last
    pub stops : Stops limit r.0 r.1 last y

  -- why a run is not closed: a pair waits, or a cell is marked as out
  abbrev pub IsBusy : Run B S → Type 0
  IsBusy x = (0 < length (acts.bag x.strategy)) ⊎ ((r : ℕ) × (marked x r ≡ true))

  pub record Closed (x : Run B S) (r : Normal B × ℕ × S) : Type 0 where
    pub none : IsBusy x → ⊥
    pub net : r.0.net ≡ x.net
    pub count : r.1 ≡ x.count
    pub strategy : r.2 ≡ x.strategy
    pub rests : (out : List Places) → Running mean acts x out → AtRest (mean x.net.book) (now_on x)

  -- a refused close hands the run back
  abbrev pub Closes : Run B S → Result (Normal B × ℕ × S) (RunFault × Run B S) → Type 0
  Closes x (Ok r) = Closed x r
  Closes x (Err e) = IsBusy x × (e.0 ≡ Busy) × (e.1 ≡ x)

  pub record Left (x : Run B S) (r : Sealed B × ℕ × S) : Type 0 where
    pub none : (k : ℕ) → marked x k ≡ false
    pub net : r.0.net ≡ x.net
    pub count : r.1 ≡ x.count
    pub strategy : r.2 ≡ x.strategy
    pub proper : (out : List Places) → Running mean acts x out → Proper mean r.0.net

  -- a refused leave hands the run back
  abbrev pub Leaves : Run B S → Result (Sealed B × ℕ × S) (RunFault × Run B S) → Type 0
  Leaves x (Ok r) = Left x r
  Leaves x (Err e) = ((r : ℕ) × (marked x r ≡ true)) × (e.0 ≡ Busy) × (e.1 ≡ x)
