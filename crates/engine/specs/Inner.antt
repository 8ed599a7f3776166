-- What the private functions of a run tell each other; no public contract cites it. Assumes nothing.
use Rattle.std.specs.Prelude.{◌≡◌, ℕ, ◌+◌, ◌<◌, ◌≤◌, true, List, [], map, length}
use Rattle.calculus.specs.Books.{RuleBook}
use Rattle.calculus.specs.Nets.{Active}
use Rattle.calculus.specs.Nets.{Pair as CPair}
use Rattle.refusals.specs.declared.faults.RunFault.{RunFault}
use Rattle.refusals.specs.declared.faults.RunFault.TheVariants.{Foreign, NoPlace, Spent}
use Rattle.strategies.specs.Behaviour.{Behaviour}
use Rattle.strategies.specs.declared.pair.Pair.{Pair as Waiting}
use Rattle.nets.specs.declared.fault.PairFault.{PairFault}
use Rattle.nets.specs.declared.fault.PairFault.TheVariants.{NotReady, LoopsFull}
use Rattle.engine.specs.declared.net.Net.{Net}
use Rattle.engine.specs.declared.run.Run.{Run}
use Rattle.engine.specs.declared.slip.Slip.{Slip}
use Rattle.nets.specs.ByBook.{At, Ready}
use Rattle.pairs.specs.Pairs.{InOrder, waiting, lower}
use Rattle.engine.specs.States.{held, Proper, marked}
use Rattle.engine.specs.Calls.{Puts}

-- the pairs are put where there is room for them
abbrev pub PutEach : {S : Type 0} → Behaviour S → S → List Waiting → S → Type 0
PutEach acts s ps t = length (acts.bag s) + length ps ≤ 512 → Puts acts s ps t

-- into an empty strategy, the active pairs of a net with their lower place below n are put by rising lower place
abbrev pub PutUpTo : {B S : Type 0} → (B → RuleBook) → Behaviour S → Net B → S → ℕ → S → Type 0
PutUpTo mean acts m s n t =
    Proper mean m → acts.bag s ≡ [] → (ps : List CPair) × InOrder (λ P. Active (mean m.book) (held m) P × (lower P < n)) ps × Puts acts s (map waiting ps) t

-- the slip has the run's stamp, and its places are marked
pub record Presented {B S : Type 0} (x : Run B S) (s : Slip) : Type 0 where
  pub stamp : s.stamp ≡ x.stamp
  pub left : marked x s.left ≡ true
  pub right : marked x s.right ≡ true

-- the slip's places hold an active pair of cells of the book
abbrev pub IsReady : {B S : Type 0} → (B → RuleBook) → Run B S → Slip → Type 0
IsReady mean x s = (P : CPair) × At s.left s.right P × Ready (mean x.net.book) x.net.table P

-- a fault of the table as one of the run
abbrev pub run_fault : PairFault → RunFault
run_fault NotReady = Foreign
run_fault LoopsFull = Spent
run_fault PairFault.NoPlace = NoPlace
