-- Accounts: the calls made on a run since it was opened, and their answers. Assumes nothing.
use Rattle.std.specs.Prelude.{ℕ, ◌+◌, Bool, true, false, List, [], ◌∷◌, Ok, Err, Result}
use Rattle.calculus.specs.Books.{RuleBook}
use Rattle.refusals.specs.declared.faults.StrategyFault.{StrategyFault}
use Rattle.refusals.specs.declared.faults.RunFault.{RunFault}
use Rattle.strategies.specs.Behaviour.{Behaviour}
use Rattle.engine.specs.declared.run.Run.{Run}
use Rattle.engine.specs.declared.slip.Slip.{Slip}
use Rattle.ledger.specs.Places.{Places, without}
use Rattle.engine.specs.States.{slip_places}
use Rattle.engine.specs.Calls.{Draws, Spends, PutsBack, Drives, Closes, Leaves}

-- a call with its arguments and its answer; a close or a leave that is not refused ends the run
pub data Event : Type 0 where
  draw : Result Slip StrategyFault → Event
  rewrite : Slip → Result (Unit {0}) (RunFault × Slip) → Event
  put_back : Slip → Bool → Event
  drive : ℕ → ℕ × ℕ → Event
  close : RunFault → Event
  leave : RunFault → Event

-- the latest call first
abbrev pub Account : Type 0
Account = List Event

-- the pairs out: a draw that answers a slip puts its pair out; an accepted rewrite, or a put back that says yes, takes its slip's pair off again
abbrev pub pairs_out : Account → List Places
pairs_out [] = []
pairs_out (draw (Ok s) ∷ es) = slip_places s ∷ pairs_out es
pairs_out (draw (Err f) ∷ es) = pairs_out es
pairs_out (rewrite s (Ok _) ∷ es) = without (slip_places s) (pairs_out es)
pairs_out (rewrite s (Err e) ∷ es) = pairs_out es
pairs_out (put_back s true ∷ es) = without (slip_places s) (pairs_out es)
pairs_out (put_back s false ∷ es) = pairs_out es
pairs_out (drive limit r ∷ es) = pairs_out es
pairs_out (close f ∷ es) = pairs_out es
pairs_out (leave f ∷ es) = pairs_out es

-- the interactions made: an accepted rewrite adds 1, a drive the first number that it answers
abbrev pub made : Account → ℕ
made [] = 0
made (draw r ∷ es) = made es
made (rewrite s (Ok _) ∷ es) = made es + 1
made (rewrite s (Err e) ∷ es) = made es
made (put_back s b ∷ es) = made es
made (drive limit r ∷ es) = made es + r.0
made (close f ∷ es) = made es
made (leave f ∷ es) = made es

module _ {B S : Type 0} (mean : B → RuleBook) (acts : Behaviour S) where
  -- one call, by its contract, leads from the run x to the run y
  abbrev pub Calls : Run B S → Event → Run B S → Type 0
  Calls x (draw r) y = Draws mean acts x r y
  Calls x (rewrite s r) y = Spends mean acts x s r y
  Calls x (put_back s b) y = PutsBack mean acts x s b y
  Calls x (drive limit r) y = Drives mean acts x limit r y
  Calls x (close f) y = Closes mean acts x (Err (f, y))
  Calls x (leave f) y = Leaves mean acts x (Err (f, y))

  -- the account leads from the run x, as it was opened, to the run y
  pub data Tells (x : Run B S) : Account → Run B S → Type 0 where
    opened : Tells x [] x
    called : {es : Account} {y z : Run B S} (e : Event) → Tells x es y → Calls y e z → Tells x (e ∷ es) z

  -- some account leads from the run x to the run y
  abbrev pub Led : Run B S → Run B S → Type 0
  Led x y = (es : Account) × Tells x es y

  -- some account that ends with this drive leads from the run x to the run y
  abbrev pub Accounted : Run B S → ℕ → ℕ × ℕ → Run B S → Type 0
  Accounted x limit r y = (es : Account) × Tells x (drive limit r ∷ es) y
