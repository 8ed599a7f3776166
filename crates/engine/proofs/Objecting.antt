-- Which answer is due to a rewrite, and what an accepted one does. Assumes nothing.
use Rattle.std.proofs.Common.{◌≡◌, ℕ, ◌<◌, ◌⊎◌, List, [], ◌∷◌, map, length, Some, Result, sym, refl, ap, ◌∙◌, subst, inl, inr, arith}
use Rattle.calculus.specs.Books.{RuleBook, Laws}
use Rattle.calculus.specs.Nets.{Pair as CPair}
use Rattle.refusals.specs.declared.faults.StrategyFault.{StrategyFault}
use Rattle.strategies.specs.Behaviour.{Behaviour}
use Rattle.strategies.specs.declared.pair.Pair.{Pair as Waiting}
use Rattle.nets.specs.declared.fault.PairFault.{PairFault}
use Rattle.nets.specs.declared.fault.PairFault.TheVariants.{NotReady, LoopsFull, NoPlace}
use Rattle.nets.specs.declared.table.Table.{Table}
use Rattle.engine.specs.declared.run.Run.{Run}
use Rattle.engine.specs.declared.slip.Slip.{Slip}
use Rattle.calculus.specs.Nets.{Active}
use Rattle.std.specs.List.{ContainsAt as Has}
use Rattle.ledger.specs.Places.{Places, places}
use Rattle.nets.specs.ByBook.{At, Ready, PairCause}
use Rattle.pairs.specs.Pairs.{PairAt, waiting}
use Rattle.pairs.specs.Forming.{FormedBy}
use Rattle.engine.specs.States.{now_on}
use Rattle.engine.specs.Running.{Running}
use Rattle.engine.specs.Calls.{OutHere, Objects, Puts}
use Rattle.engine.specs.Inner.{Presented, PutEach, run_fault}
use Rattle.engine.specs.Calls.Puts.{none}
use Rattle.engine.proofs.Keeping.{good_of, room_rewritten, room_returned}
use Rattle.engine.proofs.Puttings.{puts_add}
use Rattle.ledger.proofs.Balance.{one_pair}
use Rattle.strategies.specs.Bags.{Put}

module _ {B S : Type 0} (mean : B → RuleBook) (acts : Behaviour S) (x : Run B S) (s : Slip) where
  pub is_here : (P : CPair) → Presented x s → At s.left s.right P → Ready (mean x.net.book) x.net.table P → OutHere mean acts x s P
  is_here P F a r = record { stamp = F.stamp; left = F.left; right = F.right; at = a; ready = r }

  pub objects : (f : PairFault) → Presented x s → x.count < 100000000 → PairCause (mean x.net.book) x.net.table s.left s.right f → Objects mean acts x s (run_fault f)
  objects NotReady F l c = λ P o. c P o.at o.ready
  objects LoopsFull F l (P, a, r, n) = ((P, is_here P F a r), inr n)
  objects NoPlace F l (P, a, r, e, n) = (P, is_here P F a r, λ h. elim h [ inl z ↦ omega arith | inr z ↦ z e ], n)

-- a run with an equal table is the same run
pub same_run : {B S : Type 0} (x : Run B S) (t : Table) → t ≡ x.net.table →
    ◌≡◌ {A = Run B S} (record { net = record { book = x.net.book; table = t }; strategy = x.strategy; marks = x.marks; stamp = x.stamp; count = x.count }) x
same_run {B} {S} x t e = ap (λ (u : Table). record { net = record { book = x.net.book; table = u }; strategy = x.strategy; marks = x.marks; stamp = x.stamp; count = x.count }) e

-- what became active is put, since there is room
pub puts_of : {B S : Type 0} (mean : B → RuleBook) (laws : (b : B) → Laws (mean b)) (acts : Behaviour S)
    (x : Run B S) (out : List Places) (R : Running mean acts x out) (P : CPair) (a : Active (mean x.net.book) (now_on x) P) (is : Has out (places P)) (t : Table) (ps : List Waiting) (f : FormedBy (mean x.net.book) x.net.table P t ps)
    (u : S) → PutEach acts x.strategy ps u → Puts acts x.strategy (map waiting f.pairs) u
puts_of {B} {S} mean laws acts x out R P a is t ps f u h =
    let r = room_rewritten mean laws acts x out R P a is P.left P.right refl refl (record { book = x.net.book; table = t }) refl f.places f.rewrote f.pairs f.became in
    let e = ap length f.same in
    subst (λ (qs : List Waiting). Puts acts x.strategy qs u) f.same (h (omega arith))

-- the active pair in the place of the pair's left cell is the pair
pub pair_of : {B S : Type 0} (mean : B → RuleBook) (laws : (b : B) → Laws (mean b)) (acts : Behaviour S) (x : Run B S) (out : List Places) → Running mean acts x out → (P : CPair) → Active (mean x.net.book) (now_on x) P → (l : ℕ) → P.left ≡ l →
    (p : Waiting) → PairAt (mean x.net.book) (now_on x) l (Some p) → p ≡ waiting P
pair_of {B} {S} mean laws acts x out R P a l e p (Q, q, z, k) =
    sym z ∙ ap waiting (one_pair (mean x.net.book) (laws x.net.book) (now_on x) (good_of mean laws acts x.net R.proper) Q P l q a (side k) (inl (sym e)))
  where
    side : (Q.left ≡ l) ⊎ (Q.right ≡ l) → (l ≡ Q.left) ⊎ (l ≡ Q.right)
    side (inl y) = inl (sym y)
    side (inr y) = inr (sym y)

-- it is put again, since there is room
pub put_of : {B S : Type 0} (mean : B → RuleBook) (laws : (b : B) → Laws (mean b)) (acts : Behaviour S)
    (x : Run B S) (out : List Places) (R : Running mean acts x out) (P : CPair) (a : Active (mean x.net.book) (now_on x) P) (is : Has out (places P)) (p : Waiting) → p ≡ waiting P →
    (u : S) (r : Result (Unit {0}) StrategyFault) → Put (acts.bag x.strategy) p r (acts.bag u) → acts.putting x.strategy p r u → Puts acts x.strategy (waiting P ∷ []) u
put_of {B} {S} mean laws acts x out R P a is p e u r h k =
    subst (λ (q : Waiting). Puts acts x.strategy (q ∷ []) u) e
    (puts_add acts none (room_returned mean laws acts x out R P a is P.left P.right refl refl) p u r h k)
