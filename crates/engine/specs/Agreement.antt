-- Any two runs agree. Assumes nothing.
use Rattle.std.specs.Prelude.{◌≡◌, ℕ, ◌+◌, ◌<◌, ◌≤◌, List, [], ◌∷◌, length, Ok, Err}
use Rattle.std.specs.List.{ContainsAt as Has}
use Rattle.calculus.specs.Books.{RuleBook}
use Rattle.calculus.specs.Nets.{Good, AtRest}
use Rattle.calculus.specs.Nets.{Net as CNet}
use Rattle.calculus.specs.Nets.{Pair as CPair}
use Rattle.calculus.specs.Rewriting.{Rewriting}
use Rattle.calculus.specs.Reaching.{Reaches}
use Rattle.calculus.specs.Alike.{Alike}
use Rattle.nets.specs.Rewrites.{Seats}
use Rattle.strategies.specs.Behaviour.{Behaviour}
use Rattle.engine.specs.declared.sealed.Sealed.{Sealed}
use Rattle.engine.specs.declared.run.Run.{Run}
use Rattle.engine.specs.declared.progress.Progress.{Progress}
use Rattle.engine.specs.declared.progress.Progress.TheVariants.{Behind, Level, Ahead}
use Rattle.ledger.specs.Places.{Places, places}
use Rattle.engine.specs.States.{held, now_on, Proper, slip_places}
use Rattle.engine.specs.Running.{Running}
use Rattle.engine.specs.Calls.{Opens}
use Rattle.engine.specs.Accounts.{Event, draw, rewrite, put_back, drive, close, leave, Account, pairs_out, made, Tells}

-- how the second count stands to the first
abbrev pub Compared : ℕ → ℕ → Progress → Type 0
Compared j k (Behind n) = (k + n ≡ j) × (0 < n)
Compared j k Level = k ≡ j
Compared j k (Ahead n) = (j + n ≡ k) × (0 < n)

module _ (K : RuleBook) where
  -- B is A with the pair rewritten, its new cells in places of the table: every other cell stays in its place
  pub record Interaction (A : CNet) (P : CPair) (B : CNet) : Type 0 where
    pub place : ℕ → ℕ
    pub seats : Seats A P place
    pub rewriting : Rewriting K A P place B

  -- B comes from A by interactions one after the other, each of a pair that is not out
  pub data Chain (out : List Places) : ℕ → CNet → CNet → Type 0 where
    none : {A : CNet} → Chain out 0 A A
    next : {n : ℕ} {A B C : CNet} (P : CPair) → Chain out n A B → (Has out (places P) → ⊥) → Interaction B P C → Chain out (n + 1) A C

  -- the account tells the whole way from the net A to the net B: an accepted rewrite is one interaction, of its slip's pair; a drive is as many as it says, of pairs that it drew; nothing else moves
  abbrev pub Moves : Account → Event → CNet → CNet → Type 0
  Moves es (draw r) A B = B ≡ A
  Moves es (rewrite s (Ok _)) A B = (P : CPair) × (places P ≡ slip_places s) × Interaction A P B
  Moves es (rewrite s (Err e)) A B = B ≡ A
  Moves es (put_back s b) A B = B ≡ A
  Moves es (drive limit r) A B = Chain (pairs_out es) r.0 A B
  Moves es (close f) A B = B ≡ A
  Moves es (leave f) A B = B ≡ A

  pub data Way (A : CNet) : Account → CNet → Type 0 where
    opened : Way A [] A
    moved : {es : Account} {B C : CNet} (e : Event) → Way A es B → Moves es e B C → Way A (e ∷ es) C

  -- the net A, at rest after j interactions, beside the net B after k: B has made at most as many, is at rest exactly when it has made as many, and is then alike
  pub record Final (j k : ℕ) (A B : CNet) : Type 0 where
    pub no_more : k ≤ j
    pub then_rests : k ≡ j → AtRest K B
    pub rests_then : AtRest K B → k ≡ j
    pub alike : AtRest K B → Alike A B

  -- after j and k interactions both nets can still reach alike nets, in at most k and at most j more, and the totals are then equal
  pub record Meets (j k : ℕ) (A B : CNet) : Type 0 where
    pub goal : CNet
    pub goal' : CNet
    pub more : List ℕ
    pub more' : List ℕ
    pub reached : Reaches K more A goal
    pub reached' : Reaches K more' B goal'
    pub alike : Alike goal goal'
    pub at_most : length more ≤ k
    pub at_most' : length more' ≤ j
    pub totals : j + length more ≡ k + length more'

-- a moment of one account: all links mutual; waiting and out are exactly the active pairs, each once, and exactly the cells of those out are marked; the count is the interactions made; and the account tells the way of the net
pub record Moment {B S : Type 0} (mean : B → RuleBook) (acts : Behaviour S) (x : Run B S) (es : Account) (y : Run B S) : Type 0 where
  pub links : Good (mean y.net.book) (now_on y)
  pub running : Running mean acts y (pairs_out es)
  pub count : y.count ≡ made es
  pub way : Way (mean y.net.book) (now_on x) es (now_on y)

-- a moment of one account beside a moment of another
pub record Agree {B S T : Type 0} (mean : B → RuleBook) (acts : Behaviour S) (acts' : Behaviour T) (x : Run B S) (es : Account) (y : Run B S) (x' : Run B T) (es' : Account) (y' : Run B T) : Type 0 where
  pub first : Moment mean acts x es y
  pub second : Moment mean acts' x' es' y'
  pub one_book : mean y'.net.book ≡ mean y.net.book
  pub final : AtRest (mean y.net.book) (now_on y) → Final (mean y.net.book) (made es) (made es') (now_on y) (now_on y')
  pub final' : AtRest (mean y.net.book) (now_on y') → Final (mean y.net.book) (made es') (made es) (now_on y') (now_on y)
  pub meets : Meets (mean y.net.book) (made es) (made es') (now_on y) (now_on y')

-- for any book, any two strategies, any two alike nets of the book, any two openings of them and any two accounts: the runs agree
abbrev pub AnyTwoAgree : {B S T : Type 0} → (B → RuleBook) → Behaviour S → Behaviour T → Run B S → Run B T → Type 0
AnyTwoAgree {B} {S} {T} mean acts acts' y y' =
    (n n' : Sealed B) (s : S) (t : T) (stamp stamp' : ℕ) (x : Run B S) (x' : Run B T) (es es' : Account) →
    Proper mean n.net → Proper mean n'.net → Alike (held n.net) (held n'.net) →
    Opens mean acts n s stamp x → Opens mean acts' n' t stamp' x' →
    Tells mean acts x es y → Tells mean acts' x' es' y' →
    Agree mean acts acts' x es y x' es' y'
