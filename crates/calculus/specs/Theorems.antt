-- What is proved of rewriting, in the words of the definitions. Assumes nothing.
use Rattle.std.specs.Prelude.{◌≡◌, ℕ, ◌+◌, ◌≤◌, ◌≢◌, ◌⊎◌, List, ◌++◌, length, Some, None}
use Rattle.std.specs.List.{slice_get}
use Rattle.std.specs.List.Sorted.{IsPermutation}
use Rattle.calculus.specs.Books.{RulePort, RuleBook, Laws}
use Rattle.calculus.specs.Nets.{Net, Good, Pair, Active, AtRest}
use Rattle.calculus.specs.Rewriting.{Circuits, Rewriting}
use Rattle.calculus.specs.Reaching.{Reaches}
use Rattle.calculus.specs.Alike.{AlikeBy, Alike}

-- places that the new cells of the pair's rule can take: vacant, or given up by the pair, and no two the same
pub record Free (A : Net) (P : Pair) (place : ℕ → ℕ) : Type 0 where
  pub vacant : (i k : ℕ) → slice_get P.rule.cells i ≡ Some k → (A.kind (place i) ≡ None) ⊎ ((place i ≡ P.left) ⊎ (place i ≡ P.right))
  pub apart : (i j k l : ℕ) → slice_get P.rule.cells i ≡ Some k → slice_get P.rule.cells j ≡ Some l → place i ≡ place j → i ≡ j

-- every active pair can be rewritten, the new cells at any free places
abbrev pub Rewritable : Type 0
Rewritable = (K : RuleBook) (A : Net) (P : Pair) (place : ℕ → ℕ) → Laws K → Good K A → Active K A P → Free A P place → (B : Net) × Rewriting K A P place B

-- rewriting keeps the net well formed
abbrev pub StaysGood : Type 0
StaysGood = (K : RuleBook) (A B : Net) (P : Pair) (place : ℕ → ℕ) → Laws K → Good K A → Rewriting K A P place B → Good K B

-- the number of closed circuits is one number
abbrev pub OneCount : Type 0
OneCount =
    (K : RuleBook) (A : Net) (P : Pair) (place : ℕ → ℕ) (gs hs : List RulePort) → Laws K → Good K A → Active K A P →
    Circuits K A P place gs → Circuits K A P place hs → length gs ≡ length hs

-- the places given, a rewriting has one result
abbrev pub OneResult : Type 0
OneResult =
    (K : RuleBook) (A B B' : Net) (P : Pair) (place : ℕ → ℕ) → Laws K → Good K A →
    Rewriting K A P place B → Rewriting K A P place B' → B ≡ B'

-- among well-formed nets Alike is an equivalence
pub record AlikeEquivalence : Type 0 where
  pub itself : (A : Net) → Alike A A
  pub back : (A B : Net) → Alike A B → Alike B A
  pub on : (K : RuleBook) (A B C : Net) → Good K A → Good K C → Alike A B → Alike B C → Alike A C

-- Q is the pair P after the places are renumbered: the same rule, the two cells in their new places, and with L and R exchanged if they have one kind and come in the other order
pub record Counterpart (to : ℕ → ℕ) (P Q : Pair) : Type 0 where
  pub position : Q.position ≡ P.position
  pub rule : Q.rule ≡ P.rule
  pub cells : ((Q.left ≡ to P.left) × (Q.right ≡ to P.right))
      ⊎ ((P.rule.left ≡ P.rule.right) × (Q.left ≡ to P.right) × (Q.right ≡ to P.left))

-- alike nets have the same active pairs
abbrev pub ActiveAlike : Type 0
ActiveAlike =
    (K : RuleBook) (A A' : Net) (to from : ℕ → ℕ) (P : Pair) → Laws K → Good K A → Good K A' → AlikeBy to from A A' →
    Active K A P → (Q : Pair) × Counterpart to P Q × Active K A' Q

-- alike nets are at rest together
abbrev pub RestAlike : Type 0
RestAlike = (K : RuleBook) (A A' : Net) → Laws K → Good K A → Good K A' → Alike A A' → AtRest K A → AtRest K A'

-- the same pair rewritten in alike nets, the new cells anywhere, gives alike nets
abbrev pub RewritingAlike : Type 0
RewritingAlike =
    (K : RuleBook) (A A' B B' : Net) (to from : ℕ → ℕ) (P Q : Pair) (place place' : ℕ → ℕ) → Laws K → Good K A → Good K A' → AlikeBy to from A A' →
    Counterpart to P Q → Rewriting K A P place B → Rewriting K A' Q place' B' → Alike B B'

-- two pairs share no cell
pub record Disjoint (P Q : Pair) : Type 0 where
  pub left_left : P.left ≢ Q.left
  pub left_right : P.left ≢ Q.right
  pub right_left : P.right ≢ Q.left
  pub right_right : P.right ≢ Q.right

-- two active pairs are one and the same, or share no cell
abbrev pub PairsApart : Type 0
PairsApart = (K : RuleBook) (A : Net) (P Q : Pair) → Laws K → Good K A → Active K A P → Active K A Q → (P ≡ Q) ⊎ Disjoint P Q

-- rewriting one active pair leaves every other one active
abbrev pub OthersStay : Type 0
OthersStay =
    (K : RuleBook) (A B : Net) (P Q : Pair) (place : ℕ → ℕ) → Laws K → Good K A → P ≢ Q →
    Rewriting K A P place B → Active K A Q → Active K B Q

-- two different active pairs, rewritten in either order, come to alike nets
abbrev pub EitherOrder : Type 0
EitherOrder =
    (K : RuleBook) (A B C D E : Net) (P Q : Pair) (p q p' q' : ℕ → ℕ) → Laws K → Good K A → P ≢ Q →
    Rewriting K A P p B → Rewriting K B Q q D → Rewriting K A Q q' C → Rewriting K C P p' E → Alike D E

-- B, reached by the rules `is`, and B', reached by the rules `js`, go on to alike nets, each in at most as many steps as the other has made, and by the same rules in all but for their order
pub record Meeting (K : RuleBook) (is js : List ℕ) (B B' : Net) : Type 0 where
  pub goal : Net
  pub goal' : Net
  pub more : List ℕ
  pub more' : List ℕ
  pub reached : Reaches K more B goal
  pub reached' : Reaches K more' B' goal'
  pub alike : Alike goal goal'
  pub at_most : length more ≤ length js
  pub at_most' : length more' ≤ length is
  pub totals : length is + length more ≡ length js + length more'
  pub same_rules : IsPermutation (is ++ more) (js ++ more')

-- whatever is rewritten first, alike nets come to alike nets
abbrev pub Confluent : Type 0
Confluent =
    (K : RuleBook) (A A' B B' : Net) (is js : List ℕ) → Laws K → Good K A → Good K A' → Alike A A' →
    Reaches K is A B → Reaches K js A' B' → Meeting K is js B B'

-- B is at rest, reached by the rules `is`: B', reached by the rules `js`, has made at most as many steps, is at rest exactly when it has made as many, and is then alike
pub record Final (K : RuleBook) (is js : List ℕ) (B B' : Net) : Type 0 where
  pub no_longer : length js ≤ length is
  pub then_rests : length js ≡ length is → AtRest K B'
  pub rests_then : AtRest K B' → length js ≡ length is
  pub alike : AtRest K B' → Alike B B'
  pub same_rules : AtRest K B' → IsPermutation is js

-- what is at rest was reached by the longest way, and everything at rest is alike
abbrev pub RestFinal : Type 0
RestFinal =
    (K : RuleBook) (A A' B B' : Net) (is js : List ℕ) → Laws K → Good K A → Good K A' → Alike A A' →
    Reaches K is A B → Reaches K js A' B' → AtRest K B → Final K is js B B'
