-- One rewriting: an active pair leaves, its rule's new cells enter, and the links run through. Assumes nothing.
use Rattle.std.specs.Prelude.{◌≡◌, ℕ, ◌+◌, ◌≢◌, ◌⊎◌, List, length, Some, None}
use Rattle.std.specs.List.{slice_get}
use Rattle.calculus.specs.Spots.{Spot, end, port}
use Rattle.calculus.specs.Books.{RuleBook, RulePort, L, R, N, Wired, Leaving, Entering}
use Rattle.calculus.specs.Nets.{Net, Pair, Active}

-- where a rule's port stands: L and R in the places of the pair, new cell i in the place that it is given
abbrev pub stand : Pair → (ℕ → ℕ) → RulePort → Spot
stand P place (L j) = port P.left j
stand P place (R j) = port P.right j
stand P place (N i j) = port (place i) j

-- an end, or a port of a cell other than the pair's two
abbrev pub Outside : Pair → Spot → Type 0
Outside P (end e) = Unit {0}
Outside P (port r j) = (r ≢ P.left) × (r ≢ P.right)

-- no new cell is given the place r
abbrev pub Unused : Pair → (ℕ → ℕ) → ℕ → Type 0
Unused P place r = (i k : ℕ) → slice_get P.rule.cells i ≡ Some k → place i ≢ r

-- how far following a link has come: along a link to a spot, or across the rule to a port of it
pub data Come : Type 0 where
  along : Spot → Come
  across : RulePort → Come

module _ (K : RuleBook) (A : Net) (P : Pair) (place : ℕ → ℕ) where
  -- going on from there ends at the spot z
  pub data Leads : Come → Spot → Type 0 where
    -- an end or a port of a cell that stays: the way ends
    stays : {z : Spot} → Outside P z → Leads (along z) z
    -- a port of a new cell: the way ends
    enters : {i j : ℕ} {z : Spot} → z ≡ stand P place (N i j) → Leads (across (N i j)) z
    -- an auxiliary port of a leaving cell, reached along a link: cross to that port's mate in the rule
    crosses : (g h : RulePort) {y z : Spot} → y ≡ stand P place g → Leaving K P.rule g → Wired P.rule.wires g h → Leads (across h) z → Leads (along y) z
    -- an auxiliary port of a leaving cell, reached across the rule: go on along its old link
    goes_on : {g : RulePort} {z : Spot} → Leaving K P.rule g → Leads (along (A.mate (stand P place g))) z → Leads (across g) z

  -- the two leaving ports are on one wire: the rule or old links join them
  pub data Joined : RulePort → RulePort → Type 0 where
    here : {g : RulePort} → Joined g g
    by_rule : {f h : RulePort} (g : RulePort) → Leaving K P.rule g → Wired P.rule.wires f g → Joined g h → Joined f h
    by_link : {f h : RulePort} (g : RulePort) → Leaving K P.rule g → A.mate (stand P place f) ≡ stand P place g → Joined g h → Joined f h

  -- a leaving port on a closed circuit, made only of leaving auxiliary ports: no way from it ends
  abbrev pub Closed : RulePort → Type 0
  Closed g = Leaving K P.rule g × ((z : Spot) → Leads (along (stand P place g)) z → ⊥)

  -- the list has one leaving port of each closed circuit
  pub record Circuits (gs : List RulePort) : Type 0 where
    pub closed : (i : ℕ) (g : RulePort) → slice_get gs i ≡ Some g → Closed g
    pub apart : (i j : ℕ) (g h : RulePort) → slice_get gs i ≡ Some g → slice_get gs j ≡ Some h → Joined g h → i ≡ j
    pub all : (g : RulePort) → Closed g → (i : ℕ) × (h : RulePort) × (slice_get gs i ≡ Some h) × Joined g h

  -- B is A with the active pair P rewritten, new cell i entering at place i
  pub record Rewriting (B : Net) : Type 0 where
    pub active : Active K A P
    -- each new cell has a place of its own, vacant or given up by the pair
    pub vacant : (i k : ℕ) → slice_get P.rule.cells i ≡ Some k → (A.kind (place i) ≡ None) ⊎ ((place i ≡ P.left) ⊎ (place i ≡ P.right))
    pub apart : (i j k l : ℕ) → slice_get P.rule.cells i ≡ Some k → slice_get P.rule.cells j ≡ Some l → place i ≡ place j → i ≡ j
    -- the new cells enter, the two cells leave, every other cell stays in its place, and the ends stay
    pub new : (i k : ℕ) → slice_get P.rule.cells i ≡ Some k → B.kind (place i) ≡ Some k
    pub gone : (r : ℕ) → (r ≡ P.left) ⊎ (r ≡ P.right) → Unused P place r → B.kind r ≡ None
    pub kept : (r : ℕ) → r ≢ P.left → r ≢ P.right → Unused P place r → B.kind r ≡ A.kind r
    pub ends : B.ends ≡ A.ends
    -- the new mate of an end, of a surviving port and of a new port is found by following its link; nothing else is linked
    pub old_links : (x : Spot) → A.mate x ≢ x → Outside P x → Leads (along (A.mate x)) (B.mate x)
    pub new_links : (x y : RulePort) → Entering K P.rule x → Wired P.rule.wires x y → Leads (across y) (B.mate (stand P place x))
    pub no_more : (x : Spot) → B.mate x ≢ x → ((A.mate x ≢ x) × Outside P x) ⊎ ((g : RulePort) × Entering K P.rule g × (x ≡ stand P place g))
    -- each closed circuit adds one loop
    pub circuits : List RulePort
    pub counted : Circuits circuits
    pub loops : B.loops ≡ A.loops + length circuits
