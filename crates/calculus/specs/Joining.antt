-- Linking ends of a net with each other, and joining two nets along ends: splicing the ends. Assumes nothing.
use Rattle.std.specs.Prelude.{◌≡◌, ℕ, zero, suc, ◌+◌, ◌-◌, ◌<◌, Bool, true, false, not, ◌&&◌, ◌||◌, ◌≢◌, List, [], ◌∷◌, Some, ◌==◌, nat_lt}
use Rattle.calculus.specs.Spots.{Spot, end, port}
use Rattle.calculus.specs.Books.{RuleBook, Laws}
use Rattle.calculus.specs.Nets.{Net, Good, Pair, Active}
use Rattle.calculus.specs.Rewriting.{Rewriting}
use Rattle.calculus.specs.Alike.{Alike}
use Rattle.calculus.specs.Splicing.{splices}

-- pairs of ends, to be spliced
abbrev pub bonds : List (ℕ × ℕ) → List (Spot × Spot)
bonds [] = []
bonds (s ∷ ss) = (end s.0, end s.1) ∷ bonds ss

-- the end is in the list
abbrev pub listed : ℕ → List (ℕ × ℕ) → Bool
listed e [] = false
listed e (s ∷ ss) = e == s.0 || (e == s.1 || listed e ss)

-- how many of the ends below e are not in the list: the new number of the end e
abbrev pub rank : List (ℕ × ℕ) → ℕ → ℕ
rank ss zero = 0
rank ss (suc e) = elim (listed e ss) [ true ↦ rank ss e | false ↦ suc (rank ss e) ]

-- the end below n that gets the number i
abbrev pub old_end : List (ℕ × ℕ) → ℕ → ℕ → ℕ
old_end ss zero i = 0
old_end ss (suc e) i = elim (not (listed e ss) && rank ss e == i) [ true ↦ e | false ↦ old_end ss e i ]

-- a spot after the ends are renumbered by f
abbrev pub recall : (ℕ → ℕ) → Spot → Spot
recall f (end e) = end (f e)
recall f (port r j) = port r j

-- the listed ends spliced, and the ends that are left numbered from 0 on, in their old order
unfoldable pub tie : List (ℕ × ℕ) → Net → Net
tie ss A = record {
  ends = rank ss A.ends;
  kind = A.kind;
  mate = elim [
    | end i ↦ elim (nat_lt i (rank ss A.ends)) [ true ↦ recall (rank ss) ((splices (bonds ss) A).mate (end (old_end ss A.ends i))) | false ↦ end i ]
    | port r j ↦ recall (rank ss) ((splices (bonds ss) A).mate (port r j))
  ];
  loops = (splices (bonds ss) A).loops;
}

-- the end is none of the list
abbrev pub Unlisted : ℕ → List (ℕ × ℕ) → Type 0
Unlisted e [] = Unit {0}
Unlisted e (s ∷ ss) = (e ≢ s.0) × (e ≢ s.1) × Unlisted e ss

-- the listed ends are ends of a net with n of them, and all different
abbrev pub Tieable : ℕ → List (ℕ × ℕ) → Type 0
Tieable n [] = Unit {0}
Tieable n (s ∷ ss) = (s.0 < n) × (s.1 < n) × (s.0 ≢ s.1) × Unlisted s.0 ss × Unlisted s.1 ss × Tieable n ss

-- f below n, and from there on g
unfoldable pub split : {X : Type 0} → ℕ → (ℕ → X) → (ℕ → X) → ℕ → X
split n f g r = elim (nat_lt r n) [ true ↦ f r | false ↦ g (r - n) ]

-- a spot of the second of two nets: behind the places below n, and behind the first net's ends
abbrev pub behind : ℕ → ℕ → Spot → Spot
behind n ends (end e) = end (ends + e)
behind n ends (port r j) = port (n + r) j

-- two nets side by side, the places of the second from n on
unfoldable pub pairing : ℕ → Net → Net → Net
pairing n A B = record {
  ends = A.ends + B.ends;
  kind = split n A.kind B.kind;
  mate = elim [
    | end e ↦ split A.ends (λ e. A.mate (end e)) (λ e. behind n A.ends (B.mate (end e))) e
    | port r j ↦ split n (λ r. A.mate (port r j)) (λ r. behind n A.ends (B.mate (port r j))) r
  ];
  loops = A.loops + B.loops;
}

-- the end pairs of a joining: the first of each is the first net's, the second the second's
abbrev pub seams : ℕ → List (ℕ × ℕ) → List (ℕ × ℕ)
seams ends [] = []
seams ends (s ∷ ss) = (s.0, ends + s.1) ∷ seams ends ss

-- two nets joined along pairs of ends: side by side, with these ends spliced; the ends left are numbered first net first
abbrev pub join : ℕ → Net → Net → List (ℕ × ℕ) → Net
join n A B ss = tie (seams A.ends ss) (pairing n A B)

-- the cells of A stand below n
abbrev pub Below : ℕ → Net → Type 0
Below n A = (r k : ℕ) → A.kind r ≡ Some k → r < n

-- linking ends keeps a net well formed
abbrev pub TieGood : Type 0
TieGood = (K : RuleBook) (A : Net) (ss : List (ℕ × ℕ)) → Good K A → Tieable A.ends ss → Good K (tie ss A)

-- linking the same ends of alike nets gives alike nets
abbrev pub TieAlike : Type 0
TieAlike = (K : RuleBook) (A B : Net) (ss : List (ℕ × ℕ)) → Good K A → Good K B → Alike A B → Tieable A.ends ss → Alike (tie ss A) (tie ss B)

-- linking ends and rewriting commute: an active pair stays active, and rewritten later or earlier it gives alike nets
abbrev pub TieRewriting : Type 0
TieRewriting =
    (K : RuleBook) (A B : Net) (P : Pair) (place : ℕ → ℕ) (ss : List (ℕ × ℕ)) → Laws K → Good K A → Tieable A.ends ss → Rewriting K A P place B →
    Active K (tie ss A) P × ((C : Net) (place' : ℕ → ℕ) → Rewriting K (tie ss A) P place' C → Alike C (tie ss B))

-- the end e of the first net, or of the second, is none of the list
abbrev pub FirstNew : ℕ → List (ℕ × ℕ) → Type 0
FirstNew e [] = Unit {0}
FirstNew e (s ∷ ss) = (e ≢ s.0) × FirstNew e ss

abbrev pub SecondNew : ℕ → List (ℕ × ℕ) → Type 0
SecondNew e [] = Unit {0}
SecondNew e (s ∷ ss) = (e ≢ s.1) × SecondNew e ss

-- the listed ends are ends of nets with a and b of them, and no end is listed twice
abbrev pub Joinable : ℕ → ℕ → List (ℕ × ℕ) → Type 0
Joinable a b [] = Unit {0}
Joinable a b (s ∷ ss) = (s.0 < a) × (s.1 < b) × FirstNew s.0 ss × SecondNew s.1 ss × Joinable a b ss

-- joining keeps nets well formed
abbrev pub JoinGood : Type 0
JoinGood =
    (K : RuleBook) (n : ℕ) (A B : Net) (ss : List (ℕ × ℕ)) → Good K A → Below n A → Good K B → Joinable A.ends B.ends ss → Good K (join n A B ss)

-- joining alike nets gives alike nets
abbrev pub JoinAlike : Type 0
JoinAlike =
    (K : RuleBook) (n n' : ℕ) (A A' B B' : Net) (ss : List (ℕ × ℕ)) → Good K A → Good K A' → Good K B → Good K B' → Below n A → Below n' A' →
    Joinable A.ends B.ends ss → Alike A A' → Alike B B' → Alike (join n A B ss) (join n' A' B' ss)

-- a pair of the first net, rewritten before or after the joining, gives alike nets
abbrev pub JoinFirst : Type 0
JoinFirst =
    (K : RuleBook) (n : ℕ) (A A' B : Net) (P : Pair) (place : ℕ → ℕ) (ss : List (ℕ × ℕ)) → Laws K → Good K A → Good K B → Below n A → Below n A' →
    Joinable A.ends B.ends ss → Rewriting K A P place A' →
    Active K (join n A B ss) P × ((C : Net) (place' : ℕ → ℕ) → Rewriting K (join n A B ss) P place' C → Alike C (join n A' B ss))

-- a pair of the second net in its places behind the first
abbrev pub behind_pair : ℕ → Pair → Pair
behind_pair n P = record { left = n + P.left; right = n + P.right; position = P.position; rule = P.rule }

-- and so for a pair of the second net
abbrev pub JoinSecond : Type 0
JoinSecond =
    (K : RuleBook) (n : ℕ) (A B B' : Net) (P : Pair) (place : ℕ → ℕ) (ss : List (ℕ × ℕ)) → Laws K → Good K A → Good K B → Below n A →
    Joinable A.ends B.ends ss → Rewriting K B P place B' →
    Active K (join n A B ss) (behind_pair n P)
    × ((C : Net) (place' : ℕ → ℕ) → Rewriting K (join n A B ss) (behind_pair n P) place' C → Alike C (join n A B' ss))
