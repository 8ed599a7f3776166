-- Rows of one graph paired with rows of another, and what each step of the pairing does. Assumes nothing.
use Rattle.std.proofs.Common.{◌≡◌, ℕ, ◌+◌, ◌*◌, ◌<◌, ◌≤◌, Bool, true, false, ◌≢◌, Some, None, Option}
use Rattle.pairing.specs.Graph.{Graph, Iso, Isomorphic}

-- for k below n, l k goes with r k
abbrev pub Paired : ℕ → (ℕ → ℕ) → (ℕ → ℕ) → ℕ → ℕ → Type 0
Paired n l r p q = (k : ℕ) × (k < n) × (l k ≡ p) × (r k ≡ q)

-- x is in some pair, or in none
abbrev pub Listed : ℕ → (ℕ → ℕ) → ℕ → Type 0
Listed n l x = (k : ℕ) × (k < n) × (l k ≡ x)

abbrev pub Free : ℕ → (ℕ → ℕ) → ℕ → Type 0
Free n l x = (k : ℕ) → k < n → l k ≢ x

-- the pair that x is in
abbrev pub Found : ℕ → (ℕ → ℕ) → ℕ → Option ℕ → Type 0
Found n l x None = Free n l x
Found n l x (Some k) = (k < n) × (l k ≡ x)

-- each row stands once on its side, where a and b say, and goes with one of its kind
pub record Matched (A B : Graph) (n : ℕ) (l r a b : ℕ → ℕ) : Type 0 where
  pub places : (k : ℕ) → k < n → (a (l k) ≡ k) × (b (r k) ≡ k)
  pub kinds : (k : ℕ) → k < n → (A.kind (l k) ≢ 0) × (B.kind (r k) ≡ A.kind (l k))

-- the links of the first s ports are kept, and lead to pairs
abbrev pub Closed : Graph → Graph → ℕ → ℕ → (ℕ → ℕ) → (ℕ → ℕ) → Type 0
Closed A B s n l r = (k j : ℕ) → j < 3 → 3 * k + j < s → (A.slot (l k) j ≡ B.slot (r k) j) × Paired n l r (A.row (l k) j) (B.row (r k) j)

-- each pair after the one at o was reached by a link from an earlier one
abbrev pub Born : Graph → Graph → ℕ → ℕ → (ℕ → ℕ) → (ℕ → ℕ) → Type 0
Born A B o n l r =
    (k : ℕ) → o < k → k < n → (i : ℕ) × (j : ℕ) × (o ≤ i) × (i < k) × (j < 3) × (l k ≡ A.row (l i) j) × (r k ≡ B.row (r i) j)

-- f sends each row to the one that it is paired with
abbrev pub Extends : (ℕ → ℕ) → ℕ → (ℕ → ℕ) → (ℕ → ℕ) → Type 0
Extends f n l r = (k : ℕ) → k < n → f (l k) ≡ r k

-- a list of pairs, `ours k` with `theirs k` for k below the count, and where each row stands in it, if it does
pub record Pairs : Type 0 where
  pub count : ℕ
  pub ours : ℕ → ℕ
  pub theirs : ℕ → ℕ
  pub our_seat : ℕ → ℕ
  pub their_seat : ℕ → ℕ

-- what is there has a row below n
abbrev pub Within : ℕ → Graph → Type 0
Within n A = (p : ℕ) → A.kind p ≢ 0 → p < n

-- the same of a list of pairs: it is matched
abbrev pub Ok : Graph → Graph → Pairs → Type 0
Ok A B m = Matched A B m.count m.ours m.theirs m.our_seat m.their_seat

-- the links of its first s ports lead to pairs
abbrev pub Settled : Graph → Graph → ℕ → Pairs → Type 0
Settled A B s m = Closed A B s m.count m.ours m.theirs

-- its pairs after the one at o spring from that one
abbrev pub Sprung : Graph → Graph → ℕ → Pairs → Type 0
Sprung A B o m = Born A B o m.count m.ours m.theirs

-- f has all its pairs
abbrev pub Has : (ℕ → ℕ) → Pairs → Type 0
Has f m = Extends f m.count m.ours m.theirs

-- no renumbering has the pairs of m
abbrev pub Never : Graph → Graph → Pairs → Type 0
Never A B m = (f g : ℕ → ℕ) → Iso A B f g → Has f m → ⊥

-- no renumbering has the pairs of m and sends x to y
abbrev pub Refutes : Graph → Graph → Pairs → ℕ → ℕ → Type 0
Refutes A B m x y = (f g : ℕ → ℕ) → Iso A B f g → Has f m → f x ≡ y → ⊥

-- if some renumbering has the pairs of m, some has those of m'
abbrev pub Keeps : Graph → Graph → Pairs → Pairs → Type 0
Keeps A B m m' = (f g : ℕ → ℕ) → Iso A B f g → Has f m → (f' : ℕ → ℕ) × (g' : ℕ → ℕ) × Iso A B f' g' × Has f' m'

-- the pairs of m, and perhaps more
pub record Grown (m m' : Pairs) : Type 0 where
  pub longer : m.count ≤ m'.count
  pub same : (k : ℕ) → k < m.count → (m'.ours k ≡ m.ours k) × (m'.theirs k ≡ m.theirs k)

-- x and y written behind the pairs of m
pub record Added (m m' : Pairs) (x y : ℕ) : Type 0 where
  pub count : m'.count ≡ m.count + 1
  pub last : (m'.ours m.count ≡ x) × (m'.theirs m.count ≡ y)
  pub same : (k : ℕ) → k < m.count → (m'.ours k ≡ m.ours k) × (m'.theirs k ≡ m.theirs k)

-- m' has the first n pairs of m
pub record Cut (m : Pairs) (n : ℕ) (m' : Pairs) : Type 0 where
  pub count : m'.count ≡ n
  pub same : (k : ℕ) → k < n → (m'.ours k ≡ m.ours k) × (m'.theirs k ≡ m.theirs k)

-- x and y are a pair now, if they were not before
pub record Met (m m' : Pairs) (x y : ℕ) : Type 0 where
  pub grown : Grown m m'
  pub new : (k : ℕ) → m.count ≤ k → k < m'.count → (m'.ours k ≡ x) × (m'.theirs k ≡ y)
  pub pair : Paired m'.count m'.ours m'.theirs x y

-- each pair after those of m is of mates of the pair at h
abbrev pub Bred : Graph → Graph → ℕ → Pairs → Pairs → Type 0
Bred A B h m m' = (k : ℕ) → m.count ≤ k → k < m'.count → (j : ℕ) × (j < 3) × (m'.ours k ≡ A.row (m.ours h) j) × (m'.theirs k ≡ B.row (m.theirs h) j)

-- x and y were made a pair, or cannot be one
pub record Meets (A B : Graph) (m m' : Pairs) (x y : ℕ) (r : Bool) : Type 0 where
  pub yes : r ≡ true → Met m m' x y
  pub no : r ≡ false → (m' ≡ m) × Refutes A B m x y

-- the three ports of the pair at h
pub record Settles (A B : Graph) (h : ℕ) (m m' : Pairs) (r : Bool) : Type 0 where
  pub grown : Grown m m'
  pub bred : Bred A B h m m'
  pub yes : r ≡ true → Settled A B (3 * h + 3) m'
  pub no : r ≡ false → Never A B m

-- the piece of p with the piece of q
pub record Tried (A B : Graph) (p q : ℕ) (m m' : Pairs) (r : Bool) : Type 0 where
  pub settled : Settled A B (3 * m'.count) m'
  pub grown : Grown m m'
  pub yes : r ≡ true → Keeps A B m m' × Listed m'.count m'.ours p
  pub no : r ≡ false → (m'.count ≡ m.count) × Refutes A B m p q

-- the piece of p with some piece
pub record Placed (A B : Graph) (p : ℕ) (m m' : Pairs) (r : Bool) : Type 0 where
  pub settled : Settled A B (3 * m'.count) m'
  pub grown : Grown m m'
  pub yes : r ≡ true → Keeps A B m m' × Listed m'.count m'.ours p
  pub no : r ≡ false → Never A B m

-- every piece of A
pub record Spread (A B : Graph) (m' : Pairs) (r : Bool) : Type 0 where
  pub settled : Settled A B (3 * m'.count) m'
  pub yes : r ≡ true → ((p : ℕ) → A.kind p ≢ 0 → Listed m'.count m'.ours p) × (Isomorphic A B → (f : ℕ → ℕ) × (g : ℕ → ℕ) × Iso A B f g × Has f m')
  pub no : r ≡ false → Isomorphic A B → ⊥

-- p is there, and in no pair
pub record Loose (A : Graph) (n : ℕ) (l : ℕ → ℕ) (p : ℕ) : Type 0 where
  pub live : A.kind p ≢ 0
  pub free : Free n l p

-- whether it is so
pub record IsLoose (A : Graph) (n : ℕ) (l : ℕ → ℕ) (p : ℕ) (r : Bool) : Type 0 where
  pub yes : r ≡ true → Loose A n l p
  pub no : r ≡ false → A.kind p ≢ 0 → Listed n l p

-- every row is in a pair, or some is not
pub record Covers (A : Graph) (n : ℕ) (l : ℕ → ℕ) (r : Bool) : Type 0 where
  pub yes : r ≡ true → (p : ℕ) → A.kind p ≢ 0 → Listed n l p
  pub no : r ≡ false → (p : ℕ) × Loose A n l p

-- q is of p's kind, and in no pair
pub record Fresh (A B : Graph) (m : Pairs) (p q : ℕ) : Type 0 where
  pub kind : B.kind q ≡ A.kind p
  pub free : Free m.count m.theirs q
