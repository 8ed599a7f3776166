-- What the private functions of the rewrite tell each other of the links; no public contract cites it. Assumes nothing.
use Rattle.std.specs.Prelude.{◌≡◌, ℕ, ◌+◌, ◌*◌, ◌<◌, ◌≤◌, cond, ◌≢◌, List, length, ◌==◌, nat_lt, slice_index_or, Some, None, Option}
use Rattle.calculus.specs.Spots.{Spot, end, port, carry}
use Rattle.calculus.specs.Books.{RulePort, L, R, N, Wired}
use Rattle.calculus.specs.Splicing.{through, closes, Ready}
use Rattle.calculus.proofs.Wires.{run, tally}
use Rattle.calculus.proofs.Plugs.{wires}
use Rattle.books.specs.declared.table.Cell.{Cell}
use Rattle.nets.specs.declared.link.Link.{Link}
use Rattle.nets.specs.Layout.{blank, code, decode, slots, goal}
use Rattle.nets.specs.Noting.{Tied}
use Rattle.nets.specs.ByBook.{seat}

-- the spot has a slot of its own
abbrev pub HasSlot : Spot → Type 0
HasSlot x = (decode (code x) ≡ x) × (code x < slots)

-- wherever a spot has a mate, its slot names the mate's; what stands in other slots does not matter
abbrev pub Shows : List Link → (Spot → Spot) → Type 0
Shows xs m = (x : Spot) → m x ≢ x → HasSlot x × (goal xs (code x) ≡ code (m x))

-- ys is xs with the spots in slots a and b spliced, n the loops that this closed: whatever wiring xs shows in which both have mates
pub record Spliced (xs : List Link) (a b : ℕ) (ys : List Link) (n : ℕ) : Type 0 where
  pub few : n < 2
  pub shows : (m : Spot → Spot) (x y : Spot) → ((z : Spot) → m (m z) ≡ z) → code x ≡ a → code y ≡ b → x ≢ y → m x ≢ x → m y ≢ y → Shows xs m →
      Shows ys (through x y m) × (n ≡ closes x y m)

-- ys is xs with ports 1 to n of the rows p and g spliced, k the loops that this closed
pub record Strung (xs : List Link) (p g n : ℕ) (ys : List Link) (k : ℕ) : Type 0 where
  pub few : k ≤ n
  pub shows : (m : Spot → Spot) → ((z : Spot) → m (m z) ≡ z) → Ready (wires p g n) m → Shows xs m →
      Shows ys (run (wires p g n) m) × (k ≡ tally (wires p g n) m)

-- the rows p and t change names
abbrev pub trade : ℕ → ℕ → ℕ → ℕ
trade p t r = cond (r == p) t (cond (r == t) p r)

-- only their ports above n do
abbrev pub part : ℕ → ℕ → ℕ → Spot → Spot
part n p t (end e) = end e
part n p t (port r j) = cond (nat_lt n j) (port (trade p t r) j) (port r j)

-- a wiring under a change of names
abbrev pub under : (Spot → Spot) → (Spot → Spot) → Spot → Spot
under f m y = f (m (f y))

-- the same where rows change names
abbrev pub renamed : (ℕ → ℕ) → (Spot → Spot) → Spot → Spot
renamed f m y = carry f (m (carry f y))

-- ports 1 to n of row p now stand in row t
pub record Parked (xs : List Link) (p t n : ℕ) (ys : List Link) : Type 0 where
  pub shows : (m : Spot → Spot) → ((z : Spot) → m (m z) ≡ z) → ((j : ℕ) → m (port t j) ≡ port t j) → ((j : ℕ) → 1 ≤ j → j ≤ n → m (port p j) ≢ port p j) →
      Shows xs (under (part n p t) m) → Shows ys (under (part 0 p t) m)

-- row p made free where a spare row is given: its ports then stand there, else where they stood; r is the row where they stand
pub record Cleared (xs : List Link) (p : ℕ) (spare : Option ℕ) (n : ℕ) (ys : List Link) (r : ℕ) : Type 0 where
  pub small : r < 1030
  pub moved : (t : ℕ) → spare ≡ Some t → (r ≡ t) × Parked xs p t n ys
  pub stayed : spare ≡ None → (r ≡ p) × (ys ≡ xs)

-- the row of a rule's port: the gates of L and R, and new cell i where place i of ps is
abbrev pub row_of : List ℕ → RulePort → ℕ
row_of ps (L j) = 1028
row_of ps (R j) = 1029
row_of ps (N i j) = seat ps i

-- the number of a rule's port in its row
abbrev pub number_of : RulePort → ℕ
number_of (L j) = j
number_of (R j) = j
number_of (N i j) = j

-- the slot of a rule's port
abbrev pub seat_of : List ℕ → RulePort → ℕ
seat_of ps x = row_of ps x * 4 + number_of x

-- a new cell has its place among these
abbrev pub Known : List ℕ → RulePort → Type 0
Known ps (L j) = Unit {0}
Known ps (R j) = Unit {0}
Known ps (N i j) = i < length ps

-- the rows of the rule's ports are rows of the table, and no two ports have one slot
pub record Room (ws : List (RulePort × RulePort)) (ps : List ℕ) : Type 0 where
  pub known : (x y : RulePort) → Wired ws x y → Known ps x
  pub rows : (x y : RulePort) → Wired ws x y → (row_of ps x < 1030) × (number_of x < 4)
  pub apart : (x y u v : RulePort) → Wired ws x y → Wired ws u v → seat_of ps x ≡ seat_of ps u → x ≡ u
  pub with_one : (x y z : RulePort) → Wired ws x y → Wired ws x z → y ≡ z

-- the first n wires are laid into the links
pub record Laying (xs : List Link) (ws : List (RulePort × RulePort)) (ps : List ℕ) (n : ℕ) (ys : List Link) : Type 0 where
  pub here : (x y : RulePort) → Tied ws n x y → goal ys (seat_of ps x) ≡ seat_of ps y
  pub other : (k : ℕ) → ((x y : RulePort) → Tied ws n x y → k ≢ seat_of ps x) → goal ys k ≡ goal xs k

-- all of them are
pub record Laid (xs : List Link) (ws : List (RulePort × RulePort)) (ps : List ℕ) (ys : List Link) : Type 0 where
  pub here : (x y : RulePort) → Wired ws x y → goal ys (seat_of ps x) ≡ seat_of ps y
  pub other : (k : ℕ) → ((x y : RulePort) → Wired ws x y → k ≢ seat_of ps x) → goal ys k ≡ goal xs k

-- the first n are places of cells, all different
pub record Places (pl : ℕ → ℕ) (n : ℕ) : Type 0 where
  pub low : (i : ℕ) → i < n → pl i < 1024
  pub apart : (i j : ℕ) → i < n → j < n → pl i ≡ pl j → i ≡ j

-- the first n cells stand at the first n of ps
pub record Filled (xs cells : List Cell) (n : ℕ) (ps : List ℕ) (ys : List Cell) : Type 0 where
  pub long : length ys ≡ length xs
  pub new : (i : ℕ) → i < n → slice_index_or ys (seat ps i) blank ≡ slice_index_or cells i blank
  pub other : (k : ℕ) → ((i : ℕ) → i < n → k ≢ seat ps i) → slice_index_or ys k blank ≡ slice_index_or xs k blank
