-- What is wrong with bytes that are no net file of the book. Assumes nothing.
use Rattle.std.specs.Prelude.{◌≡◌, ℕ, suc, ◌+◌, ◌/◌, ◌%◌, ◌^◌, ◌<◌, ◌≤◌, ◌≢◌, ◌⊎◌, List, length, Some}
use Rattle.calculus.specs.Spots.{Spot, end, port}
use Rattle.calculus.specs.Books.{RuleBook}
use Rattle.netfile.specs.Words.{header, loops_word, cell_word, link_word, word}

-- the length is under 8 bytes, or no multiple of 4
abbrev pub BadLength : List ℕ → Type 0
BadLength bs = (length bs < 8) ⊎ (length bs % 4 ≢ 0)

-- how many words there are
abbrev pub size : List ℕ → ℕ
size bs = length bs / 4

-- word 0 is right: this book, e ends and c cells, not too many
pub record Header (K : RuleBook) (bs : List ℕ) (e c : ℕ) : Type 0 where
  pub is : word bs 0 ≡ header K.number e c
  pub ends : e ≤ 64
  pub cells : c ≤ 1024

-- word 1 is right
abbrev pub Loops : List ℕ → ℕ → Type 0
Loops bs l = (word bs 1 ≡ loops_word l) × (l < 2 ^ 30)

-- the first of the words 0 and 1 that is wrong
pub data BadHeader (K : RuleBook) (bs : List ℕ) : ℕ → Type 0 where
  zeroth : ((e c : ℕ) → Header K bs e c → ⊥) → BadHeader K bs 0
  first : {e c : ℕ} → Header K bs e c → ((l : ℕ) → Loops bs l → ⊥) → BadHeader K bs 1

-- word w is there, and is the cell word of a kind of arity a
abbrev pub IsCell : RuleBook → List ℕ → ℕ → ℕ → Type 0
IsCell K bs w a = (w < size bs) × ((k : ℕ) × (word bs w ≡ cell_word k) × (K.arity k ≡ Some a))

-- an end that is there, or a port field other than 3 of a cell that is there
abbrev pub Nameable : ℕ → ℕ → Spot → Type 0
Nameable e c (end x) = x < e
Nameable e c (port i j) = (i < c) × (j < 3)

-- word w is there, and names y
abbrev pub Names : List ℕ → ℕ → ℕ → ℕ → Spot → Type 0
Names bs e c w y = (w < size bs) × (word bs w ≡ link_word y) × Nameable e c y

module _ (K : RuleBook) (bs : List ℕ) (e c : ℕ) where
  -- the cell word of cell i is due at word w: that of cell 0 after the links of the ends, each other one after the links of the cell before it
  pub data CellDue : ℕ → ℕ → Type 0 where
    first : CellDue 0 (2 + e)
    next : {i w a : ℕ} → CellDue i w → i < c → IsCell K bs w a → CellDue (suc i) (w + (a + 2))

  -- the link word of a spot is due at word w
  abbrev pub LinkDue : Spot → ℕ → Type 0
  LinkDue (end x) w = (x < e) × (w ≡ 2 + x)
  LinkDue (port i j) w = (v : ℕ) × (a : ℕ) × CellDue i v × (i < c) × IsCell K bs v a × (j ≤ a) × (w ≡ v + (j + 1))

  -- a cell word is due, and what stands there is none of this book's
  abbrev pub BadCell : ℕ → Type 0
  BadCell w = (w < size bs) × ((i : ℕ) × (i < c) × CellDue i w) × ((a : ℕ) → IsCell K bs w a → ⊥)

  -- a link word is due, and what stands there names nothing that is there
  abbrev pub BadLink : ℕ → Type 0
  BadLink w = (w < size bs) × ((x : Spot) × LinkDue x w) × ((y : Spot) → Names bs e c w y → ⊥)

  -- a word is due where the file ends, or the file goes on after its last cell
  abbrev pub BadEnd : ℕ → Type 0
  BadEnd w = ((w ≡ size bs) × (((i : ℕ) × (i < c) × CellDue i w) ⊎ ((x : Spot) × LinkDue x w))) ⊎ ((w < size bs) × CellDue c w)

  abbrev pub BadWord : ℕ → Type 0
  BadWord w = BadCell w ⊎ (BadLink w ⊎ BadEnd w)

  -- the link at word w names its own spot, or one that is not there, or one that does not name it back
  abbrev pub NotMutual : ℕ → Type 0
  NotMutual w = (x : Spot) × (y : Spot) × LinkDue x w × Names bs e c w y × ((y ≡ x) ⊎ ((v : ℕ) → LinkDue y v → Names bs e c v x → ⊥))

-- w is the first word of which P holds
abbrev pub First : (ℕ → Type 0) → ℕ → Type 0
First P w = P w × ((v : ℕ) → v < w → P v → ⊥)
