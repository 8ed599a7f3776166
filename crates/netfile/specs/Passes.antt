-- What each part of a survey answers: what private functions tell each other; no public contract cites it. Assumes nothing.
use Rattle.std.specs.Prelude.{◌≡◌, ℕ, ◌+◌, ◌-◌, ◌/◌, ◌%◌, ◌<◌, ◌≤◌, ◌⊎◌, List, Some, None, Ok, Err, Option, Result, slice_index, nat_lt, if◌then◌else◌}
use Rattle.refusals.specs.declared.faults.FileFault.{FileFault}
use Rattle.refusals.specs.declared.faults.NetFault.{NetFault}
use Rattle.calculus.specs.Spots.{Spot, end, port}
use Rattle.calculus.specs.Books.{RuleBook}
use Rattle.nets.specs.Views.{at}
use Rattle.nets.specs.declared.spot.Spot.{Spot as Seen}
use Rattle.netfile.specs.Words.{cell_word, word}
use Rattle.netfile.specs.Faults.{size, IsCell, Names, CellDue, LinkDue}
use Rattle.netfile.specs.Reading.{Headed, Mutual, DueFile, DueNet}
use Rattle.netfile.specs.declared.head.Head.{Head}
use Rattle.books.specs.declared.table.Cell.{Cell}

-- the first two words
abbrev pub HeadRead : RuleBook → List ℕ → Result Head FileFault → Type 0
HeadRead K bs (Ok h) = Headed K bs h.ends h.cells h.loops
HeadRead K bs (Err f) = DueFile K bs f

-- the cell at word w, or what is wrong there
abbrev pub NoCell : RuleBook → List ℕ → ℕ → FileFault → Type 0
NoCell K bs w FileFault.NoRoom = ⊥
NoCell K bs w FileFault.Length = ⊥
NoCell K bs w (FileFault.Header v) = ⊥
NoCell K bs w (FileFault.BadCell v) = (v ≡ w) × (w < size bs) × ((a : ℕ) → IsCell K bs w a → ⊥)
NoCell K bs w (FileFault.BadLink v) = ⊥
NoCell K bs w (FileFault.Words v) = (v ≡ w) × (size bs ≤ w)

abbrev pub CellRead : RuleBook → List ℕ → ℕ → Result Cell FileFault → Type 0
CellRead K bs w (Ok x) = (w < size bs) × (word bs w ≡ cell_word x.kind) × (K.arity x.kind ≡ Some x.arity)
CellRead K bs w (Err f) = NoCell K bs w f

module _ (bs : List ℕ) (h : Head) where
  -- the spot that word w names, or what is wrong there
  abbrev pub NoLink : ℕ → FileFault → Type 0
  NoLink w FileFault.NoRoom = ⊥
  NoLink w FileFault.Length = ⊥
  NoLink w (FileFault.Header v) = ⊥
  NoLink w (FileFault.BadCell v) = ⊥
  NoLink w (FileFault.BadLink v) = (v ≡ w) × (w < size bs) × ((y : Spot) → Names bs h.ends h.cells w y → ⊥)
  NoLink w (FileFault.Words v) = (v ≡ w) × (size bs ≤ w)

  abbrev pub LinkRead : ℕ → Result Seen FileFault → Type 0
  LinkRead w (Ok y) = Names bs h.ends h.cells w (at y)
  LinkRead w (Err f) = NoLink w f

  -- the words from one to before another one name spots
  abbrev pub NameAll : ℕ → ℕ → Type 0
  NameAll from to = (w : ℕ) → from ≤ w → w < to → (y : Spot) × Names bs h.ends h.cells w y

  -- the first of them that does not, and what is wrong there
  abbrev pub StopsIn : ℕ → ℕ → FileFault → Type 0
  StopsIn from to f = (w : ℕ) × (from ≤ w) × (w < to) × NameAll from w × NoLink w f

  abbrev pub LinksRead : ℕ → ℕ → Result Unit FileFault → Type 0
  LinksRead from to (Ok u) = NameAll from to
  LinksRead from to (Err f) = StopsIn from to f

module _ (K : RuleBook) (bs : List ℕ) (h : Head) where
  -- the cell at word w with its links, and the word after them
  abbrev pub CellChecked : ℕ → Result ℕ FileFault → Type 0
  CellChecked w (Ok next) = (a : ℕ) × IsCell K bs w a × NameAll bs h (w + 1) (w + (a + 2)) × (next ≡ w + (a + 2))
  CellChecked w (Err f) = NoCell K bs w f ⊎ ((a : ℕ) × IsCell K bs w a × StopsIn bs h (w + 1) (w + (a + 2)) f)

  -- each link word that is due before word w names a spot
  abbrev pub NamedBefore : ℕ → Type 0
  NamedBefore w = (x : Spot) (v : ℕ) → LinkDue K bs h.ends h.cells x v → v < w → (y : Spot) × Names bs h.ends h.cells v y

  -- every word is right, and each cell begins where the list says
  pub record Laid (starts : List ℕ) : Type 0 where
    pub whole : CellDue K bs h.ends h.cells h.cells (size bs)
    pub named : NamedBefore (size bs)
    pub begins : (i : ℕ) → i < h.cells → CellDue K bs h.ends h.cells i (slice_index starts i)

  abbrev pub WordsRead : Result (List ℕ) FileFault → Type 0
  WordsRead (Ok starts) = Laid starts
  WordsRead (Err f) = DueFile K bs f

  -- the word of a spot's link, if the spot is there
  abbrev pub WordOf : Spot → Option ℕ → Type 0
  WordOf x None = (w : ℕ) → LinkDue K bs h.ends h.cells x w → ⊥
  WordOf x (Some w) = LinkDue K bs h.ends h.cells x w

  -- the link of a spot is mutual, if the spot is there
  abbrev pub MutualAt : Spot → Type 0
  MutualAt x = (w : ℕ) → LinkDue K bs h.ends h.cells x w → Mutual K bs h.ends h.cells x w

  -- it is not, and this is its word
  abbrev pub FaultAt : Spot → NetFault → Type 0
  FaultAt x (NetFault.NotMutual w) = LinkDue K bs h.ends h.cells x w × (Mutual K bs h.ends h.cells x w → ⊥)

  abbrev pub SpotChecked : Spot → Result Unit NetFault → Type 0
  SpotChecked x (Ok u) = MutualAt x
  SpotChecked x (Err f) = FaultAt x f

  -- all links
  abbrev pub LinksChecked : Result Unit NetFault → Type 0
  LinksChecked (Ok u) = (x : Spot) → MutualAt x
  LinksChecked (Err f) = DueNet K bs f

-- spot i in the order of their words, where there are e ends
abbrev pub nth_spot : ℕ → ℕ → Spot
nth_spot e i = if nat_lt i e then end i else port ((i - e) / 3) ((i - e) % 3)
