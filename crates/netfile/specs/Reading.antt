-- When bytes are read as a net file, and which fault is due when they are not. Assumes nothing.
use Rattle.std.specs.Prelude.{◌≡◌, ℕ, ◌<◌, ◌≢◌, List, Ok, Err, Result, slice_index}
use Rattle.refusals.specs.declared.faults.FileFault.{FileFault}
use Rattle.refusals.specs.declared.faults.NetFault.{NetFault}
use Rattle.refusals.specs.declared.memory.OrMemory.{OrMemory}
use Rattle.calculus.specs.Spots.{Spot}
use Rattle.calculus.specs.Books.{RuleBook}
use Rattle.calculus.specs.Nets.{Net}
use Rattle.netfile.specs.Faults.{BadLength, BadHeader, Header, Loops, size, Names, CellDue, LinkDue, BadCell, BadLink, BadEnd, BadWord, NotMutual, First}
use Rattle.netfile.specs.Files.{file, Storable, Packed}
use Rattle.nets.specs.declared.table.Table.{Table}
use Rattle.nets.specs.Meaning.{net, OfBook}
use Rattle.netfile.specs.declared.survey.Survey.{Survey}
use Rattle.netfile.specs.declared.survey.SurveyFault.{SurveyFault}

-- the length and the words 0 and 1 are right: e ends, c cells and l loops
pub record Headed (K : RuleBook) (bs : List ℕ) (e c l : ℕ) : Type 0 where
  pub length : BadLength bs → ⊥
  pub header : Header K bs e c
  pub loops : Loops bs l

-- the link word of x names another spot, and that one names x back
abbrev pub Mutual : RuleBook → List ℕ → ℕ → ℕ → Spot → ℕ → Type 0
Mutual K bs e c x w = (y : Spot) × Names bs e c w y × (y ≢ x) × ((v : ℕ) × LinkDue K bs e c y v × Names bs e c v x)

-- nothing is wrong with the bytes: after the links of the ends stands cell after cell of the book, the file ends after the last one, and every link is mutual
pub record Right (K : RuleBook) (bs : List ℕ) (e c l : ℕ) : Type 0 where
  pub headed : Headed K bs e c l
  pub whole : CellDue K bs e c c (size bs)
  pub links : (x : Spot) (w : ℕ) → LinkDue K bs e c x w → Mutual K bs e c x w

module _ (K : RuleBook) (bs : List ℕ) where
  -- the numbers of the first two words are right, and P holds of them
  abbrev pub After : (ℕ → ℕ → Type 0) → Type 0
  After P = (e : ℕ) × (c : ℕ) × (l : ℕ) × Headed K bs e c l × P e c

  -- the bytes are to be refused for this fault: the length is looked at first, then the words 0 and 1, then the other words in their order, and then the links
  abbrev pub DueFile : FileFault → Type 0
  DueFile FileFault.NoRoom = ⊥
  DueFile FileFault.Length = BadLength bs
  DueFile (FileFault.Header w) = (BadLength bs → ⊥) × BadHeader K bs w
  DueFile (FileFault.BadCell w) = After (λ e c. First (BadWord K bs e c) w × BadCell K bs e c w)
  DueFile (FileFault.BadLink w) = After (λ e c. First (BadWord K bs e c) w × BadLink K bs e c w)
  DueFile (FileFault.Words w) = After (λ e c. First (BadWord K bs e c) w × BadEnd K bs e c w)

  abbrev pub DueNet : NetFault → Type 0
  DueNet (NetFault.NotMutual w) = After (λ e c. ((v : ℕ) → BadWord K bs e c v → ⊥) × First (NotMutual K bs e c) w)

  abbrev pub Due : SurveyFault → Type 0
  Due (SurveyFault.File f) = DueFile f
  Due (SurveyFault.Net f) = DueNet f

  -- what a survey answers: the numbers of a file with which nothing is wrong, and where each of its cells begins; or the fault that is due
  pub record Sound (s : Survey) : Type 0 where
    pub right : Right K bs s.head.ends s.head.cells s.head.loops
    pub starts : (i : ℕ) → i < s.head.cells → CellDue K bs s.head.ends s.head.cells i (slice_index s.starts i)

  abbrev pub Surveyed : Result Survey SurveyFault → Type 0
  Surveyed (Ok s) = Sound s
  Surveyed (Err f) = Due f

  -- exactly one answer: at most one fault is due, none where nothing is wrong, and none where the bytes are the file of a net of the book; where nothing is wrong, they are that of one with its cells in places 0, 1, 2 and on
  pub record OneAnswer : Type 0 where
    pub one : (f g : SurveyFault) → Due f → Due g → f ≡ g
    pub clear : (f : SurveyFault) (e c l : ℕ) → Due f → Right K bs e c l → ⊥
    pub unfiled : (f : SurveyFault) (A : Net) → Due f → Storable K A → file K A ≢ bs
    pub filed : (e c l : ℕ) → Right K bs e c l → (A : Net) × Storable K A × Packed A × (file K A ≡ bs)

  -- a table that is read: the bytes are the file of its net, a net of the book with its cells in places 0, 1, 2 and on
  pub record ReadAs (t : Table) : Type 0 where
    pub file : file K (net t) ≡ bs
    pub book : OfBook K t
    pub storable : Storable K (net t)
    pub packed : Packed (net t)

  -- what reading answers: such a table, or the fault that is due, or that memory is wanting
  abbrev pub Answered : Result Table (OrMemory SurveyFault) → Type 0
  Answered (Ok t) = ReadAs t
  Answered (Err (OrMemory.Fault f)) = Due f
  Answered (Err OrMemory.Memory) = Unit {0}
