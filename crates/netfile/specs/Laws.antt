-- The laws between nets and their files. Assumes nothing.
use Rattle.std.specs.Prelude.{◌≡◌, ℕ, ◌≤◌, length}
use Rattle.calculus.specs.Books.{RuleBook, Laws}
use Rattle.calculus.specs.Nets.{Net}
use Rattle.calculus.specs.Alike.{AlikeBy, Alike}
use Rattle.nets.specs.Meaning.{cells_below}
use Rattle.netfile.specs.Files.{file, Storable, Packed}
use Rattle.netfile.specs.Writing.{room}

-- two nets of a book with one file are alike: so a net that is read from a written file is alike to the net written
abbrev pub OneNetAFile : Type 0
OneNetAFile = (K : RuleBook) → Laws K → (A B : Net) → Storable K A → Storable K B → file K A ≡ file K B → Alike A B

-- no file is longer than the buffer that the writer asks for
abbrev pub FilesHaveRoom : Type 0
FilesHaveRoom = (K : RuleBook) → Laws K → (A : Net) → Storable K A → length (file K A) ≤ room

-- P is A with its cells renumbered by rising place: its cells stand in places 0, 1, 2 and on, and its file is that of A
pub record PackedAs (K : RuleBook) (A P : Net) : Type 0 where
  pub storable : Storable K P
  pub packed : Packed P
  pub place : ℕ → ℕ
  pub renumbered : AlikeBy (cells_below A) place A P
  pub same_file : file K P ≡ file K A

-- every file is that of a net whose cells stand in places 0, 1, 2 and on
abbrev pub FilesOfPackedNets : Type 0
FilesOfPackedNets = (K : RuleBook) (A : Net) → Storable K A → (P : Net) × PackedAs K A P
