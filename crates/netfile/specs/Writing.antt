-- What the writer makes of a table and a buffer. Assumes nothing.
use Rattle.std.specs.Prelude.{◌≡◌, ℕ, ◌+◌, ◌*◌, ◌<◌, ◌≤◌, List, ◌++◌, length, take, drop, Ok, Err, Result, slice_index}
use Rattle.refusals.specs.declared.faults.FileFault.{FileFault}
use Rattle.refusals.specs.declared.faults.FileFault.TheVariants.{NoRoom}
use Rattle.calculus.specs.Spots.{Spot, end, port, carry}
use Rattle.calculus.specs.Books.{RuleBook}
use Rattle.calculus.specs.Nets.{Net}
use Rattle.calculus.specs.Alike.{Alike}
use Rattle.nets.specs.declared.table.Table.{Table}
use Rattle.nets.specs.Meaning.{net, content, arity_at, cells_below, OfBook}
use Rattle.netfile.specs.declared.writer.Writer.{Writer}
use Rattle.netfile.specs.Words.{bytes_of, each}
use Rattle.netfile.specs.Files.{link_of, cell_words, words, file, Storable}

-- how many bytes a buffer must have, whatever the net's size
abbrev pub room : ℕ
room = 16648

-- the words that are written of a table
abbrev pub words_of : ℕ → Table → List ℕ
words_of number t = words number (arity_at (content t)) (net t)

-- what writing the table t by the book K makes of a buffer
pub record Written (K : RuleBook) (t : Table) (old : List ℕ) (answer : Result ℕ FileFault) (new : List ℕ) : Type 0 where
  -- a short buffer is refused and unchanged
  pub refused : length old < room → answer ≡ Err NoRoom
  pub unchanged : length old < room → new ≡ old
  -- else the answer is the number of bytes written; these stand at the front, and the bytes past them keep their content
  pub answered : room ≤ length old → answer ≡ Ok (length (bytes_of (words_of K.number t)))
  pub holds : room ≤ length old → new ≡ bytes_of (words_of K.number t) ++ drop (length (bytes_of (words_of K.number t))) old
  -- they are never more than the room asked for
  pub short : length (bytes_of (words_of K.number t)) ≤ room
  -- and they are the file of the table's net, if the table's kinds and arities are the book's
  pub of_book : OfBook K t → bytes_of (words_of K.number t) ≡ file K (net t)

-- the file of a table of the book tells its net: each net of the book that has this file is alike
abbrev pub Tells : RuleBook → Table → Type 0
Tells K t = OfBook K t → (B : Net) → Storable K B → file K B ≡ file K (net t) → Alike (net t) B

-- from byte `start` to byte `next` the buffer now holds the words ws, and all other bytes are as they were
pub record Put (old : List ℕ) (start : ℕ) (ws new : List ℕ) (next : ℕ) : Type 0 where
  pub long : next ≡ start + 4 * length ws
  pub bytes : new ≡ take start old ++ (bytes_of ws ++ drop next old)

-- a writer has put the words ws into its buffer
pub record Puts (old : Writer) (ws : List ℕ) (new : Writer) : Type 0 where
  pub same_reference : new.out.ghost_name ≡ old.out.ghost_name
  pub put : Put old.out.now old.next ws new.out.now new.next

-- the link words of a table's ends
abbrev pub end_words : Table → List ℕ
end_words t = each (net t).ends (λ e. link_of (net t) (end e))

-- the link words of the first ports of the cell in place r
abbrev pub port_words : Table → ℕ → ℕ → List ℕ
port_words t r ports = each ports (λ j. link_of (net t) (port r j))

-- the words of the cell in place r, none if the place is vacant
abbrev pub place_words : Table → ℕ → List ℕ
place_words t r = cell_words (net t) r ((net t).kind r) (arity_at (content t) r)

-- the words of all cells
abbrev pub all_cell_words : Table → List ℕ
all_cell_words t = each 1024 (place_words t)

-- the number of each place's cell: how many cells stand below it
abbrev pub Numbered : Table → List ℕ → Type 0
Numbered t numbers = (r : ℕ) → r < 1024 → slice_index numbers r ≡ cells_below (net t) r

-- the spot with its cell's number in place of its place
abbrev pub by_number : List ℕ → Spot → Spot
by_number numbers = carry (λ r. slice_index numbers r)

-- a port is of a cell in one of the places of a table
abbrev pub Inside : Spot → Type 0
Inside (end e) = Unit {0}
Inside (port r j) = r < 1024
