-- A table of the book: its net is storable, and what is written of it is that net's file.
use Rattle.std.proofs.Common.{◌≡◌, ℕ, ◌∷◌, ◌++◌, Some, None, Option, sym, refl, ap}
use Rattle.calculus.specs.Books.{RuleBook, Laws}
use Rattle.calculus.specs.Nets.{Net}
use Rattle.nets.specs.declared.table.Table.{Table}
use Rattle.nets.specs.Meaning.{content, net, arity_at, cells_below, OfBook}
use Rattle.nets.proofs.Places.{bit_low}
use Rattle.nets.proofs.Standing.{good, kind_some}
use Rattle.netfile.specs.Words.{header, loops_word, bytes_of}
use Rattle.netfile.specs.Files.{cell_words, file, Storable}
use Rattle.netfile.specs.Writing.{words_of, end_words, place_words, Tells}
use Rattle.netfile.proofs.Words.{each_same}
use Rattle.netfile.proofs.Stored.{piece}
use Rattle.netfile.proofs.Unique.{one_net}

pub table_storable : (K : RuleBook) (t : Table) → OfBook K t → Storable K (net t)
table_storable K t b = record {
  good = good t K b;
  places = λ r k e. bit_low t.occupied r t.wide (kind_some (content t) r k e).0;
  ends = t.few;
  loops = t.counted;
}

cell_by_book : (K : RuleBook) (A : Net) (r : ℕ) (o a : Option ℕ) → ((k : ℕ) → o ≡ Some k → K.arity k ≡ a) →
    cell_words A r o a ≡ cell_words A r o (elim o [ None ↦ None | Some k ↦ K.arity k ])
cell_by_book K A r None a h = refl
cell_by_book K A r (Some k) a h = ap (cell_words A r (Some k)) (sym (h k refl))

pub file_of : (K : RuleBook) (t : Table) → OfBook K t → bytes_of (words_of K.number t) ≡ file K (net t)
file_of K t b =
    ap (λ cells. bytes_of (header K.number (net t).ends (cells_below (net t) 1024) ∷ loops_word (net t).loops ∷ (end_words t ++ cells)))
    (each_same 1024 (place_words t) (piece K (net t)) (λ r _. cell_by_book K (net t) r ((net t).kind r) (arity_at (content t) r) (b r)))

pub tells : (K : RuleBook) → Laws K → (t : Table) → Tells K t
tells K laws t b B s e = one_net K laws (net t) B (table_storable K t b) s (sym e)
