-- The file of a net. Assumes nothing.
use Rattle.std.specs.Prelude.{◌≡◌, ℕ, suc, ◌^◌, ◌<◌, ◌≤◌, List, [], ◌∷◌, ◌++◌, Some, None, Option}
use Rattle.calculus.specs.Spots.{Spot, end, port, carry}
use Rattle.calculus.specs.Books.{RuleBook}
use Rattle.calculus.specs.Nets.{Net, Good}
use Rattle.nets.specs.Meaning.{cells_below}
use Rattle.netfile.specs.Words.{header, loops_word, cell_word, link_word, bytes_of, each}

-- the link word of what x is linked with; cells are numbered by rising place
abbrev pub link_of : Net → Spot → List ℕ
link_of A x = link_word (carry (cells_below A) (A.mate x)) ∷ []

-- the cell word of a cell of kind k in place r, and the link words of its ports from 0 to its arity
abbrev pub cell_words : Net → ℕ → Option ℕ → Option ℕ → List ℕ
cell_words A r None a = []
cell_words A r (Some k) None = cell_word k ∷ []
cell_words A r (Some k) (Some a) = cell_word k ∷ each (suc a) (λ j. link_of A (port r j))

-- the words of a file: two words of numbers, a link word for each end, then each cell by rising place; arity r is the arity of the cell in place r
abbrev pub words : ℕ → (ℕ → Option ℕ) → Net → List ℕ
words number arity A =
    header number A.ends (cells_below A 1024) ∷ loops_word A.loops
    ∷ (each A.ends (λ e. link_of A (end e)) ++ each 1024 (λ r. cell_words A r (A.kind r) (arity r)))

-- the arity, in the book, of the cell in a place
abbrev pub arity_in : RuleBook → Net → ℕ → Option ℕ
arity_in K A r = elim (A.kind r) [ None ↦ None | Some k ↦ K.arity k ]

-- the bytes of the file of a net of the book
abbrev pub file : RuleBook → Net → List ℕ
file K A = bytes_of (words K.number (arity_in K A) A)

-- a net of the book that a file can hold
pub record Storable (K : RuleBook) (A : Net) : Type 0 where
  pub good : Good K A
  pub places : (r k : ℕ) → A.kind r ≡ Some k → r < 1024
  pub ends : A.ends ≤ 64
  pub loops : A.loops < 2 ^ 30

-- the cells stand in places 0, 1, 2 and on, with none left out
abbrev pub Packed : Net → Type 0
Packed A = (r k : ℕ) → A.kind r ≡ Some k → r < cells_below A 1024
