-- The words of a net file: 32 bits each, most significant byte first. Assumes nothing.
use Rattle.std.specs.Prelude.{ℕ, zero, suc, ◌+◌, ◌*◌, ◌/◌, ◌%◌, ◌^◌, List, [], ◌∷◌, ◌++◌, slice_index}
use Rattle.calculus.specs.Spots.{Spot, end, port}

-- word 0, of kind 0: the book's number, how many ends, how many cells
abbrev pub header : ℕ → ℕ → ℕ → ℕ
header book ends cells = book * 2 ^ 24 + ends * 2 ^ 16 + cells

-- word 1, of kind 1: how many loops
abbrev pub loops_word : ℕ → ℕ
loops_word loops = 2 ^ 30 + loops

-- a cell word, of kind 2: the kind of the cell
abbrev pub cell_word : ℕ → ℕ
cell_word kind = 2 * 2 ^ 30 + kind * 2 ^ 24

-- a link word, of kind 3: an end, marked by bit 29, or a port of a cell
abbrev pub link_word : Spot → ℕ
link_word (end e) = 3 * 2 ^ 30 + 2 ^ 29 + e
link_word (port r j) = 3 * 2 ^ 30 + 4 * r + j

-- word i of some bytes
abbrev pub word : List ℕ → ℕ → ℕ
word bytes i =
    slice_index bytes (4 * i) * 2 ^ 24 + slice_index bytes (4 * i + 1) * 2 ^ 16 + slice_index bytes (4 * i + 2) * 2 ^ 8 + slice_index bytes (4 * i + 3)

-- the bytes of some words
abbrev pub bytes_of : List ℕ → List ℕ
bytes_of [] = []
bytes_of (w ∷ ws) = w / 2 ^ 24 % 256 ∷ w / 2 ^ 16 % 256 ∷ w / 2 ^ 8 % 256 ∷ w % 256 ∷ bytes_of ws

-- the lists f 0, f 1 and on to f (n - 1), one after the other
unfoldable pub each : ℕ → (ℕ → List ℕ) → List ℕ
each zero f = []
each (suc n) f = each n f ++ f n
