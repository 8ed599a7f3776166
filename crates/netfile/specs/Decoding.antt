-- What single words of a file are decoded to: what private functions tell each other; no public contract cites it. Assumes nothing.
use Rattle.std.specs.Prelude.{◌≡◌, ℕ, ◌^◌, ◌<◌, ◌≤◌, List, Some, None, Option, ◌≢◌}
use Rattle.calculus.specs.Spots.{Spot, end, port}
use Rattle.nets.specs.Views.{at}
use Rattle.nets.specs.declared.spot.Spot.{Spot as Seen}
use Rattle.netfile.specs.Words.{header, loops_word, cell_word, link_word, word}
use Rattle.netfile.specs.Faults.{size}

-- word i, if it is there
abbrev pub WordAt : List ℕ → ℕ → Option ℕ → Type 0
WordAt bs i None = size bs ≤ i
WordAt bs i (Some w) = (i < size bs) × (w ≡ word bs i)

-- how many ends and cells word 0 of a file of this book names, unless it is of another kind or book or they are too many
abbrev pub HeaderOf : ℕ → ℕ → Option (ℕ × ℕ) → Type 0
HeaderOf number w None = (e c : ℕ) → e ≤ 64 → c ≤ 1024 → w ≢ header number e c
HeaderOf number w (Some p) = (w ≡ header number p.0 p.1) × (p.0 ≤ 64) × (p.1 ≤ 1024)

-- the loops of word 1
abbrev pub LoopsOf : ℕ → Option ℕ → Type 0
LoopsOf w None = (l : ℕ) → l < 2 ^ 30 → w ≢ loops_word l
LoopsOf w (Some l) = (w ≡ loops_word l) × (l < 2 ^ 30)

-- the kind of a cell word
abbrev pub KindOf : ℕ → Option ℕ → Type 0
KindOf w None = (k : ℕ) → k < 64 → w ≢ cell_word k
KindOf w (Some k) = (w ≡ cell_word k) × (k < 64)

-- a spot whose numbers a link word has room for
abbrev pub Fits : Spot → Type 0
Fits (end e) = e < 2 ^ 16
Fits (port r j) = (r < 2 ^ 14) × (j < 4)

-- the spot of a link word
abbrev pub SpotOf : ℕ → Option Seen → Type 0
SpotOf w None = (x : Spot) → Fits x → w ≢ link_word x
SpotOf w (Some x) = (w ≡ link_word (at x)) × Fits (at x)
