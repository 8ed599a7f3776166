-- The abstractions around a place of a text, and which of them a name means. Assumes nothing.
use Rattle.std.specs.Prelude.{◌≡◌, ℕ, ◌-◌, ◌<◌, ◌≤◌, List, [], ◌∷◌, length, Some, None, Option, slice_index}
use Rattle.terms.specs.Letters.{WordAt, ReadAt, small}
use Rattle.terms.specs.Bindings.{variable, nothing, Around, meaning}

-- the first n of the places are those of the names of the abstractions es, the outermost first
abbrev pub Surrounding : List ℕ → List ℕ → ℕ → Around → Type 0
Surrounding text xs n [] = n ≡ 0
Surrounding text xs n (e ∷ es) = (1 ≤ n) × (slice_index xs (n - 1) ≡ e.1) × WordAt text e.1 small e.0 × Surrounding text xs (n - 1) es

-- the same abstractions with the first n of some numbers for their own, the outermost first
abbrev pub renumbered : List ℕ → ℕ → Around → Around
renumbered bs n [] = []
renumbered bs n (e ∷ es) = (e.0, slice_index bs (n - 1)) ∷ renumbered bs (n - 1) es

-- which of n abstractions a name means, counted from the outermost on, whatever their numbers are
abbrev pub Found : List ℕ → ℕ → Around → Option ℕ → Type 0
Found w n es None = (bs : List ℕ) → meaning w (renumbered bs n es) ≡ nothing
Found w n es (Some i) = (i < n) × ((bs : List ℕ) → meaning w (renumbered bs n es) ≡ variable (slice_index bs i))

-- the last of some places at which the name stands, by its number; none where it stands at none
abbrev pub Latest : List ℕ → List ℕ → List ℕ → Option ℕ → Type 0
Latest text xs w None = (j : ℕ) → j < length xs → ReadAt text (slice_index xs j) small w → ⊥
Latest text xs w (Some i) = (i < length xs) × ReadAt text (slice_index xs i) small w × ((j : ℕ) → i < j → j < length xs → ReadAt text (slice_index xs j) small w → ⊥)
