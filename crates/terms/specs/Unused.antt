-- How an unused variable is found: what private functions tell each other; no public contract cites it. Assumes nothing.
use Rattle.std.specs.Prelude.{◌≡◌, ℕ, ◌<◌, Bool, true, false, List, Some, None, Option, slice_index_or}

-- each flag of the first kind below place p has one of the second kind
abbrev pub UsedBelow : List Bool → List Bool → ℕ → Type 0
UsedBelow binders used p = (q : ℕ) → q < p → slice_index_or binders q false ≡ true → slice_index_or used q false ≡ true

abbrev pub UnusedFound : List Bool → List Bool → Option ℕ → Type 0
UnusedFound binders used None = UsedBelow binders used 8192
UnusedFound binders used (Some p) = (p < 8192) × (slice_index_or binders p false ≡ true) × (slice_index_or used p false ≡ false) × UsedBelow binders used p
