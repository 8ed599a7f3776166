-- What an item is spelled like. Assumes nothing.
use Rattle.std.specs.Prelude.{ℕ, ◌<◌, List, [], map, length, take, ◌≢◌, slice_index_or}
use Rattle.terms.specs.declared.item.Item.{Item}

-- the letters of an item
abbrev pub spelled : Item → List ℕ
spelled x = take x.len x.letters

-- no two of the items are spelled alike
abbrev pub Apart : List Item → Type 0
Apart xs = (i j : ℕ) → i < j → j < length xs → slice_index_or (map spelled xs) i [] ≢ slice_index_or (map spelled xs) j []
