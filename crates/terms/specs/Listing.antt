-- Lists of items: what they hold, and what a further item does to them. Assumes nothing.
use Rattle.std.specs.Prelude.{◌≡◌, ℕ, ◌<◌, ◌≤◌, List, [], ◌∷◌, ◌++◌, map, length, Some, None, Ok, Err, vec_items, Option, Result, slice_index_or}
use Rattle.std.specs.List.{ContainsAt as Has}
use Rattle.std.specs.Borrow.{Bor}
use Rattle.refusals.specs.declared.faults.TextFault.{TextFault}
use Rattle.terms.specs.Letters.{Word, capital, Outside}
use Rattle.terms.specs.Spelling.{spelled}
use Rattle.terms.specs.declared.item.Item.{Item}
use Rattle.terms.specs.declared.items.Items.{Items}

-- the items of a list, in their order
abbrev pub listed : Items → List (List ℕ)
listed s = map spelled (vec_items s.items)

-- the bytes are refused for this fault as a further item of the list: they are no item, or stand there already, or 63 items do
abbrev pub Due : List (List ℕ) → List ℕ → TextFault → Type 0
Due is w TextFault.TooLong = ⊥
Due is w (TextFault.Grammar p) = Outside (Word capital) w p
Due is w (TextFault.Unbound p) = ⊥
Due is w (TextFault.UsedTwice p) = Word capital w × Has is w × (p ≡ 0)
Due is w (TextFault.Unused p) = ⊥
Due is w TextFault.TooLarge = Word capital w × (Has is w → ⊥) × (length is ≡ 63)

-- what adding an item answers, and which list is left
abbrev pub Added : Items → List ℕ → Result (Unit {0}) TextFault → Items → Type 0
Added s w (Ok _) t = Word capital w × (Has (listed s) w → ⊥) × (length (listed s) < 63) × (listed t ≡ listed s ++ w ∷ [])
Added s w (Err f) t = Due (listed s) w f × (t ≡ s)

-- the item that the bytes spell, or why they spell none
abbrev pub ItemRead : List ℕ → Result Item TextFault → Type 0
ItemRead w (Ok x) = Word capital w × (spelled x ≡ w)
ItemRead w (Err f) = (p : ℕ) × (f ≡ TextFault.Grammar p) × Outside (Word capital) w p

-- item i of the list, if there is one
abbrev pub Got : List (List ℕ) → ℕ → Option (Bor (List ℕ)) → Type 0
Got is i (Some w) = (i < length is) × (w.now ≡ slice_index_or is i [])
Got is i None = length is ≤ i
