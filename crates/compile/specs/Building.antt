-- A walk over the text of a linear term that fills a draft: what private functions tell each other; no public contract cites it. Assumes nothing.
use Rattle.std.specs.Prelude.{◌≡◌, ℕ, ◌+◌, ◌-◌, ◌<◌, ◌≤◌, true, List, [], ◌∷◌, ◌++◌, map, length, slice_index}
use Rattle.std.specs.List.{ContainsAt as Has}
use Rattle.calculus.specs.Spots.{Spot, end, port}
use Rattle.lambda.specs.TermNets.{links}
use Rattle.nets.specs.Drafts.{Plan, plan, planned}
use Rattle.nets.specs.Views.{at}
use Rattle.nets.specs.declared.draft.Draft.{Draft}
use Rattle.terms.specs.Named.{Named, cells, items}
use Rattle.terms.specs.Bindings.{nothing, placed_under, term_under}
use Rattle.terms.specs.Texts.{Reads}
use Rattle.terms.specs.Listing.{listed}
use Rattle.terms.specs.Scopes.{renumbered}
use Rattle.terms.specs.Walking.{Later, due, shut, Todo, reading, between, Stands, Held, Goes, coming_uses, coming_cells}
use Rattle.terms.specs.declared.items.Items.{Items}
use Rattle.compile.specs.Linking.{Drafted}
use Rattle.compile.specs.declared.builder.Open.{Open}
use Rattle.compile.specs.declared.builder.Builder.{Builder}

-- how many abstractions are around each open application, and the cell of each
abbrev pub saved : List Open → List ℕ
saved os = map (λ o. o.around) os

abbrev pub cells_of : List Open → List ℕ
cells_of os = map (λ o. o.cell) os

-- the abstractions around, by the places of their names and by their cells, and the open applications; the outermost first
pub record Scope : Type 0 where
  pub around : List ℕ
  pub binders : List ℕ
  pub opened : List Open

abbrev pub scope : Builder → Scope
scope b = record { around = b.around.items; binders = b.binders.items; opened = b.opened.items }

-- the links to come after a term, where there are c cells and d open applications; the terms under the list of items `is`
abbrev pub later_links : List (List ℕ) → List ℕ → List ℕ → List ℕ → ℕ → ℕ → List Later → List (Spot × Spot)
later_links is binders saved opened d c [] = []
later_links is binders saved opened d c (due es a ∷ zs) =
    links (port (slice_index opened (d - 1)) 2) (placed_under is c (renumbered binders (slice_index saved (d - 1)) es) a) ++ later_links is binders saved opened (d - 1) (c + cells a) zs
later_links is binders saved opened d c (shut es ∷ zs) = later_links is binders saved opened (d - 1) c zs

-- those after all that is open in a scope
abbrev pub outer_links : List (List ℕ) → Scope → ℕ → List Later → List (Spot × Spot)
outer_links is s c zs = later_links is s.binders (saved s.opened) (cells_of s.opened) (length (saved s.opened)) c zs

-- the links to come, where the next term goes to x
abbrev pub coming_links : List (List ℕ) → Scope → Spot → ℕ → Todo → List (Spot × Spot)
coming_links is s x c (reading es t zs) = links x (placed_under is c (renumbered s.binders (length s.around) es) t) ++ outer_links is s (c + cells t) zs
coming_links is s x c (between zs) = outer_links is s c zs

-- the items to come
abbrev pub later_items : List Later → List (List ℕ)
later_items [] = []
later_items (due es a ∷ zs) = items a ++ later_items zs
later_items (shut es ∷ zs) = later_items zs

abbrev pub coming_items : Todo → List (List ℕ)
coming_items (reading es t zs) = items t ++ later_items zs
coming_items (between zs) = later_items zs

-- the spot is there, if a term goes to it
abbrev pub Ready : Plan → Spot → Todo → Type 0
Ready p x (reading es t zs) = planned p x ≡ true
Ready p x (between zs) = Unit {0}

-- at byte q of the text of T, with z to be read: what is drafted, and what is to come
pub record Builds (text : List ℕ) (T : Named) (q : ℕ) (p : Plan) (c : ℕ) (is : List (List ℕ)) (x : Spot) (s : Scope) (z : Todo) : Type 0 where
  pub done : List (Spot × Spot)
  pub stands : Stands text q z
  pub held : Held text s.around (length s.around) (saved s.opened) (length (saved s.opened)) z
  pub bound : (r : ℕ) → Has (coming_uses q z) (nothing, r) → ⊥
  pub drafted : Drafted (length (items T)) c done p
  pub all_links : done ++ coming_links (items T) s x c z ≡ links (end 0) (term_under (items T) T)
  pub all_items : is ++ coming_items z ≡ items T
  pub all_cells : c + coming_cells z ≡ cells T
  pub ready : Ready p x z
  pub paired : length s.binders ≡ length s.around
  pub abstractions : (k : ℕ) → k < length s.around → slice_index s.binders k < c
  pub applications : (k : ℕ) → k < length s.opened → slice_index (cells_of s.opened) k < c
  pub low : (length s.around ≤ c) × (length s.opened ≤ c)

abbrev pub BuiltTo : Named → Builder → Todo → Type 0
BuiltTo T b z = Builds b.text.now T b.at (plan b.draft) b.cells (listed b.items) (at b.spot) (scope b) z

-- this is to be read where the walk over a linear term's text has come to
abbrev pub Reading : Builder → Todo → Type 0
Reading b z = (T : Named) × Reads b.text.now T × BuiltTo T b z

-- from one place of the text to a later one
abbrev pub Advances : Builder → Builder → Type 0
Advances b c = Goes (λ (w : Builder). w.text.now) (λ (w : Builder). w.at) Reading b c

-- a walk before the first byte
pub record Begins (text : List ℕ) (d : Draft) (is : Items) (b : Builder) : Type 0 where
  pub here : b.text.now ≡ text
  pub start : b.at ≡ 0
  pub draft : b.draft ≡ d
  pub cells : b.cells ≡ 0
  pub items : b.items ≡ is
  pub spot : at b.spot ≡ end 0
  pub around : b.around.items ≡ []
  pub binders : b.binders.items ≡ []
  pub opened : b.opened.items ≡ []

-- the whole text is read: all links of the term are drafted, and all its items listed
abbrev pub Built : List ℕ → Builder → Type 0
Built text b =
    (T : Named) × Reads text T × Drafted (length (items T)) (cells T) (links (end 0) (term_under (items T) T)) (plan b.draft) × (listed b.items ≡ items T)
