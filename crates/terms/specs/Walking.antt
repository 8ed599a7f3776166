-- A walk over the text of a term: what private functions tell each other; no public contract cites it. Assumes nothing.
use Rattle.std.specs.Prelude.{◌≡◌, ℕ, ◌+◌, ◌-◌, ◌<◌, ◌≤◌, Bool, false, List, [], ◌∷◌, ◌++◌, length, drop, Decides, slice_index, slice_index_or}
use Rattle.std.specs.List.{ContainsAt as Has}
use Rattle.terms.specs.Named.{Named, bound, item, lam, app, written, Spelt, cells}
use Rattle.terms.specs.Bindings.{Around, uses, binders}
use Rattle.terms.specs.Scopes.{Surrounding}
use Rattle.terms.specs.Tallying.{Uses, Before, Tallied}
use Rattle.terms.specs.declared.tally.Tally.{Tally}
use Rattle.terms.specs.declared.walker.Walker.{Walker}

-- what comes after a term: the argument of an open application, or its closing bracket; with the abstractions around the application
pub data Later : Type 0 where
  due : Around → Named → Later
  shut : Around → Later

abbrev pub outer : Later → Around
outer (due es a) = es
outer (shut es) = es

abbrev pub rest : List Later → List ℕ
rest [] = []
rest (due es a ∷ zs) = 32 ∷ (written a ++ 41 ∷ rest zs)
rest (shut es ∷ zs) = 41 ∷ rest zs

abbrev pub SpeltLater : List Later → Type 0
SpeltLater [] = Unit {0}
SpeltLater (due es a ∷ zs) = Spelt a × SpeltLater zs
SpeltLater (shut es ∷ zs) = SpeltLater zs

-- the uses to come after place p, the names of abstractions, and the cells
abbrev pub later_uses : ℕ → List Later → Uses
later_uses p [] = []
later_uses p (due es a ∷ zs) = uses es (p + 1) a ++ later_uses (p + (length (written a) + 2)) zs
later_uses p (shut es ∷ zs) = later_uses (p + 1) zs

abbrev pub later_binders : ℕ → List Later → List ℕ
later_binders p [] = []
later_binders p (due es a ∷ zs) = binders (p + 1) a ++ later_binders (p + (length (written a) + 2)) zs
later_binders p (shut es ∷ zs) = later_binders (p + 1) zs

abbrev pub later_cells : List Later → ℕ
later_cells [] = 0
later_cells (due es a ∷ zs) = cells a + later_cells zs
later_cells (shut es ∷ zs) = later_cells zs

-- what is to be read: a term and what comes after it, or what comes after a term
pub data Todo : Type 0 where
  reading : Around → Named → List Later → Todo
  between : List Later → Todo

abbrev pub remaining : Todo → List ℕ
remaining (reading es t zs) = written t ++ rest zs
remaining (between zs) = rest zs

abbrev pub SpeltTodo : Todo → Type 0
SpeltTodo (reading es t zs) = Spelt t × SpeltLater zs
SpeltTodo (between zs) = SpeltLater zs

abbrev pub coming_uses : ℕ → Todo → Uses
coming_uses p (reading es t zs) = uses es p t ++ later_uses (p + length (written t)) zs
coming_uses p (between zs) = later_uses p zs

abbrev pub coming_binders : ℕ → Todo → List ℕ
coming_binders p (reading es t zs) = binders p t ++ later_binders (p + length (written t)) zs
coming_binders p (between zs) = later_binders p zs

abbrev pub coming_cells : Todo → ℕ
coming_cells (reading es t zs) = cells t + later_cells zs
coming_cells (between zs) = later_cells zs

-- the first `depth` of the numbers say how many abstractions are around the open applications, the outermost first
abbrev pub Saved : List ℕ → List ℕ → List ℕ → ℕ → ℕ → List Later → Type 0
Saved text around saved most depth [] = depth ≡ 0
Saved text around saved most depth (z ∷ zs) =
    (1 ≤ depth) × (slice_index saved (depth - 1) ≤ most) × Surrounding text around (slice_index saved (depth - 1)) (outer z)
    × Saved text around saved (slice_index saved (depth - 1)) (depth - 1) zs

abbrev pub Held : List ℕ → List ℕ → ℕ → List ℕ → ℕ → Todo → Type 0
Held text around inner saved depth (reading es t zs) = Surrounding text around inner es × Saved text around saved inner depth zs
Held text around inner saved depth (between zs) = Saved text around saved inner depth zs

-- place p of the text is reached, and z stands there
pub record Stands (text : List ℕ) (p : ℕ) (z : Todo) : Type 0 where
  pub inside : p ≤ length text
  pub front : drop p text ≡ remaining z
  pub spelt : SpeltTodo z

-- at place p of the text of T, with z to be read
pub record Walk (text : List ℕ) (T : Named) (p : ℕ) (around saved : List ℕ) (flags : List Bool) (count : ℕ) (tally : Tally) (z : Todo) : Type 0 where
  pub us : Uses
  pub bs : List ℕ
  pub stands : Stands text p z
  pub all_uses : us ++ coming_uses p z ≡ uses [] 0 T
  pub all_binders : bs ++ coming_binders p z ≡ binders 0 T
  pub all_cells : count + coming_cells z ≡ cells T
  pub before : Before us p
  pub tallied : Tallied text us tally
  pub flagged : (q : ℕ) → q < 8192 → Decides (slice_index_or flags q false) (Has bs q)
  pub held : Held text around (length around) saved (length saved) z
  pub low : (length around ≤ p) × (length saved ≤ p) × (count ≤ p) × (length tally.items.items ≤ p)

abbrev pub Walks : Named → ℕ → Walker → Todo → Type 0
Walks T p w z = Walk w.text.now T p w.around.items w.saved.items w.binders w.cells w.tally z

-- this is to be read where a walk over the text of some term has come to
abbrev pub Reading : Walker → Todo → Type 0
Reading w z = (T : Named) × Spelt T × (written T ≡ w.text.now) × Walks T w.at w z

-- the kinds of what is to be read
abbrev pub Abstraction : Todo → Type 0
Abstraction z = (es : Around) × (n : List ℕ) × (b : Named) × (zs : List Later) × (z ≡ reading es (lam n b) zs)

abbrev pub Application : Todo → Type 0
Application z = (es : Around) × (f : Named) × (a : Named) × (zs : List Later) × (z ≡ reading es (app f a) zs)

abbrev pub BoundName : Todo → Type 0
BoundName z = (es : Around) × (n : List ℕ) × (zs : List Later) × (z ≡ reading es (bound n) zs)

abbrev pub AnItem : Todo → Type 0
AnItem z = (es : Around) × (n : List ℕ) × (zs : List Later) × (z ≡ reading es (item n) zs)

abbrev pub Argument : Todo → Type 0
Argument z = (es : Around) × (a : Named) × (zs : List Later) × (z ≡ between (due es a ∷ zs))

abbrev pub Closing : Todo → Type 0
Closing z = (es : Around) × (zs : List Later) × (z ≡ between (shut es ∷ zs))

abbrev pub Anything : Todo → Type 0
Anything z = Unit {0}

-- something of this kind is to be read
abbrev pub Due : (Todo → Type 0) → (Todo → Type 0) → Type 0
Due R K = (z : Todo) × K z × R z

-- a walk over a text, from one place to a later one
pub record Goes {W : Type 0} (text : W → List ℕ) (at : W → ℕ) (R : W → Todo → Type 0) (w v : W) : Type 0 where
  pub same : text v ≡ text w
  pub on : at w < at v
  pub comes : Due (R v) Anything

-- a walk before the first byte of the text of a term
pub record Begins (text : List ℕ) (w : Walker) : Type 0 where
  pub same : w.text.now ≡ text
  pub comes : Due (Reading w) Anything

-- a walk that has come to the end of the text of a term
abbrev pub Walked : List ℕ → Walker → Type 0
Walked text w = (T : Named) × Spelt T × (written T ≡ text) × Walk text T (length text) w.around.items w.saved.items w.binders w.cells w.tally (between [])
