-- Terms with names, and how they are written. Assumes nothing.
use Rattle.std.specs.Prelude.{◌≡◌, ℕ, suc, ◌+◌, List, [], ◌∷◌, ◌++◌}
use Rattle.terms.specs.Letters.{Word, small, capital}

-- a bound name, an item, an abstraction with its name, an application of a function to an argument
pub data Named : Type 0 where
  bound : List ℕ → Named
  item : List ℕ → Named
  lam : List ℕ → Named → Named
  app : Named → Named → Named

-- the bytes: `\` name `.` term; `(` term, one space, term `)`
abbrev pub written : Named → List ℕ
written (bound w) = w
written (item w) = w
written (lam w b) = 92 ∷ (w ++ 46 ∷ written b)
written (app f a) = 40 ∷ (written f ++ 32 ∷ (written a ++ 41 ∷ []))

-- names have one to eight letters a to z, items one to eight letters A to Z
abbrev pub Spelt : Named → Type 0
Spelt (bound w) = Word small w
Spelt (item w) = Word capital w
Spelt (lam w b) = Word small w × Spelt b
Spelt (app f a) = Spelt f × Spelt a

-- the text of some term, linear or not, of any length
abbrev pub Grammatical : List ℕ → Type 0
Grammatical text = (t : Named) × Spelt t × (written t ≡ text)

-- how many cells the term takes: abstractions and applications
abbrev pub cells : Named → ℕ
cells (bound w) = 0
cells (item w) = 0
cells (lam w b) = suc (cells b)
cells (app f a) = suc (cells f + cells a)

-- its items in text order
abbrev pub items : Named → List (List ℕ)
items (bound w) = []
items (item w) = w ∷ []
items (lam w b) = items b
items (app f a) = items f ++ items a
