-- Which texts are linear terms within the limits, and which fault is due for all others. Assumes nothing.
use Rattle.std.specs.Prelude.{◌≡◌, ℕ, ◌<◌, ◌≤◌, ◌⊎◌, List, length, Ok, Err, Result}
use Rattle.refusals.specs.declared.faults.TextFault.{TextFault}
use Rattle.terms.specs.declared.size.Size.{Size}
use Rattle.terms.specs.Letters.{Outside}
use Rattle.terms.specs.Named.{Named, written, Spelt, Grammatical, cells, items}
use Rattle.terms.specs.Bindings.{IsUnbound, IsUsedAgain, IsUnused, LinearNamed}

-- the limits: bytes of text, items, cells
abbrev pub most_bytes : ℕ
most_bytes = 8192

abbrev pub most_items : ℕ
most_items = 63

abbrev pub most_cells : ℕ
most_cells = 1024

-- q is the first place of which P holds
abbrev pub First : (ℕ → Type 0) → ℕ → Type 0
First P q = P q × ((p : ℕ) → p < q → P p → ⊥)

-- the term has more items or cells than the limits allow
abbrev pub IsLarge : Named → Type 0
IsLarge t = (most_items < length (items t)) ⊎ (most_cells < cells t)

-- a name without an abstraction, or a variable or an item used again
abbrev pub IsMisused : Named → ℕ → Type 0
IsMisused t q = IsUnbound t q ⊎ IsUsedAgain t q

-- the text is the linear term t, within the limits
pub record Reads (text : List ℕ) (t : Named) : Type 0 where
  pub short : length text ≤ most_bytes
  pub spelt : Spelt t
  pub written : written t ≡ text
  pub linear : LinearNamed t
  pub small : IsLarge t → ⊥

module _ (text : List ℕ) where
  -- the text is not too long and is the text of a term, of which P holds
  abbrev pub OfTerm : (Named → Type 0) → Type 0
  OfTerm P = (length text ≤ most_bytes) × ((t : Named) × Spelt t × (written t ≡ text) × P t)

  -- the text is to be refused for this fault: the length is looked at first, then the grammar, then the uses in their order, then the abstractions in their order, and then the limits
  abbrev pub Due : TextFault → Type 0
  Due TextFault.TooLong = most_bytes < length text
  Due (TextFault.Grammar p) = (length text ≤ most_bytes) × Outside Grammatical text p
  Due (TextFault.Unbound p) = OfTerm (λ t. First (IsMisused t) p × IsUnbound t p)
  Due (TextFault.UsedTwice p) = OfTerm (λ t. First (IsMisused t) p × IsUsedAgain t p)
  Due (TextFault.Unused p) = OfTerm (λ t. ((q : ℕ) → IsMisused t q → ⊥) × First (IsUnused t) p)
  Due TextFault.TooLarge = OfTerm (λ t. LinearNamed t × IsLarge t)

  -- at most one fault is due, none where the text is a linear term within the limits, and then it is one term only
  pub record OneAnswer : Type 0 where
    pub one : (f g : TextFault) → Due f → Due g → f ≡ g
    pub right : (f : TextFault) (t : Named) → Due f → Reads text t → ⊥
    pub term : (t u : Named) → Reads text t → Reads text u → t ≡ u

  -- what a look at the length and the grammar answers: that this is the text of a term, linear or not, or the fault that is due
  abbrev pub Checked : Result (Unit {0}) TextFault → Type 0
  Checked (Ok _) = (length text ≤ most_bytes) × Grammatical text
  Checked (Err f) = Due f

  -- what a survey answers: the size of the linear term that the text is, within the limits, or the fault that is due
  abbrev pub Surveyed : Result Size TextFault → Type 0
  Surveyed (Ok s) = (t : Named) × Reads text t × (s.cells ≡ cells t) × (s.items ≡ length (items t))
  Surveyed (Err f) = Due f
