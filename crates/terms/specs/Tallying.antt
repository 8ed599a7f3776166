-- What the uses of a text's front come to: what private functions tell each other; no public contract cites it. Assumes nothing.
use Rattle.std.specs.Prelude.{◌≡◌, ℕ, ◌+◌, ◌<◌, Bool, false, ◌≢◌, ◌⊎◌, List, [], ◌∷◌, ◌++◌, length, Some, None, Decides, Option, slice_index, slice_index_or}
use Rattle.std.specs.List.{ContainsAt as Has}
use Rattle.refusals.specs.declared.faults.TextFault.{TextFault}
use Rattle.terms.specs.Letters.{WordAt, capital}
use Rattle.terms.specs.Bindings.{Meaning, variable, listed, nothing}
use Rattle.terms.specs.Texts.{First}
use Rattle.terms.specs.declared.tally.Tally.{Tally}

-- some uses in text order: what each means, and where it stands
abbrev pub Uses : Type 0
Uses = List (Meaning × ℕ)

abbrev pub AgainIn : Uses → ℕ → Type 0
AgainIn us q = (m : Meaning) × (p : ℕ) × (m ≢ nothing) × Has us (m, p) × (p < q) × Has us (m, q)

abbrev pub WrongIn : Uses → ℕ → Type 0
WrongIn us q = Has us (nothing, q) ⊎ AgainIn us q

-- the first wrong use
abbrev pub WrongAs : Uses → TextFault → Type 0
WrongAs us TextFault.TooLong = ⊥
WrongAs us (TextFault.Grammar p) = ⊥
WrongAs us (TextFault.Unbound p) = First (WrongIn us) p × Has us (nothing, p)
WrongAs us (TextFault.UsedTwice p) = First (WrongIn us) p × AgainIn us p
WrongAs us (TextFault.Unused p) = ⊥
WrongAs us TextFault.TooLarge = ⊥

abbrev pub FaultOf : Uses → Option TextFault → Type 0
FaultOf us None = (q : ℕ) → WrongIn us q → ⊥
FaultOf us (Some f) = WrongAs us f

-- the uses stand before place q
abbrev pub Before : Uses → ℕ → Type 0
Before us q = (m : Meaning) (p : ℕ) → Has us (m, p) → p < q

-- how many of them are items
abbrev pub one_thing : Meaning → ℕ
one_thing (variable p) = 0
one_thing (listed w) = 1
one_thing nothing = 0

abbrev pub things : Uses → ℕ
things [] = 0
things (u ∷ us) = one_thing u.0 + things us

-- what the uses us come to: the flags of the variables, the places of the items, and the first fault
pub record Sums (text : List ℕ) (us : Uses) (used : List Bool) (items : List ℕ) (fault : Option TextFault) : Type 0 where
  pub flags : (p : ℕ) → p < 8192 → Decides (slice_index_or used p false) ((q : ℕ) × Has us (variable p, q))
  pub stand : (k : ℕ) → k < length items → (w : List ℕ) × Has us (listed w, slice_index items k) × WordAt text (slice_index items k) capital w
  pub found : (w : List ℕ) (q : ℕ) → Has us (listed w, q) → (k : ℕ) × (k < length items) × (slice_index items k ≡ q) × WordAt text q capital w
  pub counted : length items ≡ things us
  pub wrong : FaultOf us fault

abbrev pub Tallied : List ℕ → Uses → Tally → Type 0
Tallied text us t = Sums text us t.used t.items.items t.fault

-- what a name means that has its abstraction's name at this place, or no abstraction
abbrev pub meant : Option ℕ → Meaning
meant None = nothing
meant (Some p) = variable p

-- one use more
pub record Noted (text : List ℕ) (m : Meaning) (q : ℕ) (old new : Tally) : Type 0 where
  pub tallied : (us : Uses) → Tallied text us old → Before us q → Tallied text (us ++ (m, q) ∷ []) new
  pub counted : length new.items.items ≡ length old.items.items + one_thing m
