-- What is proved of terms with names and the terms without names that they stand for. Assumes nothing.
use Rattle.std.specs.Prelude.{◌≡◌, ℕ, ◌<◌, List, [], length, ◌≢◌, slice_index_or}
use Rattle.std.specs.List.{ContainsAt as Has}
use Rattle.lambda.specs.Terms.{places, Linear}
use Rattle.lambda.specs.Indices.{upto}
use Rattle.terms.specs.Named.{Named, cells, items}
use Rattle.terms.specs.Bindings.{LinearNamed, term_under}

-- the list has each item of the term once, and no other
pub record Lists (is : List (List ℕ)) (t : Named) : Type 0 where
  pub all : (w : List ℕ) → Has (items t) w → Has is w
  pub only : (w : List ℕ) → Has is w → Has (items t) w
  pub once : (i j : ℕ) → i < j → j < length is → slice_index_or is i [] ≢ slice_index_or is j []

-- a linear term with names stands for a linear term without names, under any list of its items
abbrev pub LinearTerms : Type 0
LinearTerms = (is : List (List ℕ)) (t : Named) → LinearNamed t → Lists is t → Linear (length is) (term_under is t)

-- its items in text order are such a list
abbrev pub OwnItems : Type 0
OwnItems = (t : Named) → LinearNamed t → Lists (items t) t

-- its cells are in the places 0, 1, 2 and on, in text order
abbrev pub TextPlaces : Type 0
TextPlaces = (is : List (List ℕ)) (t : Named) → places (term_under is t) ≡ upto 0 (cells t)
