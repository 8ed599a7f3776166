-- What the names of a term mean, and where they stand in its text. Assumes nothing.
use Rattle.std.specs.Prelude.{ℕ, suc, ◌+◌, ◌<◌, cond, ◌≢◌, List, [], ◌∷◌, ◌++◌, length}
use Rattle.std.specs.List.{ContainsAt as Has}
use Rattle.std.specs.Str.{bytes_eq}
use Rattle.terms.specs.Named.{Named, bound, item, lam, app, written, cells, items}
use Rattle.calculus.specs.Nets.{Net}
use Rattle.lambda.specs.Terms.{Term}
use Rattle.lambda.specs.TermNets.{net}

-- an abstraction is known by its name and a number; a name means the innermost one around it that has this name, or none
pub data Meaning : Type 0 where
  variable : ℕ → Meaning
  listed : List ℕ → Meaning
  nothing : Meaning

-- the abstractions around a place, the innermost first: the name of each, and its number
abbrev pub Around : Type 0
Around = List (List ℕ × ℕ)

abbrev pub meaning : List ℕ → Around → Meaning
meaning w [] = nothing
meaning w (e ∷ es) = cond (bytes_eq w e.0) (variable e.1) (meaning w es)

-- the uses of names and items in a term that is written from byte p on, in text order: what each means, and where it stands; an abstraction's number is the place of its name
abbrev pub uses : Around → ℕ → Named → List (Meaning × ℕ)
uses es p (bound w) = (meaning w es, p) ∷ []
uses es p (item w) = (listed w, p) ∷ []
uses es p (lam w b) = uses ((w, p + 1) ∷ es) (p + (length w + 2)) b
uses es p (app f a) = uses es (p + 1) f ++ uses es (p + (length (written f) + 2)) a

-- where the names of its abstractions stand
abbrev pub binders : ℕ → Named → List ℕ
binders p (bound w) = []
binders p (item w) = []
binders p (lam w b) = (p + 1) ∷ binders (p + (length w + 2)) b
binders p (app f a) = binders (p + 1) f ++ binders (p + (length (written f) + 2)) a

-- m is used at byte q
abbrev pub UsedAt : Named → Meaning → ℕ → Type 0
UsedAt t m q = Has (uses [] 0 t) (m, q)

-- the bound name at byte q has no abstraction
abbrev pub IsUnbound : Named → ℕ → Type 0
IsUnbound t q = UsedAt t nothing q

-- what is used at byte q, a variable or an item, is used before
abbrev pub IsUsedAgain : Named → ℕ → Type 0
IsUsedAgain t q = (m : Meaning) × (p : ℕ) × (m ≢ nothing) × UsedAt t m p × (p < q) × UsedAt t m q

-- an abstraction's name stands at byte q, and its variable is never used
abbrev pub IsUnused : Named → ℕ → Type 0
IsUnused t q = Has (binders 0 t) q × ((p : ℕ) → UsedAt t (variable q) p → ⊥)

-- a term in which each abstraction's variable and each item is used exactly once, and every name is bound
pub record LinearNamed (t : Named) : Type 0 where
  pub closed : (q : ℕ) → IsUnbound t q → ⊥
  pub once : (q : ℕ) → IsUsedAgain t q → ⊥
  pub used : (q : ℕ) → IsUnused t q → ⊥

-- the place of the innermost abstraction of that name
abbrev pub place_of : List ℕ → Around → ℕ
place_of w [] = 0
place_of w (e ∷ es) = cond (bytes_eq w e.0) e.1 (place_of w es)

-- the term without names: its cells in places from c on in text order, its items numbered after k in text order; here an abstraction's number is its place
abbrev pub placed : ℕ → ℕ → Around → Named → Term
placed c k es (bound w) = Term.var (place_of w es)
placed c k es (item w) = Term.item (suc k)
placed c k es (lam w b) = Term.lam c (placed (suc c) k ((w, c) ∷ es) b)
placed c k es (app f a) = Term.app c (placed (suc c) k es f) (placed (suc (c + cells f)) (k + length (items f)) es a)

-- the term that a term with names stands for
abbrev pub term_of : Named → Term
term_of t = placed 0 0 [] t

-- where an item stands in a list of items, counted from 0; the list's length if it is not listed
abbrev pub rank_of : List ℕ → List (List ℕ) → ℕ
rank_of w [] = 0
rank_of w (i ∷ is) = cond (bytes_eq w i) 0 (suc (rank_of w is))

-- a term without names, under a list of items: its cells in places from c on in text order, item k the k-th item listed; here an abstraction's number is its place
abbrev pub placed_under : List (List ℕ) → ℕ → Around → Named → Term
placed_under is c es (bound w) = Term.var (place_of w es)
placed_under is c es (item w) = Term.item (suc (rank_of w is))
placed_under is c es (lam w b) = Term.lam c (placed_under is (suc c) ((w, c) ∷ es) b)
placed_under is c es (app f a) = Term.app c (placed_under is (suc c) es f) (placed_under is (suc (c + cells f)) es a)

-- the term without names that a term with names stands for, under a list of its items
abbrev pub term_under : List (List ℕ) → Named → Term
term_under is t = placed_under is 0 [] t

-- the net of a term under a list of its items: end 0 for the root, end k for the k-th item listed, its cells in places 0, 1, 2 and on in text order
abbrev pub net_under : List (List ℕ) → Named → Net
net_under is t = net (length is) (term_under is t)
