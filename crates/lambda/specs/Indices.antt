-- Terms with indices in place of names, as textbooks have them. Assumes nothing.
use Rattle.std.specs.Prelude.{◌≡◌, ℕ, zero, suc, pred, ◌+◌, true, false, List, [], ◌∷◌, ◌==◌, nat_lt, slice_index}
use Rattle.lambda.specs.Terms.{Term, var, item, lam, app}

-- a variable says how many abstractions stand between it and its own
pub data Indexed : Type 0 where
  index : ℕ → Indexed
  symbol : ℕ → Indexed
  abs : Indexed → Indexed
  apply : Indexed → Indexed → Indexed

-- how many stand before p in a list
abbrev pub before : ℕ → List ℕ → ℕ
before p [] = 0
before p (e ∷ es) = elim (p == e) [ true ↦ 0 | false ↦ suc (before p es) ]

-- a term under the abstractions es, the innermost first, with its places forgotten
abbrev pub indexed : List ℕ → Term → Indexed
indexed es (var p) = index (before p es)
indexed es (item k) = symbol k
indexed es (lam p b) = abs (indexed (p ∷ es) b)
indexed es (app p f a) = apply (indexed es f) (indexed es a)

-- equal up to bound names
abbrev pub Same : Term → Term → Type 0
Same t u = indexed [] t ≡ indexed [] u

-- indices from k on raised by d
abbrev pub raise : ℕ → ℕ → Indexed → Indexed
raise k d (index i) = elim (nat_lt i k) [ true ↦ index i | false ↦ index (i + d) ]
raise k d (symbol s) = symbol s
raise k d (abs b) = abs (raise (suc k) d b)
raise k d (apply f a) = apply (raise k d f) (raise k d a)

-- the index k replaced by a, which is raised past k abstractions; the indices above it lowered by one
abbrev pub replace : ℕ → Indexed → Indexed → Indexed
replace k a (index i) = elim (nat_lt i k) [ true ↦ index i | false ↦ elim (i == k) [ true ↦ raise 0 k a | false ↦ index (pred i) ] ]
replace k a (symbol s) = symbol s
replace k a (abs b) = abs (replace (suc k) a b)
replace k a (apply f c) = apply (replace k a f) (replace k a c)

-- one beta step
pub data Contracts : Indexed → Indexed → Type 0 where
  beta : {b a : Indexed} → Contracts (apply (abs b) a) (replace 0 a b)
  inside : {b b' : Indexed} → Contracts b b' → Contracts (abs b) (abs b')
  on_left : {f f' a : Indexed} → Contracts f f' → Contracts (apply f a) (apply f' a)
  on_right : {f a a' : Indexed} → Contracts a a' → Contracts (apply f a) (apply f a')

-- how many abstractions and applications
abbrev pub many : Indexed → ℕ
many (index i) = 0
many (symbol k) = 0
many (abs b) = suc (many b)
many (apply f a) = suc (many f + many a)

-- places from c on given in text order, under abstractions in the places es
abbrev pub placed : ℕ → List ℕ → Indexed → Term
placed c es (index i) = var (slice_index es i)
placed c es (symbol k) = item k
placed c es (abs b) = lam c (placed (suc c) (c ∷ es) b)
placed c es (apply f a) = app c (placed (suc c) es f) (placed (suc (c + many f)) es a)

-- the same term, its cells in the places 0, 1 and on, in text order
abbrev pub in_order : Term → Term
in_order t = placed 0 [] (indexed [] t)

-- the numbers from c on, n of them
abbrev pub upto : ℕ → ℕ → List ℕ
upto c zero = []
upto c (suc n) = c ∷ upto (suc c) n
