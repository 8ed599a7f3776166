-- Terms without names, and which of them are linear. Assumes nothing.
use Rattle.std.specs.Prelude.{◌≡◌, ℕ, suc, ◌+◌, ◌≤◌, true, false, List, [], ◌∷◌, ◌++◌, ◌==◌}

-- a term: each abstraction and each application has a place, a variable is known by the place of its abstraction, and item k is the k-th item listed
pub data Term : Type 0 where
  var : ℕ → Term
  item : ℕ → Term
  lam : ℕ → Term → Term
  app : ℕ → Term → Term → Term

-- how many cells a term has: abstractions and applications
abbrev pub size : Term → ℕ
size (var p) = 0
size (item k) = 0
size (lam p b) = suc (size b)
size (app p f a) = suc (size f + size a)

-- their places in text order
abbrev pub places : Term → List ℕ
places (var p) = []
places (item k) = []
places (lam p b) = p ∷ places b
places (app p f a) = p ∷ (places f ++ places a)

-- 1 if the two are equal, else 0
abbrev pub one : ℕ → ℕ → ℕ
one p r = elim (p == r) [ true ↦ 1 | false ↦ 0 ]

-- how often the variable p is used
abbrev pub uses : ℕ → Term → ℕ
uses p (var r) = one p r
uses p (item k) = 0
uses p (lam r b) = uses p b
uses p (app r f a) = uses p f + uses p a

-- how often the item k stands there
abbrev pub stands : ℕ → Term → ℕ
stands k (var r) = 0
stands k (item i) = one k i
stands k (lam r b) = stands k b
stands k (app r f a) = stands k f + stands k a

-- how many abstractions have the place p
abbrev pub binds : ℕ → Term → ℕ
binds p (var r) = 0
binds p (item k) = 0
binds p (lam r b) = one p r + binds p b
binds p (app r f a) = binds p f + binds p a

-- how many applications have it
abbrev pub applies : ℕ → Term → ℕ
applies p (var r) = 0
applies p (item k) = 0
applies p (lam r b) = applies p b
applies p (app r f a) = one p r + (applies p f + applies p a)

-- how many cells have it
abbrev pub cells : ℕ → Term → ℕ
cells p t = binds p t + applies p t

-- each abstraction's variable is used exactly once inside its body
abbrev pub Once : Term → Type 0
Once (var p) = Unit {0}
Once (item k) = Unit {0}
Once (lam p b) = (uses p b ≡ 1) × Once b
Once (app p f a) = Once f × Once a

-- a linear term with n items
pub record Linear (n : ℕ) (t : Term) : Type 0 where
  pub once : Once t
  -- a variable is used as often as it is bound: never outside its abstraction's body
  pub closed : (p : ℕ) → uses p t ≡ binds p t
  -- no two cells have one place
  pub apart : (p : ℕ) → cells p t ≤ 1
  -- each of the items 1 to n stands once, and no other
  pub listed : (k : ℕ) → 1 ≤ k → k ≤ n → stands k t ≡ 1
  pub only : (k : ℕ) → 1 ≤ stands k t → (1 ≤ k) × (k ≤ n)
