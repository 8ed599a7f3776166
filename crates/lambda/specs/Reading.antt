-- Reading a term back from a net. Assumes nothing.
use Rattle.std.specs.Prelude.{◌≡◌, ℕ, suc, ◌≤◌, ◌⊎◌, List, [], ◌∷◌, Some}
use Rattle.calculus.specs.Spots.{Spot, end, port}
use Rattle.calculus.specs.Nets.{Net}
use Rattle.calculus.specs.Combinators.{γ}
use Rattle.lambda.specs.Terms.{Term, var, item, lam, app, uses, stands, binds, cells}

-- p is in the list
abbrev pub Among : ℕ → List ℕ → Type 0
Among p [] = ⊥
Among p (e ∷ es) = (p ≡ e) ⊎ Among p es

-- the term that stands at x, under the abstractions es, is read by following links
pub data Reads (m : Spot → Spot) : List ℕ → Spot → Term → Type 0 where
  -- end k: the item k
  an_item : {es : List ℕ} {x : Spot} {k : ℕ} → m x ≡ end k → Reads m es x (item k)
  -- port 0 of a cell: an abstraction, with its body at port 2
  an_abstraction : {es : List ℕ} {x : Spot} {p : ℕ} {b : Term} → m x ≡ port p 0 → Reads m (p ∷ es) (port p 2) b → Reads m es x (lam p b)
  -- port 1 of an abstraction around it: a variable
  a_variable : {es : List ℕ} {x : Spot} {p : ℕ} → m x ≡ port p 1 → Among p es → Reads m es x (var p)
  -- port 1 of any other cell: an application, with its function at port 0 and its argument at port 2
  an_application : {es : List ℕ} {x : Spot} {p : ℕ} {f a : Term} → m x ≡ port p 1 → (Among p es → ⊥) →
      Reads m es (port p 0) f → Reads m es (port p 2) a → Reads m es x (app p f a)

-- t is what the net A with n items says: it is read from the root, and nothing is left over
pub record ReadsBack (n : ℕ) (A : Net) (t : Term) : Type 0 where
  -- an end for the root, and one for each item
  pub ends : A.ends ≡ suc n
  pub root : Reads A.mate [] (end 0) t
  -- every cell is a γ and is met, no cell is met twice
  pub whole : (r k : ℕ) → A.kind r ≡ Some k → (k ≡ γ) × (1 ≤ cells r t)
  pub apart : (r : ℕ) → cells r t ≤ 1
  -- every abstraction's variable is met, and every item
  pub used : (p : ℕ) → 1 ≤ binds p t → 1 ≤ uses p t
  pub listed : (k : ℕ) → 1 ≤ k → k ≤ n → 1 ≤ stands k t
  pub loops : A.loops ≡ 0
