-- The net of a term. Assumes nothing.
use Rattle.std.specs.Prelude.{ℕ, suc, true, false, List, [], ◌∷◌, ◌++◌, Some, None, nat_lt}
use Rattle.calculus.specs.Spots.{Spot, end, port}
use Rattle.calculus.specs.Nets.{Net, Pair}
use Rattle.calculus.specs.Drawn.{linked}
use Rattle.calculus.specs.Combinators.{γ, γγ}
use Rattle.lambda.specs.Terms.{Term, var, item, lam, app, cells}

-- where a term is met: an abstraction at its port 0, a variable at its abstraction's port 1, an application at its port 1, item k at end k
abbrev pub head : Term → Spot
head (var p) = port p 1
head (item k) = end k
head (lam p b) = port p 0
head (app p f a) = port p 1

-- the links inside a term: a body stands at its abstraction's port 2, a function at its application's port 0, an argument at port 2
abbrev pub inner : Term → List (Spot × Spot)
inner (var p) = []
inner (item k) = []
inner (lam p b) = (port p 2, head b) ∷ inner b
inner (app p f a) = (port p 0, head f) ∷ (inner f ++ ((port p 2, head a) ∷ inner a))

-- all links of a term that stands at x
abbrev pub links : Spot → Term → List (Spot × Spot)
links x t = (x, head t) ∷ inner t

-- the net of a term with n items: a γ in each place of the term, the root at end 0, item k at end k
unfoldable pub net : ℕ → Term → Net
net n t = record { ends = suc n; kind = λ r. elim (nat_lt 0 (cells r t)) [ true ↦ Some γ | false ↦ None ]; mate = linked (links (end 0) t); loops = 0 }

-- two γ facing in the places p and q, the lower place first
abbrev pub facing : ℕ → ℕ → Pair
facing p q =
    elim (nat_lt p q) [
      | true ↦ record { left = p; right = q; position = 0; rule = γγ }
      | false ↦ record { left = q; right = p; position = 0; rule = γγ }
    ]
