-- Links of a draft that are named both ways: what private functions tell each other; no public contract cites it. Assumes nothing.
use Rattle.std.specs.Prelude.{◌≡◌, ℕ, suc, ◌<◌, true, ◌≢◌, List}
use Rattle.std.specs.List.{AllByRecursion}
use Rattle.calculus.specs.Spots.{Spot, port}
use Rattle.calculus.specs.Combinators.{γ}
use Rattle.nets.specs.Drafts.{Plan, planned, CellAdded}

-- from one plan to another one, in which x and y name each other
pub record Linked (p : Plan) (x y : Spot) (q : Plan) : Type 0 where
  pub ends : q.ends ≡ p.ends
  pub loops : q.loops ≡ p.loops
  pub cells : q.cells ≡ p.cells
  pub kinds : (r : ℕ) → q.kind r ≡ p.kind r
  pub arities : (r : ℕ) → q.arity r ≡ p.arity r
  pub here : q.link x ≡ y
  pub back : q.link y ≡ x
  pub others : (z : Spot) → planned p z ≡ true → z ≢ x → z ≢ y → q.link z ≡ p.link z

-- one γ more, in the place c, that x is linked with at port j
abbrev pub Placed : Plan → Spot → ℕ → ℕ → Plan → Type 0
Placed p x c j q = (m : Plan) × CellAdded p γ 2 m × Linked m x (port c j) q

-- a link is named both ways, by spots that are there
abbrev pub BothWays : Plan → Spot × Spot → Type 0
BothWays p l = (p.link l.0 ≡ l.1) × (p.link l.1 ≡ l.0) × (planned p l.0 ≡ true) × (planned p l.1 ≡ true)

-- a plan for n items, with no loop and c cells, all of them γ, in which these links are named
pub record Drafted (n c : ℕ) (ls : List (Spot × Spot)) (p : Plan) : Type 0 where
  pub ends : p.ends ≡ suc n
  pub loops : p.loops ≡ 0
  pub cells : p.cells ≡ c
  pub kinds : (r : ℕ) → r < c → p.kind r ≡ γ
  pub arities : (r : ℕ) → r < c → p.arity r ≡ 2
  pub named : AllByRecursion (BothWays p) ls
