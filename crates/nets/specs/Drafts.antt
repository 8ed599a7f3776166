-- Tables in the making: cells in places 0, 1, 2 and on, and links as they are named, mutual or not. Assumes nothing.
use Rattle.std.specs.Prelude.{◌≡◌, ℕ, ◌+◌, ◌-◌, ◌^◌, ◌<◌, min, Bool, true, false, cond, ◌&&◌, ◌≢◌, ◌⊎◌, Some, None, Ok, Err, vec_items, Option, Result, nat_le, nat_lt, slice_index_or, IsOk, IsErr}
use Rattle.std.specs.Result.{result_err}
use Rattle.calculus.specs.Spots.{Spot, end, port}
use Rattle.nets.specs.declared.draft.Draft.{Draft}
use Rattle.nets.specs.declared.fault.DraftFault.{DraftFault}
use Rattle.nets.specs.declared.fault.DraftFault.TheVariants.{Full, Arity, NoSpot, NoTarget}
use Rattle.nets.specs.declared.spot.Spot.{Spot as Seen}
use Rattle.nets.specs.declared.table.Table.{Table}
use Rattle.nets.specs.Layout.{blank, code, decode, goal}
use Rattle.nets.specs.Meaning.{net, content, arity_at}
use Rattle.nets.specs.Views.{at}

-- what a draft says: kind and arity of the cells below `cells`, and what the link of each spot names
pub record Plan : Type 0 where
  pub ends : ℕ
  pub loops : ℕ
  pub cells : ℕ
  pub kind : ℕ → ℕ
  pub arity : ℕ → ℕ
  pub link : Spot → Spot

abbrev pub plan : Draft → Plan
plan d = record {
  ends = d.ends;
  loops = d.loops;
  cells = d.cells;
  kind = λ r. (slice_index_or (vec_items d.places) r blank).kind;
  arity = λ r. (slice_index_or (vec_items d.places) r blank).arity;
  link = λ x. decode (goal (vec_items d.links.targets) (code x));
}

-- the spot is there
abbrev pub planned : Plan → Spot → Bool
planned p (end e) = nat_lt e p.ends
planned p (port r j) = nat_lt r p.cells && nat_le j (p.arity r)

-- the spot can be in a table
abbrev pub nameable : Spot → Bool
nameable (end e) = nat_lt e 64
nameable (port r j) = nat_lt r 1024 && nat_lt j 3

-- no cells yet, at most 64 ends and 1,073,741,823 loops
pub record Begun (e l : ℕ) (p : Plan) : Type 0 where
  pub ends : p.ends ≡ min e 64
  pub loops : p.loops ≡ min l (2 ^ 30 - 1)
  pub cells : p.cells ≡ 0

-- one cell more, in the next place
pub record CellAdded (p : Plan) (k a : ℕ) (q : Plan) : Type 0 where
  pub ends : q.ends ≡ p.ends
  pub loops : q.loops ≡ p.loops
  pub cells : q.cells ≡ p.cells + 1
  pub kind : q.kind p.cells ≡ k
  pub arity : q.arity p.cells ≡ a
  pub kinds : (r : ℕ) → r ≢ p.cells → q.kind r ≡ p.kind r
  pub arities : (r : ℕ) → r ≢ p.cells → q.arity r ≡ p.arity r
  pub links : (x : Spot) → q.link x ≡ p.link x

-- the link of x names y
pub record LinkNamed (p : Plan) (x y : Spot) (q : Plan) : Type 0 where
  pub ends : q.ends ≡ p.ends
  pub loops : q.loops ≡ p.loops
  pub cells : q.cells ≡ p.cells
  pub kinds : (r : ℕ) → q.kind r ≡ p.kind r
  pub arities : (r : ℕ) → q.arity r ≡ p.arity r
  pub link : q.link x ≡ y
  pub others : (z : Spot) → planned p z ≡ true → z ≢ x → q.link z ≡ p.link z

-- the fault that is due where a cell of this arity is added, if one is
abbrev pub cell_fault : Plan → ℕ → Option DraftFault
cell_fault p a = cond (nat_lt p.cells 1024) (cond (nat_le a 2) None (Some Arity)) (Some Full)

-- and where the link of x is to name y
abbrev pub link_fault : Plan → Spot → Spot → Option DraftFault
link_fault p x y = cond (planned p x) (cond (nameable y) None (Some NoTarget)) (Some NoSpot)

-- done where no fault is due, else that fault is answered and nothing changes
pub record Attempt (due : Option DraftFault) (d : Draft) (Done : Type 0) (r : Result (Unit {0}) DraftFault) (e : Draft) : Type 0 where
  pub answer : result_err r ≡ due
  pub done : IsOk r → Done
  pub refused : IsErr r → e ≡ d

-- the spot is there, and its link names itself, or what is not there, or what does not name it back
abbrev pub Faulty : Plan → Spot → Type 0
Faulty p x = (planned p x ≡ true) × ((p.link x ≡ x) ⊎ ((planned p (p.link x) ≡ false) ⊎ (p.link (p.link x) ≢ x)))

-- ends come first, then the ports by place
abbrev pub Before : Spot → Spot → Type 0
Before (end a) (end b) = a < b
Before (end a) (port s k) = Unit {0}
Before (port r j) (end b) = ⊥
Before (port r j) (port s k) = (r < s) ⊎ ((r ≡ s) × (j < k))

-- the table has what the plan says
pub record Realised (p : Plan) (t : Table) : Type 0 where
  pub ends : (net t).ends ≡ p.ends
  pub loops : (net t).loops ≡ p.loops
  pub kinds : (r : ℕ) → (net t).kind r ≡ cond (nat_lt r p.cells) (Some (p.kind r)) None
  pub arities : (r : ℕ) → arity_at (content t) r ≡ cond (nat_lt r p.cells) (Some (p.arity r)) None
  pub links : (x : Spot) → (net t).mate x ≡ cond (planned p x) (p.link x) x

-- sealed where no link is at fault, else the first spot whose link is
abbrev pub Sealing : Plan → Result Table Seen → Type 0
Sealing p (Ok t) = Realised p t × ((x : Spot) → Faulty p x → ⊥)
Sealing p (Err x) = Faulty p (at x) × ((y : Spot) → Before y (at x) → Faulty p y → ⊥)
