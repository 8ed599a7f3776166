-- Beta reduction of terms, and normal forms. Assumes nothing.
use Rattle.std.specs.Prelude.{ℕ, zero, suc, true, false, Some, None, Option, ◌==◌}
use Rattle.lambda.specs.Terms.{Term, var, item, lam, app, size}

-- b with a in place of the variable q
abbrev pub put : ℕ → Term → Term → Term
put q a (var p) = elim (q == p) [ true ↦ a | false ↦ var p ]
put q a (item k) = item k
put q a (lam p b) = lam p (put q a b)
put q a (app p f b) = app p (put q a f) (put q a b)

-- one step: the redex of the application p and the abstraction q is contracted, somewhere in the term; every other cell keeps its place
pub data Beta (p q : ℕ) : Term → Term → Type 0 where
  redex : {b a : Term} → Beta p q (app p (lam q b) a) (put q a b)
  within : {r : ℕ} {b b' : Term} → Beta p q b b' → Beta p q (lam r b) (lam r b')
  left : {r : ℕ} {f f' a : Term} → Beta p q f f' → Beta p q (app r f a) (app r f' a)
  right : {r : ℕ} {f a a' : Term} → Beta p q a a' → Beta p q (app r f a) (app r f a')

-- k steps, one after the other
pub data Betas : ℕ → Term → Term → Type 0 where
  none : {t : Term} → Betas 0 t t
  more : {k p q : ℕ} {t u v : Term} → Beta p q t u → Betas k u v → Betas (suc k) t v

-- no redex is left
abbrev pub Normal : Term → Type 0
Normal t = (p q : ℕ) (u : Term) → Beta p q t u → ⊥

-- the redex of an application p of f to a contracted, if it is one
abbrev pub at_top : ℕ → Term → Term → Option Term
at_top p (var r) a = None
at_top p (item k) a = None
at_top p (lam q b) a = Some (put q a b)
at_top p (app r f b) a = None

-- what is contracted inside a larger term
abbrev pub inside : (Term → Term) → Option Term → Option Term
inside g None = None
inside g (Some u) = Some (g u)

-- the first of the two that is there
abbrev pub first : Option Term → Option Term → Option Term
first None w = w
first (Some u) w = Some u

-- the leftmost redex contracted, if there is one
abbrev pub contract : Term → Option Term
contract (var p) = None
contract (item k) = None
contract (lam p b) = inside (lam p) (contract b)
contract (app p f a) = first (at_top p f a) (first (inside (λ g. app p g a) (contract f)) (inside (app p f) (contract a)))

-- at most d steps, each at the leftmost redex: how many they are, and where they lead
abbrev pub reduce : ℕ → Term → ℕ × Term
reduce zero t = (0, t)
reduce (suc d) t = elim (contract t) [ None ↦ (0, t) | Some u ↦ (suc (reduce d u).0, (reduce d u).1) ]

-- how many steps a linear term takes, and its normal form
abbrev pub steps : Term → ℕ
steps t = (reduce (size t) t).0

abbrev pub normal_form : Term → Term
normal_form t = (reduce (size t) t).1
