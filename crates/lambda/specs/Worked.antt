-- Worked examples: what nets and terms come to, and in how many interactions. Assumes nothing.
use Rattle.std.specs.Prelude.{◌≡◌, ℕ, List, length}
use Rattle.calculus.specs.Nets.{AtRest}
use Rattle.calculus.specs.Reaching.{Reaches}
use Rattle.calculus.specs.Combinators.{combinators}
use Rattle.calculus.specs.Worked.{WorkedNets}
use Rattle.lambda.specs.Terms.{Term, var, item, lam, app, Linear}
use Rattle.lambda.specs.Reduction.{Normal, steps, normal_form}
use Rattle.lambda.specs.TermNets.{net}
use Rattle.lambda.specs.Reading.{ReadsBack}

-- t is linear with n items, and has the normal form u; its net comes to rest after k interactions, and u is read from it
pub record ComesToRead (n : ℕ) (t : Term) (k : ℕ) (u : Term) : Type 0 where
  pub linear : Linear n t
  pub normal : Normal u
  pub form : normal_form t ≡ u
  pub counted : steps t ≡ k
  pub rules : List ℕ
  pub reached : Reaches combinators rules (net n t) (net n u)
  pub interactions : length rules ≡ k
  pub rest : AtRest combinators (net n u)
  pub read : ReadsBack n (net n u) u

-- \x.x
abbrev pub identity : Term
identity = lam 0 (var 0)

-- (\x.x NEWS)
abbrev pub passed : Term
passed = app 0 (lam 1 (var 1)) (item 1)

-- ((\x.\y.(y x) NEWS) \z.z)
abbrev pub exchanged : Term
exchanged = app 0 (app 1 (lam 2 (lam 3 (app 4 (var 3) (var 2)))) (item 1)) (lam 5 (var 5))

-- ((\x.x A) (\y.y B))
abbrev pub both_passed : Term
both_passed = app 0 (app 1 (lam 2 (var 2)) (item 1)) (app 3 (lam 4 (var 4)) (item 2))

-- what the worked nets and the worked terms come to
pub record WorkedExamples : Type 0 where
  pub nets : WorkedNets
  -- \x.x is at rest
  pub at_rest : ComesToRead 0 identity 0 identity
  -- NEWS
  pub passing : ComesToRead 1 passed 1 (item 1)
  -- NEWS
  pub exchanging : ComesToRead 1 exchanged 3 (item 1)
  -- (A B)
  pub passing_both : ComesToRead 2 both_passed 2 (app 0 (item 1) (item 2))
