-- Where a new cell stands is open: one pair of one net, two choices of places, both legal, and two results. Assumes nothing.
use Rattle.std.specs.Prelude.{ℕ, ◌≢◌}
use Rattle.calculus.specs.Nets.{Net, Good, Pair, Active}
use Rattle.calculus.specs.Rewriting.{Rewriting}
use Rattle.calculus.specs.Combinators.{combinators}
use Rattle.nets.specs.Rewrites.{Seats}

pub record OpenPlaces : Type 0 where
  pub net : Net
  pub good : Good combinators net
  pub pair : Pair
  pub active : Active combinators net pair
  pub place : ℕ → ℕ
  pub place' : ℕ → ℕ
  pub seats : Seats net pair place
  pub seats' : Seats net pair place'
  pub result : Net
  pub result' : Net
  pub rewriting : Rewriting combinators net pair place result
  pub rewriting' : Rewriting combinators net pair place' result'
  pub differ : result ≢ result'
