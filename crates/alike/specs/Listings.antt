-- What a list of row numbers is; the contracts of private functions alone cite this. Assumes nothing.
use Rattle.std.specs.Prelude.{ℕ, List}

-- the numbers, in order
pub record Numbers : Type 0 where
  pub items : List ℕ
