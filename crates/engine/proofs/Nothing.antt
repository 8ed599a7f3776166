-- Lists of one value. Assumes nothing.
use Rattle.std.proofs.Common.{◌≡◌, ℕ, zero, suc, get_or, replicate, refl}

pub get_d_replicate : {X : Type 0} (n k : ℕ) (x : X) → get_or (replicate n x) k x ≡ x
get_d_replicate zero k x = refl
get_d_replicate (suc n) zero x = refl
get_d_replicate (suc n) (suc k) x = get_d_replicate n k x
