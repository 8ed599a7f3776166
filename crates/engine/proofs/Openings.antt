-- Two legal choices of places for the new cells of one pair. Assumes nothing.
use Rattle.std.proofs.Common.{◌≡◌, ℕ, zero, suc, ◌<◌, ◌⊎◌, [], ◌∷◌, get_or, Some, None, sym, refl, ap, ◌∙◌, inl, inr, arith}
use Rattle.std.specs.List.{slice_get}
use Rattle.calculus.specs.Nets.{Net, Pair, Active}
use Rattle.calculus.specs.Combinators.{γ, δ, γδ, combinators}
use Rattle.calculus.specs.Drawn.{drawn}
use Rattle.calculus.specs.Worked.{doubled}
use Rattle.calculus.proofs.Unique.{rewritable}
use Rattle.calculus.proofs.Lawful.{combinators_lawful}
use Rattle.calculus.proofs.Worked.{growing}
use Rattle.nets.specs.Rewrites.{Seats}
use Rattle.engine.specs.Openness.{OpenPlaces}

abbrev the_pair : Pair
the_pair = record { left = 1; right = 0; position = 3; rule = γδ }

active : Active combinators (drawn doubled) the_pair
active = record { listed = refl; left = refl; right = refl; facing = refl; first = λ e. absurd (let z : ⊥ = omega arith in z) }

-- the four new cells in order, or two by two the other way
abbrev one : ℕ → ℕ
one i = get_or (0 ∷ 1 ∷ 2 ∷ 3 ∷ []) i 4

abbrev two : ℕ → ℕ
two i = get_or (2 ∷ 3 ∷ 0 ∷ 1 ∷ []) i 4

none : (k : ℕ) → None ≡ Some k → ⊥
none k e = let z : ◌≡◌ {A = ℕ} 0 1 = cc in omega arith

abbrev Fits : (ℕ → ℕ) → ℕ → Type 0
Fits place i = ((drawn doubled).kind (place i) ≡ None) ⊎ ((place i ≡ 1) ⊎ (place i ≡ 0))

seats_one : Seats (drawn doubled) the_pair one
seats_one = record { low = low; free = record { vacant = vacant; apart = apart } }
  where
    low : (i k : ℕ) → slice_get γδ.cells i ≡ Some k → one i < 1024
    low zero k e = omega arith
    low (suc zero) k e = omega arith
    low (suc (suc zero)) k e = omega arith
    low (suc (suc (suc zero))) k e = omega arith
    low (suc (suc (suc (suc i)))) k e = absurd (none k e)

    vacant : (i k : ℕ) → slice_get γδ.cells i ≡ Some k → Fits one i
    vacant zero k e = inr (inr refl)
    vacant (suc zero) k e = inr (inl refl)
    vacant (suc (suc zero)) k e = inl refl
    vacant (suc (suc (suc zero))) k e = inl refl
    vacant (suc (suc (suc (suc i)))) k e = absurd (none k e)

    is : (i k : ℕ) → slice_get γδ.cells i ≡ Some k → one i ≡ i
    is zero k e = refl
    is (suc zero) k e = refl
    is (suc (suc zero)) k e = refl
    is (suc (suc (suc zero))) k e = refl
    is (suc (suc (suc (suc i)))) k e = absurd (none k e)

    apart : (i j k l : ℕ) → slice_get γδ.cells i ≡ Some k → slice_get γδ.cells j ≡ Some l → one i ≡ one j → i ≡ j
    apart i j k l e f z = sym (is i k e) ∙ z ∙ is j l f

seats_two : Seats (drawn doubled) the_pair two
seats_two = record { low = low; free = record { vacant = vacant; apart = apart } }
  where
    low : (i k : ℕ) → slice_get γδ.cells i ≡ Some k → two i < 1024
    low zero k e = omega arith
    low (suc zero) k e = omega arith
    low (suc (suc zero)) k e = omega arith
    low (suc (suc (suc zero))) k e = omega arith
    low (suc (suc (suc (suc i)))) k e = absurd (none k e)

    vacant : (i k : ℕ) → slice_get γδ.cells i ≡ Some k → Fits two i
    vacant zero k e = inl refl
    vacant (suc zero) k e = inl refl
    vacant (suc (suc zero)) k e = inr (inr refl)
    vacant (suc (suc (suc zero))) k e = inr (inl refl)
    vacant (suc (suc (suc (suc i)))) k e = absurd (none k e)

    -- it is its own inverse
    is : (i k : ℕ) → slice_get γδ.cells i ≡ Some k → two (two i) ≡ i
    is zero k e = refl
    is (suc zero) k e = refl
    is (suc (suc zero)) k e = refl
    is (suc (suc (suc zero))) k e = refl
    is (suc (suc (suc (suc i)))) k e = absurd (none k e)

    apart : (i j k l : ℕ) → slice_get γδ.cells i ≡ Some k → slice_get γδ.cells j ≡ Some l → two i ≡ two j → i ≡ j
    apart i j k l e f z = sym (is i k e) ∙ ap two z ∙ is j l f

pub open_places : OpenPlaces
open_places =
    let a = rewritable combinators (drawn doubled) the_pair one combinators_lawful growing.1 active seats_one.free in
    let b = rewritable combinators (drawn doubled) the_pair two combinators_lawful growing.1 active seats_two.free in
    record {
      net = drawn doubled;
      good = growing.1;
      pair = the_pair;
      active = active;
      place = one;
      place' = two;
      seats = seats_one;
      seats' = seats_two;
      result = a.0;
      result' = b.0;
      rewriting = a.1;
      rewriting' = b.1;
      differ = λ e. (
          let p : a.0.kind 0 ≡ Some δ = a.1.new 0 δ refl in
          let q : b.0.kind 0 ≡ Some γ = b.1.new 2 γ refl in
          let r : Some δ ≡ Some γ = sym p ∙ ap (λ (A : Net). A.kind 0) e ∙ q in
          let z : ◌≡◌ {A = ℕ} 1 0 = cc in
          omega arith
          );
    }
