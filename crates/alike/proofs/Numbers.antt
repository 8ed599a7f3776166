-- What the number of a row's kind tells. Assumes nothing.
use Rattle.std.proofs.Common.{◌≡◌, ℕ, ◌+◌, ◌<◌, Bool, true, false, cond, eqb, Some, None, Option, refl, sym, ap, arith}
use Rattle.std.proofs.lemmas.Bool.{true≢false, eqb-true, eq-eqb}
use Rattle.std.specs.Bool.{then_some}
use Rattle.std.specs.Option.{MatchOption, IsSomeAnd, option_eq}
use Rattle.pairing.specs.Rows.{kind_number as number}
use Rattle.alike.specs.declared.row.Kind.{Kind}
use Rattle.alike.specs.declared.row.Kind.TheVariants.{Cell, End}
use Rattle.alike.specs.Rows.{kind_number}

-- a cell's, by its kind in the net
pub cell_number : (o : Option ℕ) (r : Option Kind) → MatchOption o (r ≡ None) (λ x. IsSomeAnd r (λ y. y ≡ Cell x)) → kind_number r ≡ number o
cell_number None r h = ap kind_number h
cell_number (Some x) None h = absurd h
cell_number (Some x) (Some y) h = ap (λ (k : Kind). kind_number (Some k)) h

-- an end's, if there are more ends than its number
pub end_number : (b : Bool) (e : ℕ) → kind_number (then_some b (End e)) ≡ cond b (e + 1) 0
end_number true e = refl
end_number false e = refl

-- a cell of a kind is told by its number
pub told : (o : Option ℕ) (k : ℕ) → (option_eq eqb o (Some k) ≡ true → number o ≡ 65 + k) × (number o ≡ 65 + k → option_eq eqb o (Some k) ≡ true)
told None k = (λ e. absurd (true≢false (sym e)), λ e. absurd (omega arith))
told (Some x) k = (λ e. ap (λ (n : ℕ). 65 + n) (eqb-true x k e), λ e. eq-eqb x k (omega arith))

-- no end has the number of a cell
pub no_cell : (b : Bool) (e k : ℕ) → e < 64 → cond b (e + 1) 0 ≡ 65 + k → ⊥
no_cell true e k h z = omega arith
no_cell false e k h z = omega arith

-- what is told by its number is the cell's kind
pub is_some_of : (o : Option ℕ) (k : ℕ) → option_eq eqb o (Some k) ≡ true → o ≡ Some k
is_some_of None k e = absurd (true≢false (sym e))
is_some_of (Some x) k e = ap (λ (n : ℕ). Some n) (eqb-true x k e)

-- an end that is there is told by its number
pub end_told : (b : Bool) (e : ℕ) → (b ≡ true → cond b (e + 1) 0 ≡ e + 1) × (cond b (e + 1) 0 ≡ e + 1 → b ≡ true)
end_told true e = (λ _. refl, λ _. refl)
end_told false e = (λ h. absurd (true≢false (sym h)), λ h. absurd (omega arith))

pub end_is : (b : Bool) (i e : ℕ) → cond b (i + 1) 0 ≡ e + 1 → i ≡ e
end_is true i e h = omega arith
end_is false i e h = absurd (omega arith)

-- no cell has the number of an end
pub no_end : (o : Option ℕ) (e : ℕ) → e < 64 → number o ≡ e + 1 → ⊥
no_end None e h z = omega arith
no_end (Some x) e h z = omega arith
