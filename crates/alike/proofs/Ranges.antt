-- `all` over the numbers below n, said of the numbers and not of a list. Assumes nothing.
use Rattle.std.proofs.Common.{◌≡◌, ℕ, ◌<◌, Bool, true, false, List, Option, length, subst, arith}
use Rattle.std.proofs.lemmas.List.FromFn.{length-range_with_len, get_or-range_with_len}
use Rattle.std.proofs.lemmas.Iterator.{YieldsList, cases_from_all}
use Rattle.std.specs.Bool.{MatchBool}
use Rattle.std.specs.Fn.{Called}
use Rattle.std.specs.Iterator.{YieldsThen}
use Rattle.std.specs.List.{FoldsTo, range_with_len, AllWithin, HoldsAt}
use Rattle.std.specs.Option.{MatchOption}
use denote.Param.Members.{Mut}

pub all_below : {S F : Type 0} {steps : S → Option ℕ → S → Type 0} {g : Mut F (ℕ × Unit {0}) Bool} (s u : S) (f : F) (r : Bool) (Yes No : ℕ → Type 0) (n : ℕ)
    → (xs : List ℕ) × (o : Option ℕ) × (j : F) × YieldsThen steps s xs o u × FoldsTo (λ p x q. Called g p (x, tt) true q) f xs j × MatchOption o (r ≡ true) (λ x. (r ≡ false) × ((h : F) × Called g j (x, tt) false h))
    → YieldsList steps (λ x. x) s (range_with_len 0 n)
    → ((x : ℕ) (q : F) → Called g f (x, tt) true q → (q ≡ f) × Yes x) → ((x : ℕ) (q : F) → Called g f (x, tt) false q → No x)
    → MatchBool r ((x : ℕ) → x < n → Yes x) ((x : ℕ) × No x)
all_below s u f r Yes No n d e yes' no' = by r (cases_from_all u f r Yes No d e yes' no')
  where
    by : (b : Bool) → MatchBool b (AllWithin Yes (range_with_len 0 n) 0 (length (range_with_len 0 n))) ((k : ℕ) × (k < length (range_with_len 0 n)) × HoldsAt No (range_with_len 0 n) k) → MatchBool b ((x : ℕ) → x < n → Yes x) ((x : ℕ) × No x)
    by true h = λ x l. subst Yes (omega (arith, get_or-range_with_len 0 n x 0 l)) (h x 0 (omega arith) (omega (arith, length-range_with_len 0 n)))
    by false h = (_, h.2 0)
