-- The pairs in the order of an end: none of none, one more of one more, and one fewer.
use Rattle.std.proofs.Common.{◌≡◌, List, [], ◌∷◌, ◌++◌, Some, None, Option, refl, ap, ◌∙◌, length}
use Rattle.std.specs.Prelude.{MatchOption, ok_or}
use Rattle.std.proofs.lemmas.List.{nil_from_length}
use Rattle.std.proofs.lemmas.List.Sorted.{IsPermutation-refl, IsPermutation-sym, IsPermutation-trans, IsPermutation-cons, IsPermutation-to_front, length_permutation}
use Rattle.refusals.specs.declared.faults.StrategyFault.TheVariants.{Empty}
use Rattle.strategies.specs.declared.arrivals.Arrivals.{Arrivals}
use Rattle.strategies.specs.declared.line.Line.{Line}
use Rattle.strategies.specs.declared.pair.Pair.{Pair}
use Rattle.strategies.specs.Bags.{SameBag, Taken}
use Rattle.strategies.specs.Orders.{earliest_first, line_pairs, LineTaken}

pub none_of_none : (ps qs : List Pair) → SameBag ps qs → ps ≡ [] → qs ≡ []
none_of_none ps qs same none = nil_from_length qs (length_permutation ps qs same ∙ ap length none)

pub one_more_of : (ps ns qs rs : List Pair) (p : Pair) → ns ≡ ps ++ p ∷ [] → SameBag ps qs → SameBag ns rs → SameBag (p ∷ qs) rs
one_more_of ps ns qs rs p more same same' =
    IsPermutation-trans _ _ _ (IsPermutation-cons p _ _ (IsPermutation-sym _ _ same)) (IsPermutation-trans _ _ _ (IsPermutation-sym _ _ (IsPermutation-to_front ps p)) (rw (← more) same'))

-- what is taken at an end
pub taken_bags : (order : List Pair → List Pair) (r : Option Pair) (a b : Arrivals) → ((ps : List Pair) → SameBag ps (order ps)) →
    MatchOption r ((earliest_first a ≡ []) × (b ≡ a)) (λ p. order (earliest_first a) ≡ p ∷ order (earliest_first b)) → Taken (order (earliest_first a)) (ok_or r Empty) (order (earliest_first b))
taken_bags order (Some p) a b same out = rw out (IsPermutation-refl _)
taken_bags order None a b same (none, kept) =
    record { due = ap length (none_of_none _ _ (same (earliest_first a)) none); fault = refl; kept = rw kept (IsPermutation-refl _) }

pub taken_own : {E : Type 0} (order : List Pair → List Pair) (r : Option Pair) (s : Line E) (b : Arrivals) →
    MatchOption r ((earliest_first s.waiting ≡ []) × (b ≡ s.waiting)) (λ p. line_pairs order s ≡ p ∷ order (earliest_first b)) → LineTaken order s (ok_or r Empty) (record s { waiting = b })
taken_own order (Some p) s b out = out
taken_own order None s b (none, kept) = ap (λ (w : Arrivals). record s { waiting = w }) kept
