-- The pair that comes: one that waited; from a stack and a ring of the same two pairs, not the same.
use Rattle.std.proofs.Common.{◌≡◌, ◌≢◌, List, [], ◌∷◌, ◌++◌, length, ◌<◌, IfOk, IsOk, Ok, Err, Result, refl, arith}
use Rattle.std.proofs.lemmas.List.Sorted.{IsPermutation-refl, IsPermutation-sym, IsPermutation-reverse}
use Rattle.std.proofs.ByRecursion.{has_shuffled}
use Rattle.refusals.specs.declared.faults.StrategyFault.{StrategyFault}
use Rattle.strategies.specs.declared.pair.Pair.{Pair}
use Rattle.strategies.specs.declared.line.Line.{Line}
use Rattle.strategies.specs.declared.stack.Latest.{Latest}
use Rattle.strategies.specs.declared.ring.Earliest.{Earliest}
use Rattle.strategies.specs.Bags.{Put, Taken}
use Rattle.strategies.specs.Orders.{line_pairs, stack_pairs, ring_pairs, StackTaken, RingTaken}
use Rattle.strategies.specs.Choice.{Waited, OpenChoice}

pub taken_waited : (r : Result Pair StrategyFault) (before after : List Pair) → Taken before r after → IfOk r (Waited before)
taken_waited (Ok p) before after s = has_shuffled (p ∷ after) before p (IsPermutation-sym _ _ s) (0, omega arith, λ d. refl)
taken_waited (Err e) before after s = tt

-- where there is room, a pair is let in
pub let_in : (r : Result (Unit {0}) StrategyFault) (p : Pair) (before after : List Pair) → length before < 512 → Put before p r after → IsOk r
let_in (Ok u) p before after room s = refl
let_in (Err e) p before after room s = absurd (let k = s.due in omega arith)

-- a line into which two pairs were put
pub of_two : {E : Type 0} (order : List Pair → List Pair) (arrived : List Pair → Pair → List Pair) (s t u : Line E) (p q : Pair) → order [] ≡ [] → ((ps : List Pair) (r : Pair) → order (ps ++ r ∷ []) ≡ arrived (order ps) r) → line_pairs order s ≡ [] → line_pairs order t ≡ arrived (line_pairs order s) p → line_pairs order u ≡ arrived (line_pairs order t) q → line_pairs order u ≡ order (p ∷ q ∷ [])
of_two order arrived s t u p q empty more none one two =
    let first = more [] p in
    let second = more (p ∷ []) q in
    cc

-- what each takes of the same two pairs
pub two_choices : (s s' : Line Latest) (t t' : Line Earliest) (p q a b : Pair) (x y : Result Pair StrategyFault) → p.left ≢ q.left → stack_pairs s ≡ q ∷ p ∷ [] → ring_pairs t ≡ p ∷ q ∷ [] → x ≡ Ok a → y ≡ Ok b → StackTaken s x s' → RingTaken t y t' → OpenChoice a b
two_choices s s' t t' p q a b x y ne two-s two-t is-a is_b takes-s takes-t =
    let from-s = rw is-a at takes-s in
    let from-t = rw is_b at takes-t in
    record {
      stack = s;
      stack_after = s';
      ring = t;
      ring_after = t';
      equal = rw (two-s, two-t) (IsPermutation-reverse (q ∷ p ∷ []));
      stack_takes = from-s;
      stack_some = rw from-s (IsPermutation-refl _);
      ring_takes = from-t;
      ring_some = rw from-t (IsPermutation-refl _);
      differ = λ same. let k : p.left ≡ q.left = cc in absurd (ne k);
    }
