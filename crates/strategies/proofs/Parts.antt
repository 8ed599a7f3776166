-- What a call of one of two parts does to the bag of both.
use Rattle.std.proofs.Common.{◌≡◌, ◌<◌, List, ◌++◌, length, Ok, Err, Result, arith, length-append}
use Rattle.std.proofs.lemmas.List.{nil_from_length}
use Rattle.std.proofs.lemmas.List.Sorted.{IsPermutation-sym, IsPermutation-trans, IsPermutation-append_left, IsPermutation-append_right, IsPermutation-middle}
use Rattle.refusals.specs.declared.faults.StrategyFault.{StrategyFault}
use Rattle.strategies.specs.declared.pair.Pair.{Pair}
use Rattle.strategies.specs.Bags.{Put, Taken}

pub put_first : (r : Result (Unit {0}) StrategyFault) (p : Pair) (a b c : List Pair) → length (a ++ b) < 512 → Put a p r c → Put (a ++ b) p r (c ++ b)
put_first (Ok u) p a b c h s =
    record { room = h; more = IsPermutation-append_left b _ _ s.more }
put_first (Err e) p a b c h s = absurd (let k = s.due in let l = simp length-append at h in omega arith)

pub put_second : (r : Result (Unit {0}) StrategyFault) (p : Pair) (a b c : List Pair) → length (a ++ b) < 512 → Put b p r c → Put (a ++ b) p r (a ++ c)
put_second (Ok u) p a b c h s =
    record {
      room = h;
      more = IsPermutation-trans _ _ _ (IsPermutation-sym _ _ (IsPermutation-middle a p b)) (IsPermutation-append_right a _ _ s.more);
    }
put_second (Err e) p a b c h s = absurd (let k = s.due in let l = simp length-append at h in omega arith)

pub take_first : (r : Result Pair StrategyFault) (a b c : List Pair) → 0 < length a → Taken a r c → Taken (a ++ b) r (c ++ b)
take_first (Ok p) a b c h s = IsPermutation-append_left b _ _ s
take_first (Err e) a b c h s = absurd (let k = s.due in omega arith)

-- none waits in the first part
pub take_second : (r : Result Pair StrategyFault) (a b c : List Pair) → length a ≡ 0 → Taken b r c → Taken (a ++ b) r (a ++ c)
take_second (Ok p) a b c z s = simp (nil_from_length a z) s
take_second (Err e) a b c z s =
    record {
      due = simp length-append (let k = s.due in omega arith);
      fault = s.fault;
      kept = IsPermutation-append_right a _ _ s.kept;
    }
