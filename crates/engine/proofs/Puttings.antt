-- Pairs put one after the other. Assumes nothing.
use Rattle.std.proofs.Common.{◌≡◌, ℕ, ◌+◌, ◌<◌, ◌≤◌, List, [], ◌∷◌, ◌++◌, length, get_or, take, Ok, Err, Result, sym, subst, arith, length-take}
use Rattle.std.proofs.lemmas.List.{take_more}
use Rattle.std.specs.List.Sorted.{IsPermutation}
use Rattle.std.proofs.lemmas.List.Sorted.{IsPermutation-refl, IsPermutation-sym, IsPermutation-trans, IsPermutation-append_right, IsPermutation-middle, length_permutation}
use Rattle.refusals.specs.declared.faults.StrategyFault.{StrategyFault}
use Rattle.strategies.specs.Behaviour.{Behaviour}
use Rattle.strategies.specs.declared.pair.Pair.{Pair as Waiting}
use Rattle.strategies.specs.Bags.{Put}
use Rattle.engine.specs.Calls.{Puts}
use Rattle.engine.specs.Calls.Puts.{none, put}

module _ {S : Type 0} (acts : Behaviour S) where
  -- one more
  pub puts_more : {s t : S} {ps : List Waiting} → Puts acts s ps t → (p : Waiting) (u : S) → Put (acts.bag t) p (Ok tt) (acts.bag u) → acts.putting t p (Ok tt) u → Puts acts s (ps ++ p ∷ []) u
  puts_more none p u a b = put a b none
  puts_more (put c d h) p u a b = put c d (puts_more h p u a b)

  -- what waits then
  pub puts_bag : {s t : S} {ps : List Waiting} → Puts acts s ps t → IsPermutation (ps ++ acts.bag s) (acts.bag t)
  puts_bag none = IsPermutation-refl _
  puts_bag (put {s} {t} {u} {p} {ps} c d h) =
      IsPermutation-trans _ _ _ (IsPermutation-trans _ _ _ (IsPermutation-sym _ _ (IsPermutation-middle ps p (acts.bag s))) (IsPermutation-append_right ps _ _ c.more)) (puts_bag h)

  pub puts-length : {s t : S} {ps : List Waiting} → Puts acts s ps t → length (acts.bag t) ≡ length ps + length (acts.bag s)
  puts-length none = omega arith
  puts-length (put {s} {t} {u} {p} {ps} c d h) = let e = puts-length h in let f = length_permutation (p ∷ acts.bag s) (acts.bag t) c.more in omega arith

  -- one more where there is room
  pub puts_add : {s t : S} {ps : List Waiting} → Puts acts s ps t → length (acts.bag t) < 512 → (p : Waiting) (u : S) (r : Result (Unit {0}) StrategyFault) → Put (acts.bag t) p r (acts.bag u) → acts.putting t p r u → Puts acts s (ps ++ p ∷ []) u
  puts_add h room p u (Ok tt) a b = puts_more h p u a b
  puts_add h room p u (Err f) a b = absurd (let l = a.due in let z : ⊥ = omega arith in z)

  -- the next of those that became active
  pub puts_next : {s t : S} (ps : List Waiting) (i : ℕ) → i < length ps → length (acts.bag s) + length ps ≤ 512 → Puts acts s (take i ps) t →
      (u : S) (r : Result (Unit {0}) StrategyFault) (d : Waiting) → Put (acts.bag t) (get_or ps i d) r (acts.bag u) → acts.putting t (get_or ps i d) r u → Puts acts s (take (i + 1) ps) u
  puts_next {s} {t} ps i h room v u r d a b =
      let k = length-take i ps in
      let e = puts-length v in
      subst (λ (qs : List Waiting). Puts acts s qs u) (sym (take_more ps i d h)) (puts_add v (omega arith) (get_or ps i d) u r a b)
