-- The active pairs of a net put one after the other, place by place. Assumes nothing.
use Rattle.std.proofs.Common.{◌≡◌, ℕ, ◌+◌, ◌<◌, min, ◌⊎◌, List, [], ◌∷◌, ◌++◌, map, length, Some, None, Result, sym, ap, subst, inl, inr, arith}
use Rattle.std.proofs.lemmas.Bool.{cases_lt}
use Rattle.std.proofs.lemmas.List.{length-map, length_push, map-append}
use Rattle.calculus.specs.Books.{RuleBook, Laws}
use Rattle.calculus.specs.Nets.{Active}
use Rattle.calculus.specs.Nets.{Pair as CPair}
use Rattle.refusals.specs.declared.faults.StrategyFault.{StrategyFault}
use Rattle.strategies.specs.Behaviour.{Behaviour}
use Rattle.strategies.specs.declared.pair.Pair.{Pair as Waiting}
use Rattle.strategies.specs.Bags.{Put}
use Rattle.ledger.proofs.Members.{in_has}
use Rattle.ledger.proofs.Balance.{climbing, one_pair}
use Rattle.ledger.proofs.Orders.{order_none, order_skip, order_more, order_all, few_listed}
use Rattle.engine.specs.declared.net.Net.{Net}
use Rattle.pairs.specs.Pairs.{LedBy, InOrder, waiting}
use Rattle.engine.specs.States.{held, Proper}
use Rattle.engine.specs.Calls.{Puts}
use Rattle.engine.specs.Calls.Puts.{none}
use Rattle.engine.specs.Inner.{PutUpTo}
use Rattle.engine.proofs.Puttings.{puts_add, puts-length}
use Rattle.engine.proofs.Keeping.{good_of, small_of}

low_cases : (P : CPair) (n : ℕ) → min P.left P.right ≡ n → (n ≡ P.left) ⊎ (n ≡ P.right)
low_cases P n e = elim (cases_lt P.left P.right) [ inl h ↦ inl (omega arith) | inr h ↦ inr (omega arith) ]

module _ {B S : Type 0} (mean : B → RuleBook) (laws : (b : B) → Laws (mean b)) (acts : Behaviour S) (m : Net B) (s : S) where
  abbrev Is : CPair → Type 0
  Is P = Active (mean m.book) (held m) P

  pub scan_none : PutUpTo mean acts m s 0 s
  scan_none h e = ([], order_none Is, none)

  -- no pair is led from the place
  pub scan_skip : (n : ℕ) (t : S) → PutUpTo mean acts m s n t → (Proper mean m → LedBy (mean m.book) (held m) n None) → PutUpTo mean acts m s (n + 1) t
  scan_skip n t w f h e = let r = w h e in (r.0, order_skip Is n r.0 r.1 (f h), r.2)

  pub scan_more : (n : ℕ) (t u : S) (p : Waiting) (r : Result (Unit {0}) StrategyFault) → PutUpTo mean acts m s n t → (Proper mean m → LedBy (mean m.book) (held m) n (Some p)) →
      Put (acts.bag t) p r (acts.bag u) → acts.putting t p r u → PutUpTo mean acts m s (n + 1) u
  scan_more n t u p r w d a b h z =
      let v = w h z in
      let (Q, q, e, lq) = d h in
      let o = order_more Is n v.0 Q v.1 q lq (λ P x y. one_pair (mean m.book) (laws m.book) (held m) (good_of mean laws acts m h) P Q n x q (low_cases P n y) (low_cases Q n lq)) in
      let f = few_listed (mean m.book) (laws m.book) (held m) (good_of mean laws acts m h) (small_of mean laws acts m) (v.0 ++ Q ∷ []) (λ P i. (o.each P (in_has (v.0 ++ Q ∷ []) P i)).0) (climbing (v.0 ++ Q ∷ []) o.rising) in
      let g = length_push v.0 Q in
      let i = puts-length acts v.2 in
      let j = length-map v.0 waiting in
      let y = ap length z in
      let room : length (acts.bag t) < 512 = omega arith in (
        v.0 ++ Q ∷ [],
        o,
        subst (λ (ps : List Waiting). Puts acts s ps u) (sym (map-append waiting v.0 (Q ∷ [])))
            (subst (λ (x : Waiting). Puts acts s (map waiting v.0 ++ x ∷ []) u) (sym e) (puts_add acts v.2 room p u r a b)),
      )

  -- no place is left
  pub scan_all : (t : S) → PutUpTo mean acts m s 1024 t → Proper mean m → acts.bag s ≡ [] → (ps : List CPair) × InOrder Is ps × Puts acts s (map waiting ps) t
  scan_all t w h e = let r = w h e in (r.0, order_all Is 1024 r.0 r.1 (λ P a. (let l = small_of mean laws acts m P.left P.rule.left a.left in omega arith)), r.2)
