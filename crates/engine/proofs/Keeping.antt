-- Each call keeps what is true of a run. Assumes nothing.
use Rattle.std.proofs.Common.{◌≡◌, ℕ, ◌+◌, ◌<◌, ◌≤◌, Bool, true, false, ◌⊎◌, List, [], ◌∷◌, ◌++◌, map, length, set, Some, sym, refl, ap, ◌∙◌, subst, ap₂, inl, inr, arith, length-append}
use Rattle.std.specs.List.Sorted.{IsPermutation}
use Rattle.std.specs.List.{ContainsAt as Has}
use Rattle.std.proofs.lemmas.List.Sorted.{IsPermutation-sym}
use Rattle.std.proofs.ByRecursion.{has_shuffled}
use Rattle.calculus.specs.Books.{RuleBook, Laws}
use Rattle.calculus.specs.Nets.{Good, Active, AtRest}
use Rattle.calculus.specs.Nets.{Pair as CPair}
use Rattle.calculus.proofs.Respects.{others_stay_lem}
use Rattle.strategies.specs.Behaviour.{Behaviour}
use Rattle.strategies.specs.declared.pair.Pair.{Pair as Waiting}
use Rattle.nets.specs.Meaning.{content, OfBook}
use Rattle.nets.proofs.Places.{bit_low}
use Rattle.nets.proofs.Standing.{good, kind_some}
use Rattle.ledger.specs.Places.{Places, places, times_waiting, without}
use Rattle.ledger.specs.Ledger.{Balanced, Marked}
use Rattle.ledger.proofs.Members.{in_has}
use Rattle.ledger.proofs.Times.{times_in}
use Rattle.ledger.proofs.Balance.{one_pair, reordered, drawn, alone, returned, rewritten, few, opened, marked_drawn, marked_off, marked_none}
use Rattle.engine.specs.declared.net.Net.{Net}
use Rattle.engine.specs.declared.run.Run.{Run}
use Rattle.nets.specs.ByBook.{RewroteAt}
use Rattle.pairs.specs.Pairs.{InOrder, Became, waiting}
use Rattle.engine.specs.States.{held, now_on, Proper, marked}
use Rattle.engine.specs.Running.{Running}

module _ {B S : Type 0} (mean : B → RuleBook) (laws : (b : B) → Laws (mean b)) (acts : Behaviour S) where
  pub good_of : (m : Net B) → Proper mean m → Good (mean m.book) (held m)
  good_of m h = good m.table (mean m.book) h

  pub small_of : (m : Net B) (r k : ℕ) → (held m).kind r ≡ Some k → r < 1024
  small_of m r k e = bit_low m.table.occupied r m.table.wide (kind_some (content m.table) r k e).0

  module _ (x : Run B S) (out : List Places) (R : Running mean acts x out) where
    abbrev K : RuleBook
    K = mean x.net.book

    good_x : Good (mean x.net.book) (now_on x)
    good_x = good_of x.net R.proper

    left_low : (P : CPair) → Active (mean x.net.book) (now_on x) P → P.left < length x.marks.cells
    left_low P a = let h = small_of x.net P.left P.rule.left a.left in let e = x.marks.wide in omega arith

    right_low : (P : CPair) → Active (mean x.net.book) (now_on x) P → P.right < length x.marks.cells
    right_low P a = let h = small_of x.net P.right P.rule.right a.right in let e = x.marks.wide in omega arith

    -- a pair with a marked cell is out
    pub marked_is_out : (P : CPair) → Active (mean x.net.book) (now_on x) P → marked x P.left ≡ true → Has out (places P)
    marked_is_out P a m =
        let c = R.marks.marked_out P.left m in
        let t = R.balanced.is_out_lem c.0 c.1 in
        let e = one_pair (mean x.net.book) (laws x.net.book) (now_on x) good_x t.0 P P.left t.1 a (side t.0 c.0 t.2 c.2) (inl refl) in
        subst (Has out) (t.2 ∙ ap places e) c.1
      where
        side : (Q : CPair) (y : Places) → y ≡ places Q → (P.left ≡ y.0) ⊎ (P.left ≡ y.1) → (P.left ≡ Q.left) ⊎ (P.left ≡ Q.right)
        side Q y e (inl f) = inl (f ∙ ap (λ (z : Places). z.0) e)
        side Q y e (inr f) = inr (f ∙ ap (λ (z : Places). z.1) e)

    -- a draw
    pub keeps_drawn : (y : Run B S) (p : Waiting) → IsPermutation (acts.bag x.strategy) (p ∷ acts.bag y.strategy) → y.marks.cells ≡ set (set x.marks.cells p.left true) p.right true → y.net ≡ x.net → Running mean acts y ((p.left, p.right) ∷ out)
    keeps_drawn y p h m e =
        let t = R.balanced.waits p (has_first) in
        let pl : p.left < length x.marks.cells = (let l = left_low t.0 t.1 in let z = ap (λ (q : Waiting). q.left) t.2 in omega arith) in
        let pr : p.right < length x.marks.cells = (let l = right_low t.0 t.1 in let z = ap (λ (q : Waiting). q.right) t.2 in omega arith) in
        record {
          proper = subst (Proper mean) (sym e) R.proper;
          balanced = subst (λ (n : Net B). Balanced (mean n.book) (held n) (acts.bag y.strategy) ((p.left, p.right) ∷ out)) (sym e)
              (drawn (mean x.net.book) (laws x.net.book) (now_on x) (acts.bag x.strategy) out R.balanced p (acts.bag y.strategy) h);
          marks = subst (λ (ms : List Bool). Marked ms ((p.left, p.right) ∷ out)) (sym m) (marked_drawn x.marks.cells out p.left p.right pl pr R.marks);
        }
      where
        has_first : Has (acts.bag x.strategy) p
        has_first = has_shuffled (p ∷ acts.bag y.strategy) (acts.bag x.strategy) p (IsPermutation-sym (acts.bag x.strategy) (p ∷ acts.bag y.strategy) h) (in_has (p ∷ acts.bag y.strategy) p (inl refl))

    module _ (P : CPair) (active : Active (mean x.net.book) (now_on x) P) (is : Has out (places P)) (l r : ℕ) (el : P.left ≡ l) (er : P.right ≡ r) where
      -- marks of a pair that comes off
      off : (y : Run B S) → y.marks.cells ≡ set (set x.marks.cells l false) r false → Marked y.marks.cells (without (l, r) out)
      off y m =
          let e : (P.left, P.right) ≡ (l, r) = ap₂ (λ (u v : ℕ). (u, v)) el er in
          subst (λ (ms : List Bool). Marked ms (without (l, r) out)) (sym m)
          (subst (λ (z : Places). Marked (set (set x.marks.cells z.0 false) z.1 false) (without z out)) e
          (marked_off x.marks.cells out P.left P.right (left_low P active) (right_low P active) R.marks
          (alone (mean x.net.book) (laws x.net.book) (now_on x) (acts.bag x.strategy) out R.balanced good_x P active is)))

      -- a put back
      pub keeps_returned : (y : Run B S) → IsPermutation (waiting P ∷ acts.bag x.strategy) (acts.bag y.strategy) → y.marks.cells ≡ set (set x.marks.cells l false) r false → y.net ≡ x.net → Running mean acts y (without (l, r) out)
      keeps_returned y h m e =
          let z : (P.left, P.right) ≡ (l, r) = ap₂ (λ (u v : ℕ). (u, v)) el er in
          record {
            proper = subst (Proper mean) (sym e) R.proper;
            balanced = subst (λ (n : Net B). Balanced (mean n.book) (held n) (acts.bag y.strategy) (without (l, r) out)) (sym e)
                (subst (λ (q : Places). Balanced (mean x.net.book) (now_on x) (acts.bag y.strategy) (without q out)) z
                (reordered (mean x.net.book) (laws x.net.book) (now_on x) (waiting P ∷ acts.bag x.strategy) (without (places P) out)
                (returned (mean x.net.book) (laws x.net.book) (now_on x) (acts.bag x.strategy) out R.balanced good_x P active is) (acts.bag y.strategy) h));
            marks = off y m;
          }

      -- there is room for the pair
      pub room_returned : length (acts.bag x.strategy) < 512
      room_returned =
          let t = few (mean x.net.book) (laws x.net.book) (now_on x) (waiting P ∷ acts.bag x.strategy) (without (places P) out) good_x (small_of x.net)
          (returned (mean x.net.book) (laws x.net.book) (now_on x) (acts.bag x.strategy) out R.balanced good_x P active is) in
          omega arith

      -- a rewrite
      module _ (n : Net B) (eb : n.book ≡ x.net.book) (seats : List ℕ) (W : RewroteAt (mean x.net.book) x.net.table P seats n.table) (qs : List CPair) (order : InOrder (Became (mean x.net.book) (now_on x) P (held n)) qs) where
        proper_n : Proper mean n
        proper_n = subst (λ (b : B). OfBook (mean b) n.table) (sym eb) W.of_book

        good_n : Good (mean x.net.book) (held n)
        good_n = subst (λ (b : B). Good (mean b) (held n)) eb (good_of n proper_n)

        balance : Balanced (mean x.net.book) (held n) (map waiting qs ++ acts.bag x.strategy) (without (places P) out)
        balance =
            rewritten (mean x.net.book) (laws x.net.book) (now_on x) (acts.bag x.strategy) out R.balanced good_x P active is (held n) good_n
            (λ Q a d. others_stay_lem (mean x.net.book) (now_on x) (held n) P Q _ (laws x.net.book) good_x (λ z. d (sym z)) W.rewriting a) qs order

        pub room_rewritten : length (acts.bag x.strategy) + length (map waiting qs) ≤ 512
        room_rewritten =
            let t = few (mean x.net.book) (laws x.net.book) (held n) (map waiting qs ++ acts.bag x.strategy) (without (places P) out) good_n (small_of n) balance in
            let e = length-append (map waiting qs) (acts.bag x.strategy) in
            omega arith

        pub keeps_rewritten : (y : Run B S) → y.net ≡ n → IsPermutation (map waiting qs ++ acts.bag x.strategy) (acts.bag y.strategy) → y.marks.cells ≡ set (set x.marks.cells l false) r false → Running mean acts y (without (l, r) out)
        keeps_rewritten y en h m =
            let z : (P.left, P.right) ≡ (l, r) = ap₂ (λ (u v : ℕ). (u, v)) el er in
            record {
              proper = subst (Proper mean) (sym en) proper_n;
              balanced = subst (λ (k : Net B). Balanced (mean k.book) (held k) (acts.bag y.strategy) (without (l, r) out)) (sym en)
                  (subst (λ (b : B). Balanced (mean b) (held n) (acts.bag y.strategy) (without (l, r) out)) (sym eb)
                  (subst (λ (q : Places). Balanced (mean x.net.book) (held n) (acts.bag y.strategy) (without q out)) z
                  (reordered (mean x.net.book) (laws x.net.book) (held n) (map waiting qs ++ acts.bag x.strategy) (without (places P) out) balance (acts.bag y.strategy) h)));
              marks = off y m;
            }

    -- nothing waits and nothing is marked: at rest
    pub rests : length (acts.bag x.strategy) ≡ 0 → ((r : ℕ) → marked x r ≡ true → ⊥) → AtRest (mean x.net.book) (now_on x)
    rests e n P a =
        let t = R.balanced.once P a in
        let w = nothing (acts.bag x.strategy) e in
        let i = times_in (places P) out (omega arith) in
        n P.left (R.marks.out_marked P.left (places P, in_has out (places P) i, inl refl))
      where
        nothing : (ps : List Waiting) → length ps ≡ 0 → times_waiting (places P) ps ≡ 0
        nothing [] h = refl
        nothing (p ∷ ps) h = absurd (omega arith)

  -- an opened run
  pub opens : (x : Run B S) → Proper mean x.net → (qs : List CPair) → InOrder (Active (mean x.net.book) (now_on x)) qs → IsPermutation (map waiting qs) (acts.bag x.strategy) → ((r : ℕ) → marked x r ≡ false) → Running mean acts x []
  opens x h qs order e m = record {
    proper = h;
    balanced = reordered (mean x.net.book) (laws x.net.book) (now_on x) (map waiting qs) [] (opened (mean x.net.book) (laws x.net.book) (now_on x) (good_of x.net h) qs order) (acts.bag x.strategy) e;
    marks = marked_none x.marks.cells m;
  }
