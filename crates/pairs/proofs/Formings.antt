-- The pairs gathered after a rewrite are those that became active. Assumes nothing.
use Rattle.std.proofs.Common.{◌≡◌, ℕ, ◌<◌, ◌≤◌, List, ◌++◌, length, get_or, sym, subst}
use Rattle.std.specs.List.{ContainsAt as Has}
use Rattle.calculus.specs.Books.{RuleBook, Laws}
use Rattle.calculus.specs.Nets.{Good, Active, Pair as CPair}
use Rattle.strategies.specs.declared.pair.Pair.{Pair as Waiting}
use Rattle.nets.specs.declared.table.Table.{Table}
use Rattle.nets.specs.Meaning.{net, OfBook}
use Rattle.nets.specs.ByBook.{RewroteAt}
use Rattle.nets.proofs.Standing.{good}
use Rattle.pairs.specs.Pairs.{lower, Became}
use Rattle.pairs.specs.Forming.{FormedBy}
use Rattle.pairs.specs.Gathering.{neighbours, Whole, Gathered}
use Rattle.pairs.proofs.Members.{apart_at}
use Rattle.pairs.proofs.Becoming.{touched, touched_apart, lower_left, lower_right, became_touched, touched_became}
use Rattle.pairs.proofs.Gathers.{same_order}

module _ (K : RuleBook) (laws : Laws K) (s t : Table) (P : CPair) (places : List ℕ) (ofb : OfBook K s) (W : RewroteAt K s P places t)
    (cs : List ℕ) (few : length cs ≤ 8) (is : cs ≡ neighbours (net s) P.left P.right ++ places) where
  G : Good K (net s)
  G = good s K ofb

  H : Good K (net t)
  H = good t K W.of_book

  -- by the cells to look at, and by the list that the code has
  there : (r : ℕ) → Has cs r → Has (touched K laws (net s) (net t) G P places W.rewriting W.number) r
  there r h = subst (λ (l : List ℕ). Has l r) is h

  back : (r : ℕ) → Has (touched K laws (net s) (net t) G P places W.rewriting W.number) r → Has cs r
  back r h = subst (λ (l : List ℕ). Has l r) (sym is) h

  whole : Whole K (net t) cs
  whole = record {
    few = few;
    apart = subst (λ (l : List ℕ). (i j : ℕ) → i < length l → j < length l → get_or l i 0 ≡ get_or l j 0 → i ≡ j) (sym is) (apart_at (touched K laws (net s) (net t) G P places W.rewriting W.number) 0 (touched_apart K laws (net s) (net t) G P places W.rewriting W.number));
    left = λ Q act h. back Q.left (lower_left K laws (net s) (net t) G P places W.rewriting W.number H Q act (there (lower Q) h));
    right = λ Q act h. back Q.right (lower_right K laws (net s) (net t) G P places W.rewriting W.number H Q act (there (lower Q) h));
  }

  pub formed_by : (ps : List Waiting) → (Good K (net t) → Whole K (net t) cs → Gathered K (net t) cs ps) → FormedBy K s P t ps
  formed_by ps f =
      let D = f H whole in
      record {
        places = places;
        rewrote = W;
        pairs = D.pairs;
        became = same_order (λ Q. Active K (net t) Q × Has cs (lower Q)) (Became K (net s) P (net t)) D.pairs
            (λ Q g. touched_became K laws (net s) (net t) G P places W.rewriting W.number H Q g.0 (there (lower Q) g.1))
            (λ Q b. (b.0, back (lower Q) (became_touched K laws (net s) (net t) G P places W.rewriting W.number H Q b.0 b)))
            D.order;
        same = D.same;
      }
