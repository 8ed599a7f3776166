-- Any two runs agree. Assumes nothing.
use Rattle.std.proofs.Common.{◌≡◌, ℕ, ◌+◌, List, [], ◌∷◌, ◌++◌, length, Ok, Err, sym, refl, subst, arith, length-append}
use Rattle.calculus.specs.Books.{RuleBook, Laws}
use Rattle.calculus.specs.Nets.{Good, AtRest}
use Rattle.calculus.specs.Nets.{Net as CNet}
use Rattle.calculus.specs.Nets.{Pair as CPair}
use Rattle.calculus.specs.Reaching.{Reaches}
use Rattle.calculus.specs.Reaching.Reaches.{none as stay, step as then}
use Rattle.calculus.specs.Alike.{Alike}
use Rattle.calculus.proofs.Respects.{equivalence}
use Rattle.calculus.proofs.Grid.{confluent, rest_final_lem}
use Rattle.strategies.specs.Behaviour.{Behaviour}
use Rattle.ledger.specs.Places.{Places}
use Rattle.engine.specs.declared.net.Net.{Net}
use Rattle.engine.specs.declared.run.Run.{Run}
use Rattle.engine.specs.States.{held, now_on, Proper}
use Rattle.engine.specs.Accounts.{Event, draw, rewrite, put_back, drive, close, leave, Account, pairs_out, made}
use Rattle.engine.specs.Agreement.{Interaction, Chain, Moves, Way, Final, Meets, Moment, AnyTwoAgree}
use Rattle.engine.specs.Agreement.Chain.{none as unmoved, next as moved_by}
use Rattle.engine.specs.Agreement.Way.{opened as at_first, moved as moved_on}
use Rattle.engine.proofs.Keeping.{good_of}
use Rattle.engine.proofs.Moments.{Sofar, sofar}

module _ (K : RuleBook) where
  -- one way after another
  both : {is js : List ℕ} {A B C : CNet} → Reaches K is A B → Reaches K js B C → Reaches K (is ++ js) A C
  both stay t = t
  both (then s r) t = then s (both r t)

  single : (A B : CNet) (P : CPair) → Interaction K A P B → Reaches K (P.position ∷ []) A B
  single A B P I = then (record { pair = P; place = I.place; rewriting = I.rewriting }) stay

  -- a way of n steps
  pub record Ways (n : ℕ) (A B : CNet) : Type 0 where
    pub rules : List ℕ
    pub reached : Reaches K rules A B
    pub many : length rules ≡ n

  on : (m n : ℕ) (A B C : CNet) → Ways m A B → Ways n B C → Ways (m + n) A C
  on m n A B C v w = record { rules = v.rules ++ w.rules; reached = both v.reached w.reached; many = (let e = length-append v.rules w.rules in let f = v.many in let g = w.many in omega arith) }

  still : (A B : CNet) → B ≡ A → Ways 0 A B
  still A B e = subst (Ways 0 A) (sym e) (record { rules = []; reached = stay; many = refl })

  one : (A B : CNet) (P : CPair) → Interaction K A P B → Ways 1 A B
  one A B P I = record { rules = P.position ∷ []; reached = single A B P I; many = refl }

  same : (m n : ℕ) (A B : CNet) → m ≡ n → Ways m A B → Ways n A B
  same m n A B e w = subst (λ (k : ℕ). Ways k A B) e w

  chained : (out : List Places) {n : ℕ} {A B : CNet} → Chain K out n A B → Ways n A B
  chained out {n} {A} unmoved = still A A refl
  chained out (moved_by {n} {A} {B} {C} P c h I) = on n 1 A B C (chained out c) (one B C P I)

  moved : (es : Account) (e : Event) (A B : CNet) (m : ℕ) → m ≡ made es → Moves K es e A B → (o : CNet) → Ways m o A → Ways (made (e ∷ es)) o B
  moved es (draw r) A B m z v o w = same (m + 0) (made es) o B (omega arith) (on m 0 o A B w (still A B v))
  moved es (rewrite s (Ok tt)) A B m z v o w = same (m + 1) (made es + 1) o B (omega arith) (on m 1 o A B w (one A B v.0 v.2))
  moved es (rewrite s (Err e)) A B m z v o w = same (m + 0) (made es) o B (omega arith) (on m 0 o A B w (still A B v))
  moved es (put_back s b) A B m z v o w = same (m + 0) (made es) o B (omega arith) (on m 0 o A B w (still A B v))
  moved es (drive limit r) A B m z v o w = same (m + r.0) (made es + r.0) o B (omega arith) (on m r.0 o A B w (chained (pairs_out es) v))
  moved es (close f) A B m z v o w = same (m + 0) (made es) o B (omega arith) (on m 0 o A B w (still A B v))
  moved es (leave f) A B m z v o w = same (m + 0) (made es) o B (omega arith) (on m 0 o A B w (still A B v))

  pub ways : (A : CNet) {es : Account} {B : CNet} → Way K A es B → Ways (made es) A B
  ways A at_first = still A A refl
  ways A (moved_on {es} {B} {C} e w v) = moved es e B C (made es) refl v A (ways A w)

  module _ (laws : Laws K) (A A' B B' : CNet) (j k : ℕ) (good : Good K A) (good' : Good K A') (alike : Alike A A') (v : Ways j A B) (w : Ways k A' B') where
    final : AtRest K B → Final K j k B B'
    final r =
        let f = rest_final_lem K A A' B B' v.rules w.rules laws good good' alike v.reached w.reached r in
        let e = v.many in
        let d = w.many in
        record {
          no_more = (let x = f.no_longer in omega arith);
          then_rests = λ z. f.then_rests (let y : k ≡ j = z in omega arith);
          rests_then = λ z. (let x = f.rests_then z in omega arith);
          alike = f.alike;
        }

    meets : Meets K j k B B'
    meets =
        let m = confluent K A A' B B' v.rules w.rules laws good good' alike v.reached w.reached in
        let e = v.many in
        let d = w.many in
        record {
          goal = m.goal;
          goal' = m.goal';
          more = m.more;
          more' = m.more';
          reached = m.reached;
          reached' = m.reached';
          alike = m.alike;
          at_most = (let x = m.at_most in omega arith);
          at_most' = (let x = m.at_most' in omega arith);
          totals = (let x = m.totals in omega arith);
        }

module _ {B S : Type 0} (mean : B → RuleBook) (laws : (b : B) → Laws (mean b)) (acts : Behaviour S) where
  moment : (x : Run B S) (es : Account) (y : Run B S) → Sofar mean laws acts x es y → Moment mean acts x es y
  moment x es y F = record {
    links = good_of mean laws acts y.net F.running.proper;
    running = F.running;
    count = F.count;
    way = subst (λ (b : B). Way (mean b) (now_on x) es (now_on y)) (sym F.book) F.way;
  }

pub any_two_agree : {B S T : Type 0} (mean : B → RuleBook) (laws : (b : B) → Laws (mean b)) (same-book : (a b : B) → mean a ≡ mean b)
    (acts : Behaviour S)
    (acts' : Behaviour T)
    (y : Run B S) (y' : Run B T) → AnyTwoAgree mean acts acts' y y'
any_two_agree {B} {S} {T} mean laws same-book acts acts' y y' n n' s t g g' x x' es es' h h' alike O O' t1 t2 =
    let F = sofar mean laws acts n s g x h O t1 in
    let G = sofar mean laws acts' n' t g' x' h' O' t2 in
    let K = mean y.net.book in
    let M = moment mean laws acts x es y F in
    let N = moment mean laws acts' x' es' y' G in
    let v : Ways (mean y.net.book) (made es) (now_on x) (now_on y) = ways (mean y.net.book) (now_on x) M.way in
    let w : Ways (mean y.net.book) (made es') (now_on x') (now_on y') = ways (mean y.net.book) (now_on x') (subst (λ (L : RuleBook). Way L (now_on x') es' (now_on y')) (same-book y'.net.book y.net.book) N.way) in
    let ga : Good (mean y.net.book) (now_on x) = subst (λ (L : RuleBook). Good L (now_on x)) (same-book x.net.book y.net.book) (good_of mean laws acts x.net (subst (Proper mean) (sym O.net) h)) in
    let gb : Good (mean y.net.book) (now_on x') = subst (λ (L : RuleBook). Good L (now_on x')) (same-book x'.net.book y.net.book) (good_of mean laws acts' x'.net (subst (Proper mean) (sym O'.net) h')) in
    let al : Alike (now_on x) (now_on x') = subst (λ (m : Net B). Alike (held m) (now_on x')) (sym O.net) (subst (λ (m : Net B). Alike (held n.net) (held m)) (sym O'.net) alike) in
    let la : Alike (now_on x') (now_on x) = equivalence.back (now_on x) (now_on x') al in
    record {
      first = M;
      second = N;
      one_book = same-book y'.net.book y.net.book;
      final = final K (laws y.net.book) (now_on x) (now_on x') (now_on y) (now_on y') (made es) (made es') ga gb al v w;
      final' = final K (laws y.net.book) (now_on x') (now_on x) (now_on y') (now_on y) (made es') (made es) gb ga la w v;
      meets = meets K (laws y.net.book) (now_on x) (now_on x') (now_on y) (now_on y') (made es) (made es') ga gb al v w;
    }
