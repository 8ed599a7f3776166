-- Runs of the nets of terms come to normal forms. Assumes nothing.
use Rattle.std.proofs.Common.{◌≡◌, ℕ, List, length, sym, ap, ◌∙◌, subst, arith}
use Rattle.calculus.specs.Books.{RuleBook, Laws}
use Rattle.calculus.specs.Nets.{Good, AtRest}
use Rattle.calculus.specs.Nets.{Net as CNet}
use Rattle.calculus.specs.Alike.{Alike}
use Rattle.calculus.specs.Combinators.{combinators}
use Rattle.calculus.proofs.Respects.{equivalence}
use Rattle.strategies.specs.Behaviour.{Behaviour}
use Rattle.lambda.specs.Reduction.{normal_form}
use Rattle.lambda.specs.TermNets.{net}
use Rattle.lambda.proofs.Reducing.{nets_reduce_terms_lem, reductions_end_lem}
use Rattle.lambda.proofs.Indexing.{one_term_lem}
use Rattle.lambda.proofs.Good.{term_nets_good_lem}
use Rattle.terms.specs.Named.{Named}
use Rattle.terms.specs.Bindings.{LinearNamed, term_under, net_under}
use Rattle.binding.specs.Theorems.{Lists}
use Rattle.binding.proofs.Linearity.{linear_terms_lem}
use Rattle.engine.specs.declared.net.Net.{Net}
use Rattle.engine.specs.declared.sealed.Sealed.{Sealed}
use Rattle.engine.specs.declared.run.Run.{Run}
use Rattle.engine.specs.States.{held, now_on, Proper}
use Rattle.engine.specs.Calls.{Opens}
use Rattle.engine.specs.Accounts.{Account, made, Tells}
use Rattle.engine.specs.Agreement.{Way}
use Rattle.engine.specs.Terms.{ComesTo}
use Rattle.engine.proofs.Keeping.{good_of}
use Rattle.engine.proofs.Moments.{sofar}
use Rattle.engine.proofs.Agreeing.{Ways, ways}

-- a net reached from a term's net, and at rest, is that of its normal form
pub comes_to : (is : List (List ℕ)) (t : Named) → LinearNamed t → Lists is t → (A B : CNet) (k : ℕ) → Good combinators A → Good combinators B → Alike (net_under is t) A → Ways combinators k A B → AtRest combinators B → ComesTo is t k B
comes_to is t lt ls A B k good good' al w rest =
    let l = linear_terms_lem is t lt ls in
    let c = nets_reduce_terms_lem (length is) (term_under is t) l A B w.rules good al w.reached in
    let e = w.many in
    let g = (term_nets_good_lem (length is) (normal_form (term_under is t)) (reductions_end_lem (length is) (term_under is t) l).linear).0 in
    record {
      counted = (let z = c.counted rest in omega arith);
      net = c.result rest;
      reads = λ u lu lv a. (
          let m = linear_terms_lem is u lu lv in
          let h = (term_nets_good_lem (length is) (term_under is u) m).0 in
          (one_term_lem (length is) (term_under is u) (normal_form (term_under is t)) m (reductions_end_lem (length is) (term_under is t) l).linear).same
          (equivalence.on combinators (net_under is u) B (net (length is) (normal_form (term_under is t))) h g a (equivalence.back (net (length is) (normal_form (term_under is t))) B (c.result rest)))
          );
    }

module _ {B S : Type 0} (mean : B → RuleBook) (laws : (b : B) → Laws (mean b)) (acts : Behaviour S) where
  pub run_comes_to : (n : Sealed B) (s : S) (given : ℕ) (x y : Run B S) (es : Account) (is : List (List ℕ)) (t : Named) →
      mean n.net.book ≡ combinators → LinearNamed t → Lists is t → Alike (net_under is t) (held n.net) → Proper mean n.net →
      Opens mean acts n s given x → Tells mean acts x es y → AtRest (mean y.net.book) (now_on y) → ComesTo is t y.count (now_on y)
  run_comes_to n s given x y es is t eb lt ls al h O T rest =
      let F = sofar mean laws acts n s given x h O T in
      let bx : mean x.net.book ≡ combinators = ap (λ (m : Net B). mean m.book) O.net ∙ eb in
      let by : mean y.net.book ≡ combinators = ap mean F.book ∙ bx in
      let w = ways combinators (now_on x) (subst (λ (K : RuleBook). Way K (now_on x) es (now_on y)) bx F.way) in
      let gx = subst (λ (K : RuleBook). Good K (now_on x)) bx (good_of mean laws acts x.net (subst (Proper mean) (sym O.net) h)) in
      let gy = subst (λ (K : RuleBook). Good K (now_on y)) by (good_of mean laws acts y.net F.running.proper) in
      let c = comes_to is t lt ls (now_on x) (now_on y) (made es) gx gy (subst (λ (m : Net B). Alike (net_under is t) (held m)) (sym O.net) al) w (subst (λ (K : RuleBook). AtRest K (now_on y)) by rest) in
      subst (λ (k : ℕ). ComesTo is t k (now_on y)) (sym F.count) c
