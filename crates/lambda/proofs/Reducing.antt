-- Reducing the net of a term is reducing the term. Assumes nothing.
use Rattle.std.proofs.Common.{◌≡◌, ℕ, suc, ◌+◌, List, [], ◌∷◌, length, sym, refl, ap, ◌∙◌, subst, arith}
use Rattle.calculus.specs.Nets.{Net, Good}
use Rattle.calculus.specs.Rewriting.{Rewriting}
use Rattle.calculus.specs.Reaching.{Step, Reaches, none, step}
use Rattle.calculus.specs.Alike.{Alike}
use Rattle.calculus.specs.Combinators.{combinators}
use Rattle.calculus.specs.Theorems.{Final}
use Rattle.calculus.proofs.Lawful.{combinators_lawful}
use Rattle.calculus.proofs.Alikes.{alike_refl}
use Rattle.calculus.proofs.Grid.{rest_final_lem}
use Rattle.lambda.specs.Terms.{Term, Linear}
use Rattle.lambda.specs.Reduction.{Betas, Normal, steps, normal_form}
use Rattle.lambda.specs.TermNets.{net, facing}
use Rattle.lambda.specs.Indices.{Same}
use Rattle.lambda.specs.Theorems.{StillTerm, NetsStayTerms, OnTheWay, ReductionsEnd, NetsReduceTerms}
use Rattle.lambda.proofs.Good.{good}
use Rattle.lambda.proofs.Reducts.{beta_linear}
use Rattle.lambda.proofs.Contracting.{paired, a_redex, rewriting_contracts_lem, at_rest}
use Rattle.lambda.proofs.Normalising.{normalises}
use Rattle.lambda.proofs.Indexing.{same_of}
use Rattle.lambda.proofs.Deciding.{found_back}

-- steps of a term are interactions of its net
pub record Reached (n k : ℕ) (t u : Term) : Type 0 where
  pub rules : List ℕ
  pub reached : Reaches combinators rules (net n t) (net n u)
  pub counted : length rules ≡ k
  pub linear : Linear n u

pub reaches : (n : ℕ) {k : ℕ} {t u : Term} → Betas k t u → Linear n t → Reached n k t u
reaches n Betas.none l = record { rules = []; reached = none; counted = refl; linear = l }
reaches n (Betas.more {p = p} {q = q} {t = t} {u = u} s r) l =
    let i = reaches n r (beta_linear n l s) in
    let w : Step combinators (net n t) (net n u) = record { pair = facing p q; place = λ i. i; rewriting = (paired n p q t u l s).1 (λ i. i) } in
    record { rules = w.pair.position ∷ i.rules; reached = step w i.reached; counted = ap suc i.counted; linear = i.linear }

append : {j k : ℕ} {t u v : Term} → Betas j t u → Betas k u v → Betas (j + k) t v
append {k = k} {t = t} {v = v} Betas.none s = let e : k ≡ 0 + k = omega arith in subst (λ m. Betas m t v) e s
append {k = k} {v = v} (Betas.more {k = j} {t = t} b r) s = let e : suc (j + k) ≡ suc j + k = omega arith in subst (λ m. Betas m t v) e (Betas.more b (append r s))

module _ (n : ℕ) (t : Term) (l : Linear n t) where
  way : Reached n (steps t) t (normal_form t)
  way = reaches n (normalises n t l).0 l

  -- whatever is reached from a net alike to the term's, beside the normal form's net
  final : (A B : Net) (js : List ℕ) → Good combinators A → Alike (net n t) A → Reaches combinators js A B → Final combinators way.rules js (net n (normal_form t)) B
  final A B js G al r = rest_final_lem combinators (net n t) A (net n (normal_form t)) B way.rules js combinators_lawful (good n t l) G al way.reached r
      (at_rest n (normal_form t) way.linear (normalises n t l).1)

  beside : (k : ℕ) (v : Term) → (r : Betas k t v) → Final combinators way.rules (reaches n r l).rules (net n (normal_form t)) (net n v)
  beside k v r = final (net n t) (net n v) (reaches n r l).rules (good n t l) (alike_refl (net n t)) (reaches n r l).reached

  ended : (k : ℕ) (v : Term) → Betas k t v → Normal v → (k ≡ steps t) × Same v (normal_form t)
  ended k v r h =
      let F = beside k v r in
      let v-rest = at_rest n v (reaches n r l).linear h in
      (sym (reaches n r l).counted ∙ F.rests_then v-rest ∙ way.counted, sym (same_of n (normal_form t) v way.linear (reaches n r l).linear (F.alike v-rest)))

  on_the_way : (k : ℕ) (v : Term) → Betas k t v → OnTheWay k t v
  on_the_way k v r =
      let lv = (reaches n r l).linear in
      let (s, h) = normalises n v lv in
      record {
        no_longer = let a = (beside k v r).no_longer in let b = (reaches n r l).counted in let c = way.counted in omega arith;
        goes_on = (steps v, normal_form v, s, h, (ended (k + steps v) (normal_form v) (append r s) h).0);
        normal = ended k v r;
      }

pub reductions_end_lem : ReductionsEnd
reductions_end_lem n t l = record {
  linear = (way n t l).linear;
  normal = (normalises n t l).1;
  reached = (normalises n t l).0;
  every = on_the_way n t l;
}

pub nets_reduce_terms_lem : NetsReduceTerms
nets_reduce_terms_lem n t l A B js G al r =
    let F = final n t l A B js G al r in
    let c = (way n t l).counted in
    record {
      no_longer = let a = F.no_longer in omega arith;
      rests = λ e. F.then_rests (e ∙ sym c);
      counted = λ h. F.rests_then h ∙ c;
      result = F.alike;
      read = λ h. let (u, R, s) = found_back n B (normal_form t) (way n t l).linear (F.alike h) in (u, R, sym s);
    }

-- a net that a term's net reaches is a term's
stay : (n : ℕ) {is : List ℕ} {A B : Net} → Reaches combinators is A B → (t : Term) → Linear n t → A ≡ net n t → StillTerm n (length is) t B
stay n none t l e = record { term = t; reached = Betas.none; linear = l; same = e }
stay n (step {A = A} {B = B} w r) t l e =
    let rewriting = subst (λ A. Rewriting combinators A w.pair w.place B) e w.rewriting in
    let (p, q, u, s, f) = a_redex n t l w.pair rewriting.active in
    let c = rewriting_contracts_lem n p q t u l s in
    let i = stay n r u c.linear (c.only w.place B (subst (λ P. Rewriting combinators (net n t) P w.place B) f rewriting)) in
    record { term = i.term; reached = Betas.more s i.reached; linear = i.linear; same = i.same }

pub nets_stay_terms_lem : NetsStayTerms
nets_stay_terms_lem n t l B is r = stay n r t l refl
