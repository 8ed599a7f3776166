-- Parts of a linear term, with the abstractions around them. Assumes nothing.
use Rattle.std.proofs.Common.{◌≡◌, ℕ, ◌+◌, ◌≤◌, List, [], ◌∷◌, sym, refl, subst, inl, inr, arith}
use Rattle.calculus.specs.Spots.{Spot, end, port}
use Rattle.lambda.specs.Terms.{Term, var, item, lam, app, one, uses, binds, applies, Once, Linear}
use Rattle.lambda.specs.TermNets.{links}
use Rattle.lambda.specs.Reading.{Among}
use Rattle.lambda.proofs.Counts.{number, one_yes, one_no}
use Rattle.lambda.proofs.Wirings.{In, in_left, in_right}

-- how often p is in the list
abbrev pub among : ℕ → List ℕ → ℕ
among p [] = 0
among p (e ∷ es) = one p e + among p es

pub among_is : (p : ℕ) (es : List ℕ) → 1 ≤ among p es → Among p es
among_is p [] h = absurd (omega arith)
among_is p (e ∷ es) h = elim (number p e) [
  | inl i ↦ inl i.0
  | inr i ↦ (let z = one_no p e i.0 in inr (among_is p es (omega arith)))
]

-- each variable is that of an abstraction around it
abbrev pub Scoped : List ℕ → Term → Type 0
Scoped es (var p) = Among p es
Scoped es (item k) = Unit {0}
Scoped es (lam p b) = Scoped (p ∷ es) b
Scoped es (app p f a) = Scoped es f × Scoped es a

-- who is bound is used
pub bound_used : (p : ℕ) (t : Term) → Once t → binds p t ≤ 1 → binds p t ≤ uses p t
bound_used p (var r) o h = omega arith
bound_used p (item k) o h = omega arith
bound_used p (lam r b) o h = elim (number p r) [
  | inl i ↦ (let z = subst (λ s. uses s b ≡ 1) (sym i.0) o.0 in omega arith)
  | inr i ↦ (let z = one_no p r i.0 in let ih = bound_used p b o.1 (omega arith) in omega arith)
]
bound_used p (app r f a) o h =
    let i = bound_used p f o.0 (omega arith) in
    let j = bound_used p a o.1 (omega arith) in
    omega arith

scoped_term : (t : Term) (es : List ℕ) → Once t → ((p : ℕ) → binds p t ≤ 1) → ((p : ℕ) → uses p t ≤ binds p t + among p es) → Scoped es t
scoped_term (var p) es o b h = let i = h p in let j = one_yes p p refl in among_is p es (omega arith)
scoped_term (item k) es o b h = tt
scoped_term (lam r t) es o b h = scoped_term t (r ∷ es) o.1 (λ p. let i = b p in omega arith) (λ p. let i = h p in omega arith)
scoped_term (app r f a) es o b h = (
  scoped_term f es o.0 (λ p. let i = b p in omega arith) (λ p. let i = h p in let j = b p in let k = bound_used p a o.1 (omega arith) in omega arith),
  scoped_term a es o.1 (λ p. let i = b p in omega arith) (λ p. let i = h p in let j = b p in let k = bound_used p f o.0 (omega arith) in omega arith),
)

-- v stands at x in w, under the abstractions es
pub record Part (w : Term) (es : List ℕ) (x : Spot) (v : Term) : Type 0 where
  pub scoped : Scoped es v
  pub inside : (a b : Spot) → In (links x v) a b → In (links (end 0) w) a b
  pub apps : (p : ℕ) → applies p v ≤ applies p w
  pub abss : (p : ℕ) → binds p v ≤ binds p w

pub part_all : (n : ℕ) (t : Term) → Linear n t → Part t [] (end 0) t
part_all n t l = record {
  scoped = scoped_term t [] l.once (λ p. let i = l.apart p in omega arith) (λ p. let i = l.closed p in omega arith);
  inside = λ a b h. h;
  apps = λ p. omega arith;
  abss = λ p. omega arith;
}

module _ (w : Term) (es : List ℕ) (x : Spot) (p : ℕ) where
  pub part_body : (b : Term) → Part w es x (lam p b) → Part w (p ∷ es) (port p 2) b
  part_body b P = record {
    scoped = P.scoped;
    inside = λ u v h. P.inside u v (inr h);
    apps = λ r. let i = P.apps r in omega arith;
    abss = λ r. let i = P.abss r in omega arith;
  }

  module _ (f a : Term) (P : Part w es x (app p f a)) where
    pub part_fun : Part w es (port p 0) f
    part_fun = record {
      scoped = P.scoped.0;
      inside = λ u v h. P.inside u v (inr (in_left (links (port p 0) f) (links (port p 2) a) u v h));
      apps = λ r. let i = P.apps r in omega arith;
      abss = λ r. let i = P.abss r in omega arith;
    }

    pub part_arg : Part w es (port p 2) a
    part_arg = record {
      scoped = P.scoped.1;
      inside = λ u v h. P.inside u v (inr (in_right (links (port p 0) f) (links (port p 2) a) u v h));
      apps = λ r. let i = P.apps r in omega arith;
      abss = λ r. let i = P.abss r in omega arith;
    }
