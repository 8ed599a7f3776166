-- The worked terms, computed. Assumes nothing.
use Rattle.std.proofs.Common.{◌≡◌, ℕ, zero, suc, ◌≤◌, Bool, true, ◌&&◌, eqb, leb, List, [], ◌∷◌, refl, ◌∙◌, subst, inl, inr, arith}
use Rattle.std.proofs.lemmas.Bool.{cases_lt, and_parts, leb-true, le-leb, eqb-true}
use Rattle.calculus.proofs.Tests.{below?, below_at, if?, if_then, pass?}
use Rattle.calculus.proofs.Tests as tests
use Rattle.calculus.proofs.Worked.{worked_nets_lem}
use Rattle.lambda.specs.Terms.{Term, var, item, lam, app, uses, stands, binds, cells, Once, Linear}
use Rattle.lambda.specs.Reduction.{Normal, steps, normal_form}
use Rattle.lambda.specs.Worked.{ComesToRead, identity, passed, exchanged, both_passed, WorkedExamples}
use Rattle.lambda.proofs.Good.{reach}
use Rattle.lambda.proofs.Contracting.{at_rest}
use Rattle.lambda.proofs.Normalising.{normalises}
use Rattle.lambda.proofs.Deciding.{above, reads_itself}
use Rattle.lambda.proofs.Reducing.{Reached, reaches}

-- ── linear terms, checked by computing ──

abbrev once? : Term → Bool
once? (var p) = true
once? (item k) = true
once? (lam p b) = eqb (uses p b) 1 && once? b
once? (app p f a) = once? f && once? a

once_at : (t : Term) → once? t ≡ true → Once t
once_at (var p) h = tt
once_at (item k) h = tt
once_at (lam p b) h = let c = and_parts (eqb (uses p b) 1) (once? b) h in (eqb-true (uses p b) 1 c.0, once_at b c.1)
once_at (app p f a) h = let c = and_parts (once? f) (once? a) h in (once_at f c.0, once_at a c.1)

module _ (n : ℕ) (t : Term) where
  abbrev listed? : ℕ → Bool
  listed? k = if? (leb 1 (stands k t)) (leb k n)

  abbrev linear? : List Bool
  linear? =
      once? t
      ∷ below? (λ r. eqb (uses r t) (binds r t)) (reach t)
      ∷ below? (λ r. leb (cells r t) 1) (reach t)
      ∷ below? (λ k. eqb (stands (suc k) t) 1) n
      ∷ eqb (stands 0 t) 0
      ∷ below? listed? (reach t)
      ∷ []

  pub linear_at : pass? linear? ≡ true → Linear n t
  linear_at h = record {
    once = once_at t (tests.passed linear? h 0 _ refl);
    closed = λ p. elim (cases_lt p (reach t)) [
      | inl i ↦ eqb-true (uses p t) (binds p t) (below_at (λ r. eqb (uses r t) (binds r t)) (reach t) (tests.passed linear? h 1 _ refl) p i)
      | inr i ↦ (let z = above p t i in omega arith)
    ];
    apart = λ p. elim (cases_lt p (reach t)) [
      | inl i ↦ leb-true (cells p t) 1 (below_at (λ r. leb (cells r t) 1) (reach t) (tests.passed linear? h 2 _ refl) p i)
      | inr i ↦ (let z = above p t i in omega arith)
    ];
    listed = listed;
    only = only;
  }
    where
      listed : (k : ℕ) → 1 ≤ k → k ≤ n → stands k t ≡ 1
      listed zero i j = absurd (let z : ⊥ = omega arith in z)
      listed (suc k) i j = eqb-true (stands (suc k) t) 1 (below_at (λ k. eqb (stands (suc k) t) 1) n (tests.passed linear? h 3 _ refl) k (omega arith))

      none : stands 0 t ≡ 0
      none = eqb-true (stands 0 t) 0 (tests.passed linear? h 4 _ refl)

      only : (k : ℕ) → 1 ≤ stands k t → (1 ≤ k) × (k ≤ n)
      only zero z = let e = none in absurd (let y : ⊥ = omega arith in y)
      only (suc k) z = elim (cases_lt (suc k) (reach t)) [
        | inl i ↦ (
          omega arith,
          leb-true (suc k) n (if_then (leb 1 (stands (suc k) t)) (leb (suc k) n)
              (below_at listed? (reach t) (tests.passed linear? h 5 _ refl) (suc k) i) (le-leb 1 (stands (suc k) t) z)),
        )
        | inr i ↦ (let y = above (suc k) t i in absurd (let x : ⊥ = omega arith in x))
      ]

-- ── the terms ──

comes_to_read : (n : ℕ) (t : Term) (k : ℕ) (u : Term) → pass? (linear? n t) ≡ true → normal_form t ≡ u → steps t ≡ k → ComesToRead n t k u
comes_to_read n t k u h e c =
    let l = linear_at n t h in
    let normal : Normal u = subst Normal e (normalises n t l).1 in
    let R : Reached n (steps t) t u = subst (Reached n (steps t) t) e (reaches n (normalises n t l).0 l) in
    record {
      linear = l;
      normal = normal;
      form = e;
      counted = c;
      rules = R.rules;
      reached = R.reached;
      interactions = R.counted ∙ c;
      rest = at_rest n u R.linear normal;
      read = reads_itself n u R.linear;
    }

pub worked_examples_lem : WorkedExamples
worked_examples_lem = record {
  nets = worked_nets_lem;
  at_rest = comes_to_read 0 identity 0 identity refl refl refl;
  passing = comes_to_read 1 passed 1 (item 1) refl refl refl;
  exchanging = comes_to_read 1 exchanged 3 (item 1) refl refl refl;
  passing_both = comes_to_read 2 both_passed 2 (app 0 (item 1) (item 2)) refl refl refl;
}
