-- Every linear term has a normal form. Assumes nothing.
use Rattle.std.proofs.Common.{◌≡◌, ℕ, zero, suc, ◌+◌, ◌≤◌, Some, None, Option, arith}
use Rattle.lambda.specs.Terms.{Term, var, item, lam, app, size, Once, Linear}
use Rattle.lambda.specs.Reduction.{Beta, redex, within, left, right, Betas, none, more, Normal, at_top, inside, first, contract, reduce, steps, normal_form}
use Rattle.lambda.proofs.Counts.{on_cells, size_weigh, beta_weigh}
use Rattle.lambda.proofs.Reducts.{beta_linear}

no_var : {p q r : ℕ} {u : Term} → Beta p q (var r) u → ⊥
no_var s = elim s [ ]

no_item : {p q k : ℕ} {u : Term} → Beta p q (item k) u → ⊥
no_item s = elim s [ ]

in_lam : {p q r : ℕ} {b u : Term} → Normal b → Beta p q (lam r b) u → ⊥
in_lam {p} {q} h (within {b' = b'} s) = h p q b' s

abbrev NotLam : Term → Type 0
NotLam (var p) = Unit {0}
NotLam (item k) = Unit {0}
NotLam (lam p b) = ⊥
NotLam (app p f a) = Unit {0}

in_app : {p q r : ℕ} {f a u : Term} → NotLam f → Normal f → Normal a → Beta p q (app r f a) u → ⊥
in_app n h k redex = n
in_app {p} {q} n h k (left {f' = f'} s) = h p q f' s
in_app {p} {q} n h k (right {a' = a'} s) = k p q a' s

-- the answer is a reduct, or there is none
abbrev Answer : Term → Option Term → Type 0
Answer t None = Normal t
Answer t (Some u) = (p : ℕ) × (q : ℕ) × Beta p q t u

in_body : (r : ℕ) (b : Term) (o : Option Term) → Answer b o → Answer (lam r b) (inside (lam r) o)
in_body r b None h = λ p q u s. in_lam h s
in_body r b (Some u) (p, q, s) = (p, q, within s)

in_parts : (r : ℕ) (f a : Term) → NotLam f → (o w : Option Term) → Answer f o → Answer a w → Answer (app r f a) (first (inside (λ g. app r g a) o) (inside (app r f) w))
in_parts r f a n None None h k = λ p q u s. in_app n h k s
in_parts r f a n None (Some v) h (p, q, s) = (p, q, right s)
in_parts r f a n (Some u) w (p, q, s) k = (p, q, left s)

in_either : (r : ℕ) (f a : Term) (o w : Option Term) → Answer f o → Answer a w → Answer (app r f a) (first (at_top r f a) (first (inside (λ g. app r g a) o) (inside (app r f) w)))
in_either r (var x) a o w h k = in_parts r (var x) a tt o w h k
in_either r (item i) a o w h k = in_parts r (item i) a tt o w h k
in_either r (lam q b) a o w h k = (r, q, redex)
in_either r (app x f b) a o w h k = in_parts r (app x f b) a tt o w h k

pub answer : (t : Term) → Answer t (contract t)
answer (var r) = λ p q u s. no_var s
answer (item k) = λ p q u s. no_item s
answer (lam r b) = in_body r b (contract b) (answer b)
answer (app r f a) = in_either r f a (contract f) (contract a) (answer f) (answer a)

-- a step takes two cells away
pub beta_size : {p q : ℕ} {t u : Term} → Beta p q t u → Once t → size u + 2 ≡ size t
beta_size {t = t} {u = u} s o = let h = beta_weigh on_cells s o in let i = size_weigh t in let j = size_weigh u in omega arith

abbrev Done : Term → ℕ × Term → Type 0
Done t r = Betas r.0 t r.1 × Normal r.1

reduced : (n d : ℕ) (t : Term) → Linear n t → size t ≤ d → Done t (reduce d t)
reduced n zero t l h = (none, go (contract t) (answer t))
  where
    go : (o : Option Term) → Answer t o → Normal t
    go None k = k
    go (Some u) (p, q, s) = let e = beta_size s l.once in absurd (let z : ⊥ = omega arith in z)
reduced n (suc d) t l h = go (contract t) (answer t) (reduced n d)
  where
    go : (o : Option Term) → Answer t o → ((u : Term) → Linear n u → size u ≤ d → Done u (reduce d u)) →
        Done t (elim o [ None ↦ (0, t) | Some u ↦ (suc (reduce d u).0, (reduce d u).1) ])
    go None k ih = (none, k)
    go (Some u) (p, q, s) ih =
        let e = beta_size s l.once in
        let r = ih u (beta_linear n l s) (omega arith) in
        (more s r.0, r.1)

-- the normal form, and the way there
pub normalises : (n : ℕ) (t : Term) → Linear n t → Betas (steps t) t (normal_form t) × Normal (normal_form t)
normalises n t l = reduced n (size t) t l (omega arith)
