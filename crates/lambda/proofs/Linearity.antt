-- A term read from a net with nothing left over is linear. Assumes nothing.
use Rattle.std.proofs.Common.{◌≡◌, ℕ, zero, suc, ◌+◌, ◌≤◌, eqb, ◌≢◌, ◌⊎◌, List, [], ◌∷◌, ◌++◌, sym, refl, ap, ◌∙◌, subst, inl, inr, arith}
use Rattle.calculus.specs.Spots.{Spot, end, port}
use Rattle.calculus.specs.Nets.{Net, Good}
use Rattle.calculus.specs.Combinators.{combinators}
use Rattle.calculus.proofs.Splice.{spot, one_mate}
use Rattle.std.proofs.lemmas.Bool.{cases_lt}
use Rattle.lambda.specs.Terms.{Term, var, item, lam, app, one, uses, stands, binds, applies, cells, Once, Linear}
use Rattle.lambda.specs.TermNets.{head, inner, links}
use Rattle.lambda.specs.Reading.{Among, ReadsBack}
use Rattle.lambda.proofs.Counts.{number, one_yes, one_no}
use Rattle.lambda.proofs.Wirings.{end≢port, In, at, at_yes, at_no}
use Rattle.lambda.proofs.Good.{match}
use Rattle.lambda.proofs.Reducts.{Has}
use Rattle.lambda.proofs.Parts.{Scoped}
use Rattle.lambda.proofs.Reading.{reads_scoped, reads_has}

-- ── links from different spots go to different spots ──

-- how often a link goes from s, and how often one goes to s
abbrev firsts : Spot → List (Spot × Spot) → ℕ
firsts s [] = 0
firsts s (t ∷ ss) = at s t.0 + firsts s ss

abbrev seconds : Spot → List (Spot × Spot) → ℕ
seconds s [] = 0
seconds s (t ∷ ss) = at s t.1 + seconds s ss

firsts_append : (s : Spot) (xs ys : List (Spot × Spot)) → firsts s (xs ++ ys) ≡ firsts s xs + firsts s ys
firsts_append s [] ys = omega arith
firsts_append s (x ∷ xs) ys = let h = firsts_append s xs ys in omega arith

seconds_append : (s : Spot) (xs ys : List (Spot × Spot)) → seconds s (xs ++ ys) ≡ seconds s xs + seconds s ys
seconds_append s [] ys = omega arith
seconds_append s (x ∷ xs) ys = let h = seconds_append s xs ys in omega arith

in_firsts : (ss : List (Spot × Spot)) (u v : Spot) → In ss u v → 1 ≤ firsts u ss
in_firsts [] u v h = absurd h
in_firsts (s ∷ ss) u v (inl h) = let a = at_yes u s.0 h.0 in omega arith
in_firsts (s ∷ ss) u v (inr h) = let i = in_firsts ss u v h in omega arith

seconds_in : (ss : List (Spot × Spot)) (v : Spot) → 1 ≤ seconds v ss → (u : Spot) × In ss u v
seconds_in [] v h = absurd (let z : ⊥ = omega arith in z)
seconds_in (s ∷ ss) v h = elim (spot v s.1) [
  | inl e ↦ (s.0, inl (refl, e))
  | inr e ↦ (let a = at_no v s.1 e in let i = seconds_in ss v (omega arith) in (i.0, inr i.1))
]

seconds_once : (m : Spot → Spot) → ((x : Spot) → m (m x) ≡ x) → (ss : List (Spot × Spot)) → Has m ss → ((s : Spot) → firsts s ss ≤ 1) → (v : Spot) → seconds v ss ≤ 1
seconds_once m twice [] H h v = omega arith
seconds_once m twice (s ∷ ss) H h v =
    let ih = seconds_once m twice ss (λ a b i. H a b (inr i)) (λ r. let i = h r in omega arith) v in
    elim (spot v s.1) [
      | inl e ↦ elim (cases_lt 0 (seconds v ss)) [
        | inl z ↦ (
            let (u, i) = seconds_in ss v z in
            let same : u ≡ s.0 = one_mate m twice u s.0 (H u v (inr i) ∙ sym (H s.0 v (inl (refl, e)))) in
            let a = at_yes s.0 s.0 refl in
            let b = subst (λ x. 1 ≤ firsts x ss) same (in_firsts ss u v i) in
            let c = h s.0 in
            absurd (let y : ⊥ = omega arith in y))
        | inr z ↦ (let a = at_yes v s.1 e in omega arith)
      ]
      | inr e ↦ (let a = at_no v s.1 e in omega arith)
    ]

-- ── what is linked in a term ──

-- a position is port 0 of an application, or port 2 of a cell
from_function : (r : ℕ) (t : Term) → firsts (port r 0) (inner t) ≡ applies r t
from_function r (var p) = refl
from_function r (item k) = refl
from_function r (lam p b) = let h = match (eqb r p) in let i = from_function r b in omega arith
from_function r (app p f a) =
    let h = match (eqb r p) in
    let i = from_function r f in
    let k = from_function r a in
    let j = firsts_append (port r 0) (inner f) ((port p 2, head a) ∷ inner a) in
    omega arith

from_head : (r : ℕ) (t : Term) → firsts (port r 1) (inner t) ≡ 0
from_head r (var p) = refl
from_head r (item k) = refl
from_head r (lam p b) = let h = match (eqb r p) in let i = from_head r b in omega arith
from_head r (app p f a) =
    let h = match (eqb r p) in
    let i = from_head r f in
    let k = from_head r a in
    let j = firsts_append (port r 1) (inner f) ((port p 2, head a) ∷ inner a) in
    omega arith

from_port : (r j : ℕ) (t : Term) → firsts (port r j) (inner t) ≤ cells r t
from_port r j (var p) = omega arith
from_port r j (item k) = omega arith
from_port r j (lam p b) = let h = at_most p 2 in let i = from_port r j b in omega arith
  where
    at_most : (p i : ℕ) → at (port r j) (port p i) ≤ one r p
    at_most p i = elim (spot (port r j) (port p i)) [
      | inl e ↦ (let a = at_yes (port r j) (port p i) e in let z : r ≡ p = cc in let b = one_yes r p z in omega arith)
      | inr e ↦ (let a = at_no (port r j) (port p i) e in omega arith)
    ]
from_port r j (app p f a) =
    let h = one_of in
    let i = from_port r j f in
    let k = from_port r j a in
    let l = firsts_append (port r j) (inner f) ((port p 2, head a) ∷ inner a) in
    omega arith
  where
    one_of : at (port r j) (port p 0) + at (port r j) (port p 2) ≤ one r p
    one_of = elim (spot (port r j) (port p 0)) [
      | inl e ↦ (
          let a = at_yes (port r j) (port p 0) e in
          let z : r ≡ p = cc in
          let y : j ≡ 0 = cc in
          let b = one_yes r p z in
          let c = at_no (port r j) (port p 2) (λ w. let x : j ≡ 2 = cc in omega arith) in
          omega arith)
      | inr e ↦ elim (spot (port r j) (port p 2)) [
        | inl f ↦ (
            let a = at_no (port r j) (port p 0) e in
            let z : r ≡ p = cc in
            let b = one_yes r p z in
            let c = at_yes (port r j) (port p 2) f in
            omega arith)
        | inr f ↦ (let a = at_no (port r j) (port p 0) e in let c = at_no (port r j) (port p 2) f in omega arith)
      ]
    ]

from_end : (e : ℕ) (t : Term) → firsts (end e) (inner t) ≡ 0
from_end e (var p) = refl
from_end e (item k) = refl
from_end e (lam p b) = let i = from_end e b in omega arith
from_end e (app p f a) =
    let i = from_end e f in
    let k = from_end e a in
    let j = firsts_append (end e) (inner f) ((port p 2, head a) ∷ inner a) in
    omega arith

from_once : (t : Term) → ((r : ℕ) → cells r t ≤ 1) → (s : Spot) → firsts s (links (end 0) t) ≤ 1
from_once t h (end e) = let a = from_end e t in elim (number e 0) [
  | inl z ↦ (let b = at_yes (end e) (end 0) (ap end z.0) in omega arith)
  | inr z ↦ (let b = at_no (end e) (end 0) (λ y. z.0 (cc)) in omega arith)
]
from_once t h (port r j) = let a = from_port r j t in let b = h r in omega arith

-- a use of a variable and an item are linked to
to_variable : (r : ℕ) (t : Term) → uses r t ≤ at (port r 1) (head t) + seconds (port r 1) (inner t)
to_variable r (var p) = let h = match (eqb r p) in omega arith
to_variable r (item k) = omega arith
to_variable r (lam p b) = let i = to_variable r b in omega arith
to_variable r (app p f a) =
    let i = to_variable r f in
    let k = to_variable r a in
    let j = seconds_append (port r 1) (inner f) ((port p 2, head a) ∷ inner a) in
    omega arith

to_item : (k : ℕ) (t : Term) → stands k t ≤ at (end k) (head t) + seconds (end k) (inner t)
to_item k (var p) = omega arith
to_item k (item i) = omega arith
to_item k (lam p b) = let i = to_item k b in omega arith
to_item k (app p f a) =
    let i = to_item k f in
    let h = to_item k a in
    let j = seconds_append (end k) (inner f) ((port p 2, head a) ∷ inner a) in
    omega arith

-- ── variables in scope ──

scoped_bound : (p : ℕ) (t : Term) (es : List ℕ) → Scoped es t → 1 ≤ uses p t → (1 ≤ binds p t) ⊎ Among p es
scoped_bound p (var r) es s h = elim (number p r) [
  | inl e ↦ inr (subst (λ q. Among q es) (sym e.0) s)
  | inr e ↦ (let z = one_no p r e.0 in absurd (let y : ⊥ = omega arith in y))
]
scoped_bound p (item k) es s h = absurd (let z : ⊥ = omega arith in z)
scoped_bound p (lam r b) es s h = elim (scoped_bound p b (r ∷ es) s h) [
  | inl i ↦ inl (omega arith)
  | inr i ↦ elim i [ inl e ↦ (let z = one_yes p r e in inl (omega arith)) | inr m ↦ inr m ]
]
scoped_bound p (app r f a) es s h = elim (cases_lt 0 (uses p f)) [
  | inl z ↦ elim (scoped_bound p f es s.0 z) [ inl i ↦ inl (omega arith) | inr i ↦ inr i ]
  | inr z ↦ elim (scoped_bound p a es s.1 (omega arith)) [ inl i ↦ inl (omega arith) | inr i ↦ inr i ]
]

once_from : (t : Term) (es : List ℕ) → Scoped es t → ((p : ℕ) → binds p t ≤ 1) → ((p : ℕ) → 1 ≤ binds p t → Among p es → ⊥) →
    ((p : ℕ) → uses p t ≤ 1) → ((p : ℕ) → 1 ≤ binds p t → 1 ≤ uses p t) → Once t
once_from (var p) es s b n u h = tt
once_from (item k) es s b n u h = tt
once_from (lam p t) es s b n u h = (
  (let o = one_yes p p refl in let i = u p in let j = h p (omega arith) in omega arith),
  once_from t (p ∷ es) s (λ q. let i = b q in omega arith) fresh u (λ q i. h q (omega arith)),
)
  where
    fresh : (q : ℕ) → 1 ≤ binds q t → Among q (p ∷ es) → ⊥
    fresh q i (inl e) = let o = one_yes q p e in let j = b q in omega arith
    fresh q i (inr m) = n q (omega arith) m
once_from (app p f a) es s b n u h = (
  once_from f es s.0 (λ q. let i = b q in omega arith) (λ q i m. n q (omega arith) m) (λ q. let i = u q in omega arith) (in_part f a s.1 (λ q. let i = b q in omega arith)
      (λ q i. n q (omega arith)) (λ q i. let j = h q (omega arith) in omega arith)),
  once_from a es s.1 (λ q. let i = b q in omega arith) (λ q i m. n q (omega arith) m) (λ q. let i = u q in omega arith) (in_part a f s.0 (λ q. let i = b q in omega arith)
      (λ q i. n q (omega arith)) (λ q i. let j = h q (omega arith) in omega arith)),
)
  where
    -- a variable bound in one part is used there
    in_part : (f a : Term) → Scoped es a → ((q : ℕ) → binds q f + binds q a ≤ 1) → ((q : ℕ) → 1 ≤ binds q f → Among q es → ⊥) →
        ((q : ℕ) → 1 ≤ binds q f → 1 ≤ uses q f + uses q a) → (q : ℕ) → 1 ≤ binds q f → 1 ≤ uses q f
    in_part f a sa b n h q i = elim (cases_lt 0 (uses q f)) [
      | inl z ↦ z
      | inr z ↦ (
          let c = b q in
          let d = h q i in
          elim (scoped_bound q a es sa (omega arith)) [ inl w ↦ absurd (let y : ⊥ = omega arith in y) | inr m ↦ absurd (n q i m) ])
    ]

-- ── what is read is linear ──

module _ (n : ℕ) (A : Net) (G : Good combinators A) (t : Term) (R : ReadsBack n A t) where
  has : Has A.mate (links (end 0) t)
  has = reads_has A.mate R.root

  scoped : Scoped [] t
  scoped = reads_scoped A.mate R.root

  to_once : (s : Spot) → seconds s (links (end 0) t) ≤ 1
  to_once = seconds_once A.mate G.twice (links (end 0) t) has (from_once t R.apart)

  uses_most : (p : ℕ) → uses p t ≤ 1
  uses_most p = let a = to_variable p t in let b = to_once (port p 1) in omega arith

  stands_most : (k : ℕ) → stands k t ≤ 1
  stands_most k = let a = to_item k t in let b = to_once (end k) in omega arith

  -- an item is met at an end, and never at the root's
  met_at : (k : ℕ) → 1 ≤ stands k t → (x : Spot) × In (links (end 0) t) x (end k)
  met_at k h = seconds_in (links (end 0) t) (end k) (let a = to_item k t in omega arith)

  linked_root : A.mate (end 0) ≢ end 0
  linked_root = G.linked (end 0) (let e = R.ends in omega arith)

  no_root : (t : Term) → Scoped [] t → ((r : ℕ) → cells r t ≤ 1) → A.mate (end 0) ≡ head t → (x : Spot) → x ≡ head t → In (links (end 0) t) x (end 0) → ⊥
  no_root (var p) s c e x z i = s
  no_root (item k) s c e x z (inl i) = linked_root (e ∙ sym i.1)
  no_root (item k) s c e x z (inr i) = i
  no_root (lam p b) s c e x z (inl i) = end≢port 0 p 0 i.1
  no_root (lam p b) s c e x z (inr i) =
      let f = in_firsts (inner (lam p b)) x (end 0) i in
      let g = subst (λ x. 1 ≤ firsts x (inner (lam p b))) z f in
      let h = from_function p (lam p b) in
      let o = one_yes p p refl in
      let k = c p in
      omega arith
  no_root (app p f a) s c e x z (inl i) = end≢port 0 p 1 i.1
  no_root (app p f a) s c e x z (inr i) =
      let g = subst (λ x. 1 ≤ firsts x (inner (app p f a))) z (in_firsts (inner (app p f a)) x (end 0) i) in
      let h = from_head p (app p f a) in
      omega arith

  only : (k : ℕ) → 1 ≤ stands k t → (1 ≤ k) × (k ≤ n)
  only zero h =
      let (x, i) = met_at 0 h in
      let e : A.mate (end 0) ≡ head t = has (end 0) (head t) (inl (refl, refl)) in
      let z : x ≡ head t = sym (G.twice x) ∙ ap A.mate (has x (end 0) i) ∙ e in
      absurd (no_root t scoped R.apart e x z i)
  only (suc k) h =
      let (x, i) = met_at (suc k) h in
      let e = has x (end (suc k)) i in
      let back : A.mate (end (suc k)) ≡ x = ap A.mate (sym e) ∙ G.twice x in
      let there = G.there (end (suc k)) (λ z. no_loop x i (sym back ∙ z)) in
      let f = R.ends in
      (omega arith, omega arith)
    where
      -- an item's end is no position
      no_loop : (x : Spot) → In (links (end 0) t) x (end (suc k)) → x ≡ end (suc k) → ⊥
      no_loop x i z =
          let a = subst (λ x. 1 ≤ firsts x (links (end 0) t)) z (in_firsts (links (end 0) t) x (end (suc k)) i) in
          let b = from_end (suc k) t in
          let c = at_no (end (suc k)) (end 0) (λ w. let y : suc k ≡ 0 = cc in omega arith) in
          omega arith

  pub read_linear : Linear n t
  read_linear = record {
    once = once_from t [] scoped (λ p. let a = R.apart p in omega arith) (λ p h m. m) uses_most R.used;
    closed = closed;
    apart = R.apart;
    listed = λ k i j. let a = R.listed k i j in let b = stands_most k in omega arith;
    only = only;
  }
    where
      closed : (p : ℕ) → uses p t ≡ binds p t
      closed p = elim (cases_lt 0 (binds p t)) [
        | inl h ↦ (let a = R.used p h in let b = uses_most p in let c = R.apart p in omega arith)
        | inr h ↦ elim (cases_lt 0 (uses p t)) [
          | inl u ↦ elim (scoped_bound p t [] scoped u) [ inl b ↦ absurd (let y : ⊥ = omega arith in y) | inr m ↦ absurd m ]
          | inr u ↦ omega arith
        ]
      ]
