-- Counting the symbols of a term, and what a step does to the counts. Assumes nothing.
use Rattle.std.proofs.Common.{◌≡◌, ℕ, zero, suc, ◌+◌, Bool, true, false, eqb, ◌≢◌, ◌⊎◌, Some, None, Option, refl, ap, ap₂, inl, inr, arith}
use Rattle.std.proofs.lemmas.Bool.{cases_eq, eq-eqb, ne_eqb}
use Rattle.lambda.specs.Terms.{Term, var, item, lam, app, size, one, uses, stands, binds, applies, Once}
use Rattle.lambda.specs.Reduction.{put, Beta, redex, within, left, right}

pub number : (m n : ℕ) → ((m ≡ n) × (eqb m n ≡ true)) ⊎ ((m ≢ n) × (eqb m n ≡ false))
number m n = elim (cases_eq m n) [ inl e ↦ inl (e, eq-eqb m n e) | inr e ↦ inr (e, ne_eqb m n e) ]

pub none_some : {X : Type 0} {x : X} → ◌≡◌ {A = Option X} None (Some x) → ⊥
none_some e = let z : ◌≡◌ {A = ℕ} 0 1 = cc in omega arith

pub one_yes : (p r : ℕ) → p ≡ r → one p r ≡ 1
one_yes p r e = let z = eq-eqb p r e in cc

pub one_no : (p r : ℕ) → p ≢ r → one p r ≡ 0
one_no p r e = let z = ne_eqb p r e in cc

pub either : (m n : ℕ) → m + n ≡ 1 → ((m ≡ 1) × (n ≡ 0)) ⊎ ((m ≡ 0) × (n ≡ 1))
either zero n e = inr (refl, omega arith)
either (suc m) n e = inl (omega arith, omega arith)

-- what a count of symbols counts, by the place or the number of each symbol
pub record Weights : Type 0 where
  pub onvar : ℕ → ℕ
  pub onitem : ℕ → ℕ
  pub onlam : ℕ → ℕ
  pub onapp : ℕ → ℕ

abbrev pub weigh : Weights → Term → ℕ
weigh c (var p) = c.onvar p
weigh c (item k) = c.onitem k
weigh c (lam p b) = c.onlam p + weigh c b
weigh c (app p f a) = c.onapp p + (weigh c f + weigh c a)

abbrev pub on_uses : ℕ → Weights
on_uses r = record { onvar = one r; onitem = λ k. 0; onlam = λ p. 0; onapp = λ p. 0 }

abbrev pub on_binds : ℕ → Weights
on_binds r = record { onvar = λ p. 0; onitem = λ k. 0; onlam = one r; onapp = λ p. 0 }

abbrev pub on_applies : ℕ → Weights
on_applies r = record { onvar = λ p. 0; onitem = λ k. 0; onlam = λ p. 0; onapp = one r }

abbrev pub on_stands : ℕ → Weights
on_stands k = record { onvar = λ p. 0; onitem = one k; onlam = λ p. 0; onapp = λ p. 0 }

abbrev pub on_cells : Weights
on_cells = record { onvar = λ p. 0; onitem = λ k. 0; onlam = λ p. 1; onapp = λ p. 1 }

pub uses_weigh : (r : ℕ) (t : Term) → uses r t ≡ weigh (on_uses r) t
uses_weigh r (var p) = refl
uses_weigh r (item k) = refl
uses_weigh r (lam p b) = let h = uses_weigh r b in omega arith
uses_weigh r (app p f a) = let h = uses_weigh r f in let i = uses_weigh r a in omega arith

pub binds_weigh : (r : ℕ) (t : Term) → binds r t ≡ weigh (on_binds r) t
binds_weigh r (var p) = refl
binds_weigh r (item k) = refl
binds_weigh r (lam p b) = let h = binds_weigh r b in omega arith
binds_weigh r (app p f a) = let h = binds_weigh r f in let i = binds_weigh r a in omega arith

pub applies_weigh : (r : ℕ) (t : Term) → applies r t ≡ weigh (on_applies r) t
applies_weigh r (var p) = refl
applies_weigh r (item k) = refl
applies_weigh r (lam p b) = let h = applies_weigh r b in omega arith
applies_weigh r (app p f a) = let h = applies_weigh r f in let i = applies_weigh r a in omega arith

pub stands_weigh : (k : ℕ) (t : Term) → stands k t ≡ weigh (on_stands k) t
stands_weigh k (var p) = refl
stands_weigh k (item i) = refl
stands_weigh k (lam p b) = let h = stands_weigh k b in omega arith
stands_weigh k (app p f a) = let h = stands_weigh k f in let i = stands_weigh k a in omega arith

pub size_weigh : (t : Term) → size t ≡ weigh on_cells t
size_weigh (var p) = refl
size_weigh (item k) = refl
size_weigh (lam p b) = let h = size_weigh b in omega arith
size_weigh (app p f a) = let h = size_weigh f in let i = size_weigh a in omega arith

pub put_none : (q : ℕ) (a b : Term) → uses q b ≡ 0 → put q a b ≡ b
put_none q a (var p) e = go (eqb q p) refl
  where
    go : (b : Bool) → eqb q p ≡ b → put q a (var p) ≡ var p
    go true z = let y : ◌≡◌ {A = ℕ} 1 0 = cc in absurd (omega arith)
    go false z = cc
put_none q a (item k) e = refl
put_none q a (lam p b) e = ap (lam p) (put_none q a b (omega arith))
put_none q a (app p f b) e = ap₂ (app p) (put_none q a f (omega arith)) (put_none q a b (omega arith))

-- every count of b with a put in is the sum of the two, less the variable
module _ (c : Weights) (q : ℕ) (a : Term) where
  pub put_weigh : (b : Term) → uses q b ≡ 1 → weigh c (put q a b) + c.onvar q ≡ weigh c b + weigh c a
  put_weigh (var p) e = go (number q p)
    where
      go : ((q ≡ p) × (eqb q p ≡ true)) ⊎ ((q ≢ p) × (eqb q p ≡ false)) → weigh c (put q a (var p)) + c.onvar q ≡ weigh c (var p) + weigh c a
      go (inl (z, y)) =
          let u : put q a (var p) ≡ a = cc in
          let v : c.onvar p ≡ c.onvar q = cc in
          let w : weigh c (put q a (var p)) ≡ weigh c a = cc in
          omega arith
      go (inr (z, y)) = let x : ◌≡◌ {A = ℕ} 0 1 = cc in absurd (omega arith)
  put_weigh (item k) e = absurd (omega arith)
  put_weigh (lam p b) e = let ih = put_weigh b (omega arith) in omega arith
  put_weigh (app p f b) e = elim (either (uses q f) (uses q b) (omega arith)) [
    | inl h ↦ (let i = put_weigh f h.0 in let j = ap (weigh c) (put_none q a b h.1) in omega arith)
    | inr h ↦ (let i = put_weigh b h.1 in let j = ap (weigh c) (put_none q a f h.0) in omega arith)
  ]

-- a step takes away one application, one abstraction and one variable
pub beta_weigh : (c : Weights) {p q : ℕ} {t u : Term} → Beta p q t u → Once t → weigh c u + (c.onapp p + (c.onlam q + c.onvar q)) ≡ weigh c t
beta_weigh c {p} {q} (redex {b = b} {a = a}) o = let h = put_weigh c q a b o.0.0 in omega arith
beta_weigh c (within s) o = let h = beta_weigh c s o.1 in omega arith
beta_weigh c (left s) o = let h = beta_weigh c s o.0 in omega arith
beta_weigh c (right s) o = let h = beta_weigh c s o.1 in omega arith
