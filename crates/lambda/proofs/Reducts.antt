-- The links of a reduct, and that it is linear. Assumes nothing.
use Rattle.std.proofs.Common.{◌≡◌, ℕ, ◌+◌, ◌≤◌, Bool, true, false, eqb, ◌≢◌, ◌⊎◌, List, sym, refl, ap, ◌∙◌, subst, inl, inr, arith}
use Rattle.calculus.specs.Spots.{Spot, port}
use Rattle.lambda.specs.Terms.{Term, var, item, lam, app, one, uses, stands, binds, applies, cells, Once, Linear}
use Rattle.lambda.specs.Reduction.{put, Beta, redex, within, left, right}
use Rattle.lambda.specs.TermNets.{head, inner, links}
use Rattle.lambda.proofs.Counts.{number, one_yes, one_no, either, on_uses, on_binds, on_applies, on_stands, uses_weigh, binds_weigh, applies_weigh, stands_weigh, put_none, put_weigh, beta_weigh}
use Rattle.lambda.proofs.Wirings.{end≢port, In, in_left, in_right, in_either}

-- from x follow the link to y; at the application's port 1 go on from the body's position, at the variable from the argument's
pub data Via (m : Spot → Spot) (p q : ℕ) : Spot → Spot → Type 0 where
  kept : {x y : Spot} → m x ≡ y → Via m p q x y
  body : {x y : Spot} → m x ≡ port p 1 → Via m p q (port q 2) y → Via m p q x y
  argument : {x y : Spot} → m x ≡ port q 1 → Via m p q (port p 2) y → Via m p q x y

abbrev pub Has : (Spot → Spot) → List (Spot × Spot) → Type 0
Has m ss = (u v : Spot) → In ss u v → m u ≡ v

module _ (m : Spot → Spot) (p q : ℕ) where
  module _ (a : Term) (at_a : m (port p 2) ≡ head a) (in-a : Has m (inner a)) where
    put_via : (b : Term) (y : Spot) → Has m (links y b) → (u v : Spot) → In (links y (put q a b)) u v → Via m p q u v
    put_via (var r) y H u v h = go (eqb q r) (number q r) h
      where
        go : (b : Bool) → ((q ≡ r) × (b ≡ true)) ⊎ ((q ≢ r) × (b ≡ false)) → In (links y (elim b [ true ↦ a | false ↦ var r ])) u v → Via m p q u v
        go true (inl e) (inl g) = argument (H u (port q 1) (inl (g.0, ap (λ r. port r 1) e.0))) (kept (at_a ∙ sym g.1))
        go true (inl e) (inr g) = kept (in-a u v g)
        go true (inr e) g = let z = e.1 in let y : ◌≡◌ {A = ℕ} 0 1 = cc in absurd (omega arith)
        go false e g = kept (H u v g)
    put_via (item k) y H u v h = kept (H u v h)
    put_via (lam r b) y H u v (inl h) = kept (H u v (inl h))
    put_via (lam r b) y H u v (inr h) = put_via b (port r 2) (λ u v i. H u v (inr i)) u v h
    put_via (app r f b) y H u v (inl h) = kept (H u v (inl h))
    put_via (app r f b) y H u v (inr h) = elim (in_either (links (port r 0) (put q a f)) (links (port r 2) (put q a b)) u v h) [
      | inl i ↦ put_via f (port r 0) (λ u v j. H u v (inr (in_left (links (port r 0) f) (links (port r 2) b) u v j))) u v i
      | inr i ↦ put_via b (port r 2) (λ u v j. H u v (inr (in_right (links (port r 0) f) (links (port r 2) b) u v j))) u v i
    ]

  -- each link of a reduct is found by following
  pub beta_via : {t u : Term} → Beta p q t u → (x : Spot) → Has m (links x t) → (v w : Spot) → In (links x u) v w → Via m p q v w
  beta_via (redex {b = b} {a = a}) x H v w h = go h
    where
      tail : (v w : Spot) → In (links (port q 2) (put q a b)) v w → Via m p q v w
      tail = put_via a
          (H (port p 2) (head a) (inr (inr (in_right (links (port q 2) b) (links (port p 2) a) (port p 2) (head a) (inl (refl, refl))))))
          (λ u v i. H u v (inr (inr (in_right (links (port q 2) b) (links (port p 2) a) u v (inr i)))))
          b (port q 2) (λ u v i. H u v (inr (inr (in_left (links (port q 2) b) (links (port p 2) a) u v i))))

      go : In (links x (put q a b)) v w → Via m p q v w
      go (inl i) = body (H v (port p 1) (inl (i.0, refl))) (tail (port q 2) w (inl (refl, i.1)))
      go (inr i) = tail v w (inr i)
  beta_via (within s) x H v w (inl h) = kept (H v w (inl h))
  beta_via (within {r = r} s) x H v w (inr h) = beta_via s (port r 2) (λ u v i. H u v (inr i)) v w h
  beta_via (left s) x H v w (inl h) = kept (H v w (inl h))
  beta_via (left {r = r} {f = f} {f' = f'} {a = a} s) x H v w (inr h) = elim (in_either (links (port r 0) f') (links (port r 2) a) v w h) [
    | inl i ↦ beta_via s (port r 0) (λ u v j. H u v (inr (in_left (links (port r 0) f) (links (port r 2) a) u v j))) v w i
    | inr i ↦ kept (H v w (inr (in_right (links (port r 0) f) (links (port r 2) a) v w i)))
  ]
  beta_via (right s) x H v w (inl h) = kept (H v w (inl h))
  beta_via (right {r = r} {f = f} {a = a} {a' = a'} s) x H v w (inr h) = elim (in_either (links (port r 0) f) (links (port r 2) a') v w h) [
    | inl i ↦ kept (H v w (inr (in_left (links (port r 0) f) (links (port r 2) a) v w i)))
    | inr i ↦ beta_via s (port r 2) (λ u v j. H u v (inr (in_right (links (port r 0) f) (links (port r 2) a) u v j))) v w i
  ]

-- the redex's position stays a position
pub beta_root : {p q : ℕ} {t u : Term} → Beta p q t u → (x : Spot) → (y : Spot) × (h : Spot) × In (links x t) y (port p 1) × In (links x u) y h
beta_root {p} {q} (redex {b = b} {a = a}) x = (x, head (put q a b), inl (refl, refl), inl (refl, refl))
beta_root (within {r = r} s) x = let i = beta_root s (port r 2) in (i.0, i.1, inr i.2, inr i.3)
beta_root {p} (left {r = r} {f = f} {f' = f'} {a = a} s) x =
    let i = beta_root s (port r 0) in
    (i.0, i.1, inr (in_left (links (port r 0) f) (links (port r 2) a) i.0 (port p 1) i.2), inr (in_left (links (port r 0) f') (links (port r 2) a) i.0 i.1 i.3))
beta_root {p} (right {r = r} {f = f} {a = a} {a' = a'} s) x =
    let i = beta_root s (port r 2) in
    (i.0, i.1, inr (in_right (links (port r 0) f) (links (port r 2) a) i.0 (port p 1) i.2), inr (in_right (links (port r 0) f) (links (port r 2) a') i.0 i.1 i.3))

put_arg : (q : ℕ) (a b : Term) → uses q b ≡ 1 → (x : Spot) → (y : Spot) × In (links x (put q a b)) y (head a)
put_arg q a (var r) e x = go (eqb q r) e
  where
    go : (b : Bool) → ◌≡◌ {A = ℕ} (elim b [ true ↦ 1 | false ↦ 0 ]) 1 → (y : Spot) × In (links x (elim b [ true ↦ a | false ↦ var r ])) y (head a)
    go true e = (x, inl (refl, refl))
    go false e = absurd (omega arith)
put_arg q a (item k) e x = absurd (omega arith)
put_arg q a (lam r b) e x = let i = put_arg q a b (omega arith) (port r 2) in (i.0, inr i.1)
put_arg q a (app r f b) e x = elim (either (uses q f) (uses q b) (omega arith)) [
  | inl h ↦ (let i = put_arg q a f h.0 (port r 0) in (i.0, inr (in_left (links (port r 0) (put q a f)) (links (port r 2) (put q a b)) i.0 (head a) i.1)))
  | inr h ↦ (let i = put_arg q a b h.1 (port r 2) in (i.0, inr (in_right (links (port r 0) (put q a f)) (links (port r 2) (put q a b)) i.0 (head a) i.1)))
]

-- the argument is met in the reduct
pub beta_arg : {p q : ℕ} {t u : Term} → Beta p q t u → Once t → (x : Spot) → (y : Spot) × (h : Spot) × In (links x t) (port p 2) h × In (links x u) y h
beta_arg {p} {q} (redex {b = b} {a = a}) o x =
    let i = put_arg q a b o.0.0 x in
    (i.0, head a, inr (inr (in_right (links (port q 2) b) (links (port p 2) a) (port p 2) (head a) (inl (refl, refl)))), i.1)
beta_arg (within {r = r} s) o x = let i = beta_arg s o.1 (port r 2) in (i.0, i.1, inr i.2, inr i.3)
beta_arg {p} (left {r = r} {f = f} {f' = f'} {a = a} s) o x =
    let i = beta_arg s o.0 (port r 0) in
    (i.0, i.1, inr (in_left (links (port r 0) f) (links (port r 2) a) (port p 2) i.1 i.2), inr (in_left (links (port r 0) f') (links (port r 2) a) i.0 i.1 i.3))
beta_arg {p} (right {r = r} {f = f} {a = a} {a' = a'} s) o x =
    let i = beta_arg s o.1 (port r 2) in
    (i.0, i.1, inr (in_right (links (port r 0) f) (links (port r 2) a) (port p 2) i.1 i.2), inr (in_right (links (port r 0) f) (links (port r 2) a') i.0 i.1 i.3))

-- a redex is an active pair
pub beta_pair : {p q : ℕ} {t u : Term} → Beta p q t u → (x : Spot) → In (links x t) (port p 0) (port q 0)
beta_pair redex x = inr (inl (refl, refl))
beta_pair (within {r = r} s) x = inr (beta_pair s (port r 2))
beta_pair {p} {q} (left {r = r} {f = f} {a = a} s) x = inr (in_left (links (port r 0) f) (links (port r 2) a) (port p 0) (port q 0) (beta_pair s (port r 0)))
beta_pair {p} {q} (right {r = r} {f = f} {a = a} s) x = inr (in_right (links (port r 0) f) (links (port r 2) a) (port p 0) (port q 0) (beta_pair s (port r 2)))

pub slot : (p i r j : ℕ) → i ≢ j → port p i ≢ port r j
slot p i r j n e = n (cc)

is_lam : (q : ℕ) (f : Term) → port q 0 ≡ head f → (b : Term) × (f ≡ lam q b)
is_lam q (var p) e = absurd (slot q 0 p 1 (omega arith) e)
is_lam q (item k) e = absurd (end≢port k q 0 (sym e))
is_lam q (lam p b) e = let z : p ≡ q = cc in (b, ap (λ p. lam p b) z)
is_lam q (app p f a) e = absurd (slot q 0 p 1 (omega arith) e)

-- an active pair is a redex
pub pair_beta : (p q : ℕ) (t : Term) (x : Spot) → In (links x t) (port p 0) (port q 0) → ((u : Term) × Beta p q t u) ⊎ ((port p 0 ≡ x) × (port q 0 ≡ head t))
pair_beta p q t x (inl h) = inr h
pair_beta p q (var r) x (inr h) = absurd h
pair_beta p q (item k) x (inr h) = absurd h
pair_beta p q (lam r b) x (inr h) = elim (pair_beta p q b (port r 2) h) [
  | inl i ↦ inl (lam r i.0, within i.1)
  | inr i ↦ absurd (slot p 0 r 2 (omega arith) i.0)
]
pair_beta p q (app r f a) x (inr h) = elim (in_either (links (port r 0) f) (links (port r 2) a) (port p 0) (port q 0) h) [
  | inl i ↦ elim (pair_beta p q f (port r 0) i) [
    | inl j ↦ inl (app r j.0 a, left j.1)
    | inr j ↦ (
        let k = is_lam q f j.1 in
        let z : r ≡ p = cc j.0 in
        inl (put q a k.0, subst (λ r. Beta p q (app r f a) (put q a k.0)) (sym z) (subst (λ f. Beta p q (app p f a) (put q a k.0)) (sym k.1) redex)))
  ]
  | inr i ↦ elim (pair_beta p q a (port r 2) i) [
    | inl j ↦ inl (app r f j.0, right j.1)
    | inr j ↦ absurd (slot p 0 r 2 (omega arith) j.0)
  ]
]

-- what a step does to each count
pub put_uses : (r q : ℕ) (a b : Term) → uses q b ≡ 1 → uses r (put q a b) + one r q ≡ uses r b + uses r a
put_uses r q a b e =
    let h = put_weigh (on_uses r) q a b e in
    let i = uses_weigh r (put q a b) in
    let j = uses_weigh r b in
    let k = uses_weigh r a in
    omega arith

module _ {p q : ℕ} {t u : Term} (s : Beta p q t u) (o : Once t) where
  pub beta_uses : (r : ℕ) → uses r u + one r q ≡ uses r t
  beta_uses r = let h = beta_weigh (on_uses r) s o in let i = uses_weigh r t in let j = uses_weigh r u in omega arith

  pub beta_binds : (r : ℕ) → binds r u + one r q ≡ binds r t
  beta_binds r = let h = beta_weigh (on_binds r) s o in let i = binds_weigh r t in let j = binds_weigh r u in omega arith

  pub beta_applies : (r : ℕ) → applies r u + one r p ≡ applies r t
  beta_applies r = let h = beta_weigh (on_applies r) s o in let i = applies_weigh r t in let j = applies_weigh r u in omega arith

  pub beta_stands : (k : ℕ) → stands k u ≡ stands k t
  beta_stands k = let h = beta_weigh (on_stands k) s o in let i = stands_weigh k t in let j = stands_weigh k u in omega arith

  -- the two cells are gone, every other stays
  pub beta_cells : (r : ℕ) → cells r u + (one r p + one r q) ≡ cells r t
  beta_cells r = let a = beta_binds r in let b = beta_applies r in omega arith

-- a reduct of a linear term is linear
put_once : (q : ℕ) (a : Term) → Once a → (b : Term) → Once b → uses q b ≡ 1 → binds q b ≡ 0 → ((r : ℕ) → uses r b + uses r a ≤ 1) → Once (put q a b)
put_once q a oa (var r) ob e f h = go (eqb q r)
  where
    go : (b : Bool) → Once (elim b [ true ↦ a | false ↦ var r ])
    go true = oa
    go false = tt
put_once q a oa (item k) ob e f h = absurd (omega arith)
put_once q a oa (lam r b) ob e f h =
    let i = put_uses r q a b (omega arith) in
    let j = h r in
    let k = ob.0 in
    let n : q ≢ r = λ z. let y = one_yes q r z in omega arith in
    let o = one_no r q (λ z. n (sym z)) in
    (omega arith, put_once q a oa b ob.1 (omega arith) (omega arith) (λ s. let g = h s in omega arith))
put_once q a oa (app r g b) ob e f h = elim (either (uses q g) (uses q b) (omega arith)) [
  | inl i ↦ (put_once q a oa g ob.0 i.0 (omega arith) (λ s. let k = h s in omega arith), subst Once (sym (put_none q a b i.1)) ob.1)
  | inr i ↦ (subst Once (sym (put_none q a g i.0)) ob.0, put_once q a oa b ob.1 i.1 (omega arith) (λ s. let k = h s in omega arith))
]

pub beta_once : {p q : ℕ} {t u : Term} → Beta p q t u → Once t → ((r : ℕ) → uses r t ≤ 1) → ((r : ℕ) → binds r t ≤ 1) → Once u
beta_once {p} {q} (redex {b = b} {a = a}) o h k =
    let c = k q in
    let d = one_yes q q refl in
    put_once q a o.1 b o.0.1 o.0.0 (omega arith) (λ r. let g = h r in omega arith)
beta_once {p} {q} (within {r = r} s) o h k =
    let i = beta_uses s o.1 r in
    let j = beta_binds s o.1 q in
    let c = k q in
    let d = one_yes q q refl in
    let n : q ≢ r = λ z. let y = one_yes q r z in omega arith in
    let f = one_no r q (λ z. n (sym z)) in
    let g = o.0 in
    (omega arith, beta_once s o.1 (λ s. let e = h s in omega arith) (λ s. let e = k s in omega arith))
beta_once (left s) o h k = (beta_once s o.0 (λ r. let e = h r in omega arith) (λ r. let e = k r in omega arith), o.1)
beta_once (right s) o h k = (o.0, beta_once s o.1 (λ r. let e = h r in omega arith) (λ r. let e = k r in omega arith))

pub beta_linear : (n : ℕ) {p q : ℕ} {t u : Term} → Linear n t → Beta p q t u → Linear n u
beta_linear n l s =
    let o = l.once in
    record {
      once = beta_once s o (λ r. let a = l.closed r in let b = l.apart r in omega arith) (λ r. let b = l.apart r in omega arith);
      closed = λ r. let a = l.closed r in let b = beta_uses s o r in let c = beta_binds s o r in omega arith;
      apart = λ r. let a = l.apart r in let b = beta_cells s o r in omega arith;
      listed = λ k i j. beta_stands s o k ∙ l.listed k i j;
      only = λ k h. l.only k (let e = beta_stands s o k in omega arith);
    }
