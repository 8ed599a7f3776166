-- A beta step of a linear term is one of the term with indices. Assumes nothing.
use Rattle.std.proofs.Common.{◌≡◌, ℕ, suc, pred, ◌+◌, ◌<◌, ◌≤◌, Bool, true, false, eqb, ◌≢◌, ◌⊎◌, List, [], ◌∷◌, ◌++◌, length, sym, refl, ap, ◌∙◌, subst, ap₂, inl, inr, arith}
use Rattle.std.proofs.lemmas.Bool.{cases_lt, lt-ltb, le-ltb, eq-eqb, ne_eqb}
use Rattle.lambda.specs.Terms.{Term, var, item, lam, app, uses, binds, Once}
use Rattle.lambda.specs.Reduction.{put, Beta, redex, within, left, right}
use Rattle.lambda.specs.Indices.{Indexed, index, symbol, abs, apply, before, indexed, raise, replace, Contracts, beta, inside, on_left, on_right}
use Rattle.lambda.specs.Reading.{Among}
use Rattle.lambda.specs.Theorems.{TextbookBeta}
use Rattle.lambda.proofs.Counts.{number, one_yes}
use Rattle.lambda.proofs.Parts.{among, among_is, bound_used}
use Rattle.lambda.proofs.Indexing.{is_among, before_here, before_later}

-- a place in front, or behind
before_in : (p : ℕ) (xs ys : List ℕ) → Among p xs → (before p (xs ++ ys) ≡ before p xs) × (before p xs < length xs)
before_in p [] ys h = absurd h
before_in p (x ∷ xs) ys h = go (number p x) h (before_in p xs ys)
  where
    go : ((p ≡ x) × (eqb p x ≡ true)) ⊎ ((p ≢ x) × (eqb p x ≡ false)) → (p ≡ x) ⊎ Among p xs → (Among p xs → (before p (xs ++ ys) ≡ before p xs) × (before p xs < length xs)) →
        (before p (x ∷ (xs ++ ys)) ≡ before p (x ∷ xs)) × (before p (x ∷ xs) < suc (length xs))
    go (inl i) h ih = let a = before_here p x (xs ++ ys) i.0 in let b = before_here p x xs i.0 in (a ∙ sym b, omega arith)
    go (inr i) (inl h) ih = absurd (i.0 h)
    go (inr i) (inr h) ih =
        let a = before_later p x (xs ++ ys) i.0 in
        let b = before_later p x xs i.0 in
        let c = ih h in
        (a ∙ ap suc c.0 ∙ sym b, omega arith)

before_out : (p : ℕ) (xs ys : List ℕ) → (Among p xs → ⊥) → before p (xs ++ ys) ≡ length xs + before p ys
before_out p [] ys h = omega arith
before_out p (x ∷ xs) ys h =
    let a = before_later p x (xs ++ ys) (λ e. h (inl e)) in
    let b = before_out p xs ys (λ m. h (inr m)) in
    omega arith

is_in : (p : ℕ) (xs : List ℕ) → Among p xs ⊎ (Among p xs → ⊥)
is_in p xs = elim (cases_lt 0 (among p xs)) [ inl h ↦ inl (among_is p xs h) | inr h ↦ inr (λ m. let i = is_among p xs m in omega arith) ]

-- the cases of an index
raise_below : (k d i : ℕ) → i < k → raise k d (index i) ≡ index i
raise_below k d i h = ap (λ w. elim w [ true ↦ index i | false ↦ index (i + d) ]) (lt-ltb i k h)

raise_above : (k d i : ℕ) → k ≤ i → raise k d (index i) ≡ index (i + d)
raise_above k d i h = ap (λ w. elim w [ true ↦ index i | false ↦ index (i + d) ]) (le-ltb i k h)

module _ (k : ℕ) (a : Indexed) (i : ℕ) where
  abbrev cased : Bool → Bool → Indexed
  cased v w = elim v [ true ↦ index i | false ↦ elim w [ true ↦ raise 0 k a | false ↦ index (pred i) ] ]

  replace_below : i < k → replace k a (index i) ≡ index i
  replace_below h = ap (λ v. cased v (eqb i k)) (lt-ltb i k h)

  replace_at : i ≡ k → replace k a (index i) ≡ raise 0 k a
  replace_at e =
      ap (λ v. cased v (eqb i k)) (le-ltb i k (omega arith)) ∙ ap (cased false) (eq-eqb i k e)

  replace_above : k < i → replace k a (index i) ≡ index (pred i)
  replace_above l =
      let n : i ≢ k = λ e. omega arith in
      ap (λ v. cased v (eqb i k)) (le-ltb i k (omega arith)) ∙ ap (cased false) (ne_eqb i k n)

-- more abstractions around a term that uses none of them
indexed_raise : (v : Term) (rs ps es : List ℕ) → ((p : ℕ) → Among p ps → uses p v ≡ 0) → indexed (rs ++ (ps ++ es)) v ≡ raise (length rs) (length ps) (indexed (rs ++ es) v)
indexed_raise (var p) rs ps es h = elim (is_in p rs) [
  | inl m ↦ (
      let a = before_in p rs (ps ++ es) m in
      let b = before_in p rs es m in
      let e : before p (rs ++ es) < length rs = let z = b.0 in let y = b.1 in omega arith in
      ap index (a.0 ∙ sym b.0) ∙ sym (raise_below (length rs) (length ps) (before p (rs ++ es)) e))
  | inr m ↦ (
      let out : Among p ps → ⊥ = λ z. let y = h p z in let o = one_yes p p refl in omega arith in
      let a = before_out p rs (ps ++ es) m in
      let b = before_out p ps es out in
      let c = before_out p rs es m in
      let d : before p (rs ++ (ps ++ es)) ≡ before p (rs ++ es) + length ps = omega arith in
      ap index d ∙ sym (raise_above (length rs) (length ps) (before p (rs ++ es)) (omega arith)))
]
indexed_raise (item k) rs ps es h = refl
indexed_raise (lam r b) rs ps es h = ap abs (indexed_raise b (r ∷ rs) ps es (λ p m. let i = h p m in omega arith))
indexed_raise (app r f a) rs ps es h =
    ap₂ apply (indexed_raise f rs ps es (λ p m. let i = h p m in omega arith)) (indexed_raise a rs ps es (λ p m. let i = h p m in omega arith))

module _ (q : ℕ) (a : Term) (es : List ℕ) where
  indexed_put : (b : Term) (ps : List ℕ) → (Among q ps → ⊥) → binds q b ≡ 0 → ((p : ℕ) → Among p ps → uses p a ≡ 0) → ((p : ℕ) → 1 ≤ binds p b → uses p a ≡ 0) →
      indexed (ps ++ es) (put q a b) ≡ replace (length ps) (indexed es a) (indexed (ps ++ (q ∷ es)) b)
  indexed_put (var p) ps out e h k = elim (number q p) [
    | inl i ↦ (
        let c : before p (ps ++ (q ∷ es)) ≡ length ps =
        let x = before_out q ps (q ∷ es) out in let y = before_here q q es refl in subst (λ p. before p (ps ++ (q ∷ es)) ≡ length ps) i.0 (omega arith) in
        ap (λ w. indexed (ps ++ es) (elim w [ true ↦ a | false ↦ var p ])) i.1
        ∙ indexed_raise a [] ps es h
        ∙ sym (replace_at (length ps) (indexed es a) (before p (ps ++ (q ∷ es))) c))
    | inr i ↦ ap (λ w. indexed (ps ++ es) (elim w [ true ↦ a | false ↦ var p ])) i.1 ∙ elim (is_in p ps) [
      | inl m ↦ (
          let x = before_in p ps es m in
          let y = before_in p ps (q ∷ es) m in
          let z : before p (ps ++ (q ∷ es)) < length ps = let u = y.0 in let v = y.1 in omega arith in
          ap index (x.0 ∙ sym y.0)
          ∙ sym (replace_below (length ps) (indexed es a) (before p (ps ++ (q ∷ es))) z))
      | inr m ↦ (
          let x = before_out p ps es m in
          let y = before_out p ps (q ∷ es) m in
          let w = before_later p q es (λ z. i.0 (sym z)) in
          let P = before p (ps ++ (q ∷ es)) in
          let u : before p (ps ++ es) ≡ pred P = omega arith in
          ap index u
          ∙ sym (replace_above (length ps) (indexed es a) P (omega arith)))
    ]
  ]
  indexed_put (item k) ps out e h k' = refl
  indexed_put (lam r b) ps out e h k =
      let n : q ≢ r = λ z. let y = one_yes q r z in omega arith in
      let o = one_yes r r refl in
      ap abs (indexed_put b (r ∷ ps) (λ m. elim m [ inl z ↦ n z | inr z ↦ out z ]) (omega arith)
      (λ p m. elim m [ inl z ↦ subst (λ s. uses s a ≡ 0) (sym z) (k r (omega arith)) | inr z ↦ h p z ])
      (λ p z. k p (omega arith)))
  indexed_put (app r f c) ps out e h k =
      ap₂ apply (indexed_put f ps out (omega arith) h (λ p z. k p (omega arith))) (indexed_put c ps out (omega arith) h (λ p z. k p (omega arith)))

-- what a part of a linear term keeps
pub record Tidy (t : Term) : Type 0 where
  pub once : Once t
  pub used : (p : ℕ) → uses p t ≤ 1
  pub bound : (p : ℕ) → binds p t ≤ 1

tidy_body : (r : ℕ) (b : Term) → Tidy (lam r b) → Tidy b
tidy_body r b t = record { once = t.once.1; used = λ p. let h = t.used p in omega arith; bound = λ p. let h = t.bound p in omega arith }

tidy_fun : (r : ℕ) (f a : Term) → Tidy (app r f a) → Tidy f
tidy_fun r f a t = record { once = t.once.0; used = λ p. let h = t.used p in omega arith; bound = λ p. let h = t.bound p in omega arith }

tidy_arg : (r : ℕ) (f a : Term) → Tidy (app r f a) → Tidy a
tidy_arg r f a t = record { once = t.once.1; used = λ p. let h = t.used p in omega arith; bound = λ p. let h = t.bound p in omega arith }

contracted : (r q : ℕ) (b a : Term) (es : List ℕ) → Tidy (app r (lam q b) a) → indexed es (put q a b) ≡ replace 0 (indexed es a) (indexed (q ∷ es) b)
contracted r q b a es t = indexed_put q a es b [] (λ m. m)
    (let h = t.bound q in let o = one_yes q q refl in omega arith)
    (λ p m. absurd m)
    (λ p z. let h = t.used p in let k = t.bound p in let u = bound_used p b t.once.0.1 (omega arith) in omega arith)

pub contracts : {p q : ℕ} {t u : Term} → Beta p q t u → (es : List ℕ) → Tidy t → Contracts (indexed es t) (indexed es u)
contracts {p} {q} (redex {b = b} {a = a}) es t = subst (Contracts (apply (abs (indexed (q ∷ es) b)) (indexed es a))) (sym (contracted p q b a es t)) beta
contracts (within {r = r} {b = b} s) es t = inside (contracts s (r ∷ es) (tidy_body r b t))
contracts (left {r = r} {f = f} {a = a} s) es t = on_left (contracts s es (tidy_fun r f a t))
contracts (right {r = r} {f = f} {a = a} s) es t = on_right (contracts s es (tidy_arg r f a t))

inv_index : {i : ℕ} {c : Indexed} → Contracts (index i) c → ⊥
inv_index s = elim s [ ]

inv_symbol : {k : ℕ} {c : Indexed} → Contracts (symbol k) c → ⊥
inv_symbol s = elim s [ ]

inv_abs : {b c : Indexed} → Contracts (abs b) c → (b' : Indexed) × Contracts b b' × (abs b' ≡ c)
inv_abs (inside {b' = b'} s) = (b', s, refl)

inv_apply : {f a c : Indexed} → Contracts (apply f a) c →
    ((b : Indexed) × (f ≡ abs b) × (replace 0 a b ≡ c)) ⊎ (((f' : Indexed) × Contracts f f' × (apply f' a ≡ c)) ⊎ ((a' : Indexed) × Contracts a a' × (apply f a' ≡ c)))
inv_apply (beta {b = b}) = inl (b, refl, refl)
inv_apply (on_left {f' = f'} s) = inr (inl (f', s, refl))
inv_apply (on_right {a' = a'} s) = inr (inr (a', s, refl))

is_lam : (es : List ℕ) (f : Term) (b : Indexed) → indexed es f ≡ abs b → (q : ℕ) × (d : Term) × (f ≡ lam q d) × (indexed (q ∷ es) d ≡ b)
is_lam es (var p) b e = let z : ◌≡◌ {A = ℕ} 0 1 = cc in absurd (omega arith)
is_lam es (item k) b e = let z : ◌≡◌ {A = ℕ} 0 1 = cc in absurd (omega arith)
is_lam es (lam q d) b e = (q, d, refl, cc)
is_lam es (app p f a) b e = let z : ◌≡◌ {A = ℕ} 0 1 = cc in absurd (omega arith)

abbrev Reflects : List ℕ → Term → Indexed → Type 0
Reflects es t c = (p : ℕ) × (q : ℕ) × (u : Term) × Beta p q t u × (indexed es u ≡ c)

head_redex : (r : ℕ) (f a : Term) (es : List ℕ) → Tidy (app r f a) → (c b : Indexed) → indexed es f ≡ abs b → replace 0 (indexed es a) b ≡ c → Reflects es (app r f a) c
head_redex r f a es t c b e h =
    let (q, d, i, j) = is_lam es f b e in
    subst (λ f. Reflects es (app r f a) c) (sym i)
    (r, q, put q a d, redex, contracted r q d a es (subst (λ f. Tidy (app r f a)) i t) ∙ ap (replace 0 (indexed es a)) j ∙ h)

pub reflects : (t : Term) (es : List ℕ) → Tidy t → (c : Indexed) → Contracts (indexed es t) c → Reflects es t c
reflects (var p) es t c s = absurd (inv_index s)
reflects (item k) es t c s = absurd (inv_symbol s)
reflects (lam r b) es t c s =
    let (b', s', e) = inv_abs s in
    let (p, q, u, w, i) = reflects b (r ∷ es) (tidy_body r b t) b' s' in
    (p, q, lam r u, within w, ap abs i ∙ e)
reflects (app r f a) es t c s = elim (inv_apply s) [
  | inl h ↦ head_redex r f a es t c h.0 h.1 h.2
  | inr h ↦ elim h [
    | inl i ↦ (let (p, q, u, w, j) = reflects f es (tidy_fun r f a t) i.0 i.1 in (p, q, app r u a, left w, ap (λ z. apply z (indexed es a)) j ∙ i.2))
    | inr i ↦ (let (p, q, u, w, j) = reflects a es (tidy_arg r f a t) i.0 i.1 in (p, q, app r f u, right w, ap (apply (indexed es f)) j ∙ i.2))
  ]
]

pub textbook_beta_lem : TextbookBeta
textbook_beta_lem n t l = record { there = λ p q u s. contracts s [] tidy; back = reflects t [] tidy }
  where
    tidy : Tidy t
    tidy = record { once = l.once; used = λ p. let a = l.closed p in let b = l.apart p in omega arith; bound = λ p. let b = l.apart p in omega arith }
