-- How often places stand in a list. Assumes nothing.
use Rattle.std.proofs.Common.{◌≡◌, ℕ, zero, suc, ◌+◌, ◌≤◌, Bool, true, false, cond, eqb, ◌≢◌, ◌⊎◌, List, [], ◌∷◌, ◌++◌, map, sym, refl, ap, ◌∙◌, subst, ap₂, inl, inr, arith}
use Rattle.std.proofs.lemmas.List.Sums.{sum_by-cons, sum_by-append}
use Rattle.std.proofs.lemmas.Bool.{eqb-true, eq-eqb, and_parts, and_from, cases_Bool}
use Rattle.strategies.specs.declared.pair.Pair.{Pair as Waiting}
use Rattle.ledger.specs.Places.{Places, are, times_out, times_waiting, without}
use Rattle.ledger.proofs.Members.{In}

-- places of a waiting pair
abbrev pub spot : Waiting → Places
spot p = (p.left, p.right)

pub are_same : (x y : Places) → are x y ≡ true → x ≡ y
are_same x y e =
    let h = and_parts (eqb x.0 y.0) (eqb x.1 y.1) e in
    let a = eqb-true x.0 y.0 h.0 in
    let b = eqb-true x.1 y.1 h.1 in
    ap₂ (λ (u v : ℕ). (u, v)) a b

pub same_are : (x y : Places) → x ≡ y → are x y ≡ true
same_are x y e = and_from (eqb x.0 y.0) (eqb x.1 y.1) (eq-eqb x.0 y.0 (ap (λ (z : Places). z.0) e)) (eq-eqb x.1 y.1 (ap (λ (z : Places). z.1) e))

-- the same or not
pub decide : (x y : Places) → ((x ≡ y) × (are x y ≡ true)) ⊎ ((x ≢ y) × (are x y ≡ false))
decide x y = elim (cases_Bool (are x y)) [
  | inl e ↦ inl (are_same x y e, e)
  | inr e ↦ inr (λ z. (let t : true ≡ false = sym (same_are x y z) ∙ e in let w : ◌≡◌ {A = ℕ} 0 1 = cc in omega arith), e)
]

abbrev pub one : Places → Places → ℕ
one x y = cond (are x y) 1 0

pub one_same : (x y : Places) → x ≡ y → one x y ≡ 1
one_same x y e = ap (λ (b : Bool). cond b 1 0) (same_are x y e)

pub one_other : (x y : Places) → x ≢ y → one x y ≡ 0
one_other x y n = elim (decide x y) [ inl h ↦ absurd (n h.0) | inr h ↦ ap (λ (b : Bool). cond b 1 0) h.1 ]

pub out_cons : (x y : Places) (ys : List Places) → times_out x (y ∷ ys) ≡ one x y + times_out x ys
out_cons x y ys = sum_by-cons (one x) y ys

pub waiting-cons : (x : Places) (p : Waiting) (ps : List Waiting) → times_waiting x (p ∷ ps) ≡ one x (spot p) + times_waiting x ps
waiting-cons x p ps = sum_by-cons (λ (q : Waiting). one x (spot q)) p ps

pub out_append : (x : Places) (xs ys : List Places) → times_out x (xs ++ ys) ≡ times_out x xs + times_out x ys
out_append x xs ys = sum_by-append (one x) xs ys

pub waiting-append : (x : Places) (ps qs : List Waiting) → times_waiting x (ps ++ qs) ≡ times_waiting x ps + times_waiting x qs
waiting-append x ps qs = sum_by-append (λ (q : Waiting). one x (spot q)) ps qs

-- waiting pairs by their places
pub spots_times : (x : Places) (ps : List Waiting) → times_out x (map spot ps) ≡ times_waiting x ps
spots_times x [] = refl
spots_times x (p ∷ ps) = out_cons x (spot p) (map spot ps) ∙ ap (λ (n : ℕ). one x (spot p) + n) (spots_times x ps) ∙ sym (waiting-cons x p ps)

-- in the list, and how often
pub in_times : (x : Places) (ys : List Places) → In x ys → 1 ≤ times_out x ys
in_times x [] h = absurd h
in_times x (y ∷ ys) (inl e) = let a = out_cons x y ys in let b = one_same x y e in omega arith
in_times x (y ∷ ys) (inr h) = let a = out_cons x y ys in let b = in_times x ys h in omega arith

pub times_in : (x : Places) (ys : List Places) → 1 ≤ times_out x ys → In x ys
times_in x [] h = absurd (omega arith)
times_in x (y ∷ ys) h = elim (decide x y) [
  | inl t ↦ inl t.0
  | inr t ↦ inr (times_in x ys (let a = out_cons x y ys in let b = one_other x y t.0 in omega arith))
]

pub in_waiting : (x : Places) (ps : List Waiting) → 1 ≤ times_waiting x ps → (p : Waiting) × In p ps × (x ≡ spot p)
in_waiting x [] h = absurd (omega arith)
in_waiting x (p ∷ ps) h = elim (decide x (spot p)) [
  | inl t ↦ (p, inl refl, t.0)
  | inr t ↦ (let r = in_waiting x ps (let a = waiting-cons x p ps in let b = one_other x (spot p) t.0 in omega arith) in (r.0, inr r.1, r.2))
]

pub waiting_in : (x : Places) (p : Waiting) (ps : List Waiting) → In p ps → x ≡ spot p → 1 ≤ times_waiting x ps
waiting_in x p [] h e = absurd h
waiting_in x p (q ∷ qs) (inl z) e = let a = waiting-cons x q qs in let b = one_same x (spot q) (e ∙ ap spot z) in omega arith
waiting_in x p (q ∷ qs) (inr h) e = let a = waiting-cons x q qs in let b = waiting_in x p qs h e in omega arith

-- without the first of them
pub without_times : (x z : Places) (ys : List Places) → In x ys → one z x + times_out z (without x ys) ≡ times_out z ys
without_times x z [] h = absurd h
without_times x z (y ∷ ys) h = elim (decide x y) [
  | inl t ↦
      (let a = ap (λ (b : Bool). times_out z (cond b ys (y ∷ without x ys))) t.1 in
      let b = out_cons z y ys in
      let c = ap (one z) t.0 in
      omega arith)
  | inr t ↦
      (let a = ap (λ (b : Bool). times_out z (cond b ys (y ∷ without x ys))) t.1 in
      let b = out_cons z y ys in
      let c = out_cons z y (without x ys) in
      let d = without_times x z ys (later x y ys t.0 h) in
      omega arith)
]
  where
    later : (x y : Places) (ys : List Places) → x ≢ y → In x (y ∷ ys) → In x ys
    later x y ys n (inl e) = absurd (n e)
    later x y ys n (inr i) = i

pub without_in : (x z : Places) (ys : List Places) → In z (without x ys) → In z ys
without_in x z [] h = h
without_in x z (y ∷ ys) h = elim (decide x y) [
  | inl t ↦ inr (subst (λ (b : Bool). In z (cond b ys (y ∷ without x ys))) t.1 h)
  | inr t ↦ go (without_in x z ys) (subst (λ (b : Bool). In z (cond b ys (y ∷ without x ys))) t.1 h)
]
  where
    go : (In z (without x ys) → In z ys) → (z ≡ y) ⊎ In z (without x ys) → In z (y ∷ ys)
    go f (inl e) = inl e
    go f (inr i) = inr (f i)

pub without_other : (x z : Places) (ys : List Places) → z ≢ x → In z ys → In z (without x ys)
without_other x z ys n h = elim (decide_in (times_out x ys)) [
  | inl e ↦ times_in z (without x ys) (let a = without_times x z ys (times_in x ys e) in let b = one_other z x n in let c = in_times z ys h in omega arith)
  | inr e ↦ times_in z (without x ys) (let a = absent x ys e in let b = ap (times_out z) a in let c = in_times z ys h in omega arith)
]
  where
    decide_in : (n : ℕ) → (1 ≤ n) ⊎ (n ≡ 0)
    decide_in zero = inr refl
    decide_in (suc n) = inl (omega arith)

    absent : (x : Places) (ys : List Places) → times_out x ys ≡ 0 → without x ys ≡ ys
    absent x [] e = refl
    absent x (y ∷ ys) e = elim (decide x y) [
      | inl t ↦ absurd (let a = out_cons x y ys in let b = one_same x y t.0 in let w : ⊥ = omega arith in w)
      | inr t ↦ ap (λ (b : Bool). cond b ys (y ∷ without x ys)) t.1 ∙ ap (λ (zs : List Places). y ∷ zs) (absent x ys (let a = out_cons x y ys in omega arith))
    ]
