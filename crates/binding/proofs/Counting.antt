-- Counting the uses of a term with names. Assumes nothing.
use Rattle.std.proofs.Common.{◌≡◌, ℕ, suc, ◌+◌, ◌<◌, ◌≤◌, true, false, cond, ◌≢◌, ◌⊎◌, List, [], ◌∷◌, ◌++◌, length, sym, refl, ap, ◌∙◌, subst, inl, inr, arith}
use Rattle.std.specs.List.{ContainsAt as Has}
use Rattle.std.specs.Str.{bytes_eq}
use Rattle.std.proofs.ByRecursion.{has_append_right}
use Rattle.std.proofs.lemmas.Slice.Eq.{bytes_eq-Decides}
use Rattle.std.proofs.lemmas.List.{length-append}
use Rattle.std.proofs.lemmas.Bool.{cases_lt, cases_Bool, cond-true, cond-false}
use Rattle.lambda.specs.Terms.{one}
use Rattle.lambda.proofs.Counts.{number, one_yes, one_no}
use Rattle.terms.specs.Named.{Named, bound, item, lam, app, written}
use Rattle.terms.specs.Bindings.{Meaning, variable, listed, nothing, Around, uses, binders, LinearNamed}
use Rattle.terms.specs.Tallying.{Uses}
use Rattle.terms.proofs.Single.{has_append, has_one}

-- the first of a list, or one of the others
pub has_cons : {X : Type 0} (y : X) (xs : List X) (x : X) → Has (y ∷ xs) x → (y ≡ x) ⊎ Has xs x
has_cons y xs x h = elim (has_append (y ∷ []) xs x h) [ inl i ↦ inl (has_one y x i) | inr i ↦ inr i ]

pub has_first : {X : Type 0} (y : X) (xs : List X) → Has (y ∷ xs) y
has_first y xs = (0, omega arith, λ d. refl)

pub has_later : {X : Type 0} (y : X) (xs : List X) (x : X) → Has xs x → Has (y ∷ xs) x
has_later y xs x h = has_append_right (y ∷ []) xs x h

-- ── totals ──

abbrev pub total : (Meaning → ℕ) → Uses → ℕ
total f [] = 0
total f (u ∷ us) = f u.0 + total f us

pub total_append : (f : Meaning → ℕ) (us vs : Uses) → total f (us ++ vs) ≡ total f us + total f vs
total_append f [] vs = omega arith
total_append f (u ∷ us) vs = let h = total_append f us vs in omega arith

-- 1 for one meaning, and 0 for all others
abbrev pub of_variable : ℕ → Meaning → ℕ
of_variable q (variable x) = one q x
of_variable q (listed w) = 0
of_variable q nothing = 0

abbrev pub of_item : List ℕ → Meaning → ℕ
of_item w (variable x) = 0
of_item w (listed v) = cond (bytes_eq w v) 1 0
of_item w nothing = 0

abbrev pub of_nothing : Meaning → ℕ
of_nothing (variable x) = 0
of_nothing (listed w) = 0
of_nothing nothing = 1

pub record Tells (f : Meaning → ℕ) (M : Meaning) : Type 0 where
  pub here : f M ≡ 1
  pub other : (m : Meaning) → ((m ≡ M) × (f m ≡ 1)) ⊎ (f m ≡ 0)

pub same_yes : (w : List ℕ) → bytes_eq w w ≡ true
same_yes w = (bytes_eq-Decides w w).1 refl

pub same_no : (w v : List ℕ) → (w ≡ v → ⊥) → bytes_eq w v ≡ false
same_no w v n = elim (cases_Bool (bytes_eq w v)) [ inl e ↦ absurd (n ((bytes_eq-Decides w v).0 e)) | inr e ↦ e ]

pub tells_variable : (q : ℕ) → Tells (of_variable q) (variable q)
tells_variable q = record { here = one_yes q q refl; other = go }
  where
    go : (m : Meaning) → ((m ≡ variable q) × (of_variable q m ≡ 1)) ⊎ (of_variable q m ≡ 0)
    go (variable x) = elim (number q x) [ inl e ↦ inl (ap variable (sym e.0), one_yes q x e.0) | inr e ↦ inr (one_no q x e.0) ]
    go (listed w) = inr refl
    go nothing = inr refl

pub tells_item : (w : List ℕ) → Tells (of_item w) (listed w)
tells_item w = record { here = cond-true (bytes_eq w w) 1 0 (same_yes w); other = go }
  where
    go : (m : Meaning) → ((m ≡ listed w) × (of_item w m ≡ 1)) ⊎ (of_item w m ≡ 0)
    go (variable x) = inr refl
    go (listed v) = elim (cases_Bool (bytes_eq w v)) [
      | inl e ↦ inl (ap listed (sym ((bytes_eq-Decides w v).0 e)), cond-true (bytes_eq w v) 1 0 e)
      | inr e ↦ inr (cond-false (bytes_eq w v) 1 0 e)
    ]
    go nothing = inr refl

pub tells_nothing : Tells of_nothing nothing
tells_nothing = record { here = refl; other = go }
  where
    go : (m : Meaning) → ((m ≡ nothing) × (of_nothing m ≡ 1)) ⊎ (of_nothing m ≡ 0)
    go (variable x) = inr refl
    go (listed w) = inr refl
    go nothing = inl (refl, refl)

-- ── uses stand one after the other ──

-- each use stands after the one before it, from place p on and before place e
abbrev pub Rising : ℕ → ℕ → Uses → Type 0
Rising p e [] = p ≤ e
Rising p e (u ∷ us) = (p ≤ u.1) × Rising (suc u.1) e us

rising_wider : (us : Uses) (p r e s : ℕ) → r ≤ p → e ≤ s → Rising p e us → Rising r s us
rising_wider [] p r e s l m h = omega arith
rising_wider (u ∷ us) p r e s l m h = (omega (arith, h.0), rising_wider us (suc u.1) (suc u.1) e s (omega arith) m h.1)

rising-append : (us vs : Uses) (p e s : ℕ) → Rising p e us → Rising e s vs → Rising p s (us ++ vs)
rising-append [] vs p e s h k = rising_wider vs e p s s h (omega arith) k
rising-append (u ∷ us) vs p e s h k = (h.0, rising-append us vs (suc u.1) e s h.1 k)

rising_uses : (t : Named) (es : Around) (p : ℕ) → Rising p (p + length (written t) + 1) (uses es p t)
rising_uses (bound w) es p = (omega arith, omega arith)
rising_uses (item w) es p = (omega arith, omega arith)
rising_uses (lam w b) es p =
    let n = length-append w (46 ∷ written b) in
    rising_wider _ (p + (length w + 2)) p (p + (length w + 2) + length (written b) + 1) _ (omega arith) (omega arith) (rising_uses b ((w, p + 1) ∷ es) (p + (length w + 2)))
rising_uses (app f a) es p =
    let n = length-append (written f) (32 ∷ (written a ++ 41 ∷ [])) in
    let k = length-append (written a) (41 ∷ []) in
    rising-append (uses es (p + 1) f) (uses es (p + (length (written f) + 2)) a) p (p + (length (written f) + 2)) _
    (rising_wider _ (p + 1) p (p + 1 + length (written f) + 1) _ (omega arith) (omega arith) (rising_uses f es (p + 1)))
    (rising_wider _ (p + (length (written f) + 2)) _ (p + (length (written f) + 2) + length (written a) + 1) _ (omega arith) (omega arith) (rising_uses a es (p + (length (written f) + 2))))

rising_low : (us : Uses) (p e : ℕ) → Rising p e us → (m : Meaning) (q : ℕ) → Has us (m, q) → p ≤ q
rising_low [] p e h m q i = absurd (omega (arith, i.1))
rising_low (u ∷ us) p e h m q i = elim (has_cons u us (m, q) i) [
  | inl s ↦ (let z : u.1 ≡ q = ap (λ r. r.1) s in let l = h.0 in omega arith)
  | inr j ↦ (let k = rising_low us (suc u.1) e h.1 m q j in let l = h.0 in omega arith)
]

-- ── what totals tell ──

module _ (f : Meaning → ℕ) (M : Meaning) (tells : Tells f M) where
  pub has_total : (us : Uses) (q : ℕ) → Has us (M, q) → 1 ≤ total f us
  has_total [] q h = absurd (omega (arith, h.1))
  has_total (u ∷ us) q h = elim (has_cons u us (M, q) h) [
    | inl e ↦ (let z : f u.0 ≡ 1 = ap (λ r. f r.0) e ∙ tells.here in omega arith)
    | inr i ↦ (let k = has_total us q i in omega arith)
  ]

  pub total_has : (us : Uses) → 1 ≤ total f us → (q : ℕ) × Has us (M, q)
  total_has [] h = absurd (omega arith)
  total_has (u ∷ us) h = elim (tells.other u.0) [
    | inl e ↦ (u.1, subst (λ m. Has (u ∷ us) (m, u.1)) e.0 (has_first u us))
    | inr z ↦ (let k = total_has us (omega arith) in (k.0, has_later u us _ k.1))
  ]

  pub total_again : (us : Uses) (p e : ℕ) → Rising p e us → 2 ≤ total f us → (r : ℕ) × (q : ℕ) × Has us (M, r) × (r < q) × Has us (M, q)
  total_again [] p e g h = absurd (omega arith)
  total_again (u ∷ us) p e g h = elim (tells.other u.0) [
    | inl s ↦ (
        let z = s.1 in
        let k = total_has us (omega arith) in
        let l = rising_low us (suc u.1) e g.1 M k.0 k.1 in
        (u.1, k.0, subst (λ m. Has (u ∷ us) (m, u.1)) s.0 (has_first u us), omega arith, has_later u us _ k.1))
    | inr z ↦ (let k = total_again us (suc u.1) e g.1 (omega arith) in (k.0, k.1, has_later u us _ k.2, k.3, has_later u us _ k.4))
  ]

-- in a linear term nothing is used twice, every abstraction's variable is used, and every name is bound
module _ (t : Named) (l : LinearNamed t) where
  at_most : (f : Meaning → ℕ) (M : Meaning) → Tells f M → M ≢ nothing → total f (uses [] 0 t) ≤ 1
  at_most f M tells n = elim (cases_lt 1 (total f (uses [] 0 t))) [
    | inl h ↦ (let a = total_again f M tells (uses [] 0 t) 0 _ (rising_uses t [] 0) h in absurd (l.once a.1 (M, a.0, n, a.2, a.3, a.4)))
    | inr h ↦ h
  ]

  pub variable_once : (q : ℕ) → Has (binders 0 t) q → total (of_variable q) (uses [] 0 t) ≡ 1
  variable_once q h =
      let m = at_most (of_variable q) (variable q) (tells_variable q) (λ e. let z : ◌≡◌ {A = ℕ} 0 1 = cc in omega arith) in
      elim (cases_lt 0 (total (of_variable q) (uses [] 0 t))) [
        | inl s ↦ omega arith
        | inr s ↦ absurd (l.used q (h, λ p u. let k = has_total (of_variable q) (variable q) (tells_variable q) (uses [] 0 t) p u in omega arith))
      ]

  pub item_once : (w : List ℕ) → total (of_item w) (uses [] 0 t) ≤ 1
  item_once w = at_most (of_item w) (listed w) (tells_item w) (λ e. let z : ◌≡◌ {A = ℕ} 0 1 = cc in omega arith)

  pub all_bound : total of_nothing (uses [] 0 t) ≡ 0
  all_bound = elim (cases_lt 0 (total of_nothing (uses [] 0 t))) [
    | inl s ↦ (let k = total_has of_nothing nothing tells_nothing (uses [] 0 t) s in absurd (l.closed k.0 k.1))
    | inr s ↦ omega arith
  ]
