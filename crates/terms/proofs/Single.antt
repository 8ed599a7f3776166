-- For every text at most one fault is due, and none where it is a linear term within the limits.
use Rattle.std.proofs.Common.{◌≡◌, ℕ, zero, suc, ◌+◌, ◌-◌, ◌<◌, ◌≤◌, ◌⊎◌, List, [], ◌∷◌, ◌++◌, length, get_or, sym, refl, ap, ◌∙◌, subst, inl, inr, arith}
use Rattle.std.specs.List.{ContainsAt as Has}
use Rattle.std.proofs.lemmas.List.{length-append, get_or_append_left, get_or-append_right}
use Rattle.std.proofs.lemmas.Bool.{cases_lt, cases_order}
use Rattle.refusals.specs.declared.faults.TextFault.{TextFault}
use Rattle.terms.specs.Letters.{Outside}
use Rattle.terms.specs.Named.{Named, bound, item, lam, app, written, Spelt, Grammatical}
use Rattle.terms.specs.Bindings.{Meaning, nothing, Around, uses, IsUnbound, IsUsedAgain, IsUnused, LinearNamed}
use Rattle.terms.specs.Texts.{most_bytes, First, IsLarge, IsMisused, Reads, Due, OneAnswer}
use Rattle.terms.proofs.Exact.{one_term_lem}

pub has_append : {X : Type 0} (xs ys : List X) (x : X) → Has (xs ++ ys) x → Has xs x ⊎ Has ys x
has_append xs ys x h =
    let n = length-append xs ys in
    elim (cases_lt h.0 (length xs)) [
      | inl m ↦ inl (h.0, m, λ d. sym (get_or_append_left xs ys d h.0 m) ∙ h.2 d)
      | inr m ↦ inr (h.0 - length xs, omega (arith, h.1), λ d. sym (get_or-append_right xs ys (length xs) h.0 d refl m) ∙ h.2 d)
    ]

pub has_one : {X : Type 0} (y x : X) → Has (y ∷ []) x → y ≡ x
has_one y x h = go h.0 h.1 (h.2 y)
  where
    go : (k : ℕ) → k < 1 → get_or (y ∷ []) k y ≡ x → y ≡ x
    go zero l e = e
    go (suc k) l e = absurd (omega arith)

-- a term's uses stand in its text
ranged : (t : Named) → Spelt t → (es : Around) (p : ℕ) (m : Meaning) (q : ℕ) → Has (uses es p t) (m, q) → (p ≤ q) × (q < p + length (written t))
ranged (bound w) g es p m q h = let e : p ≡ q = ap (λ r. r.1) (has_one _ _ h) in (omega arith, omega (arith, g.some))
ranged (item w) g es p m q h = let e : p ≡ q = ap (λ r. r.1) (has_one _ _ h) in (omega arith, omega (arith, g.some))
ranged (lam w b) g es p m q h =
    let r = ranged b g.1 _ (p + (length w + 2)) m q h in
    let n = length-append w (46 ∷ written b) in
    (omega arith, omega arith)
ranged (app f a) g es p m q h =
    let n = length-append (written f) (32 ∷ (written a ++ 41 ∷ [])) in
    let k = length-append (written a) (41 ∷ []) in
    elim (has_append _ _ _ h) [
      | inl i ↦ (let r = ranged f g.0 es (p + 1) m q i in (omega arith, omega arith))
      | inr i ↦ (let r = ranged a g.1 es (p + (length (written f) + 2)) m q i in (omega arith, omega arith))
    ]

-- at one place there is one use
one_use : (t : Named) → Spelt t → (es : Around) (p : ℕ) (m n : Meaning) (q : ℕ) → Has (uses es p t) (m, q) → Has (uses es p t) (n, q) → m ≡ n
one_use (bound w) g es p m n q h k = sym (ap (λ r. r.0) (has_one _ _ h)) ∙ ap (λ r. r.0) (has_one _ _ k)
one_use (item w) g es p m n q h k = sym (ap (λ r. r.0) (has_one _ _ h)) ∙ ap (λ r. r.0) (has_one _ _ k)
one_use (lam w b) g es p m n q h k = one_use b g.1 _ (p + (length w + 2)) m n q h k
one_use (app f a) g es p m n q h k =
    elim (has_append _ _ _ h) [
      | inl i ↦ elim (has_append _ _ _ k) [
        | inl j ↦ one_use f g.0 es (p + 1) m n q i j
        | inr j ↦ (
            let r = ranged f g.0 es (p + 1) m q i in
            let s = ranged a g.1 es (p + (length (written f) + 2)) n q j in
            absurd (omega arith))
      ]
      | inr i ↦ elim (has_append _ _ _ k) [
        | inl j ↦ (
            let r = ranged f g.0 es (p + 1) n q j in
            let s = ranged a g.1 es (p + (length (written f) + 2)) m q i in
            absurd (omega arith))
        | inr j ↦ one_use a g.1 es (p + (length (written f) + 2)) m n q i j
      ]
    ]

first_one : (P : ℕ → Type 0) (p q : ℕ) → First P p → First P q → p ≡ q
first_one P p q f g =
    elim (cases_order p q) [
      | inl e ↦ e
      | inr (inl l) ↦ absurd (g.1 p l f.0)
      | inr (inr l) ↦ absurd (f.1 q l g.0)
    ]

-- a name with no abstraction is no second use
not_both : (t : Named) → Spelt t → (q : ℕ) → IsUnbound t q → IsUsedAgain t q → ⊥
not_both t g q u a = a.2 (one_use t g [] 0 a.0 nothing q a.5 u)

-- what is due for a term
abbrev Inner : Named → TextFault → Type 0
Inner t TextFault.TooLong = ⊥
Inner t (TextFault.Grammar p) = ⊥
Inner t (TextFault.Unbound p) = First (IsMisused t) p × IsUnbound t p
Inner t (TextFault.UsedTwice p) = First (IsMisused t) p × IsUsedAgain t p
Inner t (TextFault.Unused p) = ((q : ℕ) → IsMisused t q → ⊥) × First (IsUnused t) p
Inner t TextFault.TooLarge = LinearNamed t × IsLarge t

misused : (t : Named) → LinearNamed t → (q : ℕ) → IsMisused t q → ⊥
misused t l q (inl u) = l.closed q u
misused t l q (inr a) = l.once q a

inner_one : (t : Named) → Spelt t → (f g : TextFault) → Inner t f → Inner t g → f ≡ g
inner_one t s TextFault.TooLong g h k = absurd h
inner_one t s (TextFault.Grammar p) g h k = absurd h
inner_one t s (TextFault.Unbound p) TextFault.TooLong h k = absurd k
inner_one t s (TextFault.Unbound p) (TextFault.Grammar q) h k = absurd k
inner_one t s (TextFault.Unbound p) (TextFault.Unbound q) h k = ap TextFault.Unbound (first_one _ p q h.0 k.0)
inner_one t s (TextFault.Unbound p) (TextFault.UsedTwice q) h k =
    let e = first_one _ p q h.0 k.0 in absurd (not_both t s q (subst (IsUnbound t) e h.1) k.1)
inner_one t s (TextFault.Unbound p) (TextFault.Unused q) h k = absurd (k.0 p h.0.0)
inner_one t s (TextFault.Unbound p) TextFault.TooLarge h k = absurd (misused t k.0 p h.0.0)
inner_one t s (TextFault.UsedTwice p) TextFault.TooLong h k = absurd k
inner_one t s (TextFault.UsedTwice p) (TextFault.Grammar q) h k = absurd k
inner_one t s (TextFault.UsedTwice p) (TextFault.Unbound q) h k =
    let e = first_one _ p q h.0 k.0 in absurd (not_both t s q k.1 (subst (IsUsedAgain t) e h.1))
inner_one t s (TextFault.UsedTwice p) (TextFault.UsedTwice q) h k = ap TextFault.UsedTwice (first_one _ p q h.0 k.0)
inner_one t s (TextFault.UsedTwice p) (TextFault.Unused q) h k = absurd (k.0 p h.0.0)
inner_one t s (TextFault.UsedTwice p) TextFault.TooLarge h k = absurd (misused t k.0 p h.0.0)
inner_one t s (TextFault.Unused p) TextFault.TooLong h k = absurd k
inner_one t s (TextFault.Unused p) (TextFault.Grammar q) h k = absurd k
inner_one t s (TextFault.Unused p) (TextFault.Unbound q) h k = absurd (h.0 q k.0.0)
inner_one t s (TextFault.Unused p) (TextFault.UsedTwice q) h k = absurd (h.0 q k.0.0)
inner_one t s (TextFault.Unused p) (TextFault.Unused q) h k = ap TextFault.Unused (first_one _ p q h.1 k.1)
inner_one t s (TextFault.Unused p) TextFault.TooLarge h k = absurd (k.0.used p h.1.0)
inner_one t s TextFault.TooLarge TextFault.TooLong h k = absurd k
inner_one t s TextFault.TooLarge (TextFault.Grammar q) h k = absurd k
inner_one t s TextFault.TooLarge (TextFault.Unbound q) h k = absurd (misused t h.0 q k.0.0)
inner_one t s TextFault.TooLarge (TextFault.UsedTwice q) h k = absurd (misused t h.0 q k.0.0)
inner_one t s TextFault.TooLarge (TextFault.Unused q) h k = absurd (h.0.used q k.1.0)
inner_one t s TextFault.TooLarge TextFault.TooLarge h k = refl

-- none is due for a linear term within the limits
inner_right : (t : Named) → LinearNamed t → (IsLarge t → ⊥) → (f : TextFault) → Inner t f → ⊥
inner_right t l n TextFault.TooLong h = h
inner_right t l n (TextFault.Grammar p) h = h
inner_right t l n (TextFault.Unbound p) h = misused t l p h.0.0
inner_right t l n (TextFault.UsedTwice p) h = misused t l p h.0.0
inner_right t l n (TextFault.Unused p) h = l.used p h.1.0
inner_right t l n TextFault.TooLarge h = n h.1

-- the three stages
data Stage (text : List ℕ) (f : TextFault) : Type 0 where
  long : f ≡ TextFault.TooLong → most_bytes < length text → Stage text f
  ungrammatical : (p : ℕ) → f ≡ TextFault.Grammar p → length text ≤ most_bytes → Outside Grammatical text p → Stage text f
  of_term : length text ≤ most_bytes → (t : Named) → Spelt t → written t ≡ text → Inner t f → Stage text f

stage : (text : List ℕ) (f : TextFault) → Due text f → Stage text f
stage text TextFault.TooLong d = long refl d
stage text (TextFault.Grammar p) d = ungrammatical p refl d.0 d.1
stage text (TextFault.Unbound p) d = of_term d.0 d.1.0 d.1.1 d.1.2 d.1.3
stage text (TextFault.UsedTwice p) d = of_term d.0 d.1.0 d.1.1 d.1.2 d.1.3
stage text (TextFault.Unused p) d = of_term d.0 d.1.0 d.1.1 d.1.2 d.1.3
stage text TextFault.TooLarge d = of_term d.0 d.1.0 d.1.1 d.1.2 d.1.3

outside_one : (G : List ℕ → Type 0) (text : List ℕ) (p q : ℕ) → Outside G text p → Outside G text q → p ≡ q
outside_one G text p q h k =
    elim (cases_order p q) [
      | inl e ↦ e
      | inr (inl l) ↦ absurd (h.longest q l k.inside k.begun.0 k.begun.1)
      | inr (inr l) ↦ absurd (k.longest p l h.inside h.begun.0 h.begun.1)
    ]

staged_one : (text : List ℕ) (f g : TextFault) → Stage text f → Stage text g → f ≡ g
staged_one text f g (long e l) (long d k) = e ∙ sym d
staged_one text f g (long e l) (ungrammatical q d k o) = absurd (omega arith)
staged_one text f g (long e l) (of_term k t s w i) = absurd (omega arith)
staged_one text f g (ungrammatical p e l o) (long d k) = absurd (omega arith)
staged_one text f g (ungrammatical p e l o) (ungrammatical q d k n) = e ∙ ap TextFault.Grammar (outside_one Grammatical text p q o n) ∙ sym d
staged_one text f g (ungrammatical p e l o) (of_term k t s w i) = absurd (o.wrong (t, s, w))
staged_one text f g (of_term k t s w i) (long d l) = absurd (omega arith)
staged_one text f g (of_term k t s w i) (ungrammatical p e l o) = absurd (o.wrong (t, s, w))
staged_one text f g (of_term k t s w i) (of_term l u r v j) =
    inner_one t s f g i (subst (λ x. Inner x g) (one_term_lem u t r s (v ∙ sym w)) j)

staged_right : (text : List ℕ) (f : TextFault) (t : Named) → Stage text f → Reads text t → ⊥
staged_right text f t (long e l) r = omega (arith, r.short)
staged_right text f t (ungrammatical p e l o) r = o.wrong (t, r.spelt, r.written)
staged_right text f t (of_term k u s w i) r =
    inner_right t r.linear r.small f (subst (λ x. Inner x f) (one_term_lem u t s r.spelt (w ∙ sym r.written)) i)

pub one_answer : (text : List ℕ) → OneAnswer text
one_answer text = record {
  one = λ f g d e. staged_one text f g (stage text f d) (stage text g e);
  right = λ f t d r. staged_right text f t (stage text f d) r;
  term = λ t u r s. one_term_lem t u r.spelt s.spelt (r.written ∙ sym s.written);
}
