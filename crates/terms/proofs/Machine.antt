-- The reading byte by byte takes just the texts of the grammar.
use Rattle.std.proofs.Common.{◌≡◌, ℕ, suc, ◌+◌, ◌<◌, ◌≤◌, true, false, eqb, ltb, leb, List, [], ◌∷◌, ◌++◌, length, get_or, Some, sym, refl, ap, ◌∙◌, subst, append_assoc, arith}
use Rattle.std.proofs.lemmas.List.{length-append, append-nil}
use Rattle.std.proofs.lemmas.Bool.{cond-true, cond-false, lt-ltb, and_parts, and_left, leb-true, lt-leb, ne_eqb}
use Rattle.terms.specs.declared.scanner.Kind.{Kind}
use Rattle.terms.specs.Letters.{letter, small, capital, Word}
use Rattle.terms.specs.Named.{Named, bound, item, lam, app, written, Spelt}
use Rattle.terms.specs.Scanning.{Frame, function, argument, body, State, want, binder, name, thing, done, stuck, spaced, closed, ended, step, run, whole, first_letter, spelling}
use Rattle.terms.proofs.Steps.{letter_step}

pub run-append : (s : State) (xs ys : List ℕ) → run s (xs ++ ys) ≡ run (run s xs) ys
run-append s [] ys = refl
run-append s (x ∷ xs) ys = run-append (step s x) xs ys

pub run_stuck : (xs : List ℕ) → run stuck xs ≡ stuck
run_stuck [] = refl
run_stuck (x ∷ xs) = run_stuck xs

-- letters of a word lengthen what is read
abbrev Letters : ℕ → List ℕ → Type 0
Letters first [] = Unit {0}
Letters first (b ∷ w) = (letter first b ≡ true) × Letters first w

letters_of : (first : ℕ) (w : List ℕ) → ((k : ℕ) → k < length w → letter first (get_or w k 0) ≡ true) → Letters first w
letters_of first [] h = tt
letters_of first (b ∷ w) h = (h 0 (omega arith), letters_of first w (λ k l. h (suc k) (omega arith)))

word_more : (k : Kind) (v w : List ℕ) (ks : List Frame) → length v + length w ≤ 8 → Letters (first_letter k) w → run (spelling k v ks) w ≡ spelling k (v ++ w) ks
word_more k v [] ks l h = ap (λ u. spelling k u ks) (sym (append-nil v))
word_more k v (b ∷ w) ks l h =
    let n = length-append v (b ∷ []) in
    ap (λ s. run s w) (letter_step k v ks b h.0 (omega arith)) ∙ word_more k (v ++ b ∷ []) w ks (omega arith) h.1 ∙ ap (λ u. spelling k u ks) (append_assoc v (b ∷ []) w)

-- a small letter is no other sign
small_sign : (b : ℕ) → letter small b ≡ true → (eqb b 92 ≡ false) × (eqb b 40 ≡ false)
small_sign b h =
    let p = and_parts (leb 97 b) (leb b 122) h in
    let l = leb-true 97 b p.0 in
    (ne_eqb b 92 (λ e. omega arith), ne_eqb b 40 (λ e. omega arith))

pub capital_sign : (b : ℕ) → letter capital b ≡ true → (eqb b 92 ≡ false) × (eqb b 40 ≡ false) × (letter small b ≡ false)
capital_sign b h =
    let p = and_parts (leb 65 b) (leb b 90) h in
    let l = leb-true 65 b p.0 in
    let m = leb-true b 90 p.1 in
    (ne_eqb b 92 (λ e. omega arith), ne_eqb b 40 (λ e. omega arith), and_left _ _ (lt-leb 97 b (omega arith)))

want_name : (w : List ℕ) → Word small w → (ks : List Frame) → run (want ks) w ≡ name w ks
want_name [] h ks = absurd (omega (arith, h.some))
want_name (b ∷ w) h ks =
    let ls = letters_of small (b ∷ w) h.letters in
    let no = small_sign b ls.0 in
    let e : step (want ks) b ≡ name (b ∷ []) ks = cond-false _ _ _ no.0 ∙ cond-false _ _ _ no.1 ∙ cond-true _ _ _ ls.0 in
    ap (λ s. run s w) e ∙ word_more Kind.Name (b ∷ []) w ks (omega (arith, h.few)) ls.1

want_thing : (w : List ℕ) → Word capital w → (ks : List Frame) → run (want ks) w ≡ thing w ks
want_thing [] h ks = absurd (omega (arith, h.some))
want_thing (b ∷ w) h ks =
    let ls = letters_of capital (b ∷ w) h.letters in
    let no = capital_sign b ls.0 in
    let e : step (want ks) b ≡ thing (b ∷ []) ks = cond-false _ _ _ no.0 ∙ cond-false _ _ _ no.1 ∙ cond-false _ _ _ no.2 ∙ cond-true _ _ _ ls.0 in
    ap (λ s. run s w) e ∙ word_more Kind.Item (b ∷ []) w ks (omega (arith, h.few)) ls.1

want_body : (w : List ℕ) → Word small w → (ks : List Frame) (r : List ℕ) → run (want ks) (92 ∷ (w ++ 46 ∷ r)) ≡ run (want (body w ∷ ks)) r
want_body w h ks r =
    let ls = letters_of small w h.letters in
    let e : run (binder [] ks) w ≡ binder w ks = word_more Kind.Binder [] w ks (omega (arith, h.few)) ls in
    let d : step (binder w ks) 46 ≡ want (body w ∷ ks) = cond-true (ltb 0 (length w)) _ _ (lt-ltb 0 (length w) (omega (arith, h.some))) in
    run-append (binder [] ks) w (46 ∷ r) ∙ ap (λ s. run (step s 46) r) e ∙ ap (λ s. run s r) d

-- in the state s the term t was read inside ks: whatever comes next that is no letter
pub record ReadTo (s : State) (t : Named) (ks : List Frame) : Type 0 where
  pub space : step s 32 ≡ spaced t ks
  pub close : step s 41 ≡ closed t ks
  pub end : whole s ≡ ended t ks

-- the text of a term is read as this term
pub reads : (t : Named) → Spelt t → (ks : List Frame) → ReadTo (run (want ks) (written t)) t ks
reads (bound w) h ks = subst (λ s. ReadTo s (bound w) ks) (sym (want_name w h ks)) (record { space = refl; close = refl; end = refl })
reads (item w) h ks = subst (λ s. ReadTo s (item w) ks) (sym (want_thing w h ks)) (record { space = refl; close = refl; end = refl })
reads (lam w b) h ks =
    let ih = reads b h.1 (body w ∷ ks) in
    let e : run (want ks) (written (lam w b)) ≡ run (want (body w ∷ ks)) (written b) = want_body w h.0 ks (written b) in
    subst (λ s. ReadTo s (lam w b) ks) (sym e) (record { space = ih.space; close = ih.close; end = ih.end })
reads (app f a) h ks =
    let ihf = reads f h.0 (function ∷ ks) in
    let iha = reads a h.1 (argument f ∷ ks) in
    let e₁ : run (want ks) (written (app f a)) ≡ run (step (run (want (function ∷ ks)) (written f)) 32) (written a ++ 41 ∷ []) = run-append (want (function ∷ ks)) (written f) (32 ∷ (written a ++ 41 ∷ [])) in
    let e₂ : run (step (run (want (function ∷ ks)) (written f)) 32) (written a ++ 41 ∷ []) ≡ run (want (argument f ∷ ks)) (written a ++ 41 ∷ []) = ap (λ s. run s (written a ++ 41 ∷ [])) ihf.space in
    let e₃ : run (want (argument f ∷ ks)) (written a ++ 41 ∷ []) ≡ step (run (want (argument f ∷ ks)) (written a)) 41 = run-append (want (argument f ∷ ks)) (written a) (41 ∷ []) in
    let e : run (want ks) (written (app f a)) ≡ done (app f a) ks = e₁ ∙ e₂ ∙ e₃ ∙ iha.close in
    subst (λ s. ReadTo s (app f a) ks) (sym e) (record { space = refl; close = refl; end = refl })

-- what was read before the open place
unfoldable pub before : List Frame → List ℕ
before [] = []
before (function ∷ ks) = before ks ++ 40 ∷ []
before (argument f ∷ ks) = before ks ++ 40 ∷ (written f ++ 32 ∷ [])
before (body w ∷ ks) = before ks ++ 92 ∷ (w ++ 46 ∷ [])

abbrev pub SpeltAll : List Frame → Type 0
SpeltAll [] = Unit {0}
SpeltAll (function ∷ ks) = SpeltAll ks
SpeltAll (argument f ∷ ks) = Spelt f × SpeltAll ks
SpeltAll (body w ∷ ks) = Word small w × SpeltAll ks

-- letters, at most eight
pub record Part (first : ℕ) (w : List ℕ) : Type 0 where
  pub few : length w ≤ 8
  pub letters : (k : ℕ) → k < length w → letter first (get_or w k 0) ≡ true

-- the bytes bs lead to the state s
abbrev pub Led : State → List ℕ → Type 0
Led (want ks) bs = SpeltAll ks × (bs ≡ before ks)
Led (binder w ks) bs = SpeltAll ks × Part small w × (bs ≡ before ks ++ 92 ∷ w)
Led (name w ks) bs = SpeltAll ks × Word small w × (bs ≡ before ks ++ w)
Led (thing w ks) bs = SpeltAll ks × Word capital w × (bs ≡ before ks ++ w)
Led (done t ks) bs = SpeltAll ks × Spelt t × (bs ≡ before ks ++ written t)
Led stuck bs = Unit {0}

under_body : (w : List ℕ) (t : Named) (ks : List Frame) → before (body w ∷ ks) ++ written t ≡ before ks ++ written (lam w t)
unfolding before
under_body w t ks = append_assoc (before ks) (92 ∷ (w ++ 46 ∷ [])) (written t) ∙ ap (λ r. before ks ++ 92 ∷ r) (append_assoc w (46 ∷ []) (written t))

pub led_space : (t : Named) (ks : List Frame) (bs : List ℕ) → SpeltAll ks → Spelt t → bs ≡ before ks ++ written t → Led (spaced t ks) (bs ++ 32 ∷ [])
unfolding before
led_space t [] bs h g e = tt
led_space t (function ∷ ks) bs h g e =
    ((g, h), ap (λ r. r ++ 32 ∷ []) e ∙ append_assoc (before ks ++ 40 ∷ []) (written t) (32 ∷ []) ∙ append_assoc (before ks) (40 ∷ []) (written t ++ 32 ∷ []))
led_space t (argument f ∷ ks) bs h g e = tt
led_space t (body w ∷ ks) bs h g e = led_space (lam w t) ks bs h.1 (h.0, g) (e ∙ under_body w t ks)

pub led_close : (t : Named) (ks : List Frame) (bs : List ℕ) → SpeltAll ks → Spelt t → bs ≡ before ks ++ written t → Led (closed t ks) (bs ++ 41 ∷ [])
unfolding before
led_close t [] bs h g e = tt
led_close t (function ∷ ks) bs h g e = tt
led_close t (argument f ∷ ks) bs h g e = (
  h.1,
  (h.0, g),
  ap (λ r. r ++ 41 ∷ []) e ∙ append_assoc (before ks ++ 40 ∷ (written f ++ 32 ∷ [])) (written t) (41 ∷ []) ∙ append_assoc (before ks) (40 ∷ (written f ++ 32 ∷ [])) (written t ++ 41 ∷ [])
      ∙ ap (λ r. before ks ++ 40 ∷ r) (append_assoc (written f) (32 ∷ []) (written t ++ 41 ∷ [])),
)
led_close t (body w ∷ ks) bs h g e = led_close (lam w t) ks bs h.1 (h.0, g) (e ∙ under_body w t ks)

pub led_end : (t : Named) (ks : List Frame) (bs : List ℕ) (u : Named) → SpeltAll ks → Spelt t → bs ≡ before ks ++ written t → ended t ks ≡ Some u → Spelt u × (written u ≡ bs)
unfolding before
led_end t [] bs u h g e s = let z : t ≡ u = cc in (subst Spelt z g, sym (subst (λ x. bs ≡ written x) z e))
led_end t (function ∷ ks) bs u h g e s = absurd (let z : ◌≡◌ {A = ℕ} 0 1 = cc in omega arith)
led_end t (argument f ∷ ks) bs u h g e s = absurd (let z : ◌≡◌ {A = ℕ} 0 1 = cc in omega arith)
led_end t (body w ∷ ks) bs u h g e s = led_end (lam w t) ks bs u h.1 (h.0, g) (e ∙ under_body w t ks) s
