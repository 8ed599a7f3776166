-- A text that the reading takes to its end is in the grammar, and where it stops the text leaves the grammar.
use Rattle.std.proofs.Common.{◌≡◌, ℕ, zero, suc, ◌<◌, ◌≤◌, true, cond, ◌&&◌, eqb, ltb, ◌⊎◌, List, [], ◌∷◌, ◌++◌, length, get_or, take, Some, None, sym, refl, ap, ◌∙◌, subst, inl, inr, append_assoc, arith}
use Rattle.std.proofs.lemmas.List.{length-append, length-take, append-nil, get_or_append_left, get_or_push, get_or-take, take-append-le, take-take}
use Rattle.std.proofs.lemmas.Bool.{cond_both, ltb-true, eqb-true, and_parts, cases_eq}
use Rattle.terms.specs.Letters.{letter, small, capital, Word, Outside}
use Rattle.terms.specs.Named.{Named, bound, item, lam, app, written, Spelt, Grammatical}
use Rattle.terms.specs.Scanning.{Frame, function, argument, body, State, want, binder, name, thing, done, stuck, spaced, closed, followed, step, run, whole}
use Rattle.terms.proofs.Words.{one_letter}
use Rattle.terms.proofs.Machine.{run_stuck, reads, before, SpeltAll, Part, Led, led_space, led_close, led_end}

part_more : (first : ℕ) (w : List ℕ) (b : ℕ) → Part first w → length w < 8 → letter first b ≡ true → Part first (w ++ b ∷ [])
part_more first w b p l h =
    let n = length-append w (b ∷ []) in
    record {
      few = omega arith;
      letters = λ k i. elim (cases_eq k (length w)) [
        | inl e ↦ rw (get_or_push w b 0 k (sym e)) h
        | inr ne ↦ (let m : k < length w = omega arith in rw (get_or_append_left w (b ∷ []) 0 k m) (p.letters k m))
      ];
    }

part_word : (first : ℕ) (w : List ℕ) → Part first w → 0 < length w → Word first w
part_word first w p l = record { some = omega arith; few = p.few; letters = p.letters }

word_part : (first : ℕ) (w : List ℕ) → Word first w → Part first w
word_part first w p = record { few = p.few; letters = p.letters }

word_more : (first : ℕ) (w : List ℕ) (b : ℕ) → Word first w → length w < 8 → letter first b ≡ true → Word first (w ++ b ∷ [])
word_more first w b p l h = let n = length-append w (b ∷ []) in part_word first (w ++ b ∷ []) (part_more first w b (word_part first w p) l h) (omega arith)

word_one : (first b : ℕ) → letter first b ≡ true → Word first (b ∷ [])
word_one first b h = part_word first (b ∷ []) (part_more first [] b (record { few = omega arith; letters = λ k l. absurd (omega arith) }) (omega arith) h) (omega arith)

led_follow : (t : Named) (ks : List Frame) (b : ℕ) (bs : List ℕ) → SpeltAll ks → Spelt t → bs ≡ before ks ++ written t → Led (followed t ks b) (bs ++ b ∷ [])
led_follow t ks b bs h g e =
    let P : State → Type 0 = λ s. Led s (bs ++ b ∷ []) in
    cond_both (eqb b 32) (spaced t ks) (cond (eqb b 41) (closed t ks) stuck) P
    (λ q. subst (λ n. Led (spaced t ks) (bs ++ n ∷ [])) (sym (eqb-true b 32 q)) (led_space t ks bs h g e))
    (λ _.
    cond_both (eqb b 41) (closed t ks) stuck P
    (λ q. subst (λ n. Led (closed t ks) (bs ++ n ∷ [])) (sym (eqb-true b 41 q)) (led_close t ks bs h g e))
    (λ _. tt))

led_step : (s : State) (b : ℕ) (bs : List ℕ) → Led s bs → Led (step s b) (bs ++ b ∷ [])
unfolding before
led_step (want ks) b bs h =
    let P : State → Type 0 = λ s. Led s (bs ++ b ∷ []) in
    let e : bs ++ b ∷ [] ≡ before ks ++ b ∷ [] = ap (λ r. r ++ b ∷ []) h.1 in
    cond_both (eqb b 92) _ _ P
    (λ q. (h.0, record { few = omega arith; letters = λ k l. absurd (omega arith) }, e ∙ ap (λ n. before ks ++ n ∷ []) (eqb-true b 92 q)))
    (λ _.
    cond_both (eqb b 40) _ _ P
    (λ q. (h.0, e ∙ ap (λ n. before ks ++ n ∷ []) (eqb-true b 40 q)))
    (λ _.
    cond_both (letter small b) _ _ P
    (λ q. (h.0, word_one small b q, e))
    (λ _. cond_both (letter capital b) _ _ P (λ q. (h.0, word_one capital b q, e)) (λ _. tt))))
led_step (binder w ks) b bs h =
    let P : State → Type 0 = λ s. Led s (bs ++ b ∷ []) in
    let e : bs ++ b ∷ [] ≡ before ks ++ 92 ∷ (w ++ b ∷ []) = ap (λ r. r ++ b ∷ []) h.2 ∙ append_assoc (before ks) (92 ∷ w) (b ∷ []) in
    cond_both (letter small b) _ _ P
    (λ q. cond_both (ltb (length w) 8) _ _ P (λ l. (h.0, part_more small w b h.1 (ltb-true (length w) 8 l) q, e)) (λ _. tt))
    (λ _.
    cond_both (eqb b 46 && ltb 0 (length w)) _ _ P
    (λ q.
    let a = and_parts (eqb b 46) (ltb 0 (length w)) q in
    ((part_word small w h.1 (ltb-true 0 (length w) a.1), h.0), e ∙ ap (λ n. before ks ++ 92 ∷ (w ++ n ∷ [])) (eqb-true b 46 a.0)))
    (λ _. tt))
led_step (name w ks) b bs h =
    let P : State → Type 0 = λ s. Led s (bs ++ b ∷ []) in
    cond_both (letter small b) _ _ P
    (λ q.
    cond_both (ltb (length w) 8) _ _ P
    (λ l. (h.0, word_more small w b h.1 (ltb-true (length w) 8 l) q, ap (λ r. r ++ b ∷ []) h.2 ∙ append_assoc (before ks) w (b ∷ [])))
    (λ _. tt))
    (λ _. led_follow (bound w) ks b bs h.0 h.1 h.2)
led_step (thing w ks) b bs h =
    let P : State → Type 0 = λ s. Led s (bs ++ b ∷ []) in
    cond_both (letter capital b) _ _ P
    (λ q.
    cond_both (ltb (length w) 8) _ _ P
    (λ l. (h.0, word_more capital w b h.1 (ltb-true (length w) 8 l) q, ap (λ r. r ++ b ∷ []) h.2 ∙ append_assoc (before ks) w (b ∷ [])))
    (λ _. tt))
    (λ _. led_follow (item w) ks b bs h.0 h.1 h.2)
led_step (done t ks) b bs h = led_follow t ks b bs h.0 h.1 h.2
led_step stuck b bs h = tt

pub led_run : (cs : List ℕ) (s : State) (bs : List ℕ) → Led s bs → Led (run s cs) (bs ++ cs)
led_run [] s bs h = subst (Led s) (sym (append-nil bs)) h
led_run (c ∷ cs) s bs h = subst (Led (run (step s c) cs)) (append_assoc bs (c ∷ []) cs) (led_run cs (step s c) (bs ++ c ∷ []) (led_step s c bs h))

led_start : (cs : List ℕ) → Led (run (want []) cs) cs
unfolding before
led_start cs = led_run cs (want []) [] (tt, refl)

led_whole : (s : State) (bs : List ℕ) (u : Named) → Led s bs → whole s ≡ Some u → Spelt u × (written u ≡ bs)
led_whole (want ks) bs u h e = absurd (let z : ◌≡◌ {A = ℕ} 0 1 = cc in omega arith)
led_whole (binder w ks) bs u h e = absurd (let z : ◌≡◌ {A = ℕ} 0 1 = cc in omega arith)
led_whole (name w ks) bs u h e = led_end (bound w) ks bs u h.0 h.1 h.2 e
led_whole (thing w ks) bs u h e = led_end (item w) ks bs u h.0 h.1 h.2 e
led_whole (done t ks) bs u h e = led_end t ks bs u h.0 h.1 h.2 e
led_whole stuck bs u h e = absurd (let z : ◌≡◌ {A = ℕ} 0 1 = cc in omega arith)

-- a text that is read to its end is in the grammar
pub read_whole : (text : List ℕ) (u : Named) → whole (run (want []) text) ≡ Some u → Grammatical text
read_whole text u e = let p = led_whole (run (want []) text) text u (led_start text) e in (u, p.0, p.1)

-- what may stand after the open place
a : Named
a = bound (97 ∷ [])

spelt_a : Spelt a
unfolding a
spelt_a = one_letter 97

plug : List Frame → Named → Named
plug [] t = t
plug (function ∷ ks) t = plug ks (app t a)
plug (argument f ∷ ks) t = plug ks (app f t)
plug (body w ∷ ks) t = plug ks (lam w t)

after : List Frame → List ℕ
after [] = []
after (function ∷ ks) = 32 ∷ 97 ∷ 41 ∷ after ks
after (argument f ∷ ks) = 41 ∷ after ks
after (body w ∷ ks) = after ks

spelt_plug : (ks : List Frame) (t : Named) → SpeltAll ks → Spelt t → Spelt (plug ks t)
unfolding plug
spelt_plug [] t h g = g
spelt_plug (function ∷ ks) t h g = spelt_plug ks (app t a) h (g, spelt_a)
spelt_plug (argument f ∷ ks) t h g = spelt_plug ks (app f t) h.1 (h.0, g)
spelt_plug (body w ∷ ks) t h g = spelt_plug ks (lam w t) h.1 (h.0, g)

plugged : (ks : List Frame) (t : Named) → before ks ++ (written t ++ after ks) ≡ written (plug ks t)
unfolding before after plug a
plugged [] t = append-nil (written t)
plugged (function ∷ ks) t =
    let e : (before ks ++ 40 ∷ []) ++ (written t ++ 32 ∷ 97 ∷ 41 ∷ after ks) ≡ before ks ++ ((40 ∷ (written t ++ 32 ∷ 97 ∷ 41 ∷ [])) ++ after ks) = simp append_assoc in
    e ∙ plugged ks (app t (bound (97 ∷ [])))
plugged (argument f ∷ ks) t =
    let e : (before ks ++ 40 ∷ (written f ++ 32 ∷ [])) ++ (written t ++ 41 ∷ after ks) ≡ before ks ++ ((40 ∷ (written f ++ 32 ∷ (written t ++ 41 ∷ []))) ++ after ks) = simp append_assoc in
    e ∙ plugged ks (app f t)
plugged (body w ∷ ks) t =
    let e : (before ks ++ 92 ∷ (w ++ 46 ∷ [])) ++ (written t ++ after ks) ≡ before ks ++ ((92 ∷ (w ++ 46 ∷ written t)) ++ after ks) = simp append_assoc in
    e ∙ plugged ks (lam w t)

-- a term goes on as a text of the grammar
goes_on : (ks : List Frame) (t : Named) (bs : List ℕ) → SpeltAll ks → Spelt t → bs ≡ before ks ++ written t → (v : List ℕ) × Grammatical (bs ++ v)
goes_on ks t bs h g e =
    (after ks, (plug ks t, spelt_plug ks t h g, sym (ap (λ r. r ++ after ks) e ∙ append_assoc (before ks) (written t) (after ks) ∙ plugged ks t)))

-- more bytes before what goes on
more_first : (bs u : List ℕ) → (v : List ℕ) × Grammatical ((bs ++ u) ++ v) → (v : List ℕ) × Grammatical (bs ++ v)
more_first bs u g = (u ++ g.0, subst Grammatical (append_assoc bs u g.0) g.1)

-- every state that is not stuck goes on to a text of the grammar
pub live : (s : State) (bs : List ℕ) → Led s bs → (s ≡ stuck → ⊥) → (v : List ℕ) × Grammatical (bs ++ v)
unfolding a
live (want ks) bs h n = more_first bs (97 ∷ []) (goes_on ks a (bs ++ 97 ∷ []) h.0 spelt_a (ap (λ r. r ++ 97 ∷ []) h.1))
live (binder [] ks) bs h n =
    more_first bs (97 ∷ 46 ∷ 97 ∷ [])
    (goes_on ks (lam (97 ∷ []) a) (bs ++ 97 ∷ 46 ∷ 97 ∷ []) h.0 (one_letter 97, spelt_a)
    (ap (λ r. r ++ 97 ∷ 46 ∷ 97 ∷ []) h.2 ∙ append_assoc (before ks) (92 ∷ []) (97 ∷ 46 ∷ 97 ∷ [])))
live (binder (b ∷ w) ks) bs h n =
    more_first bs (46 ∷ 97 ∷ [])
    (goes_on ks (lam (b ∷ w) a) (bs ++ 46 ∷ 97 ∷ []) h.0 (part_word small (b ∷ w) h.1 (omega arith), spelt_a)
    (ap (λ r. r ++ 46 ∷ 97 ∷ []) h.2 ∙ append_assoc (before ks) (92 ∷ b ∷ w) (46 ∷ 97 ∷ [])))
live (name w ks) bs h n = goes_on ks (bound w) bs h.0 h.1 h.2
live (thing w ks) bs h n = goes_on ks (item w) bs h.0 h.1 h.2
live (done t ks) bs h n = goes_on ks t bs h.0 h.1 h.2
live stuck bs h n = absurd (n refl)

-- a text of the grammar is read to its end
pub read_some : (t : Named) → Spelt t → whole (run (want []) (written t)) ≡ Some t
read_some t h = (reads t h []).end

pub never_none : (text : List ℕ) → Grammatical text → whole (run (want []) text) ≡ None → ⊥
never_none text g e =
    let r = subst (λ x. whole (run (want []) x) ≡ Some g.0) g.2 (read_some g.0 g.1) in
    let z : ◌≡◌ {A = ℕ} 0 1 = cc in omega arith

-- one text is that of one term
pub one_term_lem : (t u : Named) → Spelt t → Spelt u → written t ≡ written u → t ≡ u
one_term_lem t u h g e =
    let r = subst (λ x. whole (run (want []) x) ≡ Some t) e (read_some t h) in
    let q = read_some u g in
    cc

-- what is stuck at a byte stays so
stuck_at : (y : List ℕ) (s : State) (p : ℕ) → p < length y → step (run s (take p y)) (get_or y p 0) ≡ stuck → run s y ≡ stuck
stuck_at [] s p l e = absurd (omega arith)
stuck_at (b ∷ y) s zero l e = ap (λ r. run r y) e ∙ run_stuck y
stuck_at (b ∷ y) s (suc p) l e = stuck_at y (step s b) p (omega arith) e

-- where the reading stops, or comes to the end of the text in no whole term, the text leaves the grammar
pub outside : (text : List ℕ) (p : ℕ) → p ≤ length text → (run (want []) (take p text) ≡ stuck → ⊥) →
    ((p ≡ length text) × (whole (run (want []) text) ≡ None)) ⊎ ((p < length text) × (step (run (want []) (take p text)) (get_or text p 0) ≡ stuck)) →
    Outside Grammatical text p
outside text p l n (inl e) = record {
  wrong = λ g. never_none text g e.1;
  inside = l;
  begun = live (run (want []) (take p text)) (take p text) (led_start (take p text)) n;
  longest = λ q m i v g. absurd (omega (arith, e.0));
}
outside text p l n (inr e) = record {
  wrong = λ g. never_none text g (ap whole (stuck_at text (want []) p e.0 e.1));
  inside = l;
  begun = live (run (want []) (take p text)) (take p text) (led_start (take p text)) n;
  longest = λ q m i v g.
      let t : length (take q text) ≡ q = length-take q text ∙ omega arith in
      let long = length-append (take q text) v in
      let front : take p (take q text ++ v) ≡ take p text = take-append-le p (take q text) v (omega arith) ∙ take-take p q text (omega arith) in
      let byte : get_or (take q text ++ v) p 0 ≡ get_or text p 0 = get_or_append_left (take q text) v 0 p (omega arith) ∙ get_or-take q text p 0 m in
      let e₁ : step (run (want []) (take p (take q text ++ v))) (get_or (take q text ++ v) p 0) ≡ stuck =
      ap (λ r. step (run (want []) r) (get_or (take q text ++ v) p 0)) front ∙ ap (λ b. step (run (want []) (take p text)) b) byte ∙ e.1 in
      never_none (take q text ++ v) g (ap whole (stuck_at (take q text ++ v) (want []) p (omega arith) e₁));
}
