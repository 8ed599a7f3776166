-- One byte more, by a scanner and by the reading that it shows.
use Rattle.std.proofs.Common.{◌≡◌, ℕ, ◌+◌, ◌<◌, ◌≤◌, Bool, true, false, eqb, List, [], ◌∷◌, ◌++◌, length, Option, sym, refl, ap, ◌∙◌, subst, arith}
use Rattle.std.specs.Bool.{then_some}
use Rattle.std.proofs.lemmas.List.{length-append}
use Rattle.std.proofs.lemmas.Bool.{cond-true, cond-false, lt-ltb, le-ltb, eqb-true, eqb-false}
use Rattle.terms.specs.declared.scanner.Mode.{Mode}
use Rattle.terms.specs.declared.scanner.Kind.{Kind}
use Rattle.terms.specs.declared.scanner.Scanner.{Scanner}
use Rattle.terms.specs.Letters.{letter}
use Rattle.terms.specs.Named.{Named, bound, item}
use Rattle.terms.specs.Scanning.{Frame, State, want, binder, name, thing, done, stuck, step, whole, ended, first_letter, spelling, Moded, opened, flags, closed, Shows, Came, Ending}
use Rattle.terms.proofs.Stacks.{ended_some, ended_none, closed_goes, closed_stuck}

-- what is shown of a state is shown of an equal one
pub shown_by : (m : Mode) (xs : List Bool) (s r : State) → s ≡ r → Moded m r → xs ≡ flags (opened r) → Moded m s × (xs ≡ flags (opened s))
shown_by m xs s r e p q = subst (λ z. Moded m z × (xs ≡ flags (opened z))) (sym e) (p, q)

pub one_more : (w : List ℕ) (b n : ℕ) → n ≡ length w → n + 1 ≡ length (w ++ b ∷ [])
one_more w b n e = let l = length-append w (b ∷ []) in omega arith

-- a letter more of a word, and one too many
pub letter_step : (k : Kind) (w : List ℕ) (ks : List Frame) (b : ℕ) → letter (first_letter k) b ≡ true → length w < 8 → step (spelling k w ks) b ≡ spelling k (w ++ b ∷ []) ks
letter_step Kind.Binder w ks b h l = cond-true _ _ _ h ∙ cond-true _ _ _ (lt-ltb (length w) 8 l)
letter_step Kind.Name w ks b h l = cond-true _ _ _ h ∙ cond-true _ _ _ (lt-ltb (length w) 8 l)
letter_step Kind.Item w ks b h l = cond-true _ _ _ h ∙ cond-true _ _ _ (lt-ltb (length w) 8 l)

pub letter_stuck : (k : Kind) (w : List ℕ) (ks : List Frame) (b : ℕ) → letter (first_letter k) b ≡ true → 8 ≤ length w → step (spelling k w ks) b ≡ stuck
letter_stuck Kind.Binder w ks b h l = cond-true _ _ _ h ∙ cond-false _ _ _ (le-ltb (length w) 8 l)
letter_stuck Kind.Name w ks b h l = cond-true _ _ _ h ∙ cond-false _ _ _ (le-ltb (length w) 8 l)
letter_stuck Kind.Item w ks b h l = cond-true _ _ _ h ∙ cond-false _ _ _ (le-ltb (length w) 8 l)

pub spelling_moded : (k : Kind) (w : List ℕ) (ks : List Frame) (n : ℕ) → n ≡ length w → Moded (Mode.Spelling k n) (spelling k w ks)
spelling_moded Kind.Binder w ks n e = ap (Mode.Spelling Kind.Binder) e
spelling_moded Kind.Name w ks n e = ap (Mode.Spelling Kind.Name) e
spelling_moded Kind.Item w ks n e = ap (Mode.Spelling Kind.Item) e

pub spelling_opened : (k : Kind) (w : List ℕ) (ks : List Frame) → opened (spelling k w ks) ≡ ks
spelling_opened Kind.Binder w ks = refl
spelling_opened Kind.Name w ks = refl
spelling_opened Kind.Item w ks = refl

-- whether a term that was read ends a text
pub ending_by : (r : Bool) (s : State) (t : Named) (ks : List Frame) → whole s ≡ ended t ks → (r ≡ true → length (flags ks) ≡ 0) → (r ≡ false → length (flags ks) ≡ 0 → ⊥) → Ending r s
ending_by true s t ks e y n = let p = ended_some t ks (y refl) in (p.0, e ∙ p.1)
ending_by false s t ks e y n = e ∙ ended_none t ks (n refl)

-- whether a scanner in no name of an abstraction, and at no place where a term is due, may stop
pub may_end : (m : Mode) (c : Scanner) (s : State) (r : Bool) → r ≡ eqb (length c.arguments.items) 0 → (m ≡ Mode.Term → ⊥) → ((n : ℕ) → m ≡ Mode.Spelling Kind.Binder n → ⊥) → Shows m c s → Ending r s
may_end m c s r is f g h = subst (λ b. Ending b s) (sym is) (go s h)
  where
    none : (ks : List Frame) → c.arguments.items ≡ flags ks → eqb (length c.arguments.items) 0 ≡ true → length (flags ks) ≡ 0
    none ks q e = ap length (sym q) ∙ eqb-true (length c.arguments.items) 0 e

    some : (ks : List Frame) → c.arguments.items ≡ flags ks → eqb (length c.arguments.items) 0 ≡ false → length (flags ks) ≡ 0 → ⊥
    some ks q e z = eqb-false (length c.arguments.items) 0 e (ap length q ∙ z)

    go : (t : State) → Shows m c t → Ending (eqb (length c.arguments.items) 0) t
    go (want ks) k = absurd (f k.0)
    go (binder w ks) k = absurd (g (length w) k.0)
    go (name w ks) k = ending_by _ (name w ks) (bound w) ks refl (none ks k.1) (some ks k.1)
    go (thing w ks) k = ending_by _ (thing w ks) (item w) ks refl (none ks k.1) (some ks k.1)
    go (done t ks) k = ending_by _ (done t ks) t ks refl (none ks k.1) (some ks k.1)
    go stuck k = absurd k.0

-- what a scanner in a word shows
pub shown_word : (m : Mode) (c : Scanner) (s : State) (k : Kind) (n : ℕ) → m ≡ Mode.Spelling k n → Shows m c s → (w : List ℕ) × (ks : List Frame) × (s ≡ spelling k w ks) × (n ≡ length w) × (c.arguments.items ≡ flags ks)
shown_word m c (want ks) k n e h = absurd (let z : ◌≡◌ {A = ℕ} 0 1 = cc in omega arith)
shown_word m c (binder w ks) k n e h = let same : Kind.Binder ≡ k = cc in (w, ks, ap (λ j. spelling j w ks) same, cc, h.1)
shown_word m c (name w ks) k n e h = let same : Kind.Name ≡ k = cc in (w, ks, ap (λ j. spelling j w ks) same, cc, h.1)
shown_word m c (thing w ks) k n e h = let same : Kind.Item ≡ k = cc in (w, ks, ap (λ j. spelling j w ks) same, cc, h.1)
shown_word m c (done t ks) k n e h = absurd (let z : ◌≡◌ {A = ℕ} 0 1 = cc in omega arith)
shown_word m c stuck k n e h = absurd h.0

-- a bracket that closes the innermost open application, or does not
pub closed_by : (m : Option Mode) (r : Bool) (c : Scanner) (t : Named) (ks : List Frame) → m ≡ then_some r Mode.Done → (r ≡ true → flags ks ≡ c.arguments.items ++ true ∷ []) → (r ≡ false → (zs : List Bool) → flags ks ≡ zs ++ true ∷ [] → ⊥) → Came m c (closed t ks)
closed_by m r c t ks e y n = subst (λ x. Came x c (closed t ks)) (sym e) (go r y n)
  where
    go : (b : Bool) → (b ≡ true → flags ks ≡ c.arguments.items ++ true ∷ []) → (b ≡ false → (zs : List Bool) → flags ks ≡ zs ++ true ∷ [] → ⊥) → Came (then_some b Mode.Done) c (closed t ks)
    go true f g = let h = closed_goes t ks c.arguments.items (f refl) in shown_by Mode.Done c.arguments.items (closed t ks) (done h.0 h.1) h.2 refl h.3
    go false f g = closed_stuck t ks (g refl)

-- what a scanner shows is not stuck
pub shown_live : (m : Mode) (c : Scanner) (s : State) → Shows m c s → s ≡ stuck → ⊥
shown_live m c s h e = subst (λ z. Moded m z) e h.0
