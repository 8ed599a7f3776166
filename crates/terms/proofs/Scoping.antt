-- The last place at which a name stands is that of the abstraction it means, whatever the abstractions' numbers are.
use Rattle.std.proofs.Common.{◌≡◌, ℕ, ◌-◌, ◌<◌, false, List, [], ◌∷◌, length, get_or, Some, None, Option, sym, refl, ap, ◌∙◌, subst, inl, inr, arith}
use Rattle.std.specs.Str.{bytes_eq}
use Rattle.std.proofs.lemmas.Slice.Eq.{bytes_eq-Decides}
use Rattle.std.proofs.lemmas.Bool.{cond-true, cond-false, cases_Bool, cases_eq}
use Rattle.terms.specs.Letters.{ReadAt, small}
use Rattle.terms.specs.Bindings.{variable, nothing, Around, meaning}
use Rattle.terms.specs.Scopes.{Surrounding, renumbered, Found, Latest}
use Rattle.terms.proofs.Words.{one_reading, word_read}

differ : (w v : List ℕ) → (w ≡ v → ⊥) → bytes_eq w v ≡ false
differ w v n = elim (cases_Bool (bytes_eq w v)) [ inl e ↦ absurd (n ((bytes_eq-Decides w v).0 e)) | inr e ↦ e ]

module _ (text xs w : List ℕ) where
  -- the innermost abstraction's name is read at the last of the places
  read_last : (e : List ℕ × ℕ) (es : Around) (n : ℕ) → Surrounding text xs n (e ∷ es) → ReadAt text (get_or xs (n - 1) 0) small e.0
  read_last e es n h = subst (λ p. ReadAt text p small e.0) (sym h.1) (word_read text e.1 small e.0 h.2)

  -- where the name stands at none of the places, it means no abstraction
  meant_none : (es : Around) (n : ℕ) → Surrounding text xs n es → ((j : ℕ) → j < n → ReadAt text (get_or xs j 0) small w → ⊥) → (bs : List ℕ) → meaning w (renumbered bs n es) ≡ nothing
  meant_none [] n h free bs = refl
  meant_none (e ∷ es) n h free bs =
      cond-false (bytes_eq w e.0) _ _ (differ w e.0 (λ s. free (n - 1) (omega (arith, h.0)) (subst (ReadAt text (get_or xs (n - 1) 0) small) (sym s) (read_last e es n h))))
      ∙ meant_none es (n - 1) h.3 (λ j l. free j (omega arith)) bs

  -- else it means the last of those at whose place it stands
  meant_some : (es : Around) (n i : ℕ) → i < n → Surrounding text xs n es → ReadAt text (get_or xs i 0) small w → ((j : ℕ) → i < j → j < n → ReadAt text (get_or xs j 0) small w → ⊥) →
      (bs : List ℕ) → meaning w (renumbered bs n es) ≡ variable (get_or bs i 0)
  meant_some [] n i l h r free bs = absurd (omega arith)
  meant_some (e ∷ es) n i l h r free bs =
      elim (cases_eq i (n - 1)) [
        | inl s ↦
            (let same : w ≡ e.0 = one_reading text (get_or xs (n - 1) 0) small w e.0 (subst (λ (k : ℕ). ReadAt text (get_or xs k 0) small w) s r) (read_last e es n h) in
            cond-true (bytes_eq w e.0) _ _ ((bytes_eq-Decides w e.0).1 same) ∙ ap (λ (k : ℕ). variable (get_or bs k 0)) (sym s))
        | inr d ↦
            (cond-false (bytes_eq w e.0) _ _ (differ w e.0 (λ s. free (n - 1) (omega arith) (omega arith) (subst (ReadAt text (get_or xs (n - 1) 0) small) (sym s) (read_last e es n h))))
            ∙ meant_some es (n - 1) i (omega arith) h.3 r (λ j a b. free j a (omega arith)) bs)
      ]

  pub found_latest : (r : Option ℕ) → Latest text xs w r → (es : Around) → Surrounding text xs (length xs) es → Found w (length xs) es r
  found_latest None none es h = meant_none es (length xs) h none
  found_latest (Some i) last es h = (last.0, meant_some es (length xs) i last.0 h last.1 last.2)
