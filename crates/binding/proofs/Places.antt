-- The cells of a term with names, placed in text order. Assumes nothing.
use Rattle.std.proofs.Common.{◌≡◌, ℕ, zero, suc, ◌+◌, ◌<◌, ◌≤◌, ◌⊎◌, List, [], ◌∷◌, ◌++◌, sym, refl, ap, ◌∙◌, ap₂, inl, inr, arith}
use Rattle.lambda.specs.Terms.{places}
use Rattle.lambda.specs.Terms.{cells as cells_at}
use Rattle.lambda.specs.Indices.{upto}
use Rattle.lambda.proofs.Counts.{number, one_yes, one_no}
use Rattle.std.proofs.lemmas.Bool.{cases_lt}
use Rattle.terms.specs.Named.{Named, bound, item, lam, app, cells}
use Rattle.terms.specs.Bindings.{Around, placed_under}
use Rattle.binding.specs.Theorems.{TextPlaces}

upto-append : (c m n : ℕ) → upto c (m + n) ≡ upto c m ++ upto (c + m) n
upto-append c zero n = let e : 0 + n ≡ n = omega arith in let f : c + 0 ≡ c = omega arith in ap₂ upto (sym f) e
upto-append c (suc m) n =
    let e : suc m + n ≡ suc (m + n) = omega arith in
    let f : suc c + m ≡ c + suc m = omega arith in
    ap (upto c) e ∙ ap (λ l. c ∷ l) (upto-append (suc c) m n ∙ ap (λ k. upto (suc c) m ++ upto k n) f)

module _ (is : List (List ℕ)) where
  pub places_placed : (t : Named) (c : ℕ) (es : Around) → places (placed_under is c es t) ≡ upto c (cells t)
  places_placed (bound w) c es = refl
  places_placed (item w) c es = refl
  places_placed (lam w b) c es = ap (λ l. c ∷ l) (places_placed b (suc c) ((w, c) ∷ es))
  places_placed (app f a) c es =
      ap (λ l. c ∷ l) (ap₂ (λ l m. l ++ m) (places_placed f (suc c) es) (places_placed a (suc (c + cells f)) es)
      ∙ (let e : suc (c + cells f) ≡ suc c + cells f = omega arith in ap (λ k. upto (suc c) (cells f) ++ upto k (cells a)) e)
      ∙ sym (upto-append (suc c) (cells f) (cells a)))

  -- a place before its cells, or after them
  pub placed_outside : (t : Named) (c : ℕ) (es : Around) (r : ℕ) → (r < c) ⊎ (c + cells t ≤ r) → cells_at r (placed_under is c es t) ≡ 0
  placed_outside (bound w) c es r h = refl
  placed_outside (item w) c es r h = refl
  placed_outside (lam w b) c es r (inl h) =
      let i = placed_outside b (suc c) ((w, c) ∷ es) r (inl (omega arith)) in
      let o = one_no r c (λ e. omega arith) in
      omega arith
  placed_outside (lam w b) c es r (inr h) =
      let i = placed_outside b (suc c) ((w, c) ∷ es) r (inr (omega arith)) in
      let o = one_no r c (λ e. omega arith) in
      omega arith
  placed_outside (app f a) c es r (inl h) =
      let i = placed_outside f (suc c) es r (inl (omega arith)) in
      let j = placed_outside a (suc (c + cells f)) es r (inl (omega arith)) in
      let o = one_no r c (λ e. omega arith) in
      omega arith
  placed_outside (app f a) c es r (inr h) =
      let i = placed_outside f (suc c) es r (inr (omega arith)) in
      let j = placed_outside a (suc (c + cells f)) es r (inr (omega arith)) in
      let o = one_no r c (λ e. omega arith) in
      omega arith

  -- one of the places of its cells
  pub placed_inside : (t : Named) (c : ℕ) (es : Around) (r : ℕ) → c ≤ r → r < c + cells t → cells_at r (placed_under is c es t) ≡ 1
  placed_inside (bound w) c es r l h = absurd (omega arith)
  placed_inside (item w) c es r l h = absurd (omega arith)
  placed_inside (lam w b) c es r l h = elim (number r c) [
    | inl e ↦ (
        let z = e.0 in
        let o = one_yes r c e.0 in
        let i = placed_outside b (suc c) ((w, c) ∷ es) r (inl (omega arith)) in
        omega arith)
    | inr e ↦ (
        let o = one_no r c e.0 in
        let ne = e.0 in
        let i = placed_inside b (suc c) ((w, c) ∷ es) r (omega arith) (omega arith) in
        omega arith)
  ]
  placed_inside (app f a) c es r l h = elim (number r c) [
    | inl e ↦ (
        let z = e.0 in
        let o = one_yes r c e.0 in
        let i = placed_outside f (suc c) es r (inl (omega arith)) in
        let j = placed_outside a (suc (c + cells f)) es r (inl (omega arith)) in
        omega arith)
    | inr e ↦ (
        let o = one_no r c e.0 in
        let ne = e.0 in
        elim (cases_lt r (suc (c + cells f))) [
          | inl k ↦ (
              let i = placed_inside f (suc c) es r (omega arith) (omega arith) in
              let j = placed_outside a (suc (c + cells f)) es r (inl k) in
              omega arith)
          | inr k ↦ (
              let i = placed_outside f (suc c) es r (inr (omega arith)) in
              let j = placed_inside a (suc (c + cells f)) es r k (omega arith) in
              omega arith)
        ])
  ]

pub text_places_lem : TextPlaces
text_places_lem is t = places_placed is t 0 []
