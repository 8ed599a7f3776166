-- What the places and numbers of a walk say of the abstractions around and of the open applications.
use Rattle.std.proofs.Common.{◌≡◌, ℕ, ◌-◌, ◌<◌, ◌≤◌, List, [], ◌∷◌, ◌++◌, length, get_or, take, Some, None, Option, IfSome, sym, refl, ap, ◌∙◌, subst, inl, inr, arith}
use Rattle.std.specs.List.{SameBelow}
use Rattle.std.proofs.lemmas.List.{get_or_at, get_or_append_left, get_or-take, length-take-le, length_push}
use Rattle.std.specs.Option.{option_map}
use Rattle.std.specs.Str.{bytes_eq}
use Rattle.std.proofs.lemmas.Bool.{cases_eq, cases_Bool, cond-true, cond-false}
use Rattle.terms.specs.Letters.{WordAt, small}
use Rattle.terms.specs.Named.{Named, lam, app}
use Rattle.terms.specs.Bindings.{variable, Around, meaning}
use Rattle.terms.specs.Scopes.{Surrounding, renumbered, Found}
use Rattle.terms.specs.Tallying.{meant}
use Rattle.terms.specs.Walking.{Later, due, shut, outer, reading, between, Saved, Held}

-- ── lists that agree on what is in use ──

same_all : (xs : List ℕ) (n : ℕ) → SameBelow xs xs n
same_all xs n k d l = refl

same_push : (xs : List ℕ) (v : ℕ) → SameBelow xs (xs ++ v ∷ []) (length xs)
same_push xs v k d l = get_or_append_left xs (v ∷ []) d k l

same_take : (xs : List ℕ) (n : ℕ) → SameBelow xs (take n xs) n
same_take xs n k d l = get_or-take n xs k d l

pub surrounding_kept : (text xs ys : List ℕ) (es : Around) (n : ℕ) → SameBelow xs ys n → Surrounding text xs n es → Surrounding text ys n es
surrounding_kept text xs ys [] n same h = h
surrounding_kept text xs ys (f ∷ es) n same h =
    (h.0, same (n - 1) 0 (omega (arith, h.0)) ∙ h.1, h.2, surrounding_kept text xs ys es (n - 1) (λ k d l. same k d (omega arith)) h.3)

pub saved_kept : (text xs ys ss ts : List ℕ) (zs : List Later) (most more d : ℕ) → most ≤ more → SameBelow xs ys most → SameBelow ss ts d → Saved text xs ss most d zs → Saved text ys ts more d zs
saved_kept text xs ys ss ts [] most more d le p q h = h
saved_kept text xs ys ss ts (z ∷ zs) most more d le p q h =
    let low = h.1 in
    let top : get_or ts (d - 1) 0 ≡ get_or ss (d - 1) 0 = q (d - 1) 0 (omega (arith, h.0)) in
    let same : SameBelow xs ys (get_or ss (d - 1) 0) = λ k e l. p k e (omega arith) in
    (h.0, omega arith, rw top (surrounding_kept text xs ys (outer z) _ same h.2), rw top (saved_kept text xs ys ss ts zs _ _ (d - 1) (omega arith) same (λ k e l. q k e (omega arith)) h.3))

-- the abstractions around, in the front of a longer list of places
pub surrounding_front : (text xs : List ℕ) (m : ℕ) (es : Around) (n : ℕ) → n ≤ m → Surrounding text xs n es → Surrounding text (take m xs) n es
surrounding_front text xs m es n l h = surrounding_kept text xs (take m xs) es n (λ k d i. get_or-take m xs k d (omega arith)) h

-- what is found among the first n of the places, looked at as a slice
pub slice_found : (text xs w : List ℕ) (es : Around) (n : ℕ) (r : Option ℕ) → n ≤ length xs → Surrounding text xs n es →
    ((fs : Around) → Surrounding text (take (n - 0) xs) (length (take (n - 0) xs)) fs → Found w (length (take (n - 0) xs)) fs r) → Found w n es r
slice_found text xs w es n r room h find =
    let same : length (take (n - 0) xs) ≡ n = length-take-le (n - 0) xs (omega arith) ∙ omega arith in
    subst (λ m. Found w m es r) same (find es (subst (λ m. Surrounding text (take (n - 0) xs) m es) (sym same) (surrounding_front text xs (n - 0) es n (omega arith) h)))

-- each of the first n places is that of a name of the text
pub surrounding_inside : (text xs : List ℕ) (es : Around) (n : ℕ) → Surrounding text xs n es → (k : ℕ) → k < n → get_or xs k 0 < length text
surrounding_inside text xs [] n h k l = absurd (omega arith)
surrounding_inside text xs (e ∷ es) n h k l =
    let i = h.2.inside in
    let m = h.2.word.some in
    let at = h.1 in
    elim (cases_eq k (n - 1)) [
      | inl s ↦ (let t : get_or xs k 0 ≡ e.1 = ap (λ x. get_or xs x 0) s ∙ at in omega arith)
      | inr d ↦ surrounding_inside text xs es (n - 1) h.3 k (omega arith)
    ]

-- so is the place of the abstraction that a name means
pub meant_inside : (text xs w : List ℕ) (es : Around) (n p : ℕ) → Surrounding text xs n es → meaning w es ≡ variable p → p < length text
meant_inside text xs w [] n p h e = let z : ◌≡◌ {A = ℕ} 0 1 = cc in absurd (omega arith)
meant_inside text xs w (f ∷ es) n p h e =
    elim (cases_Bool (bytes_eq w f.0)) [
      | inl t ↦
          (let s : variable f.1 ≡ variable p = sym (cond-true (bytes_eq w f.0) (variable f.1) (meaning w es) t) ∙ e in
          let q : f.1 ≡ p = cc in
          let i = h.2.inside in
          let m = h.2.word.some in
          omega arith)
      | inr t ↦ meant_inside text xs w es (n - 1) p h.3 (sym (cond-false (bytes_eq w f.0) (variable f.1) (meaning w es) t) ∙ e)
    ]

-- the abstractions around have the places of their names for their numbers
pub renumbered_same : (text xs : List ℕ) (es : Around) (n : ℕ) → Surrounding text xs n es → renumbered xs n es ≡ es
renumbered_same text xs [] n h = refl
renumbered_same text xs (e ∷ es) n h = ap (λ q. (e.0, q) ∷ renumbered xs (n - 1) es) h.1 ∙ ap (λ fs. e ∷ fs) (renumbered_same text xs es (n - 1) h.3)

-- what a name means, by the place of the name of the abstraction that is found
pub found_meant : (text xs w : List ℕ) (es : Around) (r : Option ℕ) → Surrounding text xs (length xs) es → Found w (length xs) es r → meaning w es ≡ meant (option_map (λ i. get_or xs i 0) r)
found_meant text xs w es None h f = ap (meaning w) (sym (renumbered_same text xs es (length xs) h)) ∙ f xs
found_meant text xs w es (Some i) h f = ap (meaning w) (sym (renumbered_same text xs es (length xs) h)) ∙ f.1 xs

pub found_inside : (text xs w : List ℕ) (es : Around) (r : Option ℕ) (most : ℕ) → length text ≤ most → Surrounding text xs (length xs) es → Found w (length xs) es r → IfSome (option_map (λ i. get_or xs i 0) r) (λ p. p < most)
found_inside text xs w es None most l h f = tt
found_inside text xs w es (Some i) most l h f = let k = surrounding_inside text xs es (length xs) h i f.0 in omega arith

-- ── one step ──

module _ (text xs saved : List ℕ) where
  pub held_body : (es : Around) (n : List ℕ) (q : ℕ) (b : Named) (zs : List Later) → WordAt text q small n →
      Held text xs (length xs) saved (length saved) (reading es (lam n b) zs) → Held text (xs ++ q ∷ []) (length (xs ++ q ∷ [])) saved (length saved) (reading ((n, q) ∷ es) b zs)
  held_body es n q b zs word h =
      let long = length_push xs q in
      let back : length (xs ++ q ∷ []) - 1 ≡ length xs = omega arith in (
        (omega arith, get_or_at xs q [] 0 _ (sym back), word, subst (λ m. Surrounding text (xs ++ q ∷ []) m es) (sym back) (surrounding_kept text xs _ es (length xs) (same_push xs q) h.0)),
        saved_kept text xs _ saved saved zs (length xs) _ (length saved) (omega arith) (same_push xs q) (same_all _ _) h.1,
      )

  pub held_function : (es : Around) (f a : Named) (zs : List Later) →
      Held text xs (length xs) saved (length saved) (reading es (app f a) zs) → Held text xs (length xs) (saved ++ length xs ∷ []) (length (saved ++ length xs ∷ [])) (reading es f (due es a ∷ zs))
  held_function es f a zs h =
      let long = length_push saved (length xs) in
      let back : length (saved ++ length xs ∷ []) - 1 ≡ length saved = omega arith in
      let top : get_or (saved ++ length xs ∷ []) (length (saved ++ length xs ∷ []) - 1) 0 ≡ length xs = get_or_at saved (length xs) [] 0 _ (sym back) in (
        h.0,
        (
          omega arith,
          omega arith,
          subst (λ m. Surrounding text xs m es) (sym top) h.0,
          subst (λ d. Saved text xs (saved ++ length xs ∷ []) (get_or (saved ++ length xs ∷ []) (length (saved ++ length xs ∷ []) - 1) 0) d zs) (sym back)
              (saved_kept text xs xs saved _ zs (length xs) _ (length saved) (omega arith) (same_all _ _) (same_push saved (length xs)) h.1),
        ),
      )

  pub held_argument : (es : Around) (a : Named) (zs : List Later) (m : ℕ) → m ≡ get_or saved (length saved - 1) 0 →
      Held text xs (length xs) saved (length saved) (between (due es a ∷ zs)) → Held text (take m xs) (length (take m xs)) saved (length saved) (reading es a (shut es ∷ zs))
  held_argument es a zs m last h =
      let low = h.1 in
      let long : length (take m xs) ≡ m = length-take-le m xs (omega arith) in
      let around : Surrounding text (take m xs) m es = surrounding_kept text xs _ es m (same_take xs m) (subst (λ k. Surrounding text xs k es) (sym last) h.2) in
      let around' : Surrounding text (take m xs) (get_or saved (length saved - 1) 0) es = subst (λ k. Surrounding text (take m xs) k es) last around in
      let rest = saved_kept text xs (take m xs) saved saved zs _ _ (length saved - 1) (omega arith) (subst (SameBelow xs (take m xs)) last (same_take xs m)) (same_all _ _) h.3 in
      (subst (λ k. Surrounding text (take m xs) k es) (sym long) around, (h.0, omega arith, around', rest))

  pub held_close : (es : Around) (zs : List Later) →
      Held text xs (length xs) saved (length saved) (between (shut es ∷ zs)) → Held text xs (length xs) (take (length saved - 1) saved) (length (take (length saved - 1) saved)) (between zs)
  held_close es zs h =
      let low = h.1 in
      let long : length (take (length saved - 1) saved) ≡ length saved - 1 = length-take-le _ saved (omega arith) in
      subst (λ d. Saved text xs (take (length saved - 1) saved) (length xs) d zs) (sym long)
      (saved_kept text xs xs saved _ zs _ (length xs) (length saved - 1) (omega arith) (same_all _ _) (same_take saved (length saved - 1)) h.3)
