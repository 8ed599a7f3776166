-- Which items a list has, and that one more keeps it without repeats.
use Rattle.std.proofs.Common.{◌≡◌, ℕ, ◌<◌, Bool, true, false, ◌&&◌, ◌==◌, Decides, refl, List, [], ◌∷◌, ◌++◌, map, length, get_or, take, sym, ap, ◌∙◌, subst, inl, inr, arith}
use Rattle.std.specs.List.{ContainsAt as Has, IsAnyAnswer}
use Rattle.std.specs.Str.{bytes_eq}
use Rattle.std.proofs.lemmas.List.{length-map, get_or-map, map_push, length-append, length-take-le, get_or-take, get_or_append_left, get_or_push, get_or_default, ext_get_or}
use Rattle.std.proofs.lemmas.Slice.Eq.{bytes_eq-Decides}
use Rattle.std.proofs.lemmas.Bool.{cases_eq, cases_lt, both_ways}
use Rattle.std.proofs.lemmas.Bool.Decides.{Decides-and, Decides-eqb}
use Rattle.terms.specs.declared.item.Item.{Item}
use Rattle.terms.specs.Spelling.{spelled, Apart}

-- an element that is w, by any default
pub has_at : (is : List (List ℕ)) (w : List ℕ) (k : ℕ) → k < length is → get_or is k [] ≡ w → Has is w
has_at is w k h e = (k, h, λ d. get_or_default is k d [] h ∙ e)

-- items that are spelled alike are the same bytes
alike : (x y : Item) → spelled x ≡ spelled y → (x.letters ≡ y.letters) × (x.len ≡ y.len)
alike x y e =
    let a : length (spelled x) ≡ x.len = length-take-le x.len x.letters (omega (arith, x.few, x.wide)) in
    let b : length (spelled y) ≡ y.len = length-take-le y.len y.letters (omega (arith, y.few, y.wide)) in
    let same : length (spelled x) ≡ length (spelled y) = ap length e in
    let n : x.len ≡ y.len = omega arith in
    let at : (k : ℕ) → k < length x.letters → get_or x.letters k 0 ≡ get_or y.letters k 0 =
    λ k l.
    elim (cases_lt k x.len) [
      | inl i ↦ sym (get_or-take x.len x.letters k 0 i) ∙ ap (λ (w : List ℕ). get_or w k 0) e ∙ get_or-take y.len y.letters k 0 (omega arith)
      | inr i ↦ x.blank k i (omega (arith, x.wide)) ∙ sym (y.blank k (omega arith) (omega (arith, x.wide)))
    ] in
    (ext_get_or 0 x.letters y.letters (x.wide ∙ sym y.wide) at, n)

-- so items are equal where they are spelled alike, and nowhere else
equal_decides : (x y : Item) → Decides (bytes_eq x.letters y.letters && (x.len == y.len)) (spelled x ≡ spelled y)
equal_decides x y =
    let d = Decides-and _ _ (bytes_eq-Decides x.letters y.letters) (Decides-eqb x.len y.len) in
    ((λ t. let s = d.0 t in ap (λ (n : ℕ). take n x.letters) s.1 ∙ ap (λ (w : List ℕ). take y.len w) s.0), (λ e. d.1 (alike x y e)))

-- whether an item is listed, by a look at each
pub has_decides : (xs : List Item) (x : Item) (r : Bool) → IsAnyAnswer (λ y b. (bytes_eq y.letters x.letters && (y.len == x.len)) ≡ b) xs r → Decides r (Has (map spelled xs) (spelled x))
has_decides xs x true h =
    let n = length-map xs spelled in
    ((λ _. has_at (map spelled xs) (spelled x) h.0 (omega (arith, h.1)) (get_or-map spelled xs h.0 x [] h.1 ∙ (equal_decides (get_or xs h.0 x) x).0 (h.2 x))), λ _. refl)
has_decides xs x false h =
    let n = length-map xs spelled in (
      (λ e. absurd (both_ways false refl e)),
      λ i.
          let l : i.0 < length xs = omega (arith, i.1) in
          absurd (both_ways _ (h i.0 x (omega arith) l) ((equal_decides (get_or xs i.0 x) x).1 (sym (get_or-map spelled xs i.0 x [] l) ∙ i.2 []))),
    )

-- the items of a list with one more are apart, if that one is not listed
pub apart_more : (xs : List Item) (x : Item) → Apart xs → (Has (map spelled xs) (spelled x) → ⊥) → Apart (xs ++ x ∷ [])
apart_more xs x apart new i j lt in' same =
    let m = map_push spelled xs x in
    let n = length-append xs (x ∷ []) in
    let long = length-map xs spelled in
    let same' = subst (λ l. get_or l i [] ≡ get_or l j []) m same in
    let before : get_or (map spelled xs ++ spelled x ∷ []) i [] ≡ get_or (map spelled xs) i [] = get_or_append_left (map spelled xs) (spelled x ∷ []) [] i (omega arith) in
    elim (cases_eq j (length xs)) [
      | inl e ↦
          let at : get_or (map spelled xs ++ spelled x ∷ []) j [] ≡ spelled x = get_or_push (map spelled xs) (spelled x) [] j (omega arith) in
          new (has_at (map spelled xs) (spelled x) i (omega arith) (sym before ∙ same' ∙ at))
      | inr ne ↦
          let at : get_or (map spelled xs ++ spelled x ∷ []) j [] ≡ get_or (map spelled xs) j [] = get_or_append_left (map spelled xs) (spelled x ∷ []) [] j (omega arith) in
          apart i j lt (omega arith) (sym before ∙ same' ∙ at)
    ]
