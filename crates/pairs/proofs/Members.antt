-- What lists have. Assumes nothing.
use Rattle.std.proofs.Common.{◌≡◌, ℕ, zero, suc, ◌<◌, ◌≤◌, ◌⊎◌, List, [], ◌∷◌, ◌++◌, length, get_or, take, Some, sym, refl, ap, ◌∙◌, subst, inl, inr, arith}
use Rattle.std.specs.List.{ContainsAt as Has, slice_get, flat_map}
use Rattle.std.proofs.ByRecursion.{has_append_left, has_append_right, has_append_cases}
use Rattle.std.proofs.lemmas.List.{get_or-take, get_or_default, length-take-le}

module _ {X : Type 0} where
  pub has_none : (x : X) → Has [] x → ⊥
  has_none x h = let l = h.1 in omega arith

  pub has_first : (y : X) (ys : List X) → Has (y ∷ ys) y
  has_first y ys = (0, omega arith, λ d. refl)

  pub has_later : (y : X) (ys : List X) (x : X) → Has ys x → Has (y ∷ ys) x
  has_later y ys x (k, h, e) = (suc k, omega arith, e)

  pub has_cases : (y : X) (ys : List X) (x : X) → Has (y ∷ ys) x → (y ≡ x) ⊎ Has ys x
  has_cases y ys x (zero, h, e) = inl (e y)
  has_cases y ys x (suc k, h, e) = inr (k, omega arith, e)

  pub has_nth : (xs : List X) (x : X) → Has xs x → (i : ℕ) × (slice_get xs i ≡ Some x)
  has_nth [] x h = absurd (has_none x h)
  has_nth (y ∷ ys) x h = elim (has_cases y ys x h) [
    | inl e ↦ (0, ap (λ (v : X). Some v) e)
    | inr g ↦ (let t = has_nth ys x g in (suc t.0, t.1))
  ]

  pub nth_has : (xs : List X) (i : ℕ) (x : X) → slice_get xs i ≡ Some x → Has xs x
  nth_has [] i x e = absurd (let z : ◌≡◌ {A = ℕ} 0 1 = cc in omega arith)
  nth_has (y ∷ ys) zero x e = let z : y ≡ x = cc in (0, omega arith, λ d. z)
  nth_has (y ∷ ys) (suc i) x e = has_later y ys x (nth_has ys i x e)

  -- what the pieces of a flat map have
  pub has_flat : {Y : Type 0} (f : Y → List X) (ys : List Y) (x : X) → Has (flat_map f ys) x → (y : Y) × Has ys y × Has (f y) x
  has_flat f [] x h = absurd (has_none x h)
  has_flat f (y ∷ ys) x h = elim (has_append_cases (f y) (flat_map f ys) x h) [
    | inl g ↦ (y, (0, omega arith, λ d. refl), g)
    | inr g ↦ (let t = has_flat f ys x g in let i = t.1 in (t.0, (suc i.0, omega arith, i.2), t.2))
  ]

  pub flat_has : {Y : Type 0} (f : Y → List X) (ys : List Y) (y : Y) (x : X) → Has ys y → Has (f y) x → Has (flat_map f ys) x
  flat_has f [] y x h g = absurd (let l = h.1 in omega arith)
  flat_has f (z ∷ ys) y x (zero, l, e) g = has_append_left (f z) (flat_map f ys) x (subst (λ (v : _). Has (f v) x) (sym (e z)) g)
  flat_has f (z ∷ ys) y x (suc k, l, e) g = has_append_right (f z) (flat_map f ys) x (flat_has f ys y x (k, omega arith, e) g)

  -- the front of a list by its places
  pub has_take : (n : ℕ) (xs : List X) (d x : X) → n ≤ length xs → Has (take n xs) x → (i : ℕ) × (i < n) × (get_or xs i d ≡ x)
  has_take n xs d x l (k, h, e) =
      let m = length-take-le n xs l in
      let j : k < n = omega arith in
      (k, j, sym (get_or-take n xs k d j) ∙ e d)

  -- no two of the list are one
  abbrev pub Apart : List X → Type 0
  Apart [] = Unit {0}
  Apart (x ∷ xs) = (Has xs x → ⊥) × Apart xs

  pub apart-append : (xs ys : List X) → Apart xs → Apart ys → ((x : X) → Has xs x → Has ys x → ⊥) → Apart (xs ++ ys)
  apart-append [] ys a b o = b
  apart-append (x ∷ xs) ys a b o = (
    (λ h. elim (has_append_cases xs ys x h) [ inl g ↦ a.0 g | inr g ↦ o x (has_first x xs) g ]),
    apart-append xs ys a.1 b (λ z g. o z (has_later x xs z g)),
  )

  pub apart_at : (xs : List X) (d : X) → Apart xs → (i j : ℕ) → i < length xs → j < length xs → get_or xs i d ≡ get_or xs j d → i ≡ j
  apart_at [] d a i j h k e = absurd (omega arith)
  apart_at (x ∷ xs) d a zero zero h k e = refl
  apart_at (x ∷ xs) d a zero (suc j) h k e = absurd (a.0 (j, omega arith, λ f. get_or_default xs j f d (omega arith) ∙ sym e))
  apart_at (x ∷ xs) d a (suc i) zero h k e = absurd (a.0 (i, omega arith, λ f. get_or_default xs i f d (omega arith) ∙ e))
  apart_at (x ∷ xs) d a (suc i) (suc j) h k e = ap suc (apart_at xs d a.1 i j (omega arith) (omega arith) e)

  pub at_apart : (xs : List X) (d : X) → ((i j : ℕ) → i < length xs → j < length xs → get_or xs i d ≡ get_or xs j d → i ≡ j) → Apart xs
  at_apart [] d f = tt
  at_apart (x ∷ xs) d f = (
    (λ h. let z = f 0 (suc h.0) (omega arith) (let l = h.1 in omega arith) (sym (h.2 d)) in omega arith),
    at_apart xs d (λ i j h k e. let z = f (suc i) (suc j) (omega arith) (omega arith) e in omega arith),
  )

-- pieces of which each has no two that are one, and no two have anything in common
pub apart_flat : {X Y : Type 0} (f : Y → List X) (ys : List Y) → Apart ys → ((y : Y) → Apart (f y)) → ((y z : Y) (x : X) → Has (f y) x → Has (f z) x → y ≡ z) → Apart (flat_map f ys)
apart_flat f [] a each one = tt
apart_flat f (y ∷ ys) a each one =
    apart-append (f y) (flat_map f ys) (each y) (apart_flat f ys a.1 each one)
    (λ x h g. let t = has_flat f ys x g in a.0 (subst (Has ys) (sym (one y t.0 x h t.2)) t.1))
