-- What is in a list, by recursion. Assumes nothing.
use Rattle.std.proofs.Common.{◌≡◌, ℕ, zero, suc, ◌<◌, ◌⊎◌, List, [], ◌∷◌, ◌++◌, map, length, get_or, Some, sym, refl, ap, inl, inr, arith}
use Rattle.std.specs.List.{ContainsAt as Has, slice_get}

-- x is in the list
abbrev pub In : {X : Type 0} → X → List X → Type 0
In x [] = ⊥
In x (y ∷ ys) = (x ≡ y) ⊎ In x ys

at_in : {X : Type 0} (xs : List X) (x : X) (k : ℕ) → k < length xs → ((d : X) → get_or xs k d ≡ x) → In x xs
at_in [] x k h e = absurd (omega arith)
at_in (y ∷ ys) x zero h e = inl (sym (e x))
at_in (y ∷ ys) x (suc k) h e = inr (at_in ys x k (omega arith) e)

pub has_in : {X : Type 0} (xs : List X) (x : X) → Has xs x → In x xs
has_in xs x (k, h, e) = at_in xs x k h e

pub in_has : {X : Type 0} (xs : List X) (x : X) → In x xs → Has xs x
in_has [] x h = absurd h
in_has (y ∷ ys) x (inl e) = (0, omega arith, λ d. sym e)
in_has (y ∷ ys) x (inr h) = let t = in_has ys x h in (suc t.0, (let z = t.1 in omega arith), t.2)

pub nth_in : {X : Type 0} (xs : List X) (i : ℕ) (x : X) → slice_get xs i ≡ Some x → In x xs
nth_in [] i x e = absurd (let z : ◌≡◌ {A = ℕ} 0 1 = cc in omega arith)
nth_in (y ∷ ys) zero x e = inl (let z : y ≡ x = cc in sym z)
nth_in (y ∷ ys) (suc i) x e = inr (nth_in ys i x e)

pub in_nth : {X : Type 0} (xs : List X) (x : X) → In x xs → (i : ℕ) × (slice_get xs i ≡ Some x)
in_nth [] x h = absurd h
in_nth (y ∷ ys) x (inl e) = (0, ap (λ (v : _). Some v) (sym e))
in_nth (y ∷ ys) x (inr h) = let t = in_nth ys x h in (suc t.0, t.1)

pub in_map : {X Y : Type 0} (f : X → Y) (xs : List X) (y : Y) → In y (map f xs) → (x : X) × In x xs × (y ≡ f x)
in_map f [] y h = absurd h
in_map f (x ∷ xs) y (inl e) = (x, inl refl, e)
in_map f (x ∷ xs) y (inr h) = let t = in_map f xs y h in (t.0, inr t.1, t.2)

pub map_in : {X Y : Type 0} (f : X → Y) (xs : List X) (x : X) → In x xs → In (f x) (map f xs)
map_in f [] x h = h
map_in f (y ∷ ys) x (inl e) = inl (ap f e)
map_in f (y ∷ ys) x (inr h) = inr (map_in f ys x h)

pub in_append : {X : Type 0} (xs ys : List X) (x : X) → In x (xs ++ ys) → In x xs ⊎ In x ys
in_append [] ys x h = inr h
in_append (z ∷ zs) ys x (inl e) = inl (inl e)
in_append (z ∷ zs) ys x (inr h) = elim (in_append zs ys x h) [ inl i ↦ inl (inr i) | inr i ↦ inr i ]

pub append_left : {X : Type 0} (xs ys : List X) (x : X) → In x xs → In x (xs ++ ys)
append_left [] ys x h = absurd h
append_left (z ∷ zs) ys x (inl e) = inl e
append_left (z ∷ zs) ys x (inr h) = inr (append_left zs ys x h)

pub append_right : {X : Type 0} (xs ys : List X) (x : X) → In x ys → In x (xs ++ ys)
append_right [] ys x h = h
append_right (z ∷ zs) ys x h = inr (append_right zs ys x h)
