-- Lists with the same elements in another order, and appending. Assumes nothing.
use Rattle.std.proofs.Common.{List, [], ◌∷◌, ◌++◌, refl, arith}
use Rattle.std.specs.List.Sorted.{IsPermutation}
use Rattle.std.proofs.lemmas.List.{append-nil}
use Rattle.std.proofs.lemmas.List.Sorted.{IsPermutation-refl, IsPermutation-sym, IsPermutation-trans, IsPermutation-cons, IsPermutation-swap}

pub after : {X : Type 0} (zs xs ys : List X) → IsPermutation xs ys → IsPermutation (zs ++ xs) (zs ++ ys)
after [] xs ys h = h
after (z ∷ zs) xs ys h = IsPermutation-cons z _ _ (after zs xs ys h)

pub first_two : {X : Type 0} (x y : X) (zs : List X) → IsPermutation (x ∷ y ∷ zs) (y ∷ x ∷ zs)
first_two x y zs = IsPermutation-swap (x ∷ y ∷ zs) (y ∷ x ∷ zs) 0 1 (omega arith) (omega arith) refl

pub middle : {X : Type 0} (zs : List X) (y : X) (ys : List X) → IsPermutation (zs ++ y ∷ ys) (y ∷ (zs ++ ys))
middle [] y ys = IsPermutation-refl _
middle (z ∷ zs) y ys = IsPermutation-trans _ _ _ (IsPermutation-cons z _ _ (middle zs y ys)) (first_two z y _)

pub turned : {X : Type 0} (xs ys : List X) → IsPermutation (xs ++ ys) (ys ++ xs)
turned [] ys = rw (append-nil ys) (IsPermutation-refl ys)
turned (x ∷ xs) ys = IsPermutation-trans _ _ _ (IsPermutation-cons x _ _ (turned xs ys)) (IsPermutation-sym _ _ (middle ys x xs))

pub before : {X : Type 0} (zs xs ys : List X) → IsPermutation xs ys → IsPermutation (xs ++ zs) (ys ++ zs)
before zs xs ys h =
    IsPermutation-trans _ _ _ (turned xs zs) (IsPermutation-trans _ _ _ (after zs xs ys h) (turned zs ys))
