-- What is put in by its key, in a list whose keys rise. Assumes nothing.
use Rattle.std.proofs.Common.{◌≡◌, ℕ, zero, suc, ◌+◌, ◌<◌, ◌≤◌, not, one-add, Bool, true, false, cond, ltb, ◌≢◌, ◌⊎◌, List, [], ◌∷◌, map, length, Some, sym, refl, ap, ◌∙◌, subst, inl, inr, arith}
use Rattle.std.specs.List.{ContainsAt as Has, AllByRecursion as All, slice_get, insert, position, position_or_len}
use Rattle.std.specs.Option.{unwrap_or}
use Rattle.std.proofs.lemmas.List.Sums.{prefix_len-le-length}
use Rattle.std.proofs.lemmas.Bool.{cases_lt}
use Rattle.std.proofs.ByRecursion.{all-has, All-weaker, all_has_itself}
use Rattle.pairs.specs.Gathering.{put}
use Rattle.pairs.proofs.Members.{has_first, has_later, has_cases, nth_has}

module _ {X : Type 0} (key : X → ℕ) where
  all_put : (Q : X → Type 0) (x : X) (ys : List X) → Q x → All Q ys → All Q (put key x ys)
  all_put Q x [] q a = (q, tt)
  all_put Q x (y ∷ ys) q a = elim (ltb (key x) (key y)) as (λ b. All Q (cond b (x ∷ y ∷ ys) (y ∷ put key x ys))) [
    | true ↦ (q, a)
    | false ↦ (a.0, all_put Q x ys q a.1)
  ]

  pub has_put : (x : X) (ys : List X) (z : X) → Has (put key x ys) z → (x ≡ z) ⊎ Has ys z
  has_put x ys z h = all-has (λ z. (x ≡ z) ⊎ Has ys z) (put key x ys) z (all_put (λ z. (x ≡ z) ⊎ Has ys z) x ys (inl refl) (All-weaker (Has ys) (λ z. (x ≡ z) ⊎ Has ys z) (λ z g. inr g) ys (all_has_itself ys))) h

  pub put_first : (x : X) (ys : List X) → Has (put key x ys) x
  put_first x [] = has_first x []
  put_first x (y ∷ ys) = elim (ltb (key x) (key y)) as (λ b. Has (cond b (x ∷ y ∷ ys) (y ∷ put key x ys)) x) [
    | true ↦ has_first x (y ∷ ys)
    | false ↦ has_later y (put key x ys) x (put_first x ys)
  ]

  pub put_kept : (x : X) (ys : List X) (z : X) → Has ys z → Has (put key x ys) z
  put_kept x [] z h = absurd (let l = h.1 in omega arith)
  put_kept x (y ∷ ys) z h = elim (ltb (key x) (key y)) as (λ b. Has (cond b (x ∷ y ∷ ys) (y ∷ put key x ys)) z) [
    | true ↦ has_later x (y ∷ ys) z h
    | false ↦ elim (has_cases y ys z h) [
      | inl e ↦ subst (Has (y ∷ put key x ys)) e (has_first y (put key x ys))
      | inr g ↦ has_later y (put key x ys) z (put_kept x ys z g)
    ]
  ]

  pub length_put : (x : X) (ys : List X) → length (put key x ys) ≡ suc (length ys)
  length_put x [] = refl
  length_put x (y ∷ ys) = elim (ltb (key x) (key y)) as (λ b. length (cond b (x ∷ y ∷ ys) (y ∷ put key x ys)) ≡ suc (suc (length ys))) [
    | true ↦ refl
    | false ↦ ap suc (length_put x ys)
  ]

  pub map_put : {Y : Type 0} (f : Y → X) (x : Y) (ys : List Y) → map f (put (λ y. key (f y)) x ys) ≡ put key (f x) (map f ys)
  map_put f x [] = refl
  map_put f x (y ∷ ys) =
      elim (ltb (key (f x)) (key (f y)))
      as (λ b. map f (cond b (x ∷ y ∷ ys) (y ∷ put (λ z. key (f z)) x ys)) ≡ cond b (f x ∷ f y ∷ map f ys) (f y ∷ put key (f x) (map f ys))) [
        | true ↦ refl
        | false ↦ ap (λ (l : List X). f y ∷ l) (map_put f x ys)
      ]

  -- the keys rise
  abbrev pub Up : List X → Type 0
  Up [] = Unit {0}
  Up (x ∷ xs) = All (λ y. key x < key y) xs × Up xs

  pub up_put : (x : X) (ys : List X) → Up ys → ((y : X) → Has ys y → key y ≢ key x) → Up (put key x ys)
  up_put x [] u n = (tt, tt)
  up_put x (y ∷ ys) u n = elim (cases_lt (key x) (key y)) [
    | inl h ↦
        (let e : ltb (key x) (key y) ≡ true = grind (arith) in
        subst (λ (b : Bool). Up (cond b (x ∷ y ∷ ys) (y ∷ put key x ys))) (sym e)
        ((h, All-weaker (λ z. key y < key z) (λ z. key x < key z) (λ z g. omega arith) ys u.0), u))
    | inr h ↦
        (let e : ltb (key x) (key y) ≡ false = grind (arith) in
        let m = n y (has_first y ys) in
        let l : key y < key x = omega arith in
        subst (λ (b : Bool). Up (cond b (x ∷ y ∷ ys) (y ∷ put key x ys))) (sym e)
        (all_put (λ z. key y < key z) x ys l u.0, up_put x ys u.1 (λ z g. n z (has_later y ys z g))))
  ]

  pub up_rises : (xs : List X) → Up xs → (i j : ℕ) (x y : X) → i < j → slice_get xs i ≡ Some x → slice_get xs j ≡ Some y → key x < key y
  up_rises [] u i j x y h e f = absurd (let z : ◌≡◌ {A = ℕ} 0 1 = cc in omega arith)
  up_rises (z ∷ zs) u i zero x y h e f = absurd (omega arith)
  up_rises (z ∷ zs) u zero (suc j) x y h e f =
      let zx : z ≡ x = cc in
      subst (λ (v : X). key v < key y) zx (all-has (λ v. key z < key v) zs y u.0 (nth_has zs j y f))
  up_rises (z ∷ zs) u (suc i) (suc j) x y h e f = up_rises zs u.1 i j x y (omega arith) e f

  pub rises_up : (xs : List X) → ((i j : ℕ) (x y : X) → i < j → slice_get xs i ≡ Some x → slice_get xs j ≡ Some y → key x < key y) → Up xs
  rises_up [] r = tt
  rises_up (x ∷ xs) r = (
    all xs (λ j y e. r 0 (suc j) x y (omega arith) refl e),
    rises_up xs (λ i j y z h e f. r (suc i) (suc j) y z (omega arith) e f),
  )
    where
      all : (ys : List X) → ((j : ℕ) (y : X) → slice_get ys j ≡ Some y → key x < key y) → All (λ y. key x < key y) ys
      all [] f = tt
      all (y ∷ ys) f = (f 0 y refl, all ys (λ j z e. f (suc j) z e))

  -- by the place of the first that has a greater key
  pub put_is : (x : X) (ys : List X) → put key x ys ≡ insert ys (position_or_len (λ y. ltb (key x) (key y)) ys) x
  put_is x [] = refl
  put_is x (y ∷ ys) = elim (ltb (key x) (key y)) as (λ b. cond b (x ∷ y ∷ ys) (y ∷ put key x ys) ≡ insert (y ∷ ys) (cond (not b) (1 + position_or_len (λ y. ltb (key x) (key y)) ys) 0) x) [
    | true ↦ refl
    | false ↦ rw one-add (ap (λ (l : List X). y ∷ l) (put_is x ys))
  ]

  pub put_at : (x : X) (ys : List X) → put key x ys ≡ insert ys (unwrap_or (position (λ y. ltb (key x) (key y)) ys) (length ys)) x
  put_at x ys = put_is x ys ∙ ap (λ (i : ℕ). insert ys i x) (at (cases_lt (position_or_len (λ y. ltb (key x) (key y)) ys) (length ys)))
    where
      at : (position_or_len (λ y. ltb (key x) (key y)) ys < length ys) ⊎ (length ys ≤ position_or_len (λ y. ltb (key x) (key y)) ys) →
          position_or_len (λ y. ltb (key x) (key y)) ys ≡ unwrap_or (position (λ y. ltb (key x) (key y)) ys) (length ys)
      at (inl h) = let e : ltb (position_or_len (λ y. ltb (key x) (key y)) ys) (length ys) ≡ true = grind (arith) in rw e refl
      at (inr h) =
          let e : ltb (position_or_len (λ y. ltb (key x) (key y)) ys) (length ys) ≡ false = grind (arith) in
          let l = prefix_len-le-length (λ y. not (ltb (key x) (key y))) ys in
          rw e (omega arith)
