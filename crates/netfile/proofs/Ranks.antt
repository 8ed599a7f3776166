-- How many cells stand below a place, and the place of each cell by its number.
use Rattle.std.proofs.Common.{◌≡◌, ℕ, zero, suc, ◌+◌, ◌<◌, ◌≤◌, true, false, ◌⊎◌, List, [], ◌++◌, is_some, Some, None, Option, sym, refl, ap, ◌∙◌, subst, inl, inr, add-one, arith}
use Rattle.std.proofs.lemmas.List.{append-nil}
use Rattle.std.proofs.lemmas.Bool.{cases_eq, cases_lt}
use Rattle.calculus.specs.Nets.{Net}
use Rattle.nets.specs.Meaning.{cells_below}
use Rattle.netfile.specs.Words.{each}
use Rattle.netfile.proofs.Words.{each_more, each_none}

-- one or none
abbrev one : Option ℕ → ℕ
one o = elim o [ None ↦ 0 | Some k ↦ 1 ]

one_le : (o : Option ℕ) → one o ≤ 1
one_le None = omega arith
one_le (Some k) = omega arith

pub below-zero : (A : Net) → cells_below A 0 ≡ 0
unfolding cells_below
below-zero A = refl

pub below_step : (A : Net) (n : ℕ) → cells_below A (n + 1) ≡ cells_below A n + elim (A.kind n) [ None ↦ 0 | Some k ↦ 1 ]
unfolding cells_below
below_step A n = ap (cells_below A) (add-one n)

pub below_some : (A : Net) (n k : ℕ) → A.kind n ≡ Some k → cells_below A (n + 1) ≡ cells_below A n + 1
below_some A n k e = below_step A n ∙ ap (λ o. cells_below A n + one o) e

pub below_none : (A : Net) (n : ℕ) → A.kind n ≡ None → cells_below A (n + 1) ≡ cells_below A n
below_none A n e = below_step A n ∙ ap (λ o. cells_below A n + one o) e ∙ omega arith

pub below_le : (A : Net) (n : ℕ) → cells_below A n ≤ n
unfolding cells_below
below_le A zero = omega arith
below_le A (suc n) = omega (arith, below_le A n, one_le (A.kind n))

pub count_some : (A : Net) (n m : ℕ) (o : Option ℕ) → m ≡ cells_below A n → o ≡ A.kind n → is_some o ≡ true → m + 1 ≡ cells_below A (n + 1)
count_some A n m None e k s = let z : false ≡ true = s in let y : ◌≡◌ {A = ℕ} 0 1 = cc in absurd (omega arith)
count_some A n m (Some k) e f s = omega (arith, below_some A n k (sym f))

pub count_none : (A : Net) (n m : ℕ) (o : Option ℕ) → m ≡ cells_below A n → o ≡ A.kind n → is_some o ≡ false → m ≡ cells_below A (n + 1)
count_none A n m None e f s = omega (arith, below_none A n (sym f))
count_none A n m (Some k) e f s = let z : true ≡ false = s in let y : ◌≡◌ {A = ℕ} 0 1 = cc in absurd (omega arith)

pub below_mono : (A : Net) (m n : ℕ) → m ≤ n → cells_below A m ≤ cells_below A n
unfolding cells_below
below_mono A m zero h = let e : m ≡ 0 = omega arith in rw e (omega arith)
below_mono A m (suc n) h =
    elim (cases_eq m (suc n)) [
      | inl e ↦ rw e (omega arith)
      | inr ne ↦ omega (arith, below_mono A m n (omega arith))
    ]

pub below_lt : (A : Net) (r k n : ℕ) → A.kind r ≡ Some k → r < n → cells_below A r < cells_below A n
below_lt A r k n e h = omega (arith, below_some A r k e, below_mono A (r + 1) n (omega arith))

-- two cells have two numbers
pub rank_injective : (A : Net) (r s k l : ℕ) → A.kind r ≡ Some k → A.kind s ≡ Some l → cells_below A r ≡ cells_below A s → r ≡ s
rank_injective A r s k l e f h =
    elim (cases_lt r s) [
      | inl lt ↦ absurd (omega (arith, below_lt A r k s e lt))
      | inr ge ↦ elim (cases_lt s r) [ inl lt ↦ absurd (omega (arith, below_lt A s l r f lt)) | inr le ↦ omega arith ]
    ]

-- the cell in place r, below n, has the number i
pub record Placed (A : Net) (n i r : ℕ) : Type 0 where
  pub kind : ℕ
  pub below : r < n
  pub is : A.kind r ≡ Some kind
  pub rank : cells_below A r ≡ i

find_more : (A : Net) (n i : ℕ) (o : Option ℕ) → A.kind n ≡ o → i < cells_below A (n + 1) →
    (i < cells_below A n → (r : ℕ) × Placed A n i r) → (r : ℕ) × Placed A (suc n) i r
find_more A n i None e h before =
    let (r, p) = before (omega (arith, below_none A n e)) in
    (r, record { kind = p.kind; below = omega (arith, p.below); is = p.is; rank = p.rank })
find_more A n i (Some k) e h before =
    elim (cases_eq (cells_below A n) i) [
      | inl here ↦ (n, record { kind = k; below = omega arith; is = e; rank = here })
      | inr other ↦
          let (r, p) = before (omega (arith, below_some A n k e)) in
          (r, record { kind = p.kind; below = omega (arith, p.below); is = p.is; rank = p.rank })
    ]

find : (A : Net) (n i : ℕ) → i < cells_below A n → (r : ℕ) × Placed A n i r
unfolding cells_below
find A zero i h = absurd (omega arith)
find A (suc n) i h = find_more A n i (A.kind n) refl (rw add-one h) (find A n i)

place_by : (A : Net) (i : ℕ) → (i < cells_below A 1024) ⊎ (cells_below A 1024 ≤ i) → ℕ
place_by A i (inl h) = (find A 1024 i h).0
place_by A i (inr h) = 0

placed_by : (A : Net) (i : ℕ) (c : (i < cells_below A 1024) ⊎ (cells_below A 1024 ≤ i)) → i < cells_below A 1024 → Placed A 1024 i (place_by A i c)
unfolding place_by
placed_by A i (inl h) l = (find A 1024 i h).1
placed_by A i (inr h) l = absurd (omega arith)

-- the place of the cell numbered i
pub place : Net → ℕ → ℕ
place A i = place_by A i (cases_lt i (cells_below A 1024))

pub placed : (A : Net) (i : ℕ) → i < cells_below A 1024 → Placed A 1024 i (place A i)
unfolding place
placed A i h = placed_by A i (cases_lt i (cells_below A 1024)) h

pub place_rank : (A : Net) (r k : ℕ) → A.kind r ≡ Some k → r < 1024 → place A (cells_below A r) ≡ r
place_rank A r k e h =
    let p = placed A (cells_below A r) (below_lt A r k 1024 e h) in rank_injective A _ r p.kind k p.is e p.rank

-- pieces by place, of which vacant places have none, are pieces by number
module _ (A : Net) (f : ℕ → List ℕ) (vacant : (r : ℕ) → A.kind r ≡ None → f r ≡ []) where
  cells_more : (n : ℕ) (o : Option ℕ) → A.kind n ≡ o → n < 1024 → each n f ≡ each (cells_below A n) (λ i. f (place A i)) → each (n + 1) f ≡ each (cells_below A (n + 1)) (λ i. f (place A i))
  cells_more n None e h p =
      each_more n f ∙ ap (λ xs. each n f ++ xs) (vacant n e) ∙ append-nil (each n f) ∙ p ∙ ap (λ m. each m (λ i. f (place A i))) (sym (below_none A n e))
  cells_more n (Some k) e h p =
      each_more n f
      ∙ ap (λ xs. xs ++ f n) p
      ∙ ap (λ r. each (cells_below A n) (λ i. f (place A i)) ++ f r) (sym (place_rank A n k e h))
      ∙ sym (each_more (cells_below A n) (λ i. f (place A i)))
      ∙ ap (λ m. each m (λ i. f (place A i))) (sym (below_some A n k e))

  pub each_cells : (n : ℕ) → n ≤ 1024 → each n f ≡ each (cells_below A n) (λ i. f (place A i))
  unfolding cells_below
  each_cells zero h = each_none f ∙ sym (each_none (λ i. f (place A i)))
  each_cells (suc n) h =
      subst (λ m. each m f ≡ each (cells_below A m) (λ i. f (place A i))) (add-one n) (cells_more n (A.kind n) refl (omega arith) (each_cells n (omega arith)))
