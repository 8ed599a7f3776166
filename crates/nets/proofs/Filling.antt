-- New cells written at their places one after the other. Assumes nothing.
use Rattle.std.proofs.Common.{◌≡◌, ℕ, suc, ◌+◌, ◌<◌, ◌≤◌, ◌-◌, ◌⊎◌, ◌≢◌, List, ◌∷◌, map, length, drop, get_or, set, sym, refl, ap, ◌∙◌, subst, inl, inr, arith, length-set, get_or-set_other, get_or-set_same}
use lib.ListN.{get_or-map}
use Rattle.std.proofs.lemmas.List.{drop_more, length-drop}
use Rattle.std.proofs.lemmas.Bool.{cases_eq}
use Rattle.books.specs.declared.table.Cell.{Cell}
use Rattle.nets.specs.Layout.{blank, kinds, arities}
use Rattle.nets.specs.ByBook.{seat}
use Rattle.nets.specs.Rewiring.{Places, Filled}

pub filled_more : (xs cells : List Cell) (ps : List ℕ) (ys : List Cell) (n m : ℕ) → Filled xs cells n ps ys → Places (seat ps) m → n < m → length xs ≡ 1024 →
    Filled xs cells (n + 1) ps (set ys (seat ps n) (get_or cells n blank))
filled_more xs cells ps ys n m F P h l = record {
  long = simp length-set F.long;
  new = new;
  other = λ k f. get_or-set_other ys (seat ps n) k (get_or cells n blank) blank (f n (omega arith)) ∙ F.other k (λ i g. f i (omega arith));
}
  where
    new : (i : ℕ) → i < n + 1 → get_or (set ys (seat ps n) (get_or cells n blank)) (seat ps i) blank ≡ get_or cells i blank
    new i g = go (cases_eq i n)
      where
        go : (i ≡ n) ⊎ (i ≢ n) → get_or (set ys (seat ps n) (get_or cells n blank)) (seat ps i) blank ≡ get_or cells i blank
        go (inl e) =
            ap (λ (i : ℕ). get_or (set ys (seat ps n) (get_or cells n blank)) (seat ps i) blank) e
            ∙ get_or-set_same ys (seat ps n) (get_or cells n blank) blank (let a = P.low n h in let b = F.long in omega arith) ∙ ap (λ (i : ℕ). get_or cells i blank) (sym e)
        go (inr o) =
            get_or-set_other ys (seat ps n) (seat ps i) (get_or cells n blank) blank (λ e. o (P.apart i n (omega arith) h e)) ∙ F.new i (omega arith)

-- the same of their kinds, or of their arities
pub record Listed (xs values : List ℕ) (n : ℕ) (ps ys : List ℕ) : Type 0 where
  pub new : (i : ℕ) → i < n → get_or ys (seat ps i) 0 ≡ get_or values i 0
  pub other : (k : ℕ) → ((i : ℕ) → i < n → k ≢ seat ps i) → get_or ys k 0 ≡ get_or xs k 0

module _ (xs cells : List Cell) (n : ℕ) (ps : List ℕ) (ys : List Cell) (F : Filled xs cells n ps ys) where
  listed : (f : Cell → ℕ) → f blank ≡ 0 → Listed (map f xs) (map f cells) n ps (map f ys)
  listed f z = record {
    new = λ i h. at ys (seat ps i) ∙ ap f (F.new i h) ∙ sym (at cells i);
    other = λ k g. at ys k ∙ ap f (F.other k g) ∙ sym (at xs k);
  }
    where
      at : (zs : List Cell) (i : ℕ) → get_or (map f zs) i 0 ≡ f (get_or zs i blank)
      at zs i = ap (get_or (map f zs) i) (sym z) ∙ get_or-map f zs i blank

  pub listed_kinds : Listed (kinds xs) (map (λ c. c.kind) cells) n ps (kinds ys)
  listed_kinds = listed (λ c. c.kind) refl

  pub listed_arities : Listed (arities xs) (map (λ c. c.arity) cells) n ps (arities ys)
  listed_arities = listed (λ c. c.arity) refl

-- the first n cells are written, and the others are to come
pub record Done (cells rest : List Cell) (places seats : List ℕ) (xs ys : List Cell) : Type 0 where
  pub n : ℕ
  pub within : n ≤ length cells
  pub cells_left : rest ≡ drop n cells
  pub places_left : seats ≡ drop n places
  pub filled : Filled xs cells n places ys

next_of : {X : Type 0} (xs : List X) (n : ℕ) (d x : X) (t : List X) → x ∷ t ≡ drop n xs → (n < length xs) × (x ≡ get_or xs n d) × (t ≡ drop (n + 1) xs)
next_of xs n d x t e =
    let long : suc (length t) ≡ length xs - n = ap length e ∙ length-drop n xs in
    let h : n < length xs = omega arith in
    let f : x ∷ t ≡ get_or xs n d ∷ drop (n + 1) xs = e ∙ drop_more xs n d h in
    (h, cc, cc)

module _ (cells rest : List Cell) (places seats : List ℕ) (xs ys : List Cell) (D : Done cells rest places seats xs ys) (P : Places (seat places) (length cells)) (lx : length xs ≡ 1024) where
  pub done_more : (x : Cell) (t : List Cell) (p : ℕ) (s : List ℕ) → rest ≡ x ∷ t → seats ≡ p ∷ s → Done cells t places s xs (set ys p x)
  done_more x t p s e f = record {
    n = D.n + 1;
    within = let h = a.0 in omega arith;
    cells_left = a.2;
    places_left = b.2;
    filled = subst (λ (x : Cell). Filled xs cells (D.n + 1) places (set ys p x)) (sym a.1)
        (subst (λ (p : ℕ). Filled xs cells (D.n + 1) places (set ys p (get_or cells D.n blank))) (sym b.1) (filled_more xs cells places ys D.n (length cells) D.filled P a.0 lx));
  }
    where
      a : (D.n < length cells) × (x ≡ get_or cells D.n blank) × (t ≡ drop (D.n + 1) cells)
      a = next_of cells D.n blank x t (sym e ∙ D.cells_left)

      b : (D.n < length places) × (p ≡ get_or places D.n 0) × (s ≡ drop (D.n + 1) places)
      b = next_of places D.n 0 p s (sym f ∙ D.places_left)

  -- where no cell or no place is left, all are written
  pub done_all : length cells ≤ length places → (length rest ≡ 0) ⊎ (length seats ≡ 0) → Filled xs cells (length cells) places ys
  done_all h e = subst (λ (n : ℕ). Filled xs cells n places ys) (all e) D.filled
    where
      all : (length rest ≡ 0) ⊎ (length seats ≡ 0) → D.n ≡ length cells
      all (inl e) =
          let l = ap length D.cells_left ∙ length-drop D.n cells in
          let w = D.within in
          omega arith
      all (inr e) =
          let l = ap length D.places_left ∙ length-drop D.n places in
          let w = D.within in
          omega arith
