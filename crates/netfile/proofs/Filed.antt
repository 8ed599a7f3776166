-- Where the words of a net stand in bytes, and that nothing is wrong with the file of a net.
use Rattle.std.proofs.Common.{◌≡◌, ℕ, zero, suc, ◌+◌, ◌<◌, ◌≤◌, List, [], ◌∷◌, ◌++◌, length, get_or, Some, None, Option, sym, refl, ap, ◌∙◌, subst, subst₂, inl, inr, add-one, arith, length-append}
use Rattle.std.proofs.lemmas.List.{get_or_append_left, get_or-append-add}
use Rattle.calculus.specs.Spots.{Spot, end, port, carry}
use Rattle.calculus.specs.Books.{RuleBook, Laws}
use Rattle.calculus.specs.Nets.{Net, Stands}
use Rattle.nets.specs.Meaning.{cells_below}
use Rattle.netfile.specs.Words.{cell_word, link_word, word, each}
use Rattle.netfile.specs.Files.{arity_in, words, file, Storable}
use Rattle.netfile.specs.Faults.{BadLength, size, IsCell, Nameable, Names, CellDue, LinkDue}
use Rattle.netfile.specs.Reading.{Mutual, Right}
use Rattle.netfile.proofs.Words.{each_none, each_more, each_split, get_d_each, length_each_one, get_d_each_one, length_bytes_of, word_bytes_of}
use Rattle.netfile.proofs.Ranks.{below-zero, below_some, below_none, below_le, below_lt, rank_injective, place, placed}
use Rattle.netfile.proofs.Stored.{piece, end_pieces, cell_pieces, piece_vacant, piece_is, mate_stands, words_below}
use Rattle.netfile.proofs.Order.{same_start, same_arity}

-- the words of a cell: one more than its ports
piece_length : (K : RuleBook) (A : Net) (r k a : ℕ) → A.kind r ≡ Some k → K.arity k ≡ Some a → length (piece K A r) ≡ a + 2
piece_length K A r k a e f =
    ap length (piece_is K A r k a e f) ∙ (let n = length_each_one (suc a) (λ j. link_word (carry (cells_below A) (A.mate (port r j)))) in omega arith)

module _ (K : RuleBook) (A : Net) where
  -- the word at which the words of place r begin
  abbrev pub start : ℕ → ℕ
  start r = 2 + (A.ends + length (each r (piece K A)))

  -- the word of a spot's link
  abbrev pub spot_word_lem : Spot → ℕ
  spot_word_lem (end x) = 2 + x
  spot_word_lem (port r j) = start r + (j + 1)

  start_none : (r : ℕ) → A.kind r ≡ None → start (r + 1) ≡ start r
  start_none r e =
      let n = ap length (each_more r (piece K A)) ∙ length-append (each r (piece K A)) (piece K A r) in
      let m = ap length (piece_vacant K A r e) in
      omega arith

  start_some : (r k a : ℕ) → A.kind r ≡ Some k → K.arity k ≡ Some a → start (r + 1) ≡ start r + (a + 2)
  start_some r k a e f =
      let n = ap length (each_more r (piece K A)) ∙ length-append (each r (piece K A)) (piece K A r) in
      let m = piece_length K A r k a e f in
      omega arith

module _ (K : RuleBook) (A : Net) (s : Storable K A) (bs : List ℕ) where
  -- bytes with the cell word of each cell where it is due have all cells where they begin
  module _ (cells : (r k : ℕ) → r < 1024 → A.kind r ≡ Some k → CellDue K bs A.ends (cells_below A 1024) (cells_below A r) (start K A r) → (start K A r < size bs) × (word bs (start K A r) ≡ cell_word k)) where
    starts_more : (n : ℕ) (o : Option ℕ) → A.kind n ≡ o → n < 1024 → CellDue K bs A.ends (cells_below A 1024) (cells_below A n) (start K A n) → CellDue K bs A.ends (cells_below A 1024) (cells_below A (n + 1)) (start K A (n + 1))
    starts_more n None e less due =
        subst₂ (λ m w. CellDue K bs A.ends (cells_below A 1024) m w) (sym (below_none A n e)) (sym (start_none K A n e)) due
    starts_more n (Some k) e less due =
        let (a, f, _) = s.good.known n k e in
        let is = cells n k less e due in
        subst₂ (λ m w. CellDue K bs A.ends (cells_below A 1024) m w) (sym (below_some A n k e ∙ add-one (cells_below A n))) (sym (start_some K A n k a e f))
        (CellDue.next due (below_lt A n k 1024 e less) (is.0, (k, is.1, f)))

    pub starts_due : (n : ℕ) → n ≤ 1024 → CellDue K bs A.ends (cells_below A 1024) (cells_below A n) (start K A n)
    starts_due zero h =
        let none = ap length (each_none (piece K A)) in
        subst₂ (λ m w. CellDue K bs A.ends (cells_below A 1024) m w) (sym (below-zero A)) (omega arith) CellDue.first
    starts_due (suc n) h =
        subst (λ m. CellDue K bs A.ends (cells_below A 1024) (cells_below A m) (start K A m)) (add-one n)
        (starts_more n (A.kind n) refl (omega arith) (starts_due n (omega arith)))

  -- bytes with the cell word of each cell where it begins
  module _ (cells : (r k : ℕ) → r < 1024 → A.kind r ≡ Some k → (start K A r < size bs) × (word bs (start K A r) ≡ cell_word k)) where
    pub place_due : (r : ℕ) → r ≤ 1024 → CellDue K bs A.ends (cells_below A 1024) (cells_below A r) (start K A r)
    place_due = starts_due (λ r k less e _. cells r k less e)

    cell_is : (r k a : ℕ) → A.kind r ≡ Some k → K.arity k ≡ Some a → IsCell K bs (start K A r) a
    cell_is r k a e f = let is = cells r k (s.places r k e) e in (is.0, (k, is.1, f))

    -- the link of each spot of the net is due at its word, under the spot's number in the file
    pub spot_due : (x : Spot) → Stands K A x → LinkDue K bs A.ends (cells_below A 1024) (carry (cells_below A) x) (spot_word_lem K A x)
    spot_due (end x) there = (there, refl)
    spot_due (port r j) (k, e, (a, f, within)) =
        let less = s.places r k e in
        (start K A r, a, place_due r (omega arith), below_lt A r k 1024 e less, cell_is r k a e f, within, refl)

    -- and no other link is
    pub due_spot : (y : Spot) (w : ℕ) → LinkDue K bs A.ends (cells_below A 1024) y w → (x : Spot) × Stands K A x × (carry (cells_below A) x ≡ y) × (spot_word_lem K A x ≡ w)
    due_spot (end x) w due = (end x, due.0, refl, sym due.1)
    due_spot (port i j) w (v, b, d, less, is, within, here) =
        let r = place A i in
        let p = placed A i less in
        let k = p.kind in
        let (a, f, _) = s.good.known r k p.is in
        let begins : start K A r ≡ v = same_start K bs A.ends (cells_below A 1024) (subst (λ n. CellDue K bs A.ends (cells_below A 1024) n (start K A r)) p.rank (place_due r (omega (arith, p.below)))) d in
        let arity : a ≡ b = same_arity K bs begins (cell_is r k a p.is f) is in
        (port r j, (k, p.is, (a, f, omega arith)), ap (λ n. port n j) p.rank, omega arith)

same_carried : (K : RuleBook) (A : Net) (x y : Spot) → Stands K A x → Stands K A y → carry (cells_below A) x ≡ carry (cells_below A) y → x ≡ y
same_carried K A (end x) (end y) p q e = e
same_carried K A (end x) (port r j) p q e = let z : ◌≡◌ {A = ℕ} 0 1 = cc in absurd (omega arith)
same_carried K A (port r j) (end y) p q e = let z : ◌≡◌ {A = ℕ} 0 1 = cc in absurd (omega arith)
same_carried K A (port r j) (port q l) (k, e, _) (m, f, _) h =
    let ranks : cells_below A r ≡ cells_below A q = cc in
    let places = rank_injective A r q k m e f ranks in
    let ports : j ≡ l = cc in
    cc

module _ (K : RuleBook) (laws : Laws K) (A : Net) (s : Storable K A) where
  pub nameable : (y : Spot) → Stands K A y → Nameable A.ends (cells_below A 1024) (carry (cells_below A) y)
  nameable (end x) there = there
  nameable (port r j) (k, e, (a, f, within)) =
      (below_lt A r k 1024 e (s.places r k e), omega (arith, (laws.kinds k a f).1))

  abbrev all_words : List ℕ
  all_words = words K.number (arity_in K A) A

  long : length all_words ≡ start K A 1024
  long =
      let ends = length_each_one A.ends (λ x. link_word (carry (cells_below A) (A.mate (end x)))) in
      let both = length-append (end_pieces A) (cell_pieces K A) in
      omega arith

  file_size : size (file K A) ≡ start K A 1024
  file_size = omega (arith, length_bytes_of all_words, long)

  file_word : (i : ℕ) → word (file K A) i ≡ get_or all_words i 0
  file_word i = word_bytes_of all_words (words_below K laws A s) i

  end_word : (x : ℕ) → x < A.ends → get_or all_words (2 + x) 0 ≡ link_word (carry (cells_below A) (A.mate (end x)))
  end_word x less =
      let link : ℕ → ℕ = λ y. link_word (carry (cells_below A) (A.mate (end y))) in
      let at : 2 + x ≡ suc (suc x) = omega arith in
      ap (λ n. get_or all_words n 0) at
      ∙ get_or_append_left (end_pieces A) (cell_pieces K A) 0 x (omega (arith, length_each_one A.ends link))
      ∙ get_d_each_one A.ends link x less

  piece_word : (r j : ℕ) → r < 1024 → j < length (piece K A r) → get_or all_words (start K A r + j) 0 ≡ get_or (piece K A r) j 0
  piece_word r j less within =
      let ends = length_each_one A.ends (λ x. link_word (carry (cells_below A) (A.mate (end x)))) in
      let at : start K A r + j ≡ suc (suc (length (end_pieces A) + (length (each r (piece K A)) + j))) = omega arith in
      ap (λ n. get_or all_words n 0) at
      ∙ get_or-append-add (end_pieces A) (cell_pieces K A) (length (each r (piece K A)) + j) 0
      ∙ get_d_each 1024 r j (piece K A) less within

  piece_there : (r : ℕ) → r < 1024 → start K A r + length (piece K A r) ≤ size (file K A)
  piece_there r less =
      let (rest, e) = each_split 1024 r (piece K A) less in
      let n = ap length e ∙ length-append (each r (piece K A)) (piece K A r ++ rest) in
      let m = length-append (piece K A r) rest in
      omega (arith, file_size)

  file_cells : (r k : ℕ) → r < 1024 → A.kind r ≡ Some k → (start K A r < size (file K A)) × (word (file K A) (start K A r) ≡ cell_word k)
  file_cells r k less e =
      let (a, f, _) = s.good.known r k e in
      let n = piece_length K A r k a e f in
      let at : start K A r ≡ start K A r + 0 = omega arith in (
        omega (arith, piece_there r less),
        file_word (start K A r) ∙ ap (λ m. get_or all_words m 0) at ∙ piece_word r 0 less (omega arith) ∙ ap (λ xs. get_or xs 0 0) (piece_is K A r k a e f),
      )

  file_link : (x : Spot) → Stands K A x → (spot_word_lem K A x < size (file K A)) × (word (file K A) (spot_word_lem K A x) ≡ link_word (carry (cells_below A) (A.mate x)))
  file_link (end x) there = (omega (arith, file_size), file_word (2 + x) ∙ end_word x there)
  file_link (port r j) (k, e, (a, f, within)) =
      let less = s.places r k e in
      let n = piece_length K A r k a e f in
      let at : j + 1 ≡ suc j = omega arith in
      let link : ℕ → ℕ = λ i. link_word (carry (cells_below A) (A.mate (port r i))) in (
        omega (arith, piece_there r less),
        file_word (start K A r + (j + 1))
            ∙ piece_word r (j + 1) less (omega arith)
            ∙ ap (λ xs. get_or xs (j + 1) 0) (piece_is K A r k a e f)
            ∙ ap (λ m. get_or (cell_word k ∷ each (suc a) (λ i. link i ∷ [])) m 0) at
            ∙ get_d_each_one (suc a) link j (omega arith),
      )

  file_names : (x : Spot) → Stands K A x → Names (file K A) A.ends (cells_below A 1024) (spot_word_lem K A x) (carry (cells_below A) (A.mate x))
  file_names x there = let is = file_link x there in (is.0, is.1, nameable (A.mate x) (mate_stands K A s.good x there))

  file_mutual : (x : Spot) → Stands K A x → Mutual K (file K A) A.ends (cells_below A 1024) (carry (cells_below A) x) (spot_word_lem K A x)
  file_mutual x there =
      let y = A.mate x in
      let there' = mate_stands K A s.good x there in (
        carry (cells_below A) y,
        file_names x there,
        (λ e. s.good.linked x there (same_carried K A y x there' there e)),
        (
          spot_word_lem K A y,
          spot_due K A s (file K A) file_cells y there',
          subst (λ z. Names (file K A) A.ends (cells_below A 1024) (spot_word_lem K A y) (carry (cells_below A) z)) (s.good.twice x) (file_names y there'),
        ),
      )

  pub file_right : Right K (file K A) A.ends (cells_below A 1024) A.loops
  file_right = record {
    headed = record {
      length = not_bad;
      header = record { is = file_word 0; ends = s.ends; cells = below_le A 1024 };
      loops = (file_word 1, s.loops);
    };
    whole = subst (CellDue K (file K A) A.ends (cells_below A 1024) (cells_below A 1024)) (sym file_size) (place_due K A s (file K A) file_cells 1024 (omega arith));
    links = λ y w due.
        let (x, there, named, at) = due_spot K A s (file K A) file_cells y w due in
        subst₂ (λ z n. Mutual K (file K A) A.ends (cells_below A 1024) z n) named at (file_mutual x there);
  }
    where
      not_bad : BadLength (file K A) → ⊥
      not_bad (inl short) = omega (arith, length_bytes_of all_words, long)
      not_bad (inr part) = part (omega (arith, length_bytes_of all_words))
