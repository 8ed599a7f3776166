-- A net that has the cells and links that right bytes name has these bytes for its file.
use Rattle.std.proofs.Common.{◌≡◌, ℕ, zero, suc, ◌+◌, ◌-◌, ◌%◌, ◌<◌, ◌≤◌, min, List, ◌∷◌, ◌++◌, length, get_or, Some, None, Option, sym, refl, ap, ◌∙◌, subst, subst₂, inl, inr, add-one, arith, length-append}
use Rattle.std.proofs.lemmas.List.{get_or_append_left, get_or-append-add}
use Rattle.std.proofs.lemmas.Bool.{cases_lt, cases_eq}
use Rattle.calculus.specs.Spots.{Spot, end, port, carry}
use Rattle.calculus.specs.Books.{RuleBook}
use Rattle.calculus.specs.Nets.{Net, Stands, Good}
use Rattle.nets.specs.Meaning.{cells_below}
use Rattle.netfile.specs.Words.{cell_word, link_word, word, each}
use Rattle.netfile.specs.Files.{link_of, arity_in, words, file, Storable, Packed}
use Rattle.netfile.specs.Faults.{size, Names, CellDue, LinkDue}
use Rattle.netfile.specs.Reading.{Right}
use Rattle.netfile.proofs.Words.{Below, each_none, each_more, length_each_one, get_d_each_one, bytes_of_words}
use Rattle.netfile.proofs.Ranks.{below-zero, below_some, below_none, below_lt}
use Rattle.netfile.proofs.Stored.{piece, end_pieces, cell_pieces, piece_vacant, piece_is, mate_stands}
use Rattle.netfile.proofs.Order.{same_start, earlier}
use Rattle.netfile.proofs.Filed.{start, spot_word_lem, starts_due, spot_due}

-- pieces that match u one after the other match it together
each_matches : (n : ℕ) (f : ℕ → List ℕ) (u : ℕ → ℕ) → ((r : ℕ) → r < n → (j : ℕ) → j < length (f r) → get_or (f r) j 0 ≡ u (length (each r f) + j)) → (i : ℕ) → i < length (each n f) → get_or (each n f) i 0 ≡ u i
each_matches zero f u h i less = absurd (omega (arith, ap length (each_none f)))
each_matches (suc n) f u h i less =
    let more : each (suc n) f ≡ each n f ++ f n = ap (λ m. each m f) (sym (add-one n)) ∙ each_more n f in
    let long = ap length more ∙ length-append (each n f) (f n) in
    ap (λ xs. get_or xs i 0) more
    ∙ elim (cases_lt i (length (each n f))) [
      | inl low ↦ get_or_append_left (each n f) (f n) 0 i low ∙ each_matches n f u (λ r l. h r (omega arith)) i low
      | inr high ↦
          let j = i - length (each n f) in
          let at : i ≡ length (each n f) + j = omega arith in
          ap (λ m. get_or (each n f ++ f n) m 0) at ∙ get_or-append-add (each n f) (f n) j 0 ∙ h n (omega arith) j (omega arith) ∙ ap u (sym at)
    ]

module _ (K : RuleBook) (A : Net) (s : Storable K A) (bs : List ℕ) (bytes : Below 256 bs) (right : Right K bs A.ends (cells_below A 1024) A.loops)
    (kinds : (r k v : ℕ) → A.kind r ≡ Some k → CellDue K bs A.ends (cells_below A 1024) (cells_below A r) v → word bs v ≡ cell_word k)
    (links : (x : Spot) (w : ℕ) → Stands K A x → LinkDue K bs A.ends (cells_below A 1024) (carry (cells_below A) x) w → Names bs A.ends (cells_below A 1024) w (carry (cells_below A) (A.mate x))) where
  due_cell : (r k : ℕ) → r < 1024 → A.kind r ≡ Some k → CellDue K bs A.ends (cells_below A 1024) (cells_below A r) (start K A r) → (start K A r < size bs) × (word bs (start K A r) ≡ cell_word k)
  due_cell r k less e due =
      let q = earlier K bs A.ends (cells_below A 1024) due right.whole (below_lt A r k 1024 e less) in
      (q.1.0, kinds r k (start K A r) e due)

  starts : (r : ℕ) → r ≤ 1024 → CellDue K bs A.ends (cells_below A 1024) (cells_below A r) (start K A r)
  starts = starts_due K A s bs due_cell

  cell_here : (r k : ℕ) → r < 1024 → A.kind r ≡ Some k → (start K A r < size bs) × (word bs (start K A r) ≡ cell_word k)
  cell_here r k less e = due_cell r k less e (starts r (omega arith))

  link_here : (x : Spot) → Stands K A x → word bs (spot_word_lem K A x) ≡ link_word (carry (cells_below A) (A.mate x))
  link_here x there = (links x (spot_word_lem K A x) there (spot_due K A s bs cell_here x there)).1

  piece_here : (r : ℕ) (o : Option ℕ) → A.kind r ≡ o → r < 1024 → (j : ℕ) → j < length (piece K A r) → get_or (piece K A r) j 0 ≡ word bs (start K A r + j)
  piece_here r None e less j within = absurd (omega (arith, ap length (piece_vacant K A r e)))
  piece_here r (Some k) e less j within =
      let (a, f, _) = s.good.known r k e in
      let is = piece_is K A r k a e f in
      ap (λ xs. get_or xs j 0) is ∙ at r k a e f less j (omega (arith, ap length is))
    where
      at : (r k a : ℕ) → A.kind r ≡ Some k → K.arity k ≡ Some a → r < 1024 → (j : ℕ) → j < length (cell_word k ∷ each (suc a) (λ i. link_of A (port r i))) → get_or (cell_word k ∷ each (suc a) (λ i. link_of A (port r i))) j 0 ≡ word bs (start K A r + j)
      at r k a e f less zero within =
          let here : start K A r ≡ start K A r + 0 = omega arith in sym (ap (word bs) (sym here) ∙ (cell_here r k less e).1)
      at r k a e f less (suc j) within =
          let link : ℕ → ℕ = λ i. link_word (carry (cells_below A) (A.mate (port r i))) in
          let low : j < suc a = omega (arith, length_each_one (suc a) link) in
          let here : start K A r + suc j ≡ start K A r + (j + 1) = omega arith in
          get_d_each_one (suc a) link j low ∙ sym (ap (word bs) here ∙ link_here (port r j) (k, e, (a, f, omega arith)))

  end_here : (x : ℕ) → x < A.ends → (j : ℕ) → j < length (link_of A (end x)) → get_or (link_of A (end x)) j 0 ≡ word bs (2 + (length (each x (λ y. link_of A (end y))) + j))
  end_here x less zero within =
      let n = length_each_one x (λ y. link_word (carry (cells_below A) (A.mate (end y)))) in
      let here : 2 + (length (each x (λ y. link_of A (end y))) + 0) ≡ 2 + x = omega arith in
      sym (ap (word bs) here ∙ link_here (end x) less)
  end_here x less (suc j) within = absurd (omega arith)

  abbrev all_words : List ℕ
  all_words = words K.number (arity_in K A) A

  ends_long : length (end_pieces A) ≡ A.ends
  ends_long = length_each_one A.ends (λ x. link_word (carry (cells_below A) (A.mate (end x))))

  rest_here : (i : ℕ) → i < length (end_pieces A ++ cell_pieces K A) → get_or (end_pieces A ++ cell_pieces K A) i 0 ≡ word bs (2 + i)
  rest_here i less =
      elim (cases_lt i (length (end_pieces A))) [
        | inl low ↦
            get_or_append_left (end_pieces A) (cell_pieces K A) 0 i low
            ∙ each_matches A.ends (λ x. link_of A (end x)) (λ n. word bs (2 + n)) end_here i low
        | inr high ↦
            let j = i - length (end_pieces A) in
            let both = length-append (end_pieces A) (cell_pieces K A) in
            let at : i ≡ length (end_pieces A) + j = omega arith in
            let there : 2 + (A.ends + j) ≡ 2 + i = omega (arith, ends_long) in
            ap (λ m. get_or (end_pieces A ++ cell_pieces K A) m 0) at
            ∙ get_or-append-add (end_pieces A) (cell_pieces K A) j 0
            ∙ each_matches 1024 (piece K A) (λ n. word bs (2 + (A.ends + n))) (λ r l m w. piece_here r (A.kind r) refl l m w ∙ ap (word bs) (regroup (length (each r (piece K A))) m)) j (omega arith)
            ∙ ap (word bs) there
      ]
    where
      regroup : (n m : ℕ) → 2 + (A.ends + n) + m ≡ 2 + (A.ends + (n + m))
      regroup n m = omega arith

  word_here : (i : ℕ) → i < length all_words → get_or all_words i 0 ≡ word bs i
  word_here zero less = sym right.headed.header.is
  word_here (suc zero) less = sym right.headed.loops.0
  word_here (suc (suc i)) less = let at : 2 + i ≡ suc (suc i) = omega arith in rest_here i (omega arith) ∙ ap (word bs) at

  whole_words : length bs % 4 ≡ 0
  whole_words = elim (cases_eq (length bs % 4) 0) [ inl e ↦ e | inr n ↦ absurd (right.headed.length (inr n)) ]

  pub file_from : file K A ≡ bs
  file_from =
      let long = same_start K bs A.ends (cells_below A 1024) (starts 1024 (omega arith)) right.whole in
      let both = length-append (end_pieces A) (cell_pieces K A) in
      bytes_of_words all_words bs bytes (omega (arith, whole_words, ends_long)) word_here

-- a net with just the cells and links that right bytes name, cell i in place i: it is storable and packed, and the bytes are its file
module _ (K : RuleBook) (bs : List ℕ) (bytes : Below 256 bs) (e c l : ℕ) (right : Right K bs e c l) (A : Net) (good : Good K A) (ends : e ≡ A.ends) (loops : l ≡ A.loops)
    (some : (r : ℕ) → r < c → (k : ℕ) × (A.kind r ≡ Some k) × ((v : ℕ) → CellDue K bs e c r v → word bs v ≡ cell_word k))
    (none : (r : ℕ) → c ≤ r → A.kind r ≡ None)
    (mates : (x : Spot) (w : ℕ) → LinkDue K bs e c x w → Names bs e c w (A.mate x)) where
  kind_is : (r k : ℕ) → A.kind r ≡ Some k → (r < c) × ((v : ℕ) → CellDue K bs e c r v → word bs v ≡ cell_word k)
  kind_is r k is =
      elim (cases_lt r c) [
        | inl less ↦
            let (m, also, here) = some r less in
            let same : m ≡ k = cc in
            (less, subst (λ n. (v : ℕ) → CellDue K bs e c r v → word bs v ≡ cell_word n) same here)
        | inr far ↦ let vacant = none r far in let z : ◌≡◌ {A = ℕ} 0 1 = cc in absurd (omega arith)
      ]

  below_more : (n : ℕ) → cells_below A n ≡ min n c → cells_below A (n + 1) ≡ min (n + 1) c
  below_more n before =
      elim (cases_lt n c) [
        | inl less ↦ let (k, is, _) = some n less in omega (arith, below_some A n k is)
        | inr far ↦ omega (arith, below_none A n (none n far))
      ]

  below_is : (n : ℕ) → cells_below A n ≡ min n c
  below_is zero = below-zero A ∙ omega arith
  below_is (suc n) = subst (λ m. cells_below A m ≡ min m c) (add-one n) (below_more n (below_is n))

  cells : c ≡ cells_below A 1024
  cells = omega (arith, below_is 1024, right.headed.header.cells)

  -- a cell's number in the file is its place
  rank : (r : ℕ) → r < c → cells_below A r ≡ r
  rank r less = omega (arith, below_is r)

  carried : (x : Spot) → Stands K A x → carry (cells_below A) x ≡ x
  carried (end x) there = refl
  carried (port r j) (k, is, _) = ap (λ n. port n j) (rank r (kind_is r k is).0)

  storable : Storable K A
  storable = record {
    good = good;
    places = λ r k is. omega (arith, (kind_is r k is).0, right.headed.header.cells);
    ends = omega (arith, ends, right.headed.header.ends);
    loops = omega (arith, loops, right.headed.loops.1);
  }

  right_net : Right K bs A.ends (cells_below A 1024) A.loops
  right_net = subst (λ n. Right K bs A.ends (cells_below A 1024) n) loops (subst₂ (λ m n. Right K bs m n l) ends cells right)

  cell_named : (r k v : ℕ) → A.kind r ≡ Some k → CellDue K bs A.ends (cells_below A 1024) (cells_below A r) v → word bs v ≡ cell_word k
  cell_named r k v is due =
      let (less, here) = kind_is r k is in
      here v (subst (λ n. CellDue K bs e c n v) (rank r less) (subst₂ (λ m n. CellDue K bs m n (cells_below A r) v) (sym ends) (sym cells) due))

  link_named : (x : Spot) (w : ℕ) → Stands K A x → LinkDue K bs A.ends (cells_below A 1024) (carry (cells_below A) x) w → Names bs A.ends (cells_below A 1024) w (carry (cells_below A) (A.mate x))
  link_named x w there due =
      let due' = subst (λ y. LinkDue K bs e c y w) (carried x there) (subst₂ (λ m n. LinkDue K bs m n (carry (cells_below A) x) w) (sym ends) (sym cells) due) in
      let target = sym (carried (A.mate x) (mate_stands K A good x there)) in
      subst₂ (λ m n. Names bs m n w (carry (cells_below A) (A.mate x))) ends cells (subst (λ y. Names bs e c w y) target (mates x w due'))

  pub packed_file : Storable K A × Packed A × (file K A ≡ bs)
  packed_file =
      (storable, (λ r k is. omega (arith, (kind_is r k is).0, cells)), file_from K A storable bs bytes right_net cell_named link_named)
