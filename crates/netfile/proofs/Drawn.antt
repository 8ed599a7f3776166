-- Bytes with which nothing is wrong are the file of a net: the one that they draw.
use Rattle.std.proofs.Common.{◌≡◌, ℕ, ◌+◌, ◌<◌, ◌≤◌, ◌≢◌, ◌⊎◌, List, Some, None, Option, sym, refl, ap, ◌∙◌, subst, inl, inr, arith}
use Rattle.std.proofs.lemmas.Bool.{cases_lt, cases_eq}
use Rattle.calculus.specs.Spots.{Spot, end, port}
use Rattle.calculus.specs.Books.{RuleBook}
use Rattle.calculus.specs.Nets.{Net, Stands, Good}
use Rattle.netfile.specs.Words.{cell_word, word}
use Rattle.netfile.specs.Files.{file, Storable, Packed}
use Rattle.netfile.specs.Faults.{IsCell, Names, CellDue, CellDue.first, CellDue.next, LinkDue}
use Rattle.netfile.specs.Reading.{Right}
use Rattle.netfile.proofs.Words.{Below}
use Rattle.netfile.proofs.Order.{same_start, same_arity, same_name, same_word}
use Rattle.netfile.proofs.Refiled.{packed_file}

-- each cell before one that is due is due, and right
due_before : (K : RuleBook) (bs : List ℕ) (e c : ℕ) {n w : ℕ} → CellDue K bs e c n w → (i : ℕ) → i < n → (v : ℕ) × (a : ℕ) × CellDue K bs e c i v × IsCell K bs v a
due_before K bs e c first i less = absurd (omega arith)
due_before K bs e c (next {i = n} {w = w} {a = a} d h p) i less =
    elim (cases_eq i n) [
      | inl s ↦ (w, a, subst (λ m. CellDue K bs e c m w) (sym s) d, p)
      | inr ne ↦ due_before K bs e c d i (omega arith)
    ]

module _ (K : RuleBook) (bs : List ℕ) (e c l : ℕ) (right : Right K bs e c l) where
  cell : (i : ℕ) → i < c → (v : ℕ) × (a : ℕ) × CellDue K bs e c i v × IsCell K bs v a
  cell i less = due_before K bs e c right.whole i less

  kind_by : (i : ℕ) → (i < c) ⊎ (c ≤ i) → Option ℕ
  kind_by i (inl less) = Some (cell i less).3.1.0
  kind_by i (inr far) = None

  -- the word of a spot's link, if the spot is there
  find : (x : Spot) → ((w : ℕ) × LinkDue K bs e c x w) ⊎ ((w : ℕ) → LinkDue K bs e c x w → ⊥)
  find (end x) = elim (cases_lt x e) [ inl less ↦ inl (2 + x, (less, refl)) | inr far ↦ inr (λ w due. omega (arith, due.0)) ]
  find (port i j) = port_by (cases_lt i c)
    where
      port_by : (i < c) ⊎ (c ≤ i) → ((w : ℕ) × LinkDue K bs e c (port i j) w) ⊎ ((w : ℕ) → LinkDue K bs e c (port i j) w → ⊥)
      port_by (inl less) =
          let (v, a, d, is) = cell i less in
          elim (cases_lt a j) [
            | inl high ↦ inr (λ w due. let s = same_start K bs e c d due.2 in let m = same_arity K bs s is due.4 in omega (arith, due.5))
            | inr low ↦ inl (v + (j + 1), (v, a, d, less, is, low, refl))
          ]
      port_by (inr far) = inr (λ w due. omega (arith, due.3))

  mate_by : (x : Spot) → ((w : ℕ) × LinkDue K bs e c x w) ⊎ ((w : ℕ) → LinkDue K bs e c x w → ⊥) → Spot
  mate_by x (inl (w, due)) = (right.links x w due).0
  mate_by x (inr none) = x

  drawn : Net
  drawn = record { ends = e; kind = λ r. kind_by r (cases_lt r c); mate = λ x. mate_by x (find x); loops = l }

  kind_cases : (r : ℕ) (o : (r < c) ⊎ (c ≤ r)) (k : ℕ) → kind_by r o ≡ Some k → (v : ℕ) × (a : ℕ) × (r < c) × CellDue K bs e c r v × IsCell K bs v a × (word bs v ≡ cell_word k) × (K.arity k ≡ Some a)
  unfolding kind_by
  kind_cases r (inl less) k is =
      let (v, a, d, cell_is) = cell r less in
      let same : cell_is.1.0 ≡ k = cc in
      (v, a, less, d, cell_is, cell_is.1.1 ∙ ap cell_word same, ap K.arity (sym same) ∙ cell_is.1.2)
  kind_cases r (inr far) k is = let z : ◌≡◌ {A = ℕ} 0 1 = cc in absurd (omega arith)

  kind_is : (r k : ℕ) → drawn.kind r ≡ Some k → (v : ℕ) × (a : ℕ) × (r < c) × CellDue K bs e c r v × IsCell K bs v a × (word bs v ≡ cell_word k) × (K.arity k ≡ Some a)
  unfolding drawn
  kind_is r k is = kind_cases r (cases_lt r c) k is

  kind_none : (r : ℕ) → c ≤ r → drawn.kind r ≡ None
  unfolding drawn kind_by
  kind_none r far = by (cases_lt r c)
    where
      by : (o : (r < c) ⊎ (c ≤ r)) → kind_by r o ≡ None
      by (inl less) = absurd (omega arith)
      by (inr more) = refl

  kind_some : (r : ℕ) → r < c → (k : ℕ) × (drawn.kind r ≡ Some k)
  unfolding drawn kind_by
  kind_some r less = by (cases_lt r c)
    where
      by : (o : (r < c) ⊎ (c ≤ r)) → (k : ℕ) × (kind_by r o ≡ Some k)
      by (inl h) = ((cell r h).3.1.0, refl)
      by (inr far) = absurd (omega arith)

  -- a spot that is there is linked with what its word names
  mate_due : (x y : Spot) (w : ℕ) → LinkDue K bs e c x w → Names bs e c w y → drawn.mate x ≡ y
  unfolding drawn mate_by
  mate_due x y w due names = by (find x)
    where
      by : (o : ((w : ℕ) × LinkDue K bs e c x w) ⊎ ((w : ℕ) → LinkDue K bs e c x w → ⊥)) → mate_by x o ≡ y
      by (inl (v, due')) =
          let m = right.links x v due' in
          let at = same_word K bs e c x due due' in
          same_name bs e c m.0 y right.headed.header.ends right.headed.header.cells m.1 (subst (λ n. Names bs e c n y) at names)
      by (inr none) = absurd (none w due)

  mate_absent : (x : Spot) → ((w : ℕ) → LinkDue K bs e c x w → ⊥) → drawn.mate x ≡ x
  unfolding drawn mate_by
  mate_absent x none = by (find x)
    where
      by : (o : ((w : ℕ) × LinkDue K bs e c x w) ⊎ ((w : ℕ) → LinkDue K bs e c x w → ⊥)) → mate_by x o ≡ x
      by (inl (v, due)) = absurd (none v due)
      by (inr _) = refl

  stands_due : (x : Spot) → Stands K drawn x → (w : ℕ) × LinkDue K bs e c x w
  unfolding drawn
  stands_due (end x) there = (2 + x, (there, refl))
  stands_due (port r j) (k, is, (a, f, within)) =
      let (v, b, less, d, cell_is, _, g) = kind_is r k is in
      let same : a ≡ b = cc in
      (v + (j + 1), (v, b, d, less, cell_is, omega arith, refl))

  due_stands : (x : Spot) (w : ℕ) → LinkDue K bs e c x w → Stands K drawn x
  unfolding drawn
  due_stands (end x) w due = due.0
  due_stands (port r j) w (v, a, d, less, is, within, at) =
      let (k, e') = kind_some r less in
      let (u, b, _, d', is', _, g) = kind_is r k e' in
      let s = same_start K bs e c d d' in
      let m = same_arity K bs s is is' in
      (k, e', (b, g, omega arith))

  twice : (x : Spot) → drawn.mate (drawn.mate x) ≡ x
  twice x =
      elim (find x) [
        | inl (w, due) ↦
            let (y, names, ne, (v, back, named)) = right.links x w due in
            let is = mate_due x y w due names in
            ap drawn.mate is ∙ mate_due y x v back named
        | inr none ↦ let is = mate_absent x none in ap drawn.mate is ∙ is
      ]

  linked : (x : Spot) → Stands K drawn x → drawn.mate x ≢ x
  linked x there self =
      let (w, due) = stands_due x there in
      let (y, names, ne, _) = right.links x w due in
      ne (sym (mate_due x y w due names) ∙ self)

  there : (x : Spot) → drawn.mate x ≢ x → Stands K drawn x
  there x ne = elim (find x) [ inl (w, due) ↦ due_stands x w due | inr none ↦ absurd (ne (mate_absent x none)) ]

  good : Good K drawn
  good = record {
    finite = (c, λ r k is. (kind_is r k is).2);
    known = λ r k is. let q = kind_is r k is in (q.1, q.6, omega arith);
    twice = twice;
    linked = linked;
    there = there;
  }

  mates : (x : Spot) (w : ℕ) → LinkDue K bs e c x w → Names bs e c w (drawn.mate x)
  mates x w due = let m = right.links x w due in subst (λ y. Names bs e c w y) (sym (mate_due x m.0 w due m.1)) m.1

  cells : (r : ℕ) → r < c → (k : ℕ) × (drawn.kind r ≡ Some k) × ((v : ℕ) → CellDue K bs e c r v → word bs v ≡ cell_word k)
  cells r less =
      let (k, is) = kind_some r less in
      let (v, a, _, d, _, here, _) = kind_is r k is in
      (k, is, λ u due. ap (word bs) (same_start K bs e c due d) ∙ here)

  pub some_net : Below 256 bs → (A : Net) × Storable K A × Packed A × (file K A ≡ bs)
  unfolding drawn
  some_net bytes = let (storable, packed, is) = packed_file K bs bytes e c l right drawn good refl refl cells kind_none mates in (drawn, storable, packed, is)
