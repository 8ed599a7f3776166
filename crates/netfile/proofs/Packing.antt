-- A net with its cells renumbered by rising place.
use Rattle.std.proofs.Common.{◌≡◌, ℕ, zero, suc, ◌+◌, ◌<◌, ◌≤◌, ◌≢◌, ◌⊎◌, [], ◌∷◌, ◌++◌, Some, None, Option, sym, refl, ap, ◌∙◌, subst, ap₂, inl, inr, add-one, arith}
use Rattle.std.proofs.lemmas.Bool.{cases_eq, cases_lt}
use Rattle.calculus.specs.Spots.{Spot, end, port, carry}
use Rattle.calculus.specs.Books.{RuleBook}
use Rattle.calculus.specs.Nets.{Net, Stands, Good}
use Rattle.calculus.specs.Alike.{AlikeBy}
use Rattle.nets.specs.Meaning.{cells_below}
use Rattle.netfile.specs.Words.{header, loops_word, cell_word, link_word, bytes_of, each}
use Rattle.netfile.specs.Files.{link_of, file, Storable, Packed}
use Rattle.netfile.specs.Laws.{PackedAs}
use Rattle.netfile.proofs.Words.{each_same}
use Rattle.netfile.proofs.Ranks.{below-zero, below_le, below_lt, below_some, below_none, place, placed, place_rank, each_cells}
use Rattle.netfile.proofs.Stored.{piece, end_pieces, cell_pieces, piece_vacant, piece_is, mate_stands}
use Rattle.netfile.proofs.Unique.{home}

same_spot : (x y : Spot) → (x ≡ y) ⊎ (x ≢ y)
same_spot (end e) (end f) = elim (cases_eq e f) [ inl h ↦ inl (ap end h) | inr h ↦ inr (λ p. h (cc)) ]
same_spot (end e) (port s k) = inr (λ p. let z : ◌≡◌ {A = ℕ} 0 1 = cc in omega arith)
same_spot (port r j) (end f) = inr (λ p. let z : ◌≡◌ {A = ℕ} 0 1 = cc in omega arith)
same_spot (port r j) (port s k) =
    elim (cases_eq r s) [
      | inl g ↦ elim (cases_eq j k) [ inl h ↦ inl (ap₂ port g h) | inr h ↦ inr (λ p. h (cc)) ]
      | inr g ↦ inr (λ p. g (cc))
    ]

-- a number is that of a cell, or it is not
abbrev Numbered? : Net → ℕ → Type 0
Numbered? A i = (i < cells_below A 1024) ⊎ (cells_below A 1024 ≤ i)

kind_by : (A : Net) (i : ℕ) → Numbered? A i → Option ℕ
kind_by A i (inl h) = A.kind (place A i)
kind_by A i (inr h) = None

mate_by : (A : Net) (i j : ℕ) → Numbered? A i → Spot
mate_by A i j (inl h) = carry (cells_below A) (A.mate (port (place A i) j))
mate_by A i j (inr h) = port i j

mate_at : Net → Spot → Spot
mate_at A (end e) = carry (cells_below A) (A.mate (end e))
mate_at A (port i j) = mate_by A i j (cases_lt i (cells_below A 1024))

-- the net with cell i in place i
pack : Net → Net
pack A = record { ends = A.ends; kind = λ i. kind_by A i (cases_lt i (cells_below A 1024)); mate = mate_at A; loops = A.loops }

kind_by_in : (A : Net) (i : ℕ) (c : Numbered? A i) → i < cells_below A 1024 → kind_by A i c ≡ A.kind (place A i)
unfolding kind_by
kind_by_in A i (inl h) l = refl
kind_by_in A i (inr h) l = absurd (omega arith)

kind_by_out : (A : Net) (i : ℕ) (c : Numbered? A i) → cells_below A 1024 ≤ i → kind_by A i c ≡ None
unfolding kind_by
kind_by_out A i (inl h) l = absurd (omega arith)
kind_by_out A i (inr h) l = refl

mate_by_in : (A : Net) (i j : ℕ) (c : Numbered? A i) → i < cells_below A 1024 → mate_by A i j c ≡ carry (cells_below A) (A.mate (port (place A i) j))
unfolding mate_by
mate_by_in A i j (inl h) l = refl
mate_by_in A i j (inr h) l = absurd (omega arith)

mate_by_out : (A : Net) (i j : ℕ) (c : Numbered? A i) → cells_below A 1024 ≤ i → mate_by A i j c ≡ port i j
unfolding mate_by
mate_by_out A i j (inl h) l = absurd (omega arith)
mate_by_out A i j (inr h) l = refl

module _ (A : Net) where
  kind_in : (i : ℕ) → i < cells_below A 1024 → (pack A).kind i ≡ A.kind (place A i)
  unfolding pack
  kind_in i h = kind_by_in A i (cases_lt i (cells_below A 1024)) h

  kind_out : (i : ℕ) → cells_below A 1024 ≤ i → (pack A).kind i ≡ None
  unfolding pack
  kind_out i h = kind_by_out A i (cases_lt i (cells_below A 1024)) h

  kind_some : (i k : ℕ) → (pack A).kind i ≡ Some k → (i < cells_below A 1024) × (A.kind (place A i) ≡ Some k)
  kind_some i k e =
      elim (cases_lt i (cells_below A 1024)) [
        | inl h ↦ (h, sym (kind_in i h) ∙ e)
        | inr h ↦ let no : None ≡ Some k = sym (kind_out i h) ∙ e in let z : ◌≡◌ {A = ℕ} 0 1 = cc in absurd (omega arith)
      ]

  mate_end : (e : ℕ) → (pack A).mate (end e) ≡ carry (cells_below A) (A.mate (end e))
  unfolding pack mate_at
  mate_end e = refl

  mate_in : (i j : ℕ) → i < cells_below A 1024 → (pack A).mate (port i j) ≡ carry (cells_below A) (A.mate (port (place A i) j))
  unfolding pack mate_at
  mate_in i j h = mate_by_in A i j (cases_lt i (cells_below A 1024)) h

  mate_out : (i j : ℕ) → cells_below A 1024 ≤ i → (pack A).mate (port i j) ≡ port i j
  unfolding pack mate_at
  mate_out i j h = mate_by_out A i j (cases_lt i (cells_below A 1024)) h

  low_rank : (n : ℕ) → n ≤ cells_below A 1024 → cells_below (pack A) n ≡ n
  low_rank zero h = below-zero (pack A)
  low_rank (suc n) h =
      let p = placed A n (omega arith) in
      let e = below_some (pack A) n p.kind (kind_in n (omega arith) ∙ p.is) in
      let f = low_rank n (omega arith) in
      subst (λ m. cells_below (pack A) m ≡ m) (add-one n) (e ∙ ap (λ m. m + 1) f)

  high_rank : (n : ℕ) → cells_below A 1024 ≤ n → cells_below (pack A) n ≡ cells_below A 1024
  high_rank zero h = let e : 0 ≡ cells_below A 1024 = omega arith in low_rank 0 (omega arith) ∙ e
  high_rank (suc n) h =
      elim (cases_eq (cells_below A 1024) (suc n)) [
        | inl e ↦ low_rank (suc n) (omega arith) ∙ sym e
        | inr e ↦ ap (cells_below (pack A)) (sym (add-one n)) ∙ below_none (pack A) n (kind_out n (omega arith)) ∙ high_rank n (omega arith)
      ]

  all_ranks : cells_below (pack A) 1024 ≡ cells_below A 1024
  all_ranks = high_rank 1024 (below_le A 1024)

module _ (K : RuleBook) (A : Net) (s : Storable K A) where
  low : (r k : ℕ) → A.kind r ≡ Some k → cells_below A r < cells_below A 1024
  low r k e = below_lt A r k 1024 e (s.places r k e)

  moved : (x : Spot) → Stands K A x → (pack A).mate (carry (cells_below A) x) ≡ carry (cells_below A) (A.mate x)
  moved (end e) h = mate_end A e
  moved (port r j) (k, e, _) =
      mate_in A (cells_below A r) j (low r k e) ∙ ap (λ q. carry (cells_below A) (A.mate (port q j))) (place_rank A r k e (s.places r k e))

  -- where a spot of the packed net stood, if it is linked there
  stood : (y : Spot) → (pack A).mate y ≢ y →
      (A.mate (carry (place A) y) ≢ carry (place A) y) × ((pack A).mate y ≡ carry (cells_below A) (A.mate (carry (place A) y))) × (carry (cells_below A) (carry (place A) y) ≡ y)
  stood (end e) h = (λ m. h (mate_end A e ∙ ap (carry (cells_below A)) m), mate_end A e, refl)
  stood (port i j) h =
      elim (cases_lt i (cells_below A 1024)) [
        | inl l ↦
            let back : port (cells_below A (place A i)) j ≡ port i j = ap (λ q. port q j) (placed A i l).rank in
            (λ m. h (mate_in A i j l ∙ ap (carry (cells_below A)) m ∙ back), mate_in A i j l, back)
        | inr l ↦ absurd (h (mate_out A i j l))
      ]

  pack_alike : AlikeBy (cells_below A) (place A) A (pack A)
  unfolding pack
  pack_alike = record {
    ends = refl;
    loops = refl;
    kinds = record {
      there = λ r k e.
          let back = place_rank A r k e (s.places r k e) in (kind_in A (cells_below A r) (low r k e) ∙ ap A.kind back ∙ e, back);
      back = λ i k e. let p = kind_some A i k e in (p.1, (placed A i p.0).rank);
    };
    links = record {
      there = λ x h. let t = s.good.there x h in (moved x t, home K A s x t);
      back = λ y h.
          let (l, m, b) = stood y h in
          let t = mate_stands K A s.good (carry (place A) y) (s.good.there (carry (place A) y) l) in
          (sym (home K A s (A.mate (carry (place A) y)) t) ∙ ap (carry (place A)) (sym m), b);
    };
  }

  pack_twice : (x : Spot) → (pack A).mate ((pack A).mate x) ≡ x
  pack_twice x =
      elim (same_spot ((pack A).mate x) x) [
        | inl e ↦ ap (pack A).mate e ∙ e
        | inr h ↦
            let (l, m, b) = stood x h in
            let t = mate_stands K A s.good (carry (place A) x) (s.good.there (carry (place A) x) l) in
            ap (pack A).mate m ∙ moved (A.mate (carry (place A) x)) t ∙ ap (carry (cells_below A)) (s.good.twice (carry (place A) x)) ∙ b
      ]

  pack_stood : (x : Spot) → Stands K (pack A) x → Stands K A (carry (place A) x) × ((pack A).mate x ≡ carry (cells_below A) (A.mate (carry (place A) x)))
  unfolding pack
  pack_stood (end e) h = (h, mate_end A e)
  pack_stood (port i j) (k, e, p) = let (l, f) = kind_some A i k e in ((k, f, p), mate_in A i j l)

  pack_linked : (x : Spot) → Stands K (pack A) x → (pack A).mate x ≢ x
  pack_linked x h e =
      let (t, m) = pack_stood x h in
      s.good.linked (carry (place A) x) t
      (sym (home K A s (A.mate (carry (place A) x)) (mate_stands K A s.good (carry (place A) x) t)) ∙ ap (carry (place A)) (sym m ∙ e))

  stands_packed : (x : Spot) → (pack A).mate x ≢ x → Stands K A (carry (place A) x) → Stands K (pack A) x
  unfolding pack
  stands_packed (end e) h t = t
  stands_packed (port i j) h (k, e, p) =
      elim (cases_lt i (cells_below A 1024)) [
        | inl l ↦ (k, kind_in A i l ∙ e, p)
        | inr l ↦ absurd (h (mate_out A i j l))
      ]

  pack_good : Good K (pack A)
  pack_good = record {
    finite = (cells_below A 1024, λ i k e. (kind_some A i k e).0);
    known = λ i k e. s.good.known (place A i) k (kind_some A i k e).1;
    twice = pack_twice;
    linked = pack_linked;
    there = λ x h. stands_packed x h (s.good.there (carry (place A) x) (stood x h).0);
  }

  pack_storable : Storable K (pack A)
  unfolding pack
  pack_storable = record {
    good = pack_good;
    places = λ i k e. let h = (kind_some A i k e).0 in omega (arith, below_le A 1024);
    ends = s.ends;
    loops = s.loops;
  }

  pack_packed : Packed (pack A)
  pack_packed i k e = let h = (kind_some A i k e).0 in omega (arith, all_ranks A)

  -- the numbers of the packed net's cells are their places
  steady : (y : Spot) → Stands K A y → carry (cells_below (pack A)) (carry (cells_below A) y) ≡ carry (cells_below A) y
  steady (end e) h = refl
  steady (port r j) (k, e, _) = ap (λ q. port q j) (low_rank A (cells_below A r) (omega (arith, low r k e)))

  same_link : (x : Spot) → Stands K (pack A) x → link_of (pack A) x ≡ link_of A (carry (place A) x)
  same_link x h =
      let (t, m) = pack_stood x h in
      ap (λ y. link_word y ∷ [])
      (ap (carry (cells_below (pack A))) m ∙ steady (A.mate (carry (place A) x)) (mate_stands K A s.good (carry (place A) x) t))

  same_piece : (i : ℕ) → i < cells_below A 1024 → piece K (pack A) (place (pack A) i) ≡ piece K A (place A i)
  same_piece i h =
      let p = placed A i h in
      let k = p.kind in
      let e : (pack A).kind i ≡ Some k = kind_in A i h ∙ p.is in
      let (a, f, _) = s.good.known (place A i) k p.is in
      let at : place (pack A) i ≡ i =
      ap (place (pack A)) (sym (low_rank A i (omega arith))) ∙ place_rank (pack A) i k e (omega (arith, below_le A 1024)) in
      ap (piece K (pack A)) at
      ∙ piece_is K (pack A) i k a e f
      ∙ ap (λ ws. cell_word k ∷ ws)
      (each_same (suc a) (λ j. link_of (pack A) (port i j)) (λ j. link_of A (port (place A i) j)) (λ j l. same_link (port i j) (k, e, (a, f, omega arith))))
      ∙ sym (piece_is K A (place A i) k a p.is f)

  same_ends : end_pieces (pack A) ≡ end_pieces A
  unfolding pack
  same_ends = each_same A.ends (λ e. link_of (pack A) (end e)) (λ e. link_of A (end e)) (λ e h. same_link (end e) h)

  same_cells : cell_pieces K (pack A) ≡ cell_pieces K A
  same_cells =
      each_cells (pack A) (piece K (pack A)) (piece_vacant K (pack A)) 1024 (omega arith)
      ∙ ap (λ n. each n (λ i. piece K (pack A) (place (pack A) i))) (all_ranks A)
      ∙ each_same (cells_below A 1024) (λ i. piece K (pack A) (place (pack A) i)) (λ i. piece K A (place A i)) same_piece
      ∙ sym (each_cells A (piece K A) (piece_vacant K A) 1024 (omega arith))

  same_file : file K (pack A) ≡ file K A
  unfolding pack
  same_file =
      ap bytes_of
      (ap (λ n. header K.number A.ends n ∷ loops_word A.loops ∷ (end_pieces (pack A) ++ cell_pieces K (pack A))) (all_ranks A)
      ∙ ap₂ (λ es cs. header K.number A.ends (cells_below A 1024) ∷ loops_word A.loops ∷ (es ++ cs)) same_ends same_cells)

-- every storable net's file is that of a packed net
pub packs : (K : RuleBook) (A : Net) → Storable K A → (P : Net) × PackedAs K A P
packs K A s = (
  pack A,
  record {
    storable = pack_storable K A s;
    packed = pack_packed K A s;
    place = place A;
    renumbered = pack_alike K A s;
    same_file = same_file K A s;
  },
)
