-- Two storable nets with one file are alike.
use Rattle.std.proofs.Common.{◌≡◌, ℕ, suc, ◌<◌, ◌≤◌, List, [], ◌∷◌, ◌++◌, length, Some, sym, refl, ap, ◌∙◌, arith}
use Rattle.calculus.specs.Spots.{Spot, end, port, carry}
use Rattle.calculus.specs.Books.{RuleBook, Laws}
use Rattle.calculus.specs.Nets.{Net, Stands}
use Rattle.calculus.specs.Alike.{AlikeBy, Alike}
use Rattle.nets.specs.Meaning.{cells_below}
use Rattle.netfile.specs.Words.{header, loops_word, cell_word, each}
use Rattle.netfile.specs.Files.{link_of, arity_in, words, file, Storable}
use Rattle.netfile.proofs.Words.{link_word_injective, cell_word_injective, loops_word_injective, header_injective, bytes_of_injective, append_apart, each_pieces}
use Rattle.netfile.proofs.Cells.{links-length}
use Rattle.netfile.proofs.Ranks.{below_le, below_lt, Placed, place, placed, place_rank, each_cells}
use Rattle.netfile.proofs.Stored.{piece, end_pieces, cell_pieces, piece_vacant, piece_is, mate_stands, link_fits, words_below}

-- the same ends, loops and cells by number, and each link leads to the same
pub record Matched (K : RuleBook) (A B : Net) : Type 0 where
  pub ends : A.ends ≡ B.ends
  pub loops : A.loops ≡ B.loops
  pub cells : cells_below A 1024 ≡ cells_below B 1024
  pub kinds : (i : ℕ) → i < cells_below A 1024 → A.kind (place A i) ≡ B.kind (place B i)
  pub end_links : (e : ℕ) → e < A.ends → carry (cells_below A) (A.mate (end e)) ≡ carry (cells_below B) (B.mate (end e))
  pub port_links : (i k a j : ℕ) → i < cells_below A 1024 → A.kind (place A i) ≡ Some k → K.arity k ≡ Some a → j ≤ a →
      carry (cells_below A) (A.mate (port (place A i) j)) ≡ carry (cells_below B) (B.mate (port (place B i) j))

matched_back : (K : RuleBook) (A B : Net) → Matched K A B → Matched K B A
matched_back K A B m = record {
  ends = sym m.ends;
  loops = sym m.loops;
  cells = sym m.cells;
  kinds = λ i h. sym (m.kinds i (omega (arith, m.cells)));
  end_links = λ e h. sym (m.end_links e (omega (arith, m.ends)));
  port_links = λ i k a j h e f l.
      let n : i < cells_below A 1024 = omega (arith, m.cells) in sym (m.port_links i k a j n (m.kinds i n ∙ e) f l);
}

-- from a place of A to the place of the same cell in B
to : Net → Net → ℕ → ℕ
to A B r = place B (cells_below A r)

carry_to : (A B : Net) (y : Spot) → carry (to A B) y ≡ carry (place B) (carry (cells_below A) y)
unfolding to
carry_to A B (end e) = refl
carry_to A B (port r j) = refl

pub home : (K : RuleBook) (B : Net) → Storable K B → (y : Spot) → Stands K B y → carry (place B) (carry (cells_below B) y) ≡ y
home K B s (end e) h = refl
home K B s (port r j) (k, e, _) = ap (λ q. port q j) (place_rank B r k e (s.places r k e))

module _ (K : RuleBook) (A B : Net) (s : Storable K A) (t : Storable K B) (m : Matched K A B) where
  low : (r k : ℕ) → A.kind r ≡ Some k → cells_below A r < cells_below A 1024
  low r k e = below_lt A r k 1024 e (s.places r k e)

  kind_there : (r k : ℕ) → A.kind r ≡ Some k → (B.kind (to A B r) ≡ Some k) × (to B A (to A B r) ≡ r)
  unfolding to
  kind_there r k e =
      let i = cells_below A r in
      let back = place_rank A r k e (s.places r k e) in
      let n : i < cells_below B 1024 = omega (arith, low r k e, m.cells) in
      (sym (m.kinds i (low r k e)) ∙ ap A.kind back ∙ e, ap (place A) (placed B i n).rank ∙ back)

  link_there : (x : Spot) → Stands K A x → (B.mate (carry (to A B) x) ≡ carry (to A B) (A.mate x)) × (carry (to B A) (carry (to A B) x) ≡ x)
  unfolding to
  link_there (end e) h =
      let stands : e < B.ends = omega (arith, m.ends) in (
        sym (home K B t (B.mate (end e)) (mate_stands K B t.good (end e) stands))
            ∙ ap (carry (place B)) (sym (m.end_links e h))
            ∙ sym (carry_to A B (A.mate (end e))),
        refl,
      )
  link_there (port r j) (k, e, (a, f, h)) =
      let i = cells_below A r in
      let there = kind_there r k e in
      let back = place_rank A r k e (s.places r k e) in (
        sym (home K B t (B.mate (port (place B i) j)) (mate_stands K B t.good (port (place B i) j) (k, there.0, (a, f, h))))
            ∙ ap (carry (place B)) (sym (m.port_links i k a j (low r k e) (ap A.kind back ∙ e) f h))
            ∙ ap (λ q. carry (place B) (carry (cells_below A) (A.mate (port q j)))) back
            ∙ sym (carry_to A B (A.mate (port r j))),
        ap (λ q. port q j) there.1,
      )

matched_alike : (K : RuleBook) (A B : Net) → Storable K A → Storable K B → Matched K A B → AlikeBy (to A B) (to B A) A B
matched_alike K A B s t m =
    let n = matched_back K A B m in
    record {
      ends = m.ends;
      loops = m.loops;
      kinds = record { there = kind_there K A B s t m; back = kind_there K B A t s n };
      links = record {
        there = λ x h. link_there K A B s t m x (s.good.there x h);
        back = λ x h. link_there K B A t s n x (t.good.there x h);
      };
    }

-- the words of a cell do not begin those of another
module _ (K : RuleBook) (A B : Net) (r s k l a b : ℕ) (ka : A.kind r ≡ Some k) (fa : K.arity k ≡ Some a) (kb : B.kind s ≡ Some l) (fb : K.arity l ≡ Some b) where
  pub piece_apart : (xs ys : List ℕ) → piece K A r ++ xs ≡ piece K B s ++ ys → piece K A r ≡ piece K B s
  piece_apart xs ys e =
      let p = piece_is K A r k a ka fa in
      let q = piece_is K B s l b kb fb in
      let us = each (suc a) (λ j. link_of A (port r j)) in
      let vs = each (suc b) (λ j. link_of B (port s j)) in
      let whole : cell_word k ∷ (us ++ xs) ≡ cell_word l ∷ (vs ++ ys) = sym (ap (λ zs. zs ++ xs) p) ∙ e ∙ ap (λ zs. zs ++ ys) q in
      let first : cell_word k ≡ cell_word l = cc in
      let same : Some a ≡ Some b = sym fa ∙ ap K.arity (cell_word_injective k l first) ∙ fb in
      let arity : a ≡ b = cc in
      let la : length (piece K A r) ≡ suc (suc a) = ap length p ∙ ap suc (links-length A (suc a) (port r)) in
      let lb : length (piece K B s) ≡ suc (suc b) = ap length q ∙ ap suc (links-length B (suc b) (port s)) in
      (append_apart (piece K A r) (piece K B s) xs ys (omega arith) e).0

  pub piece_kind : piece K A r ≡ piece K B s → k ≡ l
  piece_kind e =
      let whole = sym (piece_is K A r k a ka fa) ∙ e ∙ piece_is K B s l b kb fb in
      let first : cell_word k ≡ cell_word l = cc in
      cell_word_injective k l first

-- equal words of two spots lead to the same
one_word : (v w : ℕ) → v ∷ [] ≡ w ∷ [] → v ≡ w
one_word v w e = cc

one_apart : (v w : ℕ) (xs ys : List ℕ) → (v ∷ []) ++ xs ≡ (w ∷ []) ++ ys → v ∷ [] ≡ w ∷ []
one_apart v w xs ys e = (append_apart (v ∷ []) (w ∷ []) xs ys refl e).0

module _ (K : RuleBook) (laws : Laws K) (A B : Net) (s : Storable K A) (t : Storable K B) where
  same_link : (x y : Spot) → Stands K A x → Stands K B y → link_of A x ≡ link_of B y → carry (cells_below A) (A.mate x) ≡ carry (cells_below B) (B.mate y)
  same_link x y p q e = link_word_injective _ _ (link_fits K laws A s x p) (link_fits K laws B t y q) (one_word _ _ e)

  module _ (same : file K A ≡ file K B) where
    same_words : words K.number (arity_in K A) A ≡ words K.number (arity_in K B) B
    same_words = bytes_of_injective _ _ (words_below K laws A s) (words_below K laws B t) same

    same_header : (A.ends ≡ B.ends) × (cells_below A 1024 ≡ cells_below B 1024)
    same_header =
        let whole = same_words in
        let first : header K.number A.ends (cells_below A 1024) ≡ header K.number B.ends (cells_below B 1024) = cc in
        let h =
        header_injective _ _ _ _ _ _ (omega (arith, s.ends)) (omega (arith, t.ends)) (omega (arith, below_le A 1024)) (omega (arith, below_le B 1024)) first in
        (h.1, h.2)

    same_loops : A.loops ≡ B.loops
    same_loops =
        let whole = same_words in
        let second : loops_word A.loops ≡ loops_word B.loops = cc in
        loops_word_injective _ _ second

    same_rest : (end_pieces A ≡ end_pieces B) × (cell_pieces K A ≡ cell_pieces K B)
    same_rest =
        let whole = same_words in
        let rest : end_pieces A ++ cell_pieces K A ≡ end_pieces B ++ cell_pieces K B = cc in
        let la = links-length A A.ends end in
        let lb = links-length B B.ends end in
        append_apart (end_pieces A) (end_pieces B) (cell_pieces K A) (cell_pieces K B) (la ∙ same_header.0 ∙ sym lb) rest

    end_same : (e : ℕ) → e < A.ends → carry (cells_below A) (A.mate (end e)) ≡ carry (cells_below B) (B.mate (end e))
    end_same e h =
        same_link (end e) (end e) h (omega (arith, same_header.0))
        (each_pieces A.ends (λ e. link_of A (end e)) (λ e. link_of B (end e)) (λ i _. one_apart _ _)
        (same_rest.0 ∙ ap (λ n. each n (λ e. link_of B (end e))) (sym same_header.0)) e h)

    by_number : each (cells_below A 1024) (λ i. piece K A (place A i)) ≡ each (cells_below A 1024) (λ i. piece K B (place B i))
    by_number =
        sym (each_cells A (piece K A) (piece_vacant K A) 1024 (omega arith))
        ∙ same_rest.1
        ∙ each_cells B (piece K B) (piece_vacant K B) 1024 (omega arith)
        ∙ ap (λ n. each n (λ i. piece K B (place B i))) (sym same_header.1)

    numbered : (i : ℕ) → i < cells_below A 1024 → Placed B 1024 i (place B i)
    numbered i h = placed B i (omega (arith, same_header.1))

    piece_same : (i : ℕ) → i < cells_below A 1024 → piece K A (place A i) ≡ piece K B (place B i)
    piece_same =
        each_pieces (cells_below A 1024) (λ i. piece K A (place A i)) (λ i. piece K B (place B i))
        (λ i h.
        let p = placed A i h in
        let q = numbered i h in
        let (a, f, _) = s.good.known (place A i) p.kind p.is in
        let (b, g, _) = t.good.known (place B i) q.kind q.is in
        piece_apart K A B (place A i) (place B i) p.kind q.kind a b p.is f q.is g)
        by_number

    kind_same : (i : ℕ) → i < cells_below A 1024 → A.kind (place A i) ≡ B.kind (place B i)
    kind_same i h =
        let p = placed A i h in
        let q = numbered i h in
        let (a, f, _) = s.good.known (place A i) p.kind p.is in
        let (b, g, _) = t.good.known (place B i) q.kind q.is in
        p.is ∙ ap Some (piece_kind K A B (place A i) (place B i) p.kind q.kind a b p.is f q.is g (piece_same i h)) ∙ sym q.is

    port_same : (i k a j : ℕ) → i < cells_below A 1024 → A.kind (place A i) ≡ Some k → K.arity k ≡ Some a → j ≤ a →
        carry (cells_below A) (A.mate (port (place A i) j)) ≡ carry (cells_below B) (B.mate (port (place B i) j))
    port_same i k a j h e f l =
        let g = sym (kind_same i h) ∙ e in
        let us = each (suc a) (λ j. link_of A (port (place A i) j)) in
        let vs = each (suc a) (λ j. link_of B (port (place B i) j)) in
        let whole : cell_word k ∷ us ≡ cell_word k ∷ vs = sym (piece_is K A (place A i) k a e f) ∙ piece_same i h ∙ piece_is K B (place B i) k a g f in
        let links : us ≡ vs = cc in
        same_link (port (place A i) j) (port (place B i) j) (k, e, (a, f, l)) (k, g, (a, f, l))
        (each_pieces (suc a) (λ j. link_of A (port (place A i) j)) (λ j. link_of B (port (place B i) j)) (λ j _. one_apart _ _) links j (omega arith))

    files_alike : AlikeBy (to A B) (to B A) A B
    files_alike =
        matched_alike K A B s t (record {
          ends = same_header.0;
          loops = same_loops;
          cells = same_header.1;
          kinds = kind_same;
          end_links = end_same;
          port_links = port_same;
        })

-- two storable nets with one file are alike
pub one_net : (K : RuleBook) → Laws K → (A B : Net) → Storable K A → Storable K B → file K A ≡ file K B → Alike A B
one_net K laws A B s t same = (to A B, to B A, files_alike K laws A B s t same)
