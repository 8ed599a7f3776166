-- The words of a storable net: their pieces and their bounds.
use Rattle.std.proofs.Common.{◌≡◌, ℕ, zero, suc, ◌^◌, ◌≤◌, List, [], ◌∷◌, length, Some, None, Option, sym, refl, ap, ◌∙◌, subst, arith}
use Rattle.calculus.specs.Spots.{Spot, end, port, carry}
use Rattle.calculus.specs.Books.{RuleBook, Laws}
use Rattle.calculus.specs.Nets.{Net, Stands, Good}
use Rattle.nets.specs.Meaning.{cells_below}
use Rattle.netfile.specs.Words.{cell_word, each}
use Rattle.netfile.specs.Files.{link_of, cell_words, arity_in, words, file, Storable}
use Rattle.netfile.proofs.Words.{Below, Fits, below-cons, below-append, below_each, link_word_kind, cell_word_kind, loops_word_kind, header_kind}
use Rattle.netfile.proofs.Ranks.{below_le}
use Rattle.netfile.proofs.Cells.{few_bytes}

-- the words of the cell in a place
abbrev pub piece : RuleBook → Net → ℕ → List ℕ
piece K A r = cell_words A r (A.kind r) (arity_in K A r)

-- the words of all ends, and of all cells
abbrev pub end_pieces : Net → List ℕ
end_pieces A = each A.ends (λ e. link_of A (end e))

abbrev pub cell_pieces : RuleBook → Net → List ℕ
cell_pieces K A = each 1024 (piece K A)

module _ (K : RuleBook) (A : Net) (r : ℕ) where
  by_kind : Option ℕ → List ℕ
  by_kind o = cell_words A r o (elim o [ None ↦ None | Some k ↦ K.arity k ])

  pub piece_vacant : A.kind r ≡ None → piece K A r ≡ []
  unfolding by_kind
  piece_vacant e = ap by_kind e

  pub piece_is : (k a : ℕ) → A.kind r ≡ Some k → K.arity k ≡ Some a → piece K A r ≡ cell_word k ∷ each (suc a) (λ j. link_of A (port r j))
  unfolding by_kind
  piece_is k a e f = ap by_kind e ∙ ap (cell_words A r (Some k)) f

arity_small : (K : RuleBook) → Laws K → (o : Option ℕ) (a : ℕ) → Some a ≡ elim o [ None ↦ None | Some k ↦ K.arity k ] → a ≤ 2
arity_small K laws None a e = let no : Some a ≡ None = e in let z : ◌≡◌ {A = ℕ} 0 1 = cc in absurd (omega arith)
arity_small K laws (Some k) a e = (laws.kinds k a (sym e)).1

-- what a spot that stands is linked with stands
pub mate_stands : (K : RuleBook) (A : Net) → Good K A → (x : Spot) → Stands K A x → Stands K A (A.mate x)
mate_stands K A g x s = g.there (A.mate x) (λ e. g.linked x s (sym e ∙ g.twice x))

module _ (K : RuleBook) (laws : Laws K) (A : Net) (s : Storable K A) where
  pub fits : (y : Spot) → Stands K A y → Fits (carry (cells_below A) y)
  fits (end e) h = omega (arith, s.ends)
  fits (port r j) (k, e, (a, f, h)) =
      (omega (arith, below_le A r, s.places r k e), omega (arith, (laws.kinds k a f).1))

  pub link_fits : (x : Spot) → Stands K A x → Fits (carry (cells_below A) (A.mate x))
  link_fits x h = fits (A.mate x) (mate_stands K A s.good x h)

  link_below : (x : Spot) → Stands K A x → Below (2 ^ 32) (link_of A x)
  link_below x h zero = (link_word_kind _ (link_fits x h)).1
  link_below x h (suc i) = omega arith

  piece_below : (r : ℕ) (o : Option ℕ) → A.kind r ≡ o → Below (2 ^ 32) (piece K A r)
  piece_below r None e = subst (Below (2 ^ 32)) (sym (piece_vacant K A r e)) (λ _. omega arith)
  piece_below r (Some k) e =
      let (a, f, _) = s.good.known r k e in
      subst (Below (2 ^ 32)) (sym (piece_is K A r k a e f))
      (below-cons (2 ^ 32) (cell_word k) (each (suc a) (λ j. link_of A (port r j)))
      (omega (arith, cell_word_kind k (omega (arith, (laws.kinds k a f).0))))
      (below_each (2 ^ 32) (suc a) (λ j. link_of A (port r j)) (omega arith) (λ j h. link_below (port r j) (k, e, (a, f, omega arith)))))

  pub words_below : Below (2 ^ 32) (words K.number (arity_in K A) A)
  words_below zero =
      omega (arith, header_kind K.number A.ends (cells_below A 1024) (omega (arith, laws.number)) (omega (arith, s.ends)) (omega (arith, below_le A 1024)))
  words_below (suc zero) = omega (arith, loops_word_kind A.loops s.loops)
  words_below (suc (suc i)) =
      below-append (2 ^ 32) (end_pieces A) (cell_pieces K A)
      (below_each (2 ^ 32) A.ends (λ e. link_of A (end e)) (omega arith) (λ e h. link_below (end e) h))
      (below_each (2 ^ 32) 1024 (piece K A) (omega arith) (λ r _. piece_below r (A.kind r) refl)) i

  pub file_fits : length (file K A) ≤ 16648
  file_fits = few_bytes (arity_in K A) A (λ r. arity_small K laws (A.kind r)) K.number s.ends
