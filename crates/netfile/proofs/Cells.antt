-- The words of a cell, and how many words there are.
use Rattle.std.proofs.Common.{◌≡◌, ℕ, suc, ◌+◌, ◌*◌, ◌≤◌, Bool, true, false, cond, eqb, ◌∷◌, length, get_or, Some, None, Option, refl, ap, ◌∙◌, ap₂, add-one, arith, length-append}
use Rattle.calculus.specs.Spots.{Spot, end, port, carry}
use Rattle.calculus.specs.Nets.{Net}
use Rattle.nets.specs.declared.table.Table.{Table}
use Rattle.nets.specs.Layout.{bit}
use Rattle.nets.specs.Meaning.{content, arity_at, cells_below}
use Rattle.netfile.specs.Words.{cell_word, link_word, bytes_of, each}
use Rattle.netfile.specs.Files.{link_of, cell_words, words}
use Rattle.netfile.proofs.Words.{length_bytes_of, length_each_one, length_each_le}

chosen : (b : Bool) (x a : ℕ) → Some a ≡ cond b (Some x) None → a ≡ x
chosen true x a e = cc
chosen false x a e = let z : Some a ≡ None = e in let y : ◌≡◌ {A = ℕ} 0 1 = cc in absurd (omega arith)

pub arity_small : (t : Table) (r a : ℕ) → Some a ≡ arity_at (content t) r → a ≤ 2
arity_small t r a e =
    let is = chosen (eqb (bit t.occupied r) 1) (get_or (content t).arities r 0) a e in
    omega (arith, t.ports r)

pub cell_whole : (A : Net) (r k a : ℕ) (ko ao : Option ℕ) → Some k ≡ ko → Some a ≡ ao →
    cell_word k ∷ each (a + 1) (λ j. link_of A (port r j)) ≡ cell_words A r ko ao
cell_whole A r k a ko ao e f =
    ap (λ n. cell_word k ∷ each n (λ j. link_of A (port r j))) (add-one a) ∙ ap₂ (cell_words A r) e f

-- a link word for each spot
pub links-length : (A : Net) (n : ℕ) (x : ℕ → Spot) → length (each n (λ i. link_of A (x i))) ≡ n
links-length A n x = length_each_one n (λ i. link_word (carry (cells_below A) (A.mate (x i))))

-- a cell has at most four words
cell-length : (A : Net) (r : ℕ) (ko ao : Option ℕ) → ((a : ℕ) → Some a ≡ ao → a ≤ 2) → length (cell_words A r ko ao) ≤ 4
cell-length A r None ao h = omega arith
cell-length A r (Some k) None h = omega arith
cell-length A r (Some k) (Some a) h = omega (arith, links-length A (suc a) (port r), h a refl)

module _ (arity : ℕ → Option ℕ) (A : Net) (small : (r a : ℕ) → Some a ≡ arity r → a ≤ 2) where
  -- the cells in the places below n
  pub places-length : (n : ℕ) → length (each n (λ r. cell_words A r (A.kind r) (arity r))) ≤ n * 4
  places-length n = length_each_le n 4 (λ r. cell_words A r (A.kind r) (arity r)) (λ r _. cell-length A r (A.kind r) (arity r) (small r))

  -- a whole file: 2 words, 64 for the ends, and 4 for each of the 1,024 places
  pub few_bytes : (number : ℕ) → A.ends ≤ 64 → length (bytes_of (words number arity A)) ≤ 16648
  few_bytes number h =
      let ends = each A.ends (λ e. link_of A (end e)) in
      let cells = each 1024 (λ r. cell_words A r (A.kind r) (arity r)) in
      omega (arith, length_bytes_of (words number arity A), length-append ends cells, links-length A A.ends end, places-length 1024)
