-- Where the words of a file are due: no two words at one place, and each word after those before it.
use Rattle.std.proofs.Common.{◌≡◌, ℕ, ◌+◌, ◌<◌, ◌≤◌, ◌≢◌, ◌⊎◌, List, sym, refl, ap, ◌∙◌, subst, inl, inr, arith}
use Rattle.std.proofs.lemmas.Bool.{cases_order}
use Rattle.calculus.specs.Spots.{Spot, end, port}
use Rattle.calculus.specs.Books.{RuleBook}
use Rattle.nets.specs.Drafts.{Before}
use Rattle.netfile.specs.Words.{link_word, word}
use Rattle.netfile.specs.Faults.{size, IsCell, Nameable, Names, CellDue, CellDue.first, CellDue.next, LinkDue}

pub compare_spots : (x y : Spot) → (x ≡ y) ⊎ (Before x y ⊎ Before y x)
compare_spots (end x) (end y) = elim (cases_order x y) [ inl s ↦ inl (ap end s) | inr (inl s) ↦ inr (inl s) | inr (inr s) ↦ inr (inr s) ]
compare_spots (end x) (port k l) = inr (inl tt)
compare_spots (port i j) (end y) = inr (inr tt)
compare_spots (port i j) (port k l) =
    elim (cases_order i k) [
      | inl s ↦
          elim (cases_order j l) [ inl t ↦ inl (cc) | inr (inl t) ↦ inr (inl (inr (s, t))) | inr (inr t) ↦ inr (inr (inr (sym s, t))) ]
      | inr (inl s) ↦ inr (inl (inl s))
      | inr (inr s) ↦ inr (inr (inl s))
    ]

not_before_itself : (x : Spot) → Before x x → ⊥
not_before_itself (end x) b = omega arith
not_before_itself (port i j) (inl b) = omega arith
not_before_itself (port i j) (inr b) = omega (arith, b.1)

pub cases_spot : (x y : Spot) → (x ≡ y) ⊎ (x ≢ y)
cases_spot x y =
    elim (compare_spots x y) [
      | inl s ↦ inl s
      | inr (inl b) ↦ inr (λ s. not_before_itself y (subst (λ z. Before z y) s b))
      | inr (inr b) ↦ inr (λ s. not_before_itself y (subst (λ z. Before y z) s b))
    ]

module _ (K : RuleBook) (bs : List ℕ) where
  pub same_arity : {v w a b : ℕ} → v ≡ w → IsCell K bs v a → IsCell K bs w b → a ≡ b
  same_arity {v} {w} {a} {b} e p q =
      let words : word bs v ≡ word bs w = ap (word bs) e in
      let kinds : p.1.0 ≡ q.1.0 = omega (arith, p.1.1, q.1.1, words) in
      let left = p.1.2 in
      let right = q.1.2 in
      cc

module _ (bs : List ℕ) (e c : ℕ) where
  pub same_spot : (y z : Spot) → e ≤ 64 → c ≤ 1024 → Nameable e c y → Nameable e c z → link_word y ≡ link_word z → y ≡ z
  same_spot (end x) (end y) few small p q h = let s : x ≡ y = omega arith in ap end s
  same_spot (end x) (port i j) few small p q h = absurd (omega arith)
  same_spot (port i j) (end x) few small p q h = absurd (omega arith)
  same_spot (port i j) (port k l) few small p q h =
      let rows : i ≡ k = omega arith in
      let ports : j ≡ l = omega arith in
      cc

  pub same_name : {w : ℕ} (y z : Spot) → e ≤ 64 → c ≤ 1024 → Names bs e c w y → Names bs e c w z → y ≡ z
  same_name y z few small p q = same_spot y z few small p.2 q.2 (sym p.1 ∙ q.1)

module _ (K : RuleBook) (bs : List ℕ) (e c : ℕ) where
  pub from_ends : {i w : ℕ} → CellDue K bs e c i w → 2 + e ≤ w
  from_ends first = omega arith
  from_ends (next d h p) = omega (arith, from_ends d)

  pub same_start : {i v w : ℕ} → CellDue K bs e c i v → CellDue K bs e c i w → v ≡ w
  same_start first first = refl
  same_start (next d h p) (next d' h' p') =
      let starts = same_start d d' in
      let arities = same_arity K bs starts p p' in
      cc

  -- a cell before another one: its word is right, and its links end where the other begins, or before
  pub earlier : {i j v w : ℕ} → CellDue K bs e c i v → CellDue K bs e c j w → i < j → (a : ℕ) × IsCell K bs v a × (v + (a + 2) ≤ w)
  earlier d first less = absurd (omega arith)
  earlier {i = i} {v = v} d (next {i = j} {w = w} {a = a} d' h p) less =
      elim (cases_order i j) [
        | inl s ↦
            let starts : v ≡ w = same_start (subst (λ n. CellDue K bs e c n v) s d) d' in
            (a, subst (λ n. IsCell K bs n a) (sym starts) p, omega arith)
        | inr (inl s) ↦ let q = earlier d d' s in (q.0, q.1, omega (arith, q.2))
        | inr (inr s) ↦ absurd (omega arith)
      ]

  -- the links of the ends stand before the cells; those of a cell stand between its word and the next cell
  pub cell_or_link : {i w : ℕ} (x : Spot) → CellDue K bs e c i w → LinkDue K bs e c x w → ⊥
  cell_or_link (end x) d l = omega (arith, from_ends d, l.0, l.1)
  cell_or_link {i = i} {w = w} (port k j) d l =
      elim (cases_order i k) [
        | inl s ↦ let here : l.0 ≡ w = same_start (subst (λ n. CellDue K bs e c n l.0) (sym s) l.2) d in omega (arith, l.6)
        | inr (inl s) ↦ let q = earlier d l.2 s in omega (arith, q.2, l.6)
        | inr (inr s) ↦
            let q = earlier l.2 d s in
            let a = same_arity K bs refl q.1 l.4 in
            omega (arith, q.2, l.5, l.6)
      ]

  pub same_word : {v w : ℕ} (x : Spot) → LinkDue K bs e c x v → LinkDue K bs e c x w → v ≡ w
  same_word (end x) p q = p.1 ∙ sym q.1
  same_word (port i j) p q = let starts = same_start p.2 q.2 in omega (arith, p.6, q.6)

  pub in_order : {v w : ℕ} (x y : Spot) → LinkDue K bs e c x v → LinkDue K bs e c y w → Before x y → v < w
  in_order (end x) (end y) p q b = omega (arith, p.1, q.1)
  in_order (end x) (port k l) p q b = omega (arith, p.0, p.1, from_ends q.2, q.6)
  in_order (port i j) (end y) p q b = absurd b
  in_order (port i j) (port k l) p q (inl b) =
      let r = earlier p.2 q.2 b in
      let a = same_arity K bs refl r.1 p.4 in
      omega (arith, r.2, p.5, p.6, q.6)
  in_order (port i j) (port k l) p q (inr b) =
      let starts = same_start (subst (λ n. CellDue K bs e c n p.0) b.0 p.2) q.2 in
      omega (arith, p.6, q.6, b.1)

  -- a link word that stands before another one is that of an earlier spot
  pub before_from_word : {v w : ℕ} (x y : Spot) → LinkDue K bs e c x v → LinkDue K bs e c y w → v < w → Before x y
  before_from_word {v = v} {w = w} x y p q less =
      elim (compare_spots x y) [
        | inl h ↦ let s : v ≡ w = same_word y (subst (λ z. LinkDue K bs e c z v) h p) q in absurd (omega arith)
        | inr (inl h) ↦ h
        | inr (inr h) ↦ absurd (omega (arith, in_order y x q p h))
      ]

  -- a link word that is due is there, where the file ends after the last cell
  pub link_there : {w : ℕ} (x : Spot) → CellDue K bs e c c (size bs) → LinkDue K bs e c x w → w < size bs
  link_there (end x) whole due = omega (arith, from_ends whole, due.0, due.1)
  link_there (port i j) whole due =
      let q = earlier due.2 whole due.3 in
      let a = same_arity K bs refl q.1 due.4 in
      omega (arith, q.2, due.5, due.6)
