-- A rule's table that fits two cells is the rule of a book made for it: L of kind 0, R of kind 1, all others of a kind by their arity. Assumes nothing.
use Rattle.std.proofs.Common.{◌≡◌, ℕ, zero, suc, ◌+◌, ◌-◌, ◌<◌, ◌≤◌, Bool, true, false, cond, eqb, leb, ◌≢◌, ◌⊎◌, List, [], ◌∷◌, length, get_or, Some, None, Option, sym, refl, ap, ◌∙◌, subst, inl, inr, arith}
use Rattle.std.specs.List.{slice_get}
use Rattle.std.proofs.lemmas.Bool.{cases_eq, cases_lt}
use Rattle.calculus.specs.Books.{RulePort, L, R, N, Rule, RuleBook, Leaving, Entering, RuleLaws, Laws}
use Rattle.calculus.proofs.Tests.{nth_within}
use Rattle.books.specs.declared.table.RuleTable.{RuleTable}
use Rattle.books.specs.Tables.{arities_of, wires_of}
use Rattle.nets.specs.Fitting.{Paired, Fitting}

-- f of each number below n
abbrev listing : (ℕ → ℕ) → ℕ → List ℕ
listing f zero = []
listing f (suc n) = f 0 ∷ listing (λ i. f (suc i)) n

listed : (f : ℕ → ℕ) (n i : ℕ) → i < n → slice_get (listing f n) i ≡ Some (f i)
listed f zero i h = absurd (omega arith)
listed f (suc n) zero h = refl
listed f (suc n) (suc i) h = listed (λ i. f (suc i)) n i (omega arith)

pub listing_long : (f : ℕ → ℕ) (n : ℕ) → length (listing f n) ≡ n
listing_long f zero = refl
listing_long f (suc n) = ap suc (listing_long (λ i. f (suc i)) n)

-- the arities of the kinds
abbrev pub arity_of : ℕ → ℕ → ℕ → Option ℕ
arity_of a b k = cond (eqb k 0) (Some a) (cond (eqb k 1) (Some b) (cond (leb k 4) (Some (k - 2)) None))

abbrev pub rule_for : RuleTable → Rule
rule_for r = record { left = 0; right = 1; cells = listing (λ i. 2 + get_or (arities_of r) i 0) (length r.cells.now); wires = wires_of r }

abbrev pub book_for : ℕ → ℕ → RuleTable → RuleBook
book_for a b r = record { number = 0; arity = arity_of a b; rules = rule_for r ∷ [] }

module _ (a b : ℕ) where
  pub arity_else : (x : ℕ) → x ≤ 2 → arity_of a b (2 + x) ≡ Some x
  arity_else x h =
      let p : eqb (2 + x) 0 ≡ false = grind (arith) in
      let q : eqb (2 + x) 1 ≡ false = grind (arith) in
      let s : leb (2 + x) 4 ≡ true = grind (arith) in
      let e : 2 + x - 2 ≡ x = omega arith in
      ap (λ (t : Bool). cond t (Some a) (cond (eqb (2 + x) 1) (Some b) (cond (leb (2 + x) 4) (Some (2 + x - 2)) None))) p
      ∙ ap (λ (t : Bool). cond t (Some b) (cond (leb (2 + x) 4) (Some (2 + x - 2)) None)) q
      ∙ ap (λ (t : Bool). cond t (Some (2 + x - 2)) None) s ∙ ap (λ (v : ℕ). Some v) e

  arity_low : a ≤ 2 → b ≤ 2 → (k x : ℕ) → arity_of a b k ≡ Some x → (k ≤ 63) × (x ≤ 2)
  arity_low ha hb k x e = go (cases_eq k 0) (cases_eq k 1) (cases_lt 4 k)
    where
      go : (k ≡ 0) ⊎ (k ≢ 0) → (k ≡ 1) ⊎ (k ≢ 1) → (4 < k) ⊎ (k ≤ 4) → (k ≤ 63) × (x ≤ 2)
      go (inl z) y w = let f : Some a ≡ Some x = ap (arity_of a b) (sym z) ∙ e in let g : a ≡ x = cc in (omega arith, omega arith)
      go (inr n) (inl z) w = let f : Some b ≡ Some x = ap (arity_of a b) (sym z) ∙ e in let g : b ≡ x = cc in (omega arith, omega arith)
      go (inr n) (inr m) (inl h) =
          let p : eqb k 0 ≡ false = grind (arith) in
          let q : eqb k 1 ≡ false = grind (arith) in
          let s : leb k 4 ≡ false = grind (arith) in
          let f : None ≡ Some x =
          sym (ap (λ (t : Bool). cond t (Some a) (cond (eqb k 1) (Some b) (cond (leb k 4) (Some (k - 2)) None))) p
          ∙ ap (λ (t : Bool). cond t (Some b) (cond (leb k 4) (Some (k - 2)) None)) q ∙ ap (λ (t : Bool). cond t (Some (k - 2)) None) s) ∙ e in
          let g : ◌≡◌ {A = ℕ} 0 1 = cc in
          absurd (omega arith)
      go (inr n) (inr m) (inr h) =
          let j : k ≡ 2 + (k - 2) = omega arith in
          let f : Some (k - 2) ≡ Some x = sym (ap (arity_of a b) j ∙ arity_else (k - 2) (omega arith)) ∙ e in
          let g : k - 2 ≡ x = cc in
          (omega arith, omega arith)

  module _ (r : RuleTable) (F : Fitting a b r) (ha : a ≤ 2) (hb : b ≤ 2) where
    pub cell_arity : (i k : ℕ) → slice_get (rule_for r).cells i ≡ Some k → (i < length r.cells.now) × (k ≡ 2 + get_or (arities_of r) i 0) × (arity_of a b k ≡ Some (get_or (arities_of r) i 0))
    cell_arity i k e =
        let h = nth_within (rule_for r).cells i k e in
        let l = listing_long (λ i. 2 + get_or (arities_of r) i 0) (length r.cells.now) in
        let m : i < length r.cells.now = omega arith in
        let f : Some k ≡ Some (2 + get_or (arities_of r) i 0) = sym e ∙ listed (λ i. 2 + get_or (arities_of r) i 0) (length r.cells.now) i m in
        let g : k ≡ 2 + get_or (arities_of r) i 0 = cc in
        (m, g, ap (arity_of a b) g ∙ arity_else (get_or (arities_of r) i 0) (F.arities i m))

    to_paired : (x : RulePort) → Leaving (book_for a b r) (rule_for r) x ⊎ Entering (book_for a b r) (rule_for r) x → Paired a b r x
    to_paired (L j) (inl (h, (c, e, l))) = let g : a ≡ c = cc in (h, omega arith)
    to_paired (L j) (inr h) = absurd h
    to_paired (R j) (inl (h, (c, e, l))) = let g : b ≡ c = cc in (h, omega arith)
    to_paired (R j) (inr h) = absurd h
    to_paired (N i j) (inl h) = absurd h
    to_paired (N i j) (inr (k, e, (c, f, l))) =
        let t = cell_arity i k e in
        let g : Some c ≡ Some (get_or (arities_of r) i 0) = sym f ∙ t.2 in
        let z : c ≡ get_or (arities_of r) i 0 = cc in
        (t.0, omega arith)

    of_paired : (x : RulePort) → Paired a b r x → Leaving (book_for a b r) (rule_for r) x ⊎ Entering (book_for a b r) (rule_for r) x
    of_paired (L j) h = inl (h.0, (a, refl, h.1))
    of_paired (R j) h = inl (h.0, (b, refl, h.1))
    of_paired (N i j) h =
        let e = listed (λ i. 2 + get_or (arities_of r) i 0) (length r.cells.now) i h.0 in
        inr (2 + get_or (arities_of r) i 0, e, (get_or (arities_of r) i 0, arity_else (get_or (arities_of r) i 0) (F.arities i h.0), h.1))

    laws_of_rule : RuleLaws (book_for a b r) (rule_for r)
    laws_of_rule = record {
      order = omega arith;
      left_kind = (a, refl, omega arith);
      right_kind = (b, refl, omega arith);
      few = (let l = listing_long (λ i. 2 + get_or (arities_of r) i 0) (length r.cells.now) in let f = F.few in omega arith);
      cell_kinds = λ i k e. (get_or (arities_of r) i 0, (cell_arity i k e).2, omega arith);
      pairs_all = λ x h. F.pairs_all x (to_paired x h);
      pairs_only = λ x y w. of_paired x (F.pairs_only x y w);
      with_one = F.with_one;
      with_other = F.with_other;
      symmetric = λ e. absurd (omega arith);
    }

    pub laws_for : Laws (book_for a b r)
    laws_for = record {
      number = omega arith;
      kinds = arity_low ha hb;
      rules = rules;
      single = single;
    }
      where
        first : (i : ℕ) (w : Rule) → slice_get (rule_for r ∷ []) i ≡ Some w → (i ≡ 0) × (rule_for r ≡ w)
        first zero w e = (refl, cc)
        first (suc i) w e = let z : ◌≡◌ {A = ℕ} 0 1 = cc in absurd (omega arith)

        rules : (i : ℕ) (w : Rule) → slice_get (rule_for r ∷ []) i ≡ Some w → RuleLaws (book_for a b r) w
        rules i w e = subst (RuleLaws (book_for a b r)) (first i w e).1 laws_of_rule

        single : (i j : ℕ) (v w : Rule) → slice_get (rule_for r ∷ []) i ≡ Some v → slice_get (rule_for r ∷ []) j ≡ Some w → v.left ≡ w.left → v.right ≡ w.right → i ≡ j
        single i j v w e f g h = (first i v e).0 ∙ sym (first j w f).0
