-- The tables of a book's rules: that they answer as the book does, by one computed test. Assumes nothing.
use Rattle.std.proofs.Common.{◌≡◌, ℕ, suc, ◌≤◌, Bool, true, false, not, ◌&&◌, ◌||◌, eqb, ltb, ◌⊎◌, List, [], ◌∷◌, map, length, Some, None, Option, Bor, refl, ap, inl, inr, arith}
use Rattle.std.specs.List.{slice_get}
use Rattle.std.proofs.lemmas.Option.{slice_get_past}
use Rattle.std.proofs.lemmas.Bool.{and_parts, and_from, or_cases, or_left, or_right, both_ways, not-true, eqb-true, eq-eqb, ltb-true, cases_lt}
use Rattle.books.specs.declared.table.RuleTable.{RuleTable}
use Rattle.books.specs.Tables.{kinds_of, arities_of, wires_of, Depicts}
use Rattle.books.specs.Answers.{Meant, Answers}
use Rattle.books.specs.Shelves.{rule_at, Looked}
use Rattle.calculus.specs.Books.{RulePort, Rule, RuleBook}
use Rattle.calculus.proofs.Places.{nth_some}
use Rattle.calculus.proofs.Lawful.{same?, same_port}
use Rattle.calculus.proofs.Tests.{every?, every_at, some?, below?, below_at, pass?, passed}

-- ── two lists side by side ──

-- the lists are equally long, and each entry of the one passes with that of the other
abbrev both? : {X Y : Type 0} → (X → Y → Bool) → List X → List Y → Bool
both? f [] [] = true
both? f [] (y ∷ ys) = false
both? f (x ∷ xs) [] = false
both? f (x ∷ xs) (y ∷ ys) = f x y && both? f xs ys

both_same : {X : Type 0} (f : X → X → Bool) → ((x y : X) → f x y ≡ true → x ≡ y) → (xs ys : List X) → both? f xs ys ≡ true → xs ≡ ys
both_same f sound [] [] t = refl
both_same f sound [] (y ∷ ys) t = absurd (both_ways false refl t)
both_same f sound (x ∷ xs) [] t = absurd (both_ways false refl t)
both_same f sound (x ∷ xs) (y ∷ ys) t =
    let p = and_parts (f x y) (both? f xs ys) t in
    let e = sound x y p.0 in
    let r = both_same f sound xs ys p.1 in
    cc

-- ── a table and a rule ──

abbrev arity? : Option ℕ → Option ℕ → Bool
arity? None None = true
arity? None (Some b) = false
arity? (Some a) None = false
arity? (Some a) (Some b) = eqb a b

same_arity : (o p : Option ℕ) → arity? o p ≡ true → o ≡ p
same_arity None None t = refl
same_arity None (Some b) t = absurd (both_ways false refl t)
same_arity (Some a) None t = absurd (both_ways false refl t)
same_arity (Some a) (Some b) t = ap Some (eqb-true a b t)

abbrev wire? : RulePort × RulePort → RulePort × RulePort → Bool
wire? p q = same? p.0 q.0 && same? p.1 q.1

same_wire : (p q : RulePort × RulePort) → wire? p q ≡ true → p ≡ q
same_wire p q t =
    let b = and_parts (same? p.0 q.0) (same? p.1 q.1) t in
    let e = same_port p.0 q.0 b.0 in
    let f = same_port p.1 q.1 b.1 in
    λ i. (e i, f i)

module _ (K : RuleBook) where
  abbrev of_table : RuleTable → Rule → List Bool
  of_table r w =
      eqb r.left w.left
      ∷ eqb r.right w.right
      ∷ both? eqb (kinds_of r) w.cells
      ∷ both? arity? (map {B = Option ℕ} Some (arities_of r)) (map K.arity w.cells)
      ∷ both? wire? (wires_of r) w.wires
      ∷ []

  depicts : (r : RuleTable) (w : Rule) → pass? (of_table r w) ≡ true → Depicts K r w
  depicts r w t =
      record {
        left = eqb-true r.left w.left (passed (of_table r w) t 0 _ refl);
        right = eqb-true r.right w.right (passed (of_table r w) t 1 _ refl);
        kinds = both_same eqb eqb-true (kinds_of r) w.cells (passed (of_table r w) t 2 _ refl);
        arities = both_same arity? same_arity (map {B = Option ℕ} Some (arities_of r)) (map K.arity w.cells) (passed (of_table r w) t 3 _ refl);
        wires = both_same wire? same_wire (wires_of r) w.wires (passed (of_table r w) t 4 _ refl);
      }

-- ── a book's tables ──

-- the rule is for the two kinds
abbrev meant? : Rule → ℕ → ℕ → Bool
meant? w a b = (eqb w.left a && eqb w.right b) || (eqb w.left b && eqb w.right a)

meant_at : (w : Rule) (a b : ℕ) → meant? w a b ≡ true → Meant w a b
meant_at w a b t =
    elim (or_cases (eqb w.left a && eqb w.right b) (eqb w.left b && eqb w.right a) t) [
      | inl e ↦
          let p = and_parts (eqb w.left a) (eqb w.right b) e in
          inl (eqb-true w.left a p.0, eqb-true w.right b p.1)
      | inr e ↦
          let p = and_parts (eqb w.left b) (eqb w.right a) e in
          inr (eqb-true w.left b p.0, eqb-true w.right a p.1)
    ]

at_meant : (w : Rule) (a b : ℕ) → Meant w a b → meant? w a b ≡ true
at_meant w a b (inl h) =
    or_left (eqb w.left a && eqb w.right b) (eqb w.left b && eqb w.right a)
    (and_from (eqb w.left a) (eqb w.right b) (eq-eqb w.left a h.0) (eq-eqb w.right b h.1))
at_meant w a b (inr h) =
    or_right (eqb w.left a && eqb w.right b) (eqb w.left b && eqb w.right a)
    (and_from (eqb w.left b) (eqb w.right a) (eq-eqb w.left b h.0) (eq-eqb w.right a h.1))

some_at : {X : Type 0} (f : X → Bool) (xs : List X) → some? f xs ≡ true → (i : ℕ) × (x : X) × (slice_get xs i ≡ Some x) × (f x ≡ true)
some_at f [] t = absurd (both_ways false refl t)
some_at f (x ∷ xs) t =
    elim (or_cases (f x) (some? f xs) t) [
      | inl e ↦ (0, x, refl, e)
      | inr e ↦ let r = some_at f xs e in (suc r.0, r.1, r.2, r.3)
    ]

module _ (K : RuleBook) (rows : List (Bor (List (Option (Bor RuleTable))))) where
  -- the table is a rule of the book for the kinds a and b; where there is none, the book has none
  abbrev right? : ℕ → ℕ → Option RuleTable → Bool
  right? a b None = every? (λ w. not (meant? w a b)) K.rules
  right? a b (Some r) = some? (λ w. meant? w a b && pass? (of_table K r w)) K.rules

  -- there is a row and a column for each of n kinds; the book's rules are for kinds below n; for any two of them the right table stands there
  abbrev of_shelf : List Bool
  of_shelf =
      every? (λ row. eqb (length row.now) (length rows)) rows
      ∷ every? (λ w. ltb w.left (length rows) && ltb w.right (length rows)) K.rules
      ∷ below? (λ a. below? (λ b. right? a b (rule_at rows a b)) (length rows)) (length rows)
      ∷ []

  module _ (t : pass? of_shelf ≡ true) (a b : ℕ) where
    -- a kind past the last row has no rule
    lacks : (length rows ≤ a) ⊎ (length rows ≤ b) → Answers K a b None
    lacks h i w e m =
        let p = every_at (λ w. ltb w.left (length rows) && ltb w.right (length rows)) K.rules (passed of_shelf t 1 _ refl) i w e in
        let q = and_parts (ltb w.left (length rows)) (ltb w.right (length rows)) p in
        let l = ltb-true w.left (length rows) q.0 in
        let r = ltb-true w.right (length rows) q.1 in
        omega arith

    stands : (o : Option RuleTable) → right? a b o ≡ true → Answers K a b o
    stands None s = λ i w e m.
        both_ways (meant? w a b) (not-true (meant? w a b) (every_at (λ w. not (meant? w a b)) K.rules s i w e)) (at_meant w a b m)
    stands (Some r) s =
        let f = some_at (λ w. meant? w a b && pass? (of_table K r w)) K.rules s in
        let p = and_parts (meant? f.1 a b) (pass? (of_table K r f.1)) f.3 in
        record { position = f.0; rule = f.1; listed = f.2; meant = meant_at f.1 a b p.0; depicts = depicts K r f.1 p.1 }

    -- what stands there is what the book answers
    answered : Answers K a b (rule_at rows a b)
    answered =
        elim (cases_lt a (length rows)) [
          | inr past ↦ let none = slice_get_past rows a past in rw none (lacks (inl past))
          | inl ha ↦
              elim (cases_lt b (length rows)) [
                | inr past ↦
                    let row = nth_some rows a ha in
                    let long = eqb-true (length row.0.now) (length rows) (every_at (λ row. eqb (length row.now) (length rows)) rows (passed of_shelf t 0 _ refl) a row.0 row.1) in
                    let none = slice_get_past row.0.now b (omega arith) in
                    rw (row.1, none) (lacks (inr past))
                | inl hb ↦
                    let n = length rows in
                    let row = below_at (λ a. below? (λ b. right? a b (rule_at rows a b)) n) n (passed of_shelf t 2 _ refl) a ha in
                    stands (rule_at rows a b) (below_at (λ b. right? a b (rule_at rows a b)) n row b hb)
              ]
        ]

-- where the test passes, what is looked up is what the book answers
pub shelved : (K : RuleBook) {rows : List (Bor (List (Option (Bor RuleTable))))} {a b : ℕ} {o : Option RuleTable} → Looked rows a b o → pass? (of_shelf K rows) ≡ true → Answers K a b o
shelved K {rows} {a} {b} {o} h t = rw h.found (answered K rows t a b)
