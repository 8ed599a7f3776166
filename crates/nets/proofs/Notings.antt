-- That the notes of a rule's wires tell whether its table fits. Assumes nothing.
use Rattle.std.proofs.Common.{◌≡◌, ℕ, zero, suc, ◌+◌, ◌-◌, ◌*◌, ◌<◌, ◌≤◌, Bool, true, false, not, eqb, ◌≢◌, ◌⊎◌, List, [], ◌∷◌, map, length, leb, get_or, take, drop, set, replicate, Some, None, Option, sym, refl, ap, ◌∙◌, subst, ap₂, inl, inr, arith, length-set, length-take, get_or-set_other, get_or-set_same}
use lib.ListN.{length-replicate, get_or-replicate}
use Rattle.std.specs.List.{slice_get}
use Rattle.std.proofs.lemmas.List.{get_or-take, get_or-drop, length-drop}
use Rattle.std.specs.List.{list_all, IsAnyAnswer}
use Rattle.std.specs.Option.{option_eq}
use Rattle.std.proofs.lemmas.Bool.{cases_eq, both_ways, and_parts, and_from, leb-true, le-leb}
use Rattle.calculus.specs.Books.{RulePort, L, R, N, Wired}
use Rattle.calculus.proofs.Wiring.{rule_port}
use Rattle.calculus.proofs.Tests.{nth_within}
use Rattle.books.specs.declared.table.Cell.{Cell}
use Rattle.books.specs.declared.table.RuleTable.{RuleTable}
use Rattle.books.specs.Tables.{arities_of, wires_of}
use Rattle.nets.specs.Fitting.{Paired, Fitting, Told}
use Rattle.nets.specs.Noting.{Small, note_of, Noted, Tied, Marked, Full, FullRow}

pub told_same : (P Q : Type 0) (b : Bool) → (P → Q) → (Q → P) → Told P b → Told Q b
told_same P Q true f g t = f t
told_same P Q false f g t = λ q. t (g q)

pub told_not : (P Q : Type 0) (b : Bool) → b ≡ false → (Q → P) → Told P b → Told Q b
told_not P Q true e g t = absurd (let z : ◌≡◌ {A = ℕ} 0 1 = cc in omega arith)
told_not P Q false e g t = λ q. t (g q)

-- wires by their number
pub tied_wired : (ws : List (RulePort × RulePort)) (n : ℕ) (x y : RulePort) → Tied ws n x y → Wired ws x y
tied_wired ws n x y (k, p, h, e, t) = go ws k e
  where
    here : (q : RulePort × RulePort) → q ≡ p → ((x ≡ q.0) × (y ≡ q.1)) ⊎ ((x ≡ q.1) × (y ≡ q.0))
    here q z = subst (λ (q : RulePort × RulePort). ((x ≡ q.0) × (y ≡ q.1)) ⊎ ((x ≡ q.1) × (y ≡ q.0))) (sym z) t

    go : (ws : List (RulePort × RulePort)) (k : ℕ) → slice_get ws k ≡ Some p → Wired ws x y
    go [] k e = absurd (let z : ◌≡◌ {A = ℕ} 0 1 = cc in omega arith)
    go (q ∷ ws) zero e = elim (here q (cc)) [ inl t ↦ inl t | inr t ↦ inr (inl t) ]
    go (q ∷ ws) (suc k) e = inr (inr (go ws k e))

pub wired_tied : (ws : List (RulePort × RulePort)) (n : ℕ) (x y : RulePort) → length ws ≤ n → Wired ws x y → Tied ws n x y
wired_tied ws n x y h w = let t = go ws w in (t.0, t.1, (let z = nth_within ws t.0 t.1 t.2 in omega arith), t.2, t.3)
  where
    go : (ws : List (RulePort × RulePort)) → Wired ws x y → (k : ℕ) × (p : RulePort × RulePort) × (slice_get ws k ≡ Some p) × (((x ≡ p.0) × (y ≡ p.1)) ⊎ ((x ≡ p.1) × (y ≡ p.0)))
    go [] w = absurd w
    go (q ∷ ws) (inl t) = (0, q, refl, inl t)
    go (q ∷ ws) (inr (inl t)) = (0, q, refl, inr t)
    go (q ∷ ws) (inr (inr w)) = let t = go ws w in (suc t.0, t.1, t.2, t.3)

module _ (a b : ℕ) (r : RuleTable) (few : length r.cells.now ≤ 4) (small : Small r) (ha : a ≤ 2) (hb : b ≤ 2) where
  pub note_small : (x : RulePort) → Paired a b r x → note_of x < 24
  note_small (L j) h = omega (arith, h.0, h.1)
  note_small (R j) h = omega (arith, h.0, h.1)
  note_small (N i j) h = omega (arith, h.0, h.1, small i h.0)

  pub note_inj : (x y : RulePort) → Paired a b r x → Paired a b r y → note_of x ≡ note_of y → x ≡ y
  note_inj (L i) (L j) h k e = let z : i ≡ j = omega arith in ap L z
  note_inj (L i) (R j) h k e = absurd (omega (arith, h.0, h.1, k.0, k.1))
  note_inj (L i) (N m j) h k e = absurd (omega (arith, h.0, h.1, k.0, k.1, small m k.0))
  note_inj (R i) (L j) h k e = absurd (omega (arith, h.0, h.1, k.0, k.1))
  note_inj (R i) (R j) h k e = let z : i ≡ j = omega arith in ap R z
  note_inj (R i) (N m j) h k e = absurd (omega (arith, h.0, h.1, k.0, k.1, small m k.0))
  note_inj (N n i) (L j) h k e = absurd (omega (arith, h.0, h.1, k.0, k.1, small n h.0))
  note_inj (N n i) (R j) h k e = absurd (omega (arith, h.0, h.1, k.0, k.1, small n h.0))
  note_inj (N n i) (N m j) h k e =
      let s = small n h.0 in
      let t = small m k.0 in
      let z : n ≡ m = omega (arith, h.1, k.1) in
      let y : i ≡ j = omega (arith, h.1, k.1) in
      ap₂ N z y

  pub marked_none : (mates : List (Option ℕ)) → mates ≡ replicate 24 None → Marked a b r (wires_of r) 0 mates
  marked_none mates e = record {
    long = ap length e ∙ length-replicate {A = Option ℕ} 24 None;
    tied = λ x y t. absurd (let h = t.2 in omega arith);
    free = λ x h. inl (ap (λ (ms : List (Option ℕ)). get_or ms (note_of x) None) e ∙ get_or-replicate {A = Option ℕ} 24 (note_of x) None None (note_small x h));
  }

  module _ (ws : List (RulePort × RulePort)) (n : ℕ) (mates : List (Option ℕ)) (M : Marked a b r ws n mates) (u v : RulePort) (at : slice_get ws n ≡ Some (u, v)) (pu : Paired a b r u) (pv : Paired a b r v) where
    now_tied : Tied ws (n + 1) u v
    now_tied = (n, (u, v), omega arith, at, inl (refl, refl))

    tied_now : Tied ws (n + 1) v u
    tied_now = (n, (u, v), omega arith, at, inr (refl, refl))

    pub marked_more : (ns : List (Option ℕ)) → Noted mates (note_of u) (note_of v) ns true → Marked a b r ws (n + 1) ns
    marked_more ns (uv, gu, gv, e) = record {
      long = ap length e ∙ simp length-set M.long;
      tied = tied;
      free = free;
    }
      where
        ms : List (Option ℕ)
        ms = set mates (note_of u) (Some (note_of v))

        lu : note_of u < 24
        lu = note_small u pu

        lv : note_of v < 24
        lv = note_small v pv

        at_v : get_or ns (note_of v) None ≡ Some (note_of u)
        at_v =
            ap (λ (xs : List (Option ℕ)). get_or xs (note_of v) None) e
            ∙ get_or-set_same (set mates (note_of u) (Some (note_of v))) (note_of v) (Some (note_of u)) None (simp length-set (let l = M.long in let k = lv in omega arith))

        at_u : get_or ns (note_of u) None ≡ Some (note_of v)
        at_u =
            ap (λ (xs : List (Option ℕ)). get_or xs (note_of u) None) e
            ∙ get_or-set_other (set mates (note_of u) (Some (note_of v))) (note_of v) (note_of u) (Some (note_of u)) None uv
            ∙ get_or-set_same mates (note_of u) (Some (note_of v)) None (let l = M.long in let k = lu in omega arith)

        at_else : (s : ℕ) → s ≢ note_of u → s ≢ note_of v → get_or ns s None ≡ get_or mates s None
        at_else s i j =
            ap (λ (xs : List (Option ℕ)). get_or xs s None) e ∙ get_or-set_other (set mates (note_of u) (Some (note_of v))) (note_of v) s (Some (note_of u)) None j
            ∙ get_or-set_other mates (note_of u) s (Some (note_of v)) None i

        agree : (s t m : ℕ) → (get_or mates s None ≡ None) ⊎ (get_or mates s None ≡ Some t) → get_or mates s None ≡ Some m → Some t ≡ Some m
        agree s t m (inl z) g = absurd (let o : ◌≡◌ {A = ℕ} 0 1 = cc in omega arith)
        agree s t m (inr z) g = sym z ∙ g

        old : (x y : RulePort) → Tied ws n x y → Paired a b r x × (x ≢ y) × (get_or ns (note_of x) None ≡ Some (note_of y))
        old x y t = go (cases_eq (note_of x) (note_of u)) (cases_eq (note_of x) (note_of v))
          where
            m : Paired a b r x × (x ≢ y) × (get_or mates (note_of x) None ≡ Some (note_of y))
            m = M.tied x y t

            go : (note_of x ≡ note_of u) ⊎ (note_of x ≢ note_of u) → (note_of x ≡ note_of v) ⊎ (note_of x ≢ note_of v) → Paired a b r x × (x ≢ y) × (get_or ns (note_of x) None ≡ Some (note_of y))
            go (inl z) q =
                (m.0, m.1, ap (λ (s : ℕ). get_or ns s None) z ∙ at_u ∙ agree (note_of u) (note_of v) (note_of y) gu (ap (λ (s : ℕ). get_or mates s None) (sym z) ∙ m.2))
            go (inr o) (inl z) =
                (m.0, m.1, ap (λ (s : ℕ). get_or ns s None) z ∙ at_v ∙ agree (note_of v) (note_of u) (note_of y) gv (ap (λ (s : ℕ). get_or mates s None) (sym z) ∙ m.2))
            go (inr o) (inr z) = (m.0, m.1, at_else (note_of x) o z ∙ m.2)

        new : (x y : RulePort) → ((x ≡ u) × (y ≡ v)) ⊎ ((x ≡ v) × (y ≡ u)) → Paired a b r x × (x ≢ y) × (get_or ns (note_of x) None ≡ Some (note_of y))
        new x y (inl (e, f)) =
            (subst (Paired a b r) (sym e) pu, (λ z. uv (ap note_of (sym e ∙ z ∙ f))), ap (λ (x : RulePort). get_or ns (note_of x) None) e ∙ at_u ∙ ap (λ (x : RulePort). Some (note_of x)) (sym f))
        new x y (inr (e, f)) =
            (subst (Paired a b r) (sym e) pv, (λ z. uv (ap note_of (sym f ∙ sym z ∙ e))), ap (λ (x : RulePort). get_or ns (note_of x) None) e ∙ at_v ∙ ap (λ (x : RulePort). Some (note_of x)) (sym f))

        tied : (x y : RulePort) → Tied ws (n + 1) x y → Paired a b r x × (x ≢ y) × (get_or ns (note_of x) None ≡ Some (note_of y))
        tied x y (k, p, h, e, t) = go (cases_eq k n)
          where
            go : (k ≡ n) ⊎ (k ≢ n) → Paired a b r x × (x ≢ y) × (get_or ns (note_of x) None ≡ Some (note_of y))
            go (inl z) =
                let q : Some p ≡ Some (u, v) = sym e ∙ ap (slice_get ws) z ∙ at in
                let pp : p ≡ (u, v) = cc in
                let p0 : p.0 ≡ u = ap (λ (o : RulePort × RulePort). o.0) pp in
                let p1 : p.1 ≡ v = ap (λ (o : RulePort × RulePort). o.1) pp in
                new x y (elim t [ inl s ↦ inl (s.0 ∙ p0, s.1 ∙ p1) | inr s ↦ inr (s.0 ∙ p1, s.1 ∙ p0) ])
            go (inr o) = old x y (k, p, omega arith, e, t)

        free : (x : RulePort) → Paired a b r x → (get_or ns (note_of x) None ≡ None) ⊎ ((y : RulePort) × Tied ws (n + 1) x y)
        free x h = go (rule_port x u) (rule_port x v)
          where
            go : (x ≡ u) ⊎ (x ≢ u) → (x ≡ v) ⊎ (x ≢ v) → (get_or ns (note_of x) None ≡ None) ⊎ ((y : RulePort) × Tied ws (n + 1) x y)
            go (inl z) q = inr (v, subst (λ (x : RulePort). Tied ws (n + 1) x v) (sym z) now_tied)
            go (inr o) (inl z) = inr (u, subst (λ (x : RulePort). Tied ws (n + 1) x u) (sym z) tied_now)
            go (inr o) (inr z) = elim (M.free x h) [
              | inl f ↦ inl (at_else (note_of x) (λ g. o (note_inj x u h pu g)) (λ g. z (note_inj x v h pv g)) ∙ f)
              | inr t ↦ inr (t.0, (t.1.0, t.1.1, (let l = t.1.2 in omega arith), t.1.3, t.1.4))
            ]

    -- a note that disagrees
    pub agrees : Fitting a b r → ws ≡ wires_of r → (get_or mates (note_of u) None ≡ None) ⊎ (get_or mates (note_of u) None ≡ Some (note_of v))
    agrees F e = elim (M.free u pu) [
      | inl f ↦ inl f
      | inr t ↦
          inr ((M.tied u t.0 t.1).2 ∙ ap (λ (x : RulePort). Some (note_of x)) (F.with_one u t.0 v (subst (λ (ws : List (RulePort × RulePort)). Wired ws u t.0) e (tied_wired ws n u t.0 t.1)) (subst (λ (ws : List (RulePort × RulePort)). Wired ws u v) e (tied_wired ws (n + 1) u v now_tied))))
    ]

    pub agrees_back : Fitting a b r → ws ≡ wires_of r → (get_or mates (note_of v) None ≡ None) ⊎ (get_or mates (note_of v) None ≡ Some (note_of u))
    agrees_back F e = elim (M.free v pv) [
      | inl f ↦ inl f
      | inr t ↦
          inr ((M.tied v t.0 t.1).2 ∙ ap (λ (x : RulePort). Some (note_of x)) (F.with_one v t.0 u (subst (λ (ws : List (RulePort × RulePort)). Wired ws v t.0) e (tied_wired ws n v t.0 t.1)) (subst (λ (ws : List (RulePort × RulePort)). Wired ws v u) e (tied_wired ws (n + 1) v u tied_now))))
    ]

    pub other_note : Fitting a b r → ws ≡ wires_of r → note_of u ≢ note_of v
    other_note F e z = F.with_other u v (subst (λ (ws : List (RulePort × RulePort)). Wired ws u v) e (tied_wired ws (n + 1) u v now_tied)) (note_inj u v pu pv z)

  some_same : {x y : ℕ} → Some x ≡ Some y → x ≡ y
  some_same e = cc

  -- all noted and none left
  module _ (mates : List (Option ℕ)) (n : ℕ) (h : length (wires_of r) ≤ n) (M : Marked a b r (wires_of r) n mates) where
    pub noted_fits : Full a b r mates → Fitting a b r
    noted_fits f = record {
      few = few;
      arities = small;
      pairs_all = λ x p. elim (M.free x p) [ inl e ↦ absurd (f x p e) | inr t ↦ (t.0, tied_wired (wires_of r) n x t.0 t.1) ];
      pairs_only = λ x y w. (M.tied x y (wired_tied (wires_of r) n x y h w)).0;
      with_one = λ x y z w v.
          let s = wired_tied (wires_of r) n x y h w in
          let t = wired_tied (wires_of r) n x z h v in
          note_inj y z (M.tied y x (turned x y s)).0 (M.tied z x (turned x z t)).0 (some_same (sym (M.tied x y s).2 ∙ (M.tied x z t).2));
      with_other = λ x y w. (M.tied x y (wired_tied (wires_of r) n x y h w)).1;
    }
      where
        turned : (x y : RulePort) → Tied (wires_of r) n x y → Tied (wires_of r) n y x
        turned x y t = (t.0, t.1, t.2, t.3, elim t.4 [ inl z ↦ inr (z.1, z.0) | inr z ↦ inl (z.1, z.0) ])

    pub noted_full : Fitting a b r → Full a b r mates
    noted_full F x p e =
        let t = F.pairs_all x p in
        let s = wired_tied (wires_of r) n x t.0 h t.1 in
        let m = (M.tied x t.0 s).2 in
        let z : ◌≡◌ {A = ℕ} 0 1 = cc in
        omega arith

  pub full_rows : (mates : List (Option ℕ)) → ((k : ℕ) → k < length r.cells.now → FullRow k 0 (get_or (arities_of r) k 0) mates) → FullRow 4 1 a mates → FullRow 5 1 b mates → Full a b r mates
  full_rows mates f g h (L j) p = g j p.0 p.1
  full_rows mates f g h (R j) p = h j p.0 p.1
  full_rows mates f g h (N i j) p = f i p.0 j (omega arith) p.1

  pub full_row : (mates : List (Option ℕ)) → Full a b r mates → (k : ℕ) → k < length r.cells.now → FullRow k 0 (get_or (arities_of r) k 0) mates
  full_row mates f k h j i l = f (N k j) (h, l)

-- one row, searched for a port that is not noted
not_none : (o : Option ℕ) → option_eq eqb o None ≡ false → o ≢ None
not_none None e f = let z : ◌≡◌ {A = ℕ} 0 1 = cc in omega arith
not_none (Some x) e f = let z : ◌≡◌ {A = ℕ} 0 1 = cc in omega arith

is_none : (o : Option ℕ) → option_eq eqb o None ≡ true → o ≡ None
is_none None e = refl
is_none (Some x) e = let z : ◌≡◌ {A = ℕ} 0 1 = cc in absurd (omega arith)

pub row_told : (mates : List (Option ℕ)) (row from to : ℕ) (b : Bool) → length mates ≡ 24 → row < 6 → from ≤ 1 → to ≤ 2 →
    IsAnyAnswer (λ o t. option_eq eqb o None ≡ t) (take (row * 4 + to + 1 - (row * 4 + from)) (drop (row * 4 + from) mates)) b → Told (FullRow row from to mates) (not b)
row_told mates row from to b l h i m a = go b a
  where
    n : ℕ
    n = row * 4 + to + 1 - (row * 4 + from)

    part : List (Option ℕ)
    part = take n (drop (row * 4 + from) mates)

    read : (k : ℕ) → k < n → get_or part k None ≡ get_or mates (row * 4 + from + k) None
    read k h = get_or-take n (drop (row * 4 + from) mates) k None h ∙ get_or-drop (row * 4 + from) mates k None

    long : length part ≡ n
    long =
        let t = length-take n (drop (row * 4 + from) mates) in
        let d = length-drop (row * 4 + from) mates in
        omega arith

    go : (b : Bool) → IsAnyAnswer (λ o t. option_eq eqb o None ≡ t) part b → Told (FullRow row from to mates) (not b)
    go true (k, h, g) = λ f.
        let e : row * 4 + from + k ≡ row * 4 + (from + k) = omega arith in
        f (from + k) (omega arith) (omega (arith, long)) (ap (λ (s : ℕ). get_or mates s None) (sym e) ∙ sym (read k (omega (arith, long))) ∙ is_none (get_or part k None) (g None))
    go false g = λ j low high z.
        let e : row * 4 + from + (j - from) ≡ row * 4 + j = omega arith in
        let h : j - from < n = omega arith in
        not_none (get_or part (j - from) None) (g (j - from) None (omega arith) (omega (arith, long))) (read (j - from) h ∙ ap (λ (s : ℕ). get_or mates s None) e ∙ z)

-- cells of arity at most 2
all_small : (cs : List Cell) → list_all (λ c. leb c.arity 2) cs ≡ true → (i : ℕ) → i < length cs → get_or (map (λ c. c.arity) cs) i 0 ≤ 2
all_small [] t i h = absurd (omega arith)
all_small (c ∷ cs) t zero h = leb-true c.arity 2 (and_parts (leb c.arity 2) (list_all (λ c. leb c.arity 2) cs) t).0
all_small (c ∷ cs) t (suc i) h = all_small cs (and_parts (leb c.arity 2) (list_all (λ c. leb c.arity 2) cs) t).1 i (omega arith)

small_all : (cs : List Cell) → ((i : ℕ) → i < length cs → get_or (map (λ c. c.arity) cs) i 0 ≤ 2) → list_all (λ c. leb c.arity 2) cs ≡ true
small_all [] f = refl
small_all (c ∷ cs) f =
    and_from (leb c.arity 2) (list_all (λ c. leb c.arity 2) cs) (le-leb c.arity 2 (f 0 (omega arith))) (small_all cs (λ i h. f (suc i) (omega arith)))

pub small_cells : (r : RuleTable) → true ≡ list_all (λ c. leb c.arity 2) r.cells.now → Small r
small_cells r t = all_small r.cells.now (sym t)

pub large_cell : (r : RuleTable) → false ≡ list_all (λ c. leb c.arity 2) r.cells.now → Small r → ⊥
large_cell r t s = let z = t ∙ small_all r.cells.now s in both_ways false refl z
