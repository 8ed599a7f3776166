-- The graph of a net is sound, and draws the net. Assumes nothing.
use Rattle.std.proofs.Common.{◌≡◌, ℕ, ◌+◌, ◌-◌, ◌<◌, ◌≤◌, true, false, cond, eqb, ltb, ◌≢◌, ◌⊎◌, Some, None, Option, sym, refl, ap, ◌∙◌, subst, inl, inr, arith}
use Rattle.std.proofs.lemmas.Bool.{cases_lt, cases_eq, cond-true, cond-false, lt-ltb, le-ltb, or_left, or_right, or_from, ne_eqb}
use Rattle.calculus.specs.Spots.{Spot, end, port}
use Rattle.calculus.specs.Nets.{Net}
use Rattle.pairing.specs.Graph.{Graph, Sound}
use Rattle.pairing.specs.Rows.{row_of, port_number, spot, kind_number, is_port, graph, Fits}
use Rattle.pairing.proofs.Pairs.{Within}

pub spot_low : (r j : ℕ) → r < 1030 → spot r j ≡ port r j
unfolding spot
spot_low r j h = cond-true (ltb r 1030) (port r j) (end (r - 1030)) (lt-ltb r 1030 h)

pub spot_high : (r j : ℕ) → 1030 ≤ r → spot r j ≡ end (r - 1030)
unfolding spot
spot_high r j h = cond-false (ltb r 1030) (port r j) (end (r - 1030)) (le-ltb r 1030 h)

pub spot_end : (e : ℕ) → spot (1030 + e) 0 ≡ end e
spot_end e = let z : 1030 + e - 1030 ≡ e = omega arith in spot_high (1030 + e) 0 (omega arith) ∙ ap end z

-- what a graph that draws a net shows of it
pub record Draws (A : Graph) (M : Net) : Type 0 where
  pub few : M.ends ≤ 64
  pub cell : (r c : ℕ) → M.kind r ≡ Some c → (r < 1030) × (A.kind r ≡ 65 + c)
  pub cell_back : (r c : ℕ) → r < 1030 → A.kind r ≡ 65 + c → M.kind r ≡ Some c
  pub cell_kind : (r : ℕ) → r < 1030 → A.kind r ≢ 0 → 65 ≤ A.kind r
  pub end_kind : (e : ℕ) → e < M.ends → A.kind (1030 + e) ≡ e + 1
  pub end_back : (e : ℕ) → A.kind (1030 + e) ≢ 0 → e < M.ends
  pub port_mate : (r j : ℕ) → r < 1030 → M.mate (port r j) ≡ spot (A.row r j) (A.slot r j)
  pub end_mate : (e : ℕ) → M.mate (end e) ≡ spot (A.row (1030 + e) 0) (A.slot (1030 + e) 0)
  pub end_linked : (e : ℕ) → e < M.ends → M.mate (end e) ≢ end e
  pub end_port : (e j : ℕ) → 1 ≤ j → (A.row (1030 + e) j ≡ 1030 + e) × (A.slot (1030 + e) j ≡ j)
  pub port_there : (r j : ℕ) → M.mate (port r j) ≢ port r j → (r < 1030) × (j < 3) × (A.kind r ≢ 0)
  pub end_there : (e : ℕ) → M.mate (end e) ≢ end e → e < M.ends

-- two spots are one, or not
same : (x y : Spot) → (x ≡ y) ⊎ (x ≢ y)
same (end d) (end e) = elim (cases_eq d e) [ inl h ↦ inl (ap end h) | inr h ↦ inr (λ z. h (cc)) ]
same (end d) (port r j) = inr (λ z. (let y : ◌≡◌ {A = ℕ} 0 1 = cc in omega arith))
same (port r j) (end d) = inr (λ z. (let y : ◌≡◌ {A = ℕ} 0 1 = cc in omega arith))
same (port r i) (port s j) = elim (cases_eq r s) [
  | inl h ↦ elim (cases_eq i j) [ inl k ↦ inl (ap (λ (z : ℕ). port z i) h ∙ ap (port s) k) | inr k ↦ inr (λ z. k (cc)) ]
  | inr h ↦ inr (λ z. h (cc))
]

-- a spot with a row of its own
abbrev Plain : Spot → Type 0
Plain (end e) = Unit {0}
Plain (port r j) = r < 1030

has_plain : (x : Spot) → Plain x → is_port (row_of x) (port_number x) ≡ true
has_plain (end e) h = or_right (ltb (1030 + e) 1030) (eqb 0 0) refl
has_plain (port r j) h = or_left (ltb r 1030) (eqb j 0) (lt-ltb r 1030 h)

spot_plain : (x : Spot) → Plain x → spot (row_of x) (port_number x) ≡ x
spot_plain (end e) h = spot_end e
spot_plain (port r j) h = spot_low r j h

module _ (M : Net) where
  pub cell_of : (r : ℕ) → r < 1030 → (graph M).kind r ≡ kind_number (M.kind r)
  unfolding graph
  cell_of r h = cond-true (ltb r 1030) _ _ (lt-ltb r 1030 h)

  pub end_of : (e : ℕ) → (graph M).kind (1030 + e) ≡ cond (ltb e M.ends) (e + 1) 0
  unfolding graph
  end_of e =
      let z : 1030 + e - 1030 ≡ e = omega arith in
      let y : 1030 + e - 1029 ≡ e + 1 = omega arith in
      cond-false (ltb (1030 + e) 1030) _ _ (le-ltb (1030 + e) 1030 (omega arith))
      ∙ ap (λ (d : ℕ). cond (ltb d M.ends) (1030 + e - 1029) 0) z ∙ ap (λ (d : ℕ). cond (ltb e M.ends) d 0) y

  -- where a port of its own leads
  pub row_is : (r j : ℕ) → is_port r j ≡ true → (graph M).row r j ≡ row_of (M.mate (spot r j))
  unfolding graph
  row_is r j h = cond-true (is_port r j) _ _ h

  pub slot_is : (r j : ℕ) → is_port r j ≡ true → (graph M).slot r j ≡ port_number (M.mate (spot r j))
  unfolding graph
  slot_is r j h = cond-true (is_port r j) _ _ h

  pub row_none : (r j : ℕ) → is_port r j ≡ false → (graph M).row r j ≡ r
  unfolding graph
  row_none r j h = cond-false (is_port r j) _ _ h

  pub slot_none : (r j : ℕ) → is_port r j ≡ false → (graph M).slot r j ≡ j
  unfolding graph
  slot_none r j h = cond-false (is_port r j) _ _ h

  module _ (f : Fits M) where
    pub few_rows : Within 1094 (graph M)
    few_rows r l = elim (cases_lt r 1030) [
      | inl h ↦ omega arith
      | inr h ↦
          let z : 1030 + (r - 1030) ≡ r = omega arith in
          let k = ap (graph M).kind (sym z) ∙ end_of (r - 1030) in
          elim (cases_lt (r - 1030) M.ends) [
            | inl t ↦ let w = f.few in omega arith
            | inr t ↦ absurd (l (k ∙ cond-false (ltb (r - 1030) M.ends) _ _ (le-ltb (r - 1030) M.ends t)))
          ]
    ]

    cell : (r c : ℕ) → M.kind r ≡ Some c → (r < 1030) × ((graph M).kind r ≡ 65 + c)
    cell r c e = let h = f.cells r c e in let t : r < 1030 = omega arith in (t, cell_of r t ∙ ap kind_number e)

    cell_back : (r c : ℕ) → r < 1030 → (graph M).kind r ≡ 65 + c → M.kind r ≡ Some c
    cell_back r c h e = go (M.kind r) (sym (cell_of r h) ∙ e)
      where
        go : (o : Option ℕ) → kind_number o ≡ 65 + c → o ≡ Some c
        go None d = absurd (omega arith)
        go (Some k) d = let z : k ≡ c = omega arith in ap Some z

    cell_kind : (r : ℕ) → r < 1030 → (graph M).kind r ≢ 0 → 65 ≤ (graph M).kind r
    cell_kind r h l = let e = cell_of r h in go (M.kind r) e
      where
        go : (o : Option ℕ) → (graph M).kind r ≡ kind_number o → 65 ≤ (graph M).kind r
        go None d = absurd (l d)
        go (Some k) d = omega arith

    end_kind : (e : ℕ) → e < M.ends → (graph M).kind (1030 + e) ≡ e + 1
    end_kind e h = end_of e ∙ cond-true (ltb e M.ends) _ _ (lt-ltb e M.ends h)

    end_back : (e : ℕ) → (graph M).kind (1030 + e) ≢ 0 → e < M.ends
    end_back e l = elim (cases_lt e M.ends) [
      | inl h ↦ h
      | inr h ↦ absurd (l (end_of e ∙ cond-false (ltb e M.ends) _ _ (le-ltb e M.ends h)))
    ]

    -- what is linked is there
    live : (x : Spot) → M.mate x ≢ x → Plain x × ((graph M).kind (row_of x) ≢ 0) × (port_number x < 3)
    live (end e) n = (tt, (λ z. (let k = end_kind e (f.ends e n) in omega arith)), omega arith)
    live (port r j) n =
        let u = f.ports r j n in
        let w = cell r u.1 u.2 in
        (w.0, (λ z. (let k = w.1 in omega arith)), u.0)

    -- and so is what it is linked with
    mate_live : (x : Spot) → Plain x → (graph M).kind (row_of x) ≢ 0 → port_number x < 3 →
        Plain (M.mate x) × ((graph M).kind (row_of (M.mate x)) ≢ 0) × (port_number (M.mate x) < 3)
    mate_live x p k j = elim (same (M.mate x) x) [
      | inl e ↦ subst (λ (z : Spot). Plain z × ((graph M).kind (row_of z) ≢ 0) × (port_number z < 3)) (sym e) (p, k, j)
      | inr e ↦ live (M.mate x) (λ z. e (sym z ∙ f.twice x))
    ]

    mate_plain : (x : Spot) → Plain x → Plain (M.mate x)
    mate_plain x p = elim (same (M.mate x) x) [ inl e ↦ subst Plain (sym e) p | inr e ↦ (live (M.mate x) (λ z. e (sym z ∙ f.twice x))).0 ]

    -- the link of a plain spot, read off the graph
    row_at : (x : Spot) → Plain x → (graph M).row (row_of x) (port_number x) ≡ row_of (M.mate x)
    row_at x p = row_is (row_of x) (port_number x) (has_plain x p) ∙ ap (λ (z : Spot). row_of (M.mate z)) (spot_plain x p)

    slot_at : (x : Spot) → Plain x → (graph M).slot (row_of x) (port_number x) ≡ port_number (M.mate x)
    slot_at x p = slot_is (row_of x) (port_number x) (has_plain x p) ∙ ap (λ (z : Spot). port_number (M.mate z)) (spot_plain x p)

    spot_at_lem : (x : Spot) → Plain x → spot ((graph M).row (row_of x) (port_number x)) ((graph M).slot (row_of x) (port_number x)) ≡ M.mate x
    spot_at_lem x p =
        ap (λ (z : ℕ). spot z ((graph M).slot (row_of x) (port_number x))) (row_at x p) ∙ ap (spot (row_of (M.mate x))) (slot_at x p) ∙ spot_plain (M.mate x) (mate_plain x p)

    -- a port of a row is a plain spot, or is linked with itself
    abbrev Port : ℕ → ℕ → Type 0
    Port r j = ((x : Spot) × Plain x × (row_of x ≡ r) × (port_number x ≡ j)) ⊎ (((graph M).row r j ≡ r) × ((graph M).slot r j ≡ j))

    port_of : (r j : ℕ) → Port r j
    port_of r j = elim (cases_lt r 1030) [
      | inl h ↦ inl (port r j, h, refl, refl)
      | inr h ↦ elim (cases_eq j 0) [
        | inl e ↦ let z : 1030 + (r - 1030) ≡ r = omega arith in inl (end (r - 1030), tt, z, sym e)
        | inr e ↦
            let b : is_port r j ≡ false = or_from (ltb r 1030) (eqb j 0) (le-ltb r 1030 h) (ne_eqb j 0 e) in
            inr (row_none r j b, slot_none r j b)
      ]
    ]

    -- what soundness says of one port
    pub record Fine (r j : ℕ) : Type 0 where
      pub there : (graph M).kind ((graph M).row r j) ≢ 0
      pub slots : (graph M).slot r j < 3
      pub back_row : (graph M).row ((graph M).row r j) ((graph M).slot r j) ≡ r
      pub back_slot : (graph M).slot ((graph M).row r j) ((graph M).slot r j) ≡ j

    fine_at : (x : Spot) → Plain x → (graph M).kind (row_of x) ≢ 0 → port_number x < 3 → Fine (row_of x) (port_number x)
    fine_at x p k j =
        let y = M.mate x in
        let u = mate_live x p k j in
        let a = row_at x p in
        let b = slot_at x p in
        record {
          there = λ z. u.1 (ap (graph M).kind (sym a) ∙ z);
          slots = let w = u.2 in omega arith;
          back_row = ap (λ (z : ℕ). (graph M).row z ((graph M).slot (row_of x) (port_number x))) a ∙ ap ((graph M).row (row_of y)) b ∙ row_at y u.0 ∙ ap row_of (f.twice x);
          back_slot = ap (λ (z : ℕ). (graph M).slot z ((graph M).slot (row_of x) (port_number x))) a ∙ ap ((graph M).slot (row_of y)) b ∙ slot_at y u.0 ∙ ap port_number (f.twice x);
        }

    fine : (r j : ℕ) → (graph M).kind r ≢ 0 → j < 3 → Fine r j
    fine r j k h = elim (port_of r j) [
      | inl x ↦
          let d : (graph M).kind (row_of x.0) ≢ 0 = λ z. k (ap (graph M).kind (sym x.2) ∙ z) in
          let e : port_number x.0 < 3 = (let q = x.3 in omega arith) in
          subst (λ (z : ℕ). Fine r z) x.3 (subst (λ (z : ℕ). Fine z (port_number x.0)) x.2 (fine_at x.0 x.1 d e))
      | inr e ↦ record {
        there = λ z. k (ap (graph M).kind (sym e.0) ∙ z);
        slots = let q = e.1 in omega arith;
        back_row = ap (λ (z : ℕ). (graph M).row z ((graph M).slot r j)) e.0 ∙ ap ((graph M).row r) e.1 ∙ e.0;
        back_slot = ap (λ (z : ℕ). (graph M).slot z ((graph M).slot r j)) e.0 ∙ ap ((graph M).slot r) e.1 ∙ e.1;
      }
    ]

    pub sound : Sound (graph M)
    sound = record {
      there = λ r j k h. (fine r j k h).there;
      slots = λ r j k h. (fine r j k h).slots;
      back_row = λ r j k h. (fine r j k h).back_row;
      back_slot = λ r j k h. (fine r j k h).back_slot;
    }

    pub draws : Draws (graph M) M
    draws = record {
      few = f.few;
      cell = cell;
      cell_back = cell_back;
      cell_kind = cell_kind;
      end_kind = end_kind;
      end_back = end_back;
      port_mate = λ r j h. sym (spot_at_lem (port r j) h);
      end_mate = λ e. sym (spot_at_lem (end e) tt);
      end_linked = f.linked;
      end_port = λ e j h.
          let b : is_port (1030 + e) j ≡ false = or_from (ltb (1030 + e) 1030) (eqb j 0) (le-ltb (1030 + e) 1030 (omega arith)) (ne_eqb j 0 (λ z. (omega arith))) in
          (row_none (1030 + e) j b, slot_none (1030 + e) j b);
      port_there = λ r j n. let u = live (port r j) n in (u.0, u.2, u.1);
      end_there = f.ends;
    }
