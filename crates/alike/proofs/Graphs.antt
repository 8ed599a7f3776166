-- The graph of a table's net, as the table tells it. Assumes nothing.
use Rattle.std.proofs.Common.{◌≡◌, ℕ, ◌+◌, ◌-◌, ◌<◌, ◌≤◌, true, cond, eqb, ltb, ◌≢◌, get_or, Option, sym, ap, ◌∙◌, inl, inr, arith}
use Rattle.std.proofs.lemmas.Bool.{cases_lt, ltb-true, or_cases, eqb-true}
use Rattle.calculus.specs.Spots.{Spot, end, port}
use Rattle.pairing.specs.Graph.{Sound}
use Rattle.pairing.specs.Rows.{row_of, port_number, spot, kind_number, is_port, Fits}
use Rattle.pairing.proofs.Pairs.{Within}
use Rattle.pairing.proofs.Rows.{spot_low, spot_high, cell_of, end_of, row_is, slot_is, few_rows, sound}
use Rattle.nets.specs.declared.table.Table.{Table}
use Rattle.nets.specs.Meaning.{content, net}
use Rattle.alike.specs.Rows.{rows}
use Rattle.nets.proofs.Places.{bit_low}
use Rattle.nets.proofs.Standing.{is_there, port_there, end_there, there_end, kind_some, some_kind, twice, apart}

-- a table's net is small enough to have rows
pub fits : (t : Table) → Fits (net t)
fits t = record {
  few = t.few;
  cells = λ r k e. bit_low t.occupied r t.wide (kind_some (content t) r k e).0;
  twice = twice t;
  linked = λ e h. apart t (end e) (there_end (content t) e h);
  ports = λ r j n.
      let u = port_there (content t) r j (is_there (content t) (port r j) n) in
      ((let p = t.ports r in let q = u.1 in omega arith), get_or (content t).kinds r 0, some_kind (content t) r u.0);
  ends = λ e n. end_there (content t) e (is_there (content t) (end e) n);
}

pub within : (t : Table) → Within 1094 (rows t)
within t = few_rows (net t) (fits t)

pub sound_rows : (t : Table) → Sound (rows t)
sound_rows t = sound (net t) (fits t)

-- the kind of each row
module _ (t : Table) (r : ℕ) where
  pub kind_cell : r < 1030 → (o : Option ℕ) → o ≡ (net t).kind r → kind_number o ≡ (rows t).kind r
  kind_cell h o e = ap kind_number e ∙ sym (cell_of (net t) r h)

  pub kind_end : 1030 ≤ r → cond (ltb (r - 1030) t.ends) (r - 1030 + 1) 0 ≡ (rows t).kind r
  kind_end h = let z : 1030 + (r - 1030) ≡ r = omega arith in sym (end_of (net t) (r - 1030)) ∙ ap (rows t).kind z

-- what is linked with another spot has a row
row_small : (t : Table) (y : Spot) → (net t).mate y ≢ y → row_of y < 1094
row_small t (end e) n = let h = (fits t).ends e n in let f = t.few in omega arith
row_small t (port r j) n = let u = (fits t).ports r j n in let h = (fits t).cells r u.1 u.2 in omega arith

-- what a port of a row is linked with
module _ (t : Table) (r j : ℕ) (h : is_port r j ≡ true) where
  spot_parts : (row_of (spot r j) ≡ r) × (port_number (spot r j) ≡ j)
  spot_parts = elim (cases_lt r 1030) [
    | inl l ↦ (ap row_of (spot_low r j l), ap port_number (spot_low r j l))
    | inr l ↦ elim (or_cases (ltb r 1030) (eqb j 0) h) [
      | inl b ↦ absurd (let z = ltb-true r 1030 b in omega arith)
      | inr b ↦ let z = eqb-true j 0 b in let y : 1030 + (r - 1030) ≡ r = omega arith in (ap row_of (spot_high r j l) ∙ y, ap port_number (spot_high r j l) ∙ sym z)
    ]
  ]

  to : (y : Spot) → (net t).mate (spot r j) ≡ y → (row_of y ≡ (rows t).row r j) × (port_number y ≡ (rows t).slot r j)
  to y e = (sym (row_is (net t) r j h ∙ ap row_of e), sym (slot_is (net t) r j h ∙ ap port_number e))

  pub linked_with : (x y : Spot) → x ≡ spot r j → ((net t).mate x ≡ y) × (y ≢ x) × ((net t).mate y ≡ x) →
      (row_of y ≡ (rows t).row r j) × (port_number y ≡ (rows t).slot r j) × (row_of y < 1094)
  linked_with x y e m =
      let u = to y (ap (net t).mate (sym e) ∙ m.0) in
      (u.0, u.1, row_small t y (λ z. m.1 (sym z ∙ m.2)))

  pub linked_not : (x : Spot) → x ≡ spot r j → (net t).mate x ≡ x → (r ≡ (rows t).row r j) × (j ≡ (rows t).slot r j)
  linked_not x e m =
      let u = to (spot r j) (ap (net t).mate (sym e) ∙ m ∙ e) in
      let v = spot_parts in
      (sym v.0 ∙ u.0, sym v.1 ∙ u.1)
