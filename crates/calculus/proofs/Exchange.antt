-- A symmetric rule's wiring with L and R exchanged. Assumes nothing.
use Rattle.std.proofs.Common.{◌≡◌, ℕ, zero, suc, ◌+◌, ◌≢◌, Some, sym, refl, ap, ◌∙◌, subst, inl, inr}
use Rattle.std.specs.List.{slice_get}
use Rattle.calculus.specs.Spots.{Spot, port, carry}
use Rattle.calculus.specs.Books.{RulePort, L, R, N, Rule, RuleBook, HasPort, Wired, exchange, Symmetric, RuleLaws}
use Rattle.calculus.specs.Alike.{SameKinds, SameLinks}
use Rattle.calculus.proofs.Beside.{split, split_low, split_at}
use Rattle.calculus.proofs.Wiring.{code, wiring, Spoken, cell_row, new_row, wire_at, wire_from, spoken_wired}

-- the last two rows change places
abbrev ends_turned : ℕ → ℕ
ends_turned zero = 5
ends_turned (suc zero) = 4
ends_turned (suc (suc i)) = 6 + i

-- the rows of the new cells by f, the gates' rows exchanged
abbrev pub rows : (ℕ → ℕ) → ℕ → ℕ
rows f = split 4 f ends_turned

pub rows_four : (f : ℕ → ℕ) → rows f 4 ≡ 5
rows_four f = split_at 4 f ends_turned 0

pub rows_five : (f : ℕ → ℕ) → rows f 5 ≡ 4
rows_five f = split_at 4 f ends_turned 1

module _ (K : RuleBook) (w : Rule) (rl : RuleLaws K w) (same : w.left ≡ w.right) where
  module _ (y : Symmetric w) where
    spoken_there : (x : RulePort) → Spoken K w x → Spoken K w (exchange y.from x)
    spoken_there (L j) (inl h) = inl (h.0, subst (λ k. HasPort K k j) same h.1)
    spoken_there (L j) (inr h) = absurd h
    spoken_there (R j) (inl h) = inl (h.0, subst (λ k. HasPort K k j) (sym same) h.1)
    spoken_there (R j) (inr h) = absurd h
    spoken_there (N i j) (inl h) = absurd h
    spoken_there (N i j) (inr h) = inr (h.0, (y.back i h.0 h.1).0, h.2)

    there_back : (x : RulePort) → Spoken K w x → exchange y.to (exchange y.from x) ≡ x
    there_back (L j) h = refl
    there_back (R j) h = refl
    there_back (N i j) (inl h) = absurd h
    there_back (N i j) (inr h) = ap (λ i. N i j) (y.back i h.0 h.1).1

    back_there : (x : RulePort) → Spoken K w x → exchange y.from (exchange y.to x) ≡ x
    back_there (L j) h = refl
    back_there (R j) h = refl
    back_there (N i j) (inl h) = absurd h
    back_there (N i j) (inr h) = ap (λ i. N i j) (y.cells i h.0 h.1).1

    wires_back : (x z : RulePort) → Wired w.wires x z → Wired w.wires (exchange y.from x) (exchange y.from z)
    wires_back x z h =
        let s = rl.pairs_only x z h in
        let t = rl.pairs_all (exchange y.from x) (spoken_there x s) in
        let u : Wired w.wires x (exchange y.to t.0) =
        subst (λ v. Wired w.wires v (exchange y.to t.0)) (there_back x s) (y.wires (exchange y.from x) t.0 t.1) in
        let e : exchange y.to t.0 ≡ z = rl.with_one x (exchange y.to t.0) z u h in
        let v : t.0 ≡ exchange y.from z =
        sym (back_there t.0 (spoken_wired K w rl (exchange y.from x) t.0 t.1)) ∙ ap (exchange y.from) e in
        subst (Wired w.wires (exchange y.from x)) v t.1

    -- the exchange taken back is one too
    pub back_again : Symmetric w
    back_again = record { to = y.from; from = y.to; cells = y.back; back = y.cells; wires = wires_back }

    pub rows_cells : (i k : ℕ) → slice_get w.cells i ≡ Some k → (slice_get w.cells (rows y.to i) ≡ Some k) × (rows y.from (rows y.to i) ≡ i)
    rows_cells i k e =
        let t = y.cells i k e in
        let f : rows y.to i ≡ y.to i = split_low 4 y.to ends_turned i (cell_row K w rl i k e) in (
          ap (slice_get w.cells) f ∙ t.0,
          ap (rows y.from) f ∙ split_low 4 y.from ends_turned (y.to i) (cell_row K w rl (y.to i) k t.0) ∙ t.1,
        )

    rows_code : (g : RulePort) → Spoken K w g → carry (rows y.to) (code g) ≡ code (exchange y.to g)
    rows_code (L j) h = ap (λ r. port r j) (rows_four y.to)
    rows_code (R j) h = ap (λ r. port r j) (rows_five y.to)
    rows_code (N i j) h = ap (λ r. port r j) (split_low 4 y.to ends_turned i (new_row K w rl i j h))

    rows_home : (g : RulePort) → Spoken K w g → carry (rows y.from) (carry (rows y.to) (code g)) ≡ code g
    rows_home (L j) h = ap (λ r. port (rows y.from r) j) (rows_four y.to) ∙ ap (λ r. port r j) (rows_five y.from)
    rows_home (R j) h = ap (λ r. port (rows y.from r) j) (rows_five y.to) ∙ ap (λ r. port r j) (rows_four y.from)
    rows_home (N i j) (inl h) = absurd h
    rows_home (N i j) (inr h) = ap (λ r. port r j) (rows_cells i h.0 h.1).1

    pub rows_wires : (x : Spot) → wiring w x ≢ x →
        (wiring w (carry (rows y.to) x) ≡ carry (rows y.to) (wiring w x)) × (carry (rows y.from) (carry (rows y.to) x) ≡ x)
    rows_wires x l =
        let t = wire_from K w rl x l in
        let s = rl.pairs_only t.0 t.1 t.4 in
        let u = spoken_wired K w rl t.0 t.1 t.4 in (
          ap (wiring w) (ap (carry (rows y.to)) t.2 ∙ rows_code t.0 s)
              ∙ wire_at K w rl (exchange y.to t.0) (exchange y.to t.1) (y.wires t.0 t.1 t.4)
              ∙ sym (ap (carry (rows y.to)) t.3 ∙ rows_code t.1 u),
          ap (λ x. carry (rows y.from) (carry (rows y.to) x)) t.2 ∙ rows_home t.0 s ∙ sym t.2,
        )

  pub same_rows : (y : Symmetric w) → SameKinds (rows y.to) (rows y.from) (slice_get w.cells) (slice_get w.cells)
  unfolding back_again
  same_rows y = record { there = rows_cells y; back = rows_cells (back_again y) }

  pub same_wiring : (y : Symmetric w) → SameLinks (carry (rows y.to)) (carry (rows y.from)) (wiring w) (wiring w)
  unfolding back_again
  same_wiring y = record { there = rows_wires y; back = rows_wires (back_again y) }
