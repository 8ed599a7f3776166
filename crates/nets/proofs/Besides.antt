-- The rule's right side stands beside the net, its rows at their places. Assumes nothing.
use Rattle.std.proofs.Common.{◌≡◌, ℕ, ◌+◌, ◌<◌, ◌≤◌, ◌≢◌, ◌⊎◌, List, length, sym, refl, ap, ◌∙◌, subst, inl, inr, arith}
use Rattle.calculus.specs.Spots.{Spot, port, carry}
use Rattle.calculus.specs.Books.{RulePort, L, R, N, RuleBook, Rule, RuleLaws, Wired}
use Rattle.calculus.proofs.Splice.{Mutual}
use Rattle.calculus.proofs.Tests.{nth_within}
use Rattle.calculus.proofs.Beside.{Left, up, side, Bounded, Ports, beside, on_left, on_right, left_live, right_live}
use Rattle.calculus.proofs.Wiring.{wiring, Spoken, wire_from, wiring_mutual, wiring_ports, spoken_wired}
use Rattle.calculus.proofs.Wiring as rules
use Rattle.nets.specs.declared.link.Link.{Link}
use Rattle.nets.specs.Layout.{code, goal}
use Rattle.nets.specs.Rewiring.{HasSlot, Shows, renamed, row_of, number_of, Places, Laid, Room}
use Rattle.nets.specs.ByBook.{seat}
use Rattle.nets.proofs.Slots.{code_inj, port_slot}
use Rattle.nets.proofs.Renaming.{swaps, swaps_else, swaps_new, swaps_twice, move_twice}

module _ (K : RuleBook) (w : Rule) (laws : RuleLaws K w) (n : ℕ) (ps : List ℕ) (cells : length w.cells ≡ n) (P : Places (seat ps) n) where
  abbrev f : ℕ → ℕ
  f = swaps (seat ps) n

  few : n ≤ 4
  few = let z = laws.few in omega arith

  ff : (r : ℕ) → swaps (seat ps) n (swaps (seat ps) n r) ≡ r
  ff r = swaps_twice (seat ps) n r P

  pub gate : (i : ℕ) → 4 ≤ i → swaps (seat ps) n (1024 + i) ≡ 1024 + i
  gate i h = let k = few in swaps_else (seat ps) n (1024 + i) (λ j l. ((let z = P.low j l in omega arith), omega arith))

  -- where a port of the rule stands
  pub seated : (g : RulePort) → Spoken K w g → carry (swaps (seat ps) n) (up 1024 (rules.code g)) ≡ port (row_of ps g) (number_of g)
  seated (L j) h = ap (λ (r : ℕ). port r j) (gate 4 (omega arith))
  seated (R j) h = ap (λ (r : ℕ). port r j) (gate 5 (omega arith))
  seated (N i j) (inl h) = absurd h
  seated (N i j) (inr h) = ap (λ (r : ℕ). port r j) (swaps_new (seat ps) n i P (let z = nth_within w.cells i h.0 h.1 in omega arith))

  high : (g : RulePort) → (i : ℕ) × (j : ℕ) × (up 1024 (rules.code g) ≡ port (1024 + i) j)
  high (L j) = (4, j, refl)
  high (R j) = (5, j, refl)
  high (N i j) = (i, j, refl)

  module _ (G : Room w.wires ps) (xs ys : List Link) (m : Spot → Spot) (im : Mutual m) (bm : Bounded 1024 m)
      (S : Shows xs (renamed (swaps (seat ps) n) m)) (A : Laid xs w.wires ps ys) where
    iw : Mutual (wiring w)
    iw = wiring_mutual K w laws

    pw : Ports (wiring w)
    pw = wiring_ports K w laws

    abbrev V : Spot → Spot
    V = beside 1024 m (wiring w)

    slot : (g h : RulePort) → Wired w.wires g h → HasSlot (port (row_of ps g) (number_of g))
    slot g h x = let t = G.rows g h x in port_slot (row_of ps g) (number_of g) t.0 t.1

    -- no port of the rule is written over what was there
    kept : (y : Spot) → Left 1024 (carry (swaps (seat ps) n) y) → HasSlot y → goal ys (code y) ≡ goal xs (code y)
    kept y l d = A.other (code y) (λ g h x e.
        let s = rules.wire_at K w laws g h x in
        let sp = laws.pairs_only g h x in
        let z : y ≡ port (row_of ps g) (number_of g) = code_inj y (port (row_of ps g) (number_of g)) d (slot g h x) e in
        let t = high g in
        let q : carry f y ≡ port (1024 + t.0) t.1 =
        ap (carry f) (z ∙ sym (seated g sp)) ∙ move_twice f ff (up 1024 (rules.code g)) ∙ t.2 in
        let lt : 1024 + t.0 < 1024 = subst (Left 1024) q l in
        omega arith)

    pub stands : Shows ys (renamed (swaps (seat ps) n) (beside 1024 m (wiring w)))
    stands y l = go (side 1024 (carry f y))
      where
        lx : V (carry f y) ≢ carry f y
        lx e = l (ap (carry f) e ∙ move_twice f ff y)

        go : Left 1024 (carry f y) ⊎ ((i : ℕ) × (j : ℕ) × (carry f y ≡ port (1024 + i) j)) → HasSlot y × (goal ys (code y) ≡ code (renamed f V y))
        go (inl s) =
            let lm : m (carry f y) ≢ carry f y = left_live 1024 m (wiring w) im bm iw pw (carry f y) s lx in
            let v : renamed f m y ≢ y = λ e. lm (sym (move_twice f ff (m (carry f y))) ∙ ap (carry f) e) in
            let t = S y v in
            (t.0, kept y s t.0 ∙ t.1 ∙ ap code (sym (ap (carry f) (on_left 1024 m (wiring w) (carry f y) s))))
        go (inr (i, j, e)) =
            let lw : wiring w (port i j) ≢ port i j = right_live 1024 m (wiring w) im bm iw pw i j (subst (λ (z : Spot). V z ≢ z) e lx) in
            let t = wire_from K w laws (port i j) lw in
            let g = t.0 in
            let h = t.1 in
            let x = t.4 in
            let ey : y ≡ port (row_of ps t.0) (number_of t.0) =
            sym (move_twice f ff y) ∙ ap (carry f) (e ∙ ap (up 1024) t.2) ∙ seated g (laws.pairs_only g h x) in
            let ev : renamed f V y ≡ port (row_of ps t.1) (number_of t.1) =
            ap (λ (z : Spot). carry f (V z)) e ∙ ap (carry f) (on_right 1024 m (wiring w) i j ∙ ap (up 1024) t.3) ∙ seated h (spoken_wired K w laws g h x) in
            (subst HasSlot (sym ey) (slot g h x), ap (λ (y : Spot). goal ys (code y)) ey ∙ A.here g h x ∙ ap code (sym ev))
