-- The mate that splicing gives is the one found by following links. Assumes nothing.
use Rattle.std.proofs.Common.{◌≡◌, ℕ, zero, suc, ◌+◌, ◌≤◌, ◌≢◌, ◌⊎◌, List, [], ◌∷◌, ◌++◌, sym, ap, ◌∙◌, subst, ap₂, inl, inr, arith}
use Rattle.std.proofs.lemmas.Bool.{cases_lt}
use Rattle.calculus.specs.Spots.{Spot, end, port}
use Rattle.calculus.specs.Books.{RulePort, L, R, N, RuleBook, Wired, Leaving, Entering, RuleLaws, Laws}
use Rattle.calculus.specs.Nets.{Net, Pair}
use Rattle.calculus.specs.Rewriting.{stand, Outside, along, across, Leads, stays, enters, crosses, goes_on}
use Rattle.calculus.proofs.Wires.{Out, Partner, run, Ready}
use Rattle.calculus.proofs.Splice.{Mutual, keeps_mutual, ready_through, closed_past}
use Rattle.calculus.proofs.Beside.{end≢port, Left, up, not_left as past-left, on_left, on_right}
use Rattle.calculus.proofs.Follow.{Follow, follows}
use Rattle.calculus.proofs.Follow as follow
use Rattle.calculus.proofs.Wiring.{cell_row, code, ports, port_low, has_port, wiring, Spoken, code_one, wire_at, spoken_wired}
use Rattle.calculus.proofs.Plugs.{wires, gates, plugs, in_right, out_front, out_rear, end_plugs}
use Rattle.calculus.proofs.Rewrite.{Sized, Facing, laid, bench, rewrite, bounded, rule_laws, left_linked, right_linked, left_small, right_small, laid_mutual, plugs_ready, off_plugs, new_plugs, not_left, not_right}

-- the places from n on
abbrev pub fresh : ℕ → ℕ → ℕ
fresh n i = n + i

-- where the rule's port is laid beside the net
abbrev pub gate : ℕ → RulePort → Spot
gate n g = up n (code g)

partner_wires : (p g k : ℕ) (y u : Spot) → Partner (wires p g k) y u →
    (j : ℕ) × (1 ≤ j) × (j ≤ k) × (((y ≡ port p j) × (u ≡ port g j)) ⊎ ((y ≡ port g j) × (u ≡ port p j)))
partner_wires p g zero y u h = absurd h
partner_wires p g (suc k) y u (inl h) = (suc k, omega arith, omega arith, inl h)
partner_wires p g (suc k) y u (inr (inl h)) = (suc k, omega arith, omega arith, inr h)
partner_wires p g (suc k) y u (inr (inr h)) = let t = partner_wires p g k y u h in let z = t.2 in (t.0, t.1, omega arith, t.3)

wires_partner : (p g k j : ℕ) → 1 ≤ j → j ≤ k → Partner (wires p g k) (port p j) (port g j)
wires_partner p g zero j h l = omega arith
wires_partner p g (suc k) j h l =
    elim (cases_lt j (suc k)) [
      | inl z ↦ inr (inr (wires_partner p g k j h (omega arith)))
      | inr z ↦ (let e : j ≡ suc k = omega arith in inl (ap (port p) e, ap (port g) e))
    ]

partner_append : (xs ys : List (Spot × Spot)) (y u : Spot) → Partner (xs ++ ys) y u → Partner xs y u ⊎ Partner ys y u
partner_append [] ys y u h = inr h
partner_append (x ∷ xs) ys y u (inl h) = inl (inl h)
partner_append (x ∷ xs) ys y u (inr (inl h)) = inl (inr (inl h))
partner_append (x ∷ xs) ys y u (inr (inr h)) = elim (partner_append xs ys y u h) [ inl k ↦ inl (inr (inr k)) | inr k ↦ inr k ]

partner_front : (xs ys : List (Spot × Spot)) (y u : Spot) → Partner xs y u → Partner (xs ++ ys) y u
partner_front [] ys y u h = absurd h
partner_front (x ∷ xs) ys y u (inl h) = inl h
partner_front (x ∷ xs) ys y u (inr (inl h)) = inr (inl h)
partner_front (x ∷ xs) ys y u (inr (inr h)) = inr (inr (partner_front xs ys y u h))

partner_rear : (xs ys : List (Spot × Spot)) (y u : Spot) → Partner ys y u → Partner (xs ++ ys) y u
partner_rear [] ys y u h = h
partner_rear (x ∷ xs) ys y u h = inr (inr (partner_rear xs ys y u h))

pub partner_back : (ss : List (Spot × Spot)) (y u : Spot) → Partner ss y u → Partner ss u y
partner_back [] y u h = h
partner_back (s ∷ ss) y u (inl h) = inr (inl (h.1, h.0))
partner_back (s ∷ ss) y u (inr (inl h)) = inl (h.1, h.0)
partner_back (s ∷ ss) y u (inr (inr h)) = inr (inr (partner_back ss y u h))

module _ (K : RuleBook) (laws : Laws K) (n : ℕ) (A : Net) (G : Sized K n A) (P : Pair) (act : Facing K A P) where
  rl : RuleLaws K P.rule
  rl = rule_laws K laws n A G P act

  abbrev pub at : RulePort → Spot
  at = stand P (fresh n)

  -- what is spliced: each leaving port with its gate
  pub partner_gates : (y u : Spot) → Partner (gates K n P) y u →
      (g : RulePort) × Leaving K P.rule g × (((y ≡ at g) × (u ≡ gate n g)) ⊎ ((y ≡ gate n g) × (u ≡ at g)))
  partner_gates y u h =
      elim (partner_append (wires P.left (n + 4) (ports K P.rule.left)) (wires P.right (n + 5) (ports K P.rule.right)) y u h) [
        | inl k ↦ (let t = partner_wires P.left (n + 4) (ports K P.rule.left) y u k in
            (L t.0, (t.1, has_port K P.rule.left t.0 rl.left_kind t.2), t.3))
        | inr k ↦ (let t = partner_wires P.right (n + 5) (ports K P.rule.right) y u k in
            (R t.0, (t.1, has_port K P.rule.right t.0 rl.right_kind t.2), t.3))
      ]

  pub gates_partner : (g : RulePort) → Leaving K P.rule g → Partner (gates K n P) (at g) (gate n g)
  gates_partner (L j) h = partner_front (wires P.left (n + 4) (ports K P.rule.left)) (wires P.right (n + 5) (ports K P.rule.right)) (port P.left j) (port (n + 4) j)
      (wires_partner P.left (n + 4) (ports K P.rule.left) j h.0 (port_low K P.rule.left j h.1))
  gates_partner (R j) h = partner_rear (wires P.left (n + 4) (ports K P.rule.left)) (wires P.right (n + 5) (ports K P.rule.right)) (port P.right j) (port (n + 5) j)
      (wires_partner P.right (n + 5) (ports K P.rule.right) j h.0 (port_low K P.rule.right j h.1))
  gates_partner (N i j) h = absurd h

  -- a leaving port: on the left, linked, not principal
  pub leaving_left : (g : RulePort) → Leaving K P.rule g → Left n (at g)
  leaving_left (L j) h = left_small K laws n A G P act
  leaving_left (R j) h = right_small K laws n A G P act
  leaving_left (N i j) h = absurd h

  pub leaving_live : (g : RulePort) → Leaving K P.rule g → A.mate (at g) ≢ at g
  leaving_live (L j) h = left_linked K laws n A G P act j (port_low K P.rule.left j h.1)
  leaving_live (R j) h = right_linked K laws n A G P act j (port_low K P.rule.right j h.1)
  leaving_live (N i j) h = absurd h

  pub leaving_first : (g : RulePort) → Leaving K P.rule g → (at g ≢ port P.left 0) × (at g ≢ port P.right 0)
  leaving_first (L j) h = ((λ e. let z : j ≡ 0 = cc in let y = h.0 in omega arith), (λ e. let z : j ≡ 0 = cc in let y = h.0 in omega arith))
  leaving_first (R j) h = ((λ e. let z : j ≡ 0 = cc in let y = h.0 in omega arith), (λ e. let z : j ≡ 0 = cc in let y = h.0 in omega arith))
  leaving_first (N i j) h = absurd h

  pub gate_right : (g : RulePort) (y : Spot) → Left n y → y ≢ gate n g
  gate_right (L j) y l e = past-left n 4 j (subst (Left n) e l)
  gate_right (R j) y l e = past-left n 5 j (subst (Left n) e l)
  gate_right (N i j) y l e = past-left n i j (subst (Left n) e l)

  up_one : (x y : Spot) → up n x ≡ up n y → x ≡ y
  up_one (end e) (end f) z = z
  up_one (end e) (port r j) z = absurd (end≢port e (n + r) j z)
  up_one (port r j) (end f) z = absurd (end≢port f (n + r) j (sym z))
  up_one (port r j) (port s k) z =
      let a : n + r ≡ n + s = cc in
      let b : j ≡ k = cc in
      let c : r ≡ s = omega arith in
      ap₂ port c b

  pub gate_one : (g h : RulePort) → Spoken K P.rule g → Spoken K P.rule h → gate n g ≡ gate n h → g ≡ h
  gate_one g h s t e = code_one K P.rule rl g h s t (up_one (code g) (code h) e)

  facing' : laid n A P (port P.left 0) ≡ port P.right 0
  facing' = on_left n A.mate (wiring P.rule) (port P.left 0) (left_small K laws n A G P act) ∙ act.facing

  bench_past : (y : Spot) → y ≢ port P.left 0 → y ≢ port P.right 0 → bench n A P y ≡ laid n A P y
  bench_past y a b = closed_past (port P.left 0) (port P.right 0) (laid n A P) (laid_mutual K laws n A G P act) facing' y a b

  pub bench_old : (y : Spot) → Left n y → y ≢ port P.left 0 → y ≢ port P.right 0 → bench n A P y ≡ A.mate y
  bench_old y l a b = bench_past y a b ∙ on_left n A.mate (wiring P.rule) y l

  pub bench_leaving : (g : RulePort) → Leaving K P.rule g → bench n A P (at g) ≡ A.mate (at g)
  bench_leaving g h = bench_old (at g) (leaving_left g h) (leaving_first g h).0 (leaving_first g h).1

  pub bench_gate : (g h : RulePort) → Wired P.rule.wires g h → bench n A P (gate n g) ≡ gate n h
  bench_gate g h w =
      bench_past (gate n g) (λ e. gate_right g (port P.left 0) (left_small K laws n A G P act) (sym e))
      (λ e. gate_right g (port P.right 0) (right_small K laws n A G P act) (sym e))
      ∙ beside_gate g ∙ ap (up n) (wire_at K P.rule rl g h w)
    where
      beside_gate : (g : RulePort) → laid n A P (gate n g) ≡ up n (wiring P.rule (code g))
      beside_gate (L j) = on_right n A.mate (wiring P.rule) 4 j
      beside_gate (R j) = on_right n A.mate (wiring P.rule) 5 j
      beside_gate (N i j) = on_right n A.mate (wiring P.rule) i j

  -- no auxiliary port is linked with a leaving principal port
  pub not_first : (x : Spot) → (x ≢ port P.left 0) → (x ≢ port P.right 0) → (A.mate x ≢ port P.left 0) × (A.mate x ≢ port P.right 0)
  not_first x a b =
      let i = G.good.twice in
      let f = act.facing in (
        (λ e. b (sym (i x) ∙ ap A.mate e ∙ f)),
        (λ e. a (sym (i x) ∙ ap A.mate (e ∙ sym f) ∙ i (port P.left 0))),
      )

  pub outside_of : (y : Spot) → Out y (plugs K n P) → A.mate y ≢ y → Outside P y
  outside_of (end e) o l = tt
  outside_of (port r j) o l = (not_left K laws n A G P act r j o l, not_right K laws n A G P act r j o l)

  pub gate_in : (g : RulePort) → Leaving K P.rule g → Out (gate n g) (gates K n P) → ⊥
  gate_in (L j) h o = in_right P.left (n + 4) (ports K P.rule.left) j h.0 (port_low K P.rule.left j h.1)
      (out_front (port (n + 4) j) (wires P.left (n + 4) (ports K P.rule.left)) (wires P.right (n + 5) (ports K P.rule.right)) o)
  gate_in (R j) h o = in_right P.right (n + 5) (ports K P.rule.right) j h.0 (port_low K P.rule.right j h.1)
      (out_rear (port (n + 5) j) (wires P.left (n + 4) (ports K P.rule.left)) (wires P.right (n + 5) (ports K P.rule.right)) o)
  gate_in (N i j) h o = absurd h

  -- who comes to y in the wiring comes there along a link, or across the rule
  abbrev pub Comes : Spot → Spot → Type 0
  Comes y z =
      (A.mate y ≢ y → y ≢ port P.left 0 → y ≢ port P.right 0 → Leads K A P (fresh n) (along y) z)
      × ((g : RulePort) → Spoken K P.rule g → y ≡ gate n g → Leads K A P (fresh n) (across g) z)

  stopped : (y : Spot) → Out y (gates K n P) → Comes y y
  stopped y o = ((λ l a b. stays (outside_of y (a, b, o) l)), new)
    where
      new : (g : RulePort) → Spoken K P.rule g → y ≡ gate n g → Leads K A P (fresh n) (across g) y
      new (L j) (inl h) e = absurd (gate_in (L j) h (subst (λ y. Out y (gates K n P)) e o))
      new (L j) (inr h) e = absurd h
      new (R j) (inl h) e = absurd (gate_in (R j) h (subst (λ y. Out y (gates K n P)) e o))
      new (R j) (inr h) e = absurd h
      new (N i j) h e = enters e

  crossed : (y u z : Spot) → Partner (gates K n P) y u → Comes (bench n A P u) z → Comes y z
  crossed y u z p c = go (partner_gates y u p)
    where
      go : (g : RulePort) × Leaving K P.rule g × (((y ≡ at g) × (u ≡ gate n g)) ⊎ ((y ≡ gate n g) × (u ≡ at g))) → Comes y z
      go (g, h, inl (ey, eu)) = (
        (λ l a b.
            let t = rl.pairs_all g (inl h) in
            crosses g t.0 ey h t.1 (c.1 t.0 (spoken_wired K P.rule rl g t.0 t.1) (ap (bench n A P) eu ∙ bench_gate g t.0 t.1))),
        (λ g' s e. absurd (gate_right g' (at g) (leaving_left g h) (sym ey ∙ e))),
      )
      go (g, h, inr (ey, eu)) = (
        (λ l a b. absurd (gate_right g y (bounded K n A G y l) ey)),
        (λ g' s e.
            let eg : g ≡ g' = gate_one g g' (inl h) s (sym ey ∙ e) in
            let em : bench n A P u ≡ A.mate (at g) = ap (bench n A P) eu ∙ bench_leaving g h in
            let i = G.good.twice in
            let f = not_first (at g) (leaving_first g h).0 (leaving_first g h).1 in
            subst (λ g. Leads K A P (fresh n) (across g) z) eg
            (goes_on h (subst (λ y. Leads K A P (fresh n) (along y) z) em
            (c.0 (subst (λ y. A.mate y ≢ y) (sym em) (λ e. leaving_live g h (sym (sym (i (at g)) ∙ e))))
            (subst (λ y. y ≢ port P.left 0) (sym em) f.0) (subst (λ y. y ≢ port P.right 0) (sym em) f.1))))),
      )

  pub leads : {y z : Spot} → Follow (gates K n P) (bench n A P) y z → Comes y z
  leads (follow.stop {y = y} o) = stopped y o
  leads (follow.across {y = y} {u = u} {z = z} p f) = crossed y u z p (leads f)

  pub bench_mutual : Mutual (bench n A P)
  bench_mutual =
      let r = plugs_ready K laws n A G P act in
      keeps_mutual (port P.left 0) (port P.right 0) (laid n A P) (laid_mutual K laws n A G P act) r.0 r.1 r.2

  pub gates_ready : Ready (gates K n P) (bench n A P)
  gates_ready =
      let r = plugs_ready K laws n A G P act in
      ready_through (port P.left 0) (port P.right 0) (laid n A P) (laid_mutual K laws n A G P act) r.0 r.1 r.2 (gates K n P) r.3 r.4 r.5

  pub outside_out : (x : Spot) → Left n x → Outside P x → Out x (plugs K n P)
  outside_out (end e) l o = end_plugs K n P e
  outside_out (port r j) l o = off_plugs K laws n A G P act r j o.0 o.1 l

  pub old_links : (x : Spot) → A.mate x ≢ x → Outside P x → Leads K A P (fresh n) (along (A.mate x)) ((rewrite K n A P).mate x)
  unfolding rewrite
  old_links x l o =
      let b = bounded K n A G x l in
      let out = outside_out x b o in
      let f = not_first x out.0 out.1 in
      let e = bench_old x b out.0 out.1 in
      let i = G.good.twice in
      (leads (subst (λ y. Follow (gates K n P) (bench n A P) y (run (gates K n P) (bench n A P) x)) e
      (follows (gates K n P) (bench n A P) bench_mutual gates_ready x out.2))).0
      (λ z. l (sym (sym (i x) ∙ z))) f.0 f.1

  pub new_links : (x y : RulePort) → Entering K P.rule x → Wired P.rule.wires x y → Leads K A P (fresh n) (across y) ((rewrite K n A P).mate (stand P (fresh n) x))
  unfolding rewrite
  new_links (L j) y h w = absurd h
  new_links (R j) y h w = absurd h
  new_links (N i j) y h w =
      (leads (follows (gates K n P) (bench n A P) bench_mutual gates_ready (port (n + i) j)
      (new_plugs K laws n A G P act i j (cell_row K P.rule rl i h.0 h.1)).2)).1
      y (spoken_wired K P.rule rl (N i j) y w) (bench_gate (N i j) y w)
