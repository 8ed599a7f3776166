-- The loops that splicing counts are the closed circuits of leaving ports. Assumes nothing.
use Rattle.std.proofs.Common.{◌≡◌, ℕ, zero, suc, ◌≢◌, ◌⊎◌, List, [], ◌∷◌, length, Some, sym, refl, ap, ◌∙◌, subst, inl, inr, arith}
use Rattle.std.specs.List.{slice_get}
use Rattle.calculus.specs.Spots.{Spot, port}
use Rattle.calculus.specs.Books.{RulePort, L, R, N, RuleBook, Wired, Leaving, RuleLaws, Laws}
use Rattle.calculus.specs.Nets.{Net, Pair}
use Rattle.calculus.specs.Rewriting.{Come, along, across, Leads, stays, enters, crosses, goes_on, Joined, here, by_rule, by_link, Closed, Circuits}
use Rattle.calculus.proofs.Wires.{Out, Partner, tally}
use Rattle.calculus.proofs.Splice.{spot, Mutual}
use Rattle.calculus.proofs.Beside.{Left}
use Rattle.calculus.proofs.Circuit as circuit
use Rattle.calculus.proofs.Circuit.{there, wire, over, counts, decided}
use Rattle.calculus.proofs.Wiring.{Spoken, spoken_wired, new_row}
use Rattle.calculus.proofs.Plugs.{gates}
use Rattle.calculus.proofs.Rewrite.{Sized, Facing, bench, rule_laws, bounded, two, new_plugs}
use Rattle.calculus.proofs.Leads.{fresh, gate, partner_back, at, partner_gates, gates_partner, leaving_left, leaving_live, leaving_first, gate_right, gate_one, bench_leaving, bench_gate, not_first, leads, bench_mutual, gates_ready, outside_out}

-- spliced with some spot, or with none
pub find : (ss : List (Spot × Spot)) (x : Spot) → ((y : Spot) × Partner ss x y) ⊎ Out x ss
find [] x = inr tt
find (s ∷ ss) x = go (spot x s.0) (spot x s.1) (find ss x)
  where
    go : (x ≡ s.0) ⊎ (x ≢ s.0) → (x ≡ s.1) ⊎ (x ≢ s.1) → ((y : Spot) × Partner ss x y) ⊎ Out x ss → ((y : Spot) × Partner (s ∷ ss) x y) ⊎ Out x (s ∷ ss)
    go (inl e) q r = inl (s.1, inl (e, refl))
    go (inr n) (inl e) r = inl (s.0, inr (inl (e, refl)))
    go (inr n) (inr k) (inl (y, p)) = inl (y, inr (inr p))
    go (inr n) (inr k) (inr o) = inr (n, k, o)

joined_back : (ss : List (Spot × Spot)) (m : Spot → Spot) → Mutual m → {x y : Spot} → circuit.Joined ss m x y → circuit.Joined ss m y x
joined_back ss m im there = there
joined_back ss m im (wire {y = y} j) =
    circuit.trans (joined_back ss m im j) y (wire (subst (λ x. circuit.Joined ss m x y) (sym (im y)) there))
joined_back ss m im (over {y = y} {u = u} p j) = circuit.trans (joined_back ss m im j) y (over (partner_back ss y u p) there)

nth_every : (Q : Spot → Type 0) (cs : List Spot) → circuit.Every Q cs → (i : ℕ) (c : Spot) → slice_get cs i ≡ Some c → Q c
nth_every Q [] h i c e = absurd (let z : ◌≡◌ {A = ℕ} 0 1 = cc in let n : ⊥ = omega arith in n)
nth_every Q (d ∷ cs) h zero c e = let f : d ≡ c = cc in subst Q f h.0
nth_every Q (d ∷ cs) h (suc i) c e = nth_every Q cs h.1 i c e

some-nth : (Q : Spot → Type 0) (cs : List Spot) → circuit.Some Q cs → (i : ℕ) × (c : Spot) × (slice_get cs i ≡ Some c) × Q c
some-nth Q [] h = absurd h
some-nth Q (d ∷ cs) (inl h) = (0, d, refl, h)
some-nth Q (d ∷ cs) (inr h) = let t = some-nth Q cs h in (suc t.0, t.1, t.2, t.3)

separate-nth : (ss : List (Spot × Spot)) (m : Spot → Spot) → Mutual m → (cs : List Spot) → circuit.Separate ss m cs →
    (i j : ℕ) (c d : Spot) → slice_get cs i ≡ Some c → slice_get cs j ≡ Some d → circuit.Joined ss m c d → i ≡ j
separate-nth ss m im [] s i j c d e f h = let z : ◌≡◌ {A = ℕ} 0 1 = cc in omega arith
separate-nth ss m im (x ∷ cs) s zero zero c d e f h = refl
separate-nth ss m im (x ∷ cs) s zero (suc j) c d e f h =
    let g : x ≡ c = cc in
    absurd (nth_every (λ d. circuit.Joined ss m x d → ⊥) cs s.0 j d f (subst (λ c. circuit.Joined ss m c d) (sym g) h))
separate-nth ss m im (x ∷ cs) s (suc i) zero c d e f h =
    let g : x ≡ d = cc in
    absurd (nth_every (λ d. circuit.Joined ss m x d → ⊥) cs s.0 i c e (subst (λ d. circuit.Joined ss m d c) (sym g) (joined_back ss m im h)))
separate-nth ss m im (x ∷ cs) s (suc i) (suc j) c d e f h = ap suc (separate-nth ss m im cs s.1 i j c d e f h)

module _ (K : RuleBook) (laws : Laws K) (n : ℕ) (A : Net) (G : Sized K n A) (P : Pair) (act : Facing K A P) where
  rl : RuleLaws K P.rule
  rl = rule_laws K laws n A G P act

  abbrev a₀ : RulePort → Spot
  a₀ = at K laws n A G P act

  abbrev J : Spot → Spot → Type 0
  J = circuit.Joined (gates K n P) (bench n A P)

  abbrev C : Spot → Type 0
  C = circuit.Closed (gates K n P) (bench n A P)

  -- y is the leaving port g, or its gate
  abbrev At : RulePort → Spot → Type 0
  At g y = Leaving K P.rule g × ((y ≡ a₀ g) ⊎ (y ≡ gate n g))

  spliced : (y : Spot) → (Out y (gates K n P) → ⊥) → (g : RulePort) × At g y
  spliced y o = go (find (gates K n P) y)
    where
      name : (g : RulePort) → Leaving K P.rule g → (u : Spot) → ((y ≡ a₀ g) × (u ≡ gate n g)) ⊎ ((y ≡ gate n g) × (u ≡ a₀ g)) → At g y
      name g h u (inl e) = (h, inl e.0)
      name g h u (inr e) = (h, inr e.0)

      go : ((u : Spot) × Partner (gates K n P) y u) ⊎ Out y (gates K n P) → (g : RulePort) × At g y
      go (inl (u, p)) = let t = partner_gates K laws n A G P act y u p in (t.0, name t.0 t.1 u t.2)
      go (inr k) = absurd (o k)

  at_same : (g h : RulePort) → Leaving K P.rule g → Leaving K P.rule h → a₀ g ≡ a₀ h → g ≡ h
  at_same (L i) (L j) s t e = let z : i ≡ j = cc in ap L z
  at_same (L i) (R j) s t e = absurd (two K laws n A G P act (cc))
  at_same (R i) (L j) s t e = absurd (two K laws n A G P act (cc))
  at_same (R i) (R j) s t e = let z : i ≡ j = cc in ap R z
  at_same (L i) (N k j) s t e = absurd t
  at_same (R i) (N k j) s t e = absurd t
  at_same (N k i) h s t e = absurd s

  at_one : (g h : RulePort) (y : Spot) → At g y → At h y → g ≡ h
  at_one g h y (s, inl e) (t, inl f) = at_same g h s t (sym e ∙ f)
  at_one g h y (s, inl e) (t, inr f) = absurd (gate_right K laws n A G P act h (a₀ g) (leaving_left K laws n A G P act g s) (sym e ∙ f))
  at_one g h y (s, inr e) (t, inl f) = absurd (gate_right K laws n A G P act g (a₀ h) (leaving_left K laws n A G P act h t) (sym f ∙ e))
  at_one g h y (s, inr e) (t, inr f) = gate_one K laws n A G P act g h (inl s) (inl t) (sym e ∙ f)

  -- one wire of the bench between spliced spots is a link or a pair of the rule
  one_wire : (g g' h : RulePort) (y : Spot) → At g y → At g' (bench n A P y) → Joined K A P (fresh n) g' h → Joined K A P (fresh n) g h
  one_wire g g' h y (s, inl e) (t, u) j = go u
    where
      m : bench n A P y ≡ A.mate (a₀ g)
      m = ap (bench n A P) e ∙ bench_leaving K laws n A G P act g s

      i : (x : Spot) → A.mate (A.mate x) ≡ x
      i = G.good.twice

      l : Left n (A.mate (a₀ g))
      l = bounded K n A G (A.mate (a₀ g)) (λ z. leaving_live K laws n A G P act g s (sym (sym (i (a₀ g)) ∙ z)))

      go : (bench n A P y ≡ a₀ g') ⊎ (bench n A P y ≡ gate n g') → Joined K A P (fresh n) g h
      go (inl f) = by_link g' t (sym m ∙ f) j
      go (inr f) = absurd (gate_right K laws n A G P act g' (A.mate (a₀ g)) l (sym m ∙ f))
  one_wire g g' h y (s, inr e) (t, u) j = go u
    where
      w : (x : RulePort) × Wired P.rule.wires g x
      w = rl.pairs_all g (inl s)

      m : bench n A P y ≡ gate n w.0
      m = ap (bench n A P) e ∙ bench_gate K laws n A G P act g w.0 w.1

      go : (bench n A P y ≡ a₀ g') ⊎ (bench n A P y ≡ gate n g') → Joined K A P (fresh n) g h
      go (inl f) = absurd (gate_right K laws n A G P act w.0 (a₀ g') (leaving_left K laws n A G P act g' t) (sym f ∙ m))
      go (inr f) =
          let z : w.0 ≡ g' = gate_one K laws n A G P act w.0 g' (spoken_wired K P.rule rl g w.0 w.1) (inl t) (sym m ∙ f) in
          by_rule g' t (subst (Wired P.rule.wires g) z w.1) j

  over_at : (g : RulePort) (y u : Spot) → At g y → Partner (gates K n P) y u → At g u
  over_at g y u s p = go (partner_gates K laws n A G P act y u p)
    where
      go : (h : RulePort) × Leaving K P.rule h × (((y ≡ a₀ h) × (u ≡ gate n h)) ⊎ ((y ≡ gate n h) × (u ≡ a₀ h))) → At g u
      go (h, t, inl e) = subst (λ g. At g u) (at_one h g y (t, inl e.0) s) (t, inr e.1)
      go (h, t, inr e) = subst (λ g. At g u) (at_one h g y (t, inr e.0) s) (t, inl e.1)

  -- a way that meets only spliced spots joins leaving ports
  joins : {y z : Spot} → J y z → C y → (g h : RulePort) → At g y → At h z → Joined K A P (fresh n) g h
  joins (there {y = y}) c g h s t = subst (Joined K A P (fresh n) g) (at_one g h y s t) here
  joins (wire {y = y} j) c g h s t =
      let c' : C (bench n A P y) = λ z k o. c z (wire k) o in
      let g' = spliced (bench n A P y) (λ o. c' (bench n A P y) there o) in
      one_wire g g'.0 h y s g'.1 (joins j c' g'.0 h g'.1 t)
  joins (over {y = y} {u = u} p j) c g h s t = joins j (λ z k o. c z (over p k) o) g h (over_at g y u s p) t

  -- and leaving ports that are joined are joined by such a way
  way : {g h : RulePort} → Joined K A P (fresh n) g h → Leaving K P.rule g → J (a₀ g) (a₀ h)
  way here s = there
  way (by_rule {f = f} {h = h} g t w j) s =
      over (gates_partner K laws n A G P act f s) (wire (subst (λ x. J x (a₀ h)) (sym (bench_gate K laws n A G P act f g w))
      (over (partner_back (gates K n P) (a₀ g) (gate n g) (gates_partner K laws n A G P act g t)) (way j t))))
  way (by_link {f = f} {h = h} g t e j) s = wire (subst (λ x. J x (a₀ h)) (sym (bench_leaving K laws n A G P act f s ∙ e)) (way j t))

  -- following ends off the splices
  abbrev Ends : Come → Type 0
  Ends (along y) = A.mate y ≢ y → y ≢ port P.left 0 → y ≢ port P.right 0 → (z : Spot) × J y z × Out z (gates K n P)
  Ends (across g) = Spoken K P.rule g → (z : Spot) × J (gate n g) z × Out z (gates K n P)

  ends : {c : Come} {z : Spot} → Leads K A P (fresh n) c z → Ends c
  ends (stays {z = z} o) = λ l a b. (z, there, (outside_out K laws n A G P act z (bounded K n A G z l) o).2)
  ends (enters {i = i} {j = j} e) = λ s. (gate n (N i j), there, (new_plugs K laws n A G P act i j (new_row K P.rule rl i j s)).2)
  ends (crosses g h {y = y} e s w r) = λ l a b.
      let t = ends r (spoken_wired K P.rule rl g h w) in (
        t.0,
        subst (λ x. J x t.0) (sym e) (over (gates_partner K laws n A G P act g s) (wire (subst (λ x. J x t.0) (sym (bench_gate K laws n A G P act g h w)) t.1))),
        t.2,
      )
  ends (goes_on {g = g} s r) = λ q.
      let f = leaving_first K laws n A G P act g s in
      let k = not_first K laws n A G P act (a₀ g) f.0 f.1 in
      let i = G.good.twice in
      let t = ends r (λ z. leaving_live K laws n A G P act g s (sym (sym (i (a₀ g)) ∙ z))) k.0 k.1 in (
        t.0,
        over (partner_back (gates K n P) (a₀ g) (gate n g) (gates_partner K laws n A G P act g s)) (wire (subst (λ x. J x t.0) (sym (bench_leaving K laws n A G P act g s)) t.1)),
        t.2,
      )

  closed_port : (g : RulePort) → Leaving K P.rule g → C (a₀ g) → Closed K A P (fresh n) g
  closed_port g s c = (
    s,
    λ z r.
        let f = leaving_first K laws n A G P act g s in
        let t = ends r (leaving_live K laws n A G P act g s) f.0 f.1 in
        c t.0 t.1 t.2,
  )

  closed_spot : (g : RulePort) → Closed K A P (fresh n) g → C (a₀ g)
  closed_spot g c =
      let f = leaving_first K laws n A G P act g c.0 in
      elim (decided (gates K n P) (bench n A P) (bench_mutual K laws n A G P act) (gates_ready K laws n A G P act) (a₀ g)) [
        | inl t ↦ absurd (c.1 t.0 ((leads K laws n A G P act t.1).0 (leaving_live K laws n A G P act g c.0) f.0 f.1))
        | inr k ↦ k
      ]

  -- the ports of a list of spots
  abbrev Named : List RulePort → List Spot → Type 0
  Named [] [] = Unit {0}
  Named [] (c ∷ cs) = ⊥
  Named (g ∷ gs) [] = ⊥
  Named (g ∷ gs) (c ∷ cs) = At g c × Named gs cs

  names : (cs : List Spot) → circuit.Every C cs → (gs : List RulePort) × (length gs ≡ length cs) × Named gs cs
  names [] h = ([], refl, tt)
  names (c ∷ cs) h =
      let g = spliced c (λ o. h.0 c there o) in
      let t = names cs h.1 in
      (g.0 ∷ t.0, ap suc t.1, (g.1, t.2))

  name_spot : (gs : List RulePort) (cs : List Spot) → Named gs cs → (i : ℕ) (g : RulePort) → slice_get gs i ≡ Some g → (c : Spot) × (slice_get cs i ≡ Some c) × At g c
  name_spot [] cs h i g e = let z : ◌≡◌ {A = ℕ} 0 1 = cc in absurd (let n : ⊥ = omega arith in n)
  name_spot (x ∷ gs) [] h i g e = absurd h
  name_spot (x ∷ gs) (c ∷ cs) h zero g e = let f : x ≡ g = cc in (c, refl, subst (λ g. At g c) f h.0)
  name_spot (x ∷ gs) (c ∷ cs) h (suc i) g e = name_spot gs cs h.1 i g e

  spot_name : (gs : List RulePort) (cs : List Spot) → Named gs cs → (i : ℕ) (c : Spot) → slice_get cs i ≡ Some c → (g : RulePort) × (slice_get gs i ≡ Some g) × At g c
  spot_name gs [] h i c e = let z : ◌≡◌ {A = ℕ} 0 1 = cc in absurd (let n : ⊥ = omega arith in n)
  spot_name [] (d ∷ cs) h i c e = absurd h
  spot_name (x ∷ gs) (d ∷ cs) h zero c e = let f : d ≡ c = cc in (x, refl, subst (At x) f h.0)
  spot_name (x ∷ gs) (d ∷ cs) h (suc i) c e = spot_name gs cs h.1 i c e

  to_at : (g : RulePort) (c : Spot) → At g c → J (a₀ g) c
  to_at g c (s, inl e) = subst (J (a₀ g)) (sym e) there
  to_at g c (s, inr e) = subst (J (a₀ g)) (sym e) (over (gates_partner K laws n A G P act g s) there)

  from_at : (g : RulePort) (c : Spot) → At g c → J c (a₀ g)
  from_at g c s = joined_back (gates K n P) (bench n A P) (bench_mutual K laws n A G P act) (to_at g c s)

  -- one port of each closed circuit, as many as the splices count
  pub circuits : (gs : List RulePort) × (length gs ≡ tally (gates K n P) (bench n A P)) × Circuits K A P (fresh n) gs
  circuits =
      let ib = bench_mutual K laws n A G P act in
      let c = counts (gates K n P) (bench n A P) ib (gates_ready K laws n A G P act) in
      let cs = c.0 in
      let t = names cs c.2.closed in
      let gs = t.0 in (
        gs,
        t.1 ∙ c.1,
        record {
          closed = λ i g e.
              let s = name_spot gs cs t.2 i g e in
              let k = nth_every C cs c.2.closed i s.0 s.1 in
              closed_port g s.2.0 (λ z j o. k z (circuit.trans (from_at g s.0 s.2) z j) o);
          apart = λ i j g h e f w.
              let s = name_spot gs cs t.2 i g e in
              let u = name_spot gs cs t.2 j h f in
              separate-nth (gates K n P) (bench n A P) ib cs c.2.separate i j s.0 u.0 s.1 u.1
              (circuit.trans (from_at g s.0 s.2) u.0 (circuit.trans (way w s.2.0) u.0 (to_at h u.0 u.2)));
          all = λ g k.
              let k' = closed_spot g k in
              let s = some-nth (J (a₀ g)) cs (c.2.all (a₀ g) k') in
              let u = spot_name gs cs t.2 s.0 s.1 s.2 in
              (s.0, u.0, u.1, joins s.3 k' g u.0 (k.0, inl refl) u.2);
        },
      )
