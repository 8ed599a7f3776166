-- A rewriting closes at most two circuits. Assumes nothing.
use Rattle.std.proofs.Common.{◌≡◌, ℕ, ◌+◌, ◌-◌, ◌/◌, ◌%◌, ◌<◌, ◌≤◌, ◌⊎◌, List, length, Some, sym, refl, ap, ◌∙◌, subst, inl, inr, arith}
use Rattle.std.specs.List.{slice_get}
use Rattle.std.proofs.lemmas.Bool.{cases_eq, cases_lt}
use Rattle.calculus.specs.Spots.{port}
use Rattle.calculus.specs.Books.{RulePort, L, R, N, RuleBook, RuleLaws, Laws, Wired, Leaving, Entering}
use Rattle.calculus.specs.Nets.{Net, Pair}
use Rattle.calculus.specs.Rewriting.{enters, crosses, Joined, here, by_rule, Closed, Circuits}
use Rattle.calculus.proofs.Lawful.{wired_back}
use Rattle.calculus.proofs.Places.{nth_some}
use Rattle.calculus.proofs.Pigeons.{fits}

module _ (K : RuleBook) (laws : Laws K) (A : Net) (P : Pair) (place : ℕ → ℕ) (rl : RuleLaws K P.rule) where
  -- L1, L2, R1 and R2 in order
  index : RulePort → ℕ
  index (L j) = j
  index (R j) = 2 + j
  index (N i j) = 0

  index_low : (g : RulePort) → Leaving K P.rule g → (1 ≤ index g) × (index g ≤ 4)
  unfolding index
  index_low (L j) (h, (a, e, l)) = let t = laws.kinds P.rule.left a e in (h, omega (arith, t.1))
  index_low (R j) (h, (a, e, l)) = let t = laws.kinds P.rule.right a e in (omega arith, omega (arith, t.1))
  index_low (N i j) h = absurd h

  index_inj : (g h : RulePort) → Leaving K P.rule g → Leaving K P.rule h → index g ≡ index h → g ≡ h
  unfolding index
  index_inj (L i) (L j) g h e = ap L e
  index_inj (L i) (R j) (g, (a, x, l)) h e = let t = laws.kinds P.rule.left a x in absurd (omega (arith, t.1, h.0))
  index_inj (L i) (N k j) g h e = absurd h
  index_inj (R i) (L j) g (h, (a, x, l)) e = let t = laws.kinds P.rule.left a x in absurd (omega (arith, t.1, g.0))
  index_inj (R i) (R j) g h e = let z : i ≡ j = omega arith in ap R z
  index_inj (R i) (N k j) g h e = absurd h
  index_inj (N k i) h g l e = absurd g

  -- a port on a closed circuit is joined by the rule with a leaving one
  partner : (g : RulePort) → Closed K A P place g → (h : RulePort) × Leaving K P.rule h × Wired P.rule.wires g h
  partner g c = let t = rl.pairs_all g (inl c.0) in go t.0 t.1
    where
      go : (h : RulePort) → Wired P.rule.wires g h → (h : RulePort) × Leaving K P.rule h × Wired P.rule.wires g h
      go h w = elim (rl.pairs_only h g (wired_back P.rule.wires g h w)) [
        | inl l ↦ (h, l, w)
        | inr e ↦ absurd (stop h w e)
      ]
        where
          stop : (h : RulePort) → Wired P.rule.wires g h → Entering K P.rule h → ⊥
          stop (L j) w e = e
          stop (R j) w e = e
          stop (N i j) w e = c.1 (port (place i) j) (crosses g (N i j) refl c.0 w (enters refl))

  module _ (gs : List RulePort) (C : Circuits K A P place gs) where
    -- the leaving port number k is on circuit s / 2: the listed one, or the one that the rule joins with it
    On : ℕ → ℕ → Type 0
    On s k =
        (g : RulePort) × (m : RulePort) × (slice_get gs (s / 2) ≡ Some g) × (((s % 2 ≡ 0) × (m ≡ g)) ⊎ ((s % 2 ≡ 1) × Wired P.rule.wires g m)) × Leaving K P.rule m × (index m ≡ k + 1)

    found : 2 < length gs → (s : ℕ) → s < 6 → (k : ℕ) × (k < 4) × On s k
    unfolding On
    found h s l =
        let t = nth_some gs (s / 2) (omega arith) in
        let c = C.closed (s / 2) t.0 t.1 in
        let u = partner t.0 c in
        elim (cases_eq (s % 2) 0) [
          | inl e ↦ (let x = index_low t.0 c.0 in (index t.0 - 1, omega (arith, x.0, x.1), (t.0, t.0, t.1, inl (e, refl), c.0, omega (arith, x.0))))
          | inr n ↦ (let x = index_low u.0 u.1 in (index u.0 - 1, omega (arith, x.0, x.1), (t.0, u.0, t.1, inr (omega arith, u.2), u.1, omega (arith, x.0))))
        ]

    crossed : (s t : ℕ) (g h m : RulePort) → slice_get gs s ≡ Some g → slice_get gs t ≡ Some h → Wired P.rule.wires h m → Leaving K P.rule m → g ≡ m → ⊥
    crossed s t g h m eg eh w l e =
        let j : Joined K A P place h g = by_rule m l w (subst (λ (x : RulePort). Joined K A P place m x) (sym e) here) in
        let z : t ≡ s = C.apart t s h g eh eg j in
        let y : Some h ≡ Some g = sym eh ∙ ap (slice_get gs) z ∙ eg in
        let x : h ≡ g = cc in
        rl.with_other h m w (x ∙ e)

    single : (s t k : ℕ) → On s k → On t k → s ≡ t
    unfolding On
    single s t k (g, m, eg, u, lm, im) (h, o, eh, v, lo, io) = go u v
      where
        mo : m ≡ o
        mo = index_inj m o lm lo (im ∙ sym io)

        halves : s / 2 ≡ t / 2 → s % 2 ≡ t % 2 → s ≡ t
        halves e f = omega arith

        go : ((s % 2 ≡ 0) × (m ≡ g)) ⊎ ((s % 2 ≡ 1) × Wired P.rule.wires g m) → ((t % 2 ≡ 0) × (o ≡ h)) ⊎ ((t % 2 ≡ 1) × Wired P.rule.wires h o) → s ≡ t
        go (inl (a, x)) (inl (b, y)) =
            halves (C.apart (s / 2) (t / 2) g h eg eh (subst (λ (z : RulePort). Joined K A P place g z) (sym x ∙ mo ∙ y) here)) (a ∙ sym b)
        go (inl (a, x)) (inr (b, w)) = absurd (crossed (s / 2) (t / 2) g h o eg eh w lo (sym x ∙ mo))
        go (inr (a, w)) (inl (b, y)) = absurd (crossed (t / 2) (s / 2) h g m eh eg w lm (sym y ∙ sym mo))
        go (inr (a, w)) (inr (b, x)) =
            let lh = (C.closed (t / 2) h eh).0 in
            let back : Wired P.rule.wires m h = subst (λ (z : RulePort). Wired P.rule.wires z h) (sym mo) (wired_back P.rule.wires h o x) in
            halves (C.apart (s / 2) (t / 2) g h eg eh (by_rule m lm w (by_rule h lh back here))) (a ∙ sym b)

    pub two_circuits : length gs ≤ 2
    two_circuits = elim (cases_lt 2 (length gs)) [
      | inl h ↦ (let z = fits 6 4 On (found h) single in absurd (omega arith))
      | inr h ↦ h
    ]
