-- Two pairs that share no cell, rewritten in either order. Assumes nothing.
use Rattle.std.proofs.Common.{◌≡◌, ℕ, ◌+◌, ◌<◌, ◌≢◌, ◌⊎◌, List, [], ◌∷◌, ◌++◌, Some, sym, refl, ap, ◌∙◌, subst, subst₂, inl, inr, arith}
use Rattle.std.specs.List.{slice_get}
use Rattle.calculus.specs.Spots.{Spot, end, port, carry}
use Rattle.calculus.specs.Books.{Rule, RuleBook, RuleLaws, Laws}
use Rattle.calculus.specs.Nets.{Net, Pair}
use Rattle.calculus.specs.Alike.{SameLinks, Alike}
use Rattle.calculus.specs.Theorems.{Disjoint}
use Rattle.calculus.proofs.Wires.{Out, through, run, tally, Ready}
use Rattle.calculus.proofs.Splice.{Mutual, Apart, exchange, past, mutual_run}
use Rattle.calculus.proofs.Iso.{pairs, same_run, image_ready}
use Rattle.calculus.proofs.Beside.{beside, Left, Ports, Bounded, both, split_low, split_at, on_left, same_beside, mutual_beside, live_left, side, right_live}
use Rattle.calculus.proofs.Assoc.{beside_run, assoc, turn, turn_low, turn_high, same_turn, ports_beside}
use Rattle.calculus.proofs.Wiring.{ports, wiring, wiring_mutual, wiring_ports, wiring_bounded}
use Rattle.calculus.proofs.Plugs.{wires, plugs, out_plugs, apart_plugs}
use Rattle.calculus.proofs.Rewrite.{Sized, Facing, laid, rewrite, bounded, rule_laws, left_small, right_small, laid_mutual, plugs_ready, after_mate, after_ends, after_loops, cells, old_cell, new_cell, off_plugs, sized_after}
use Rattle.calculus.proofs.Alikes.{links_id}
use Rattle.calculus.proofs.Carried.{pairs_plugs}

-- a spot off the splices, with its mate off them too, keeps its mate
pub run_past : (ss : List (Spot × Spot)) (m : Spot → Spot) (x : Spot) → Out x ss → Out (m x) ss → run ss m x ≡ m x
run_past [] m x o k = refl
run_past (s ∷ ss) m x o k =
    let e : through s.0 s.1 m x ≡ m x = past s.0 s.1 m x o.0 o.1 k.0 k.1 in
    run_past ss (through s.0 s.1 m) x o.2 (subst (λ y. Out y ss) (sym e) k.2) ∙ e

pub ready_beside : (n : ℕ) (m w : Spot → Spot) → Mutual m → Bounded n m → Mutual w → Ports w → (ss : List (Spot × Spot)) → Ready ss m → Ready ss (beside n m w)
ready_beside n m w im bm iw pw [] r = tt
ready_beside n m w im bm iw pw (s ∷ ss) r =
    (r.0, live_left n m w im bm iw pw s.0 r.1, live_left n m w im bm iw pw s.1 r.2, r.3, r.4, ready_beside n m w im bm iw pw ss r.5)

pub bounded_beside : (n k : ℕ) (m w : Spot → Spot) → Mutual m → Bounded n m → Mutual w → Ports w → Bounded k w → Bounded (n + k) (beside n m w)
bounded_beside n k m w im bm iw pw bw x l = go (side n x)
  where
    widen : (y : Spot) → Left n y → Left (n + k) y
    widen (end e) h = tt
    widen (port r j) h = omega arith

    go : Left n x ⊎ ((i : ℕ) × (j : ℕ) × (x ≡ port (n + i) j)) → Left (n + k) x
    go (inl h) = widen x h
    go (inr (i, j, e)) =
        let h : i < k = bw (port i j) (right_live n m w im bm iw pw i j (subst (λ y. beside n m w y ≢ y) e l)) in
        let h' : n + i < n + k = omega arith in
        subst (Left (n + k)) (sym e) h'

pub disjoint_back : (P Q : Pair) → Disjoint P Q → Disjoint Q P
disjoint_back P Q d = record {
  left_left = λ z. d.left_left (sym z);
  left_right = λ z. d.right_left (sym z);
  right_left = λ z. d.left_right (sym z);
  right_right = λ z. d.right_right (sym z);
}

module _ (K : RuleBook) (laws : Laws K) (n : ℕ) (A : Net) (G : Sized K n A) (P Q : Pair) (act : Facing K A P) (act' : Facing K A Q) (d : Disjoint Q P) where
  -- the other pair is there still
  pub stays_facing : Facing K (rewrite K n A P) Q
  stays_facing =
      let h = left_small K laws n A G Q act' in
      let h' = right_small K laws n A G Q act' in
      let e : laid n A P (port Q.left 0) ≡ port Q.right 0 = on_left n A.mate (wiring P.rule) (port Q.left 0) h ∙ act'.facing in
      record {
        listed = act'.listed;
        left = old_cell K laws n A G P act Q.left Q.rule.left d.left_left d.left_right act'.left;
        right = old_cell K laws n A G P act Q.right Q.rule.right d.right_left d.right_right act'.right;
        facing = ap (λ m. m (port Q.left 0)) (after_mate K laws n A G P act)
            ∙ run_past (plugs K n P) (laid n A P) (port Q.left 0) (off_plugs K laws n A G P act Q.left 0 d.left_left d.left_right h)
            (subst (λ y. Out y (plugs K n P)) (sym e) (off_plugs K laws n A G P act Q.right 0 d.right_left d.right_right h'))
            ∙ e;
      }

-- both rules' right sides beside the net
abbrev pub laid_both : ℕ → Net → Rule → Rule → Spot → Spot
laid_both n A v w = beside n A.mate (beside 6 (wiring v) (wiring w))

-- what the second rewriting starts from: the first one's splices made in that
module _ (K : RuleBook) (laws : Laws K) (n : ℕ) (A : Net) (G : Sized K n A) (P : Pair) (act : Facing K A P) (w : Rule) (rl : RuleLaws K w) where
  rl₀ : RuleLaws K P.rule
  rl₀ = rule_laws K laws n A G P act

  b_v : Bounded (n + 6) (laid n A P)
  b_v = bounded_beside n 6 A.mate (wiring P.rule) G.good.twice (bounded K n A G) (wiring_mutual K P.rule rl₀) (wiring_ports K P.rule rl₀) (wiring_bounded K P.rule rl₀)

  asc : beside (n + 6) (laid n A P) (wiring w) ≡ laid_both n A P.rule w
  asc = assoc n 6 A.mate (wiring P.rule) (wiring w) G.good.twice (bounded K n A G) (wiring_mutual K P.rule rl₀) (wiring_ports K P.rule rl₀) (wiring_bounded K P.rule rl₀)

  br : (beside (n + 6) (run (plugs K n P) (laid n A P)) (wiring w) ≡ run (plugs K n P) (beside (n + 6) (laid n A P) (wiring w)))
      × (tally (plugs K n P) (beside (n + 6) (laid n A P) (wiring w)) ≡ tally (plugs K n P) (laid n A P))
  br = beside_run (n + 6) (wiring w) (wiring_mutual K w rl) (wiring_ports K w rl) (plugs K n P) (laid n A P) (laid_mutual K laws n A G P act) b_v (plugs_ready K laws n A G P act)

  pub second : beside (n + 6) (rewrite K n A P).mate (wiring w) ≡ run (plugs K n P) (laid_both n A P.rule w)
  second = ap (λ m. beside (n + 6) m (wiring w)) (after_mate K laws n A G P act) ∙ br.0 ∙ ap (run (plugs K n P)) asc

  pub second_loops : (rewrite K n A P).loops + 1 ≡ A.loops + tally (plugs K n P) (laid_both n A P.rule w)
  second_loops =
      let t = after_loops K laws n A G P act in
      let u = sym (ap (tally (plugs K n P)) asc) ∙ br.1 in
      omega (arith, t, u)

  pub second_ready : Ready (plugs K n P) (laid_both n A P.rule w)
  second_ready = subst (Ready (plugs K n P)) asc
      (ready_beside (n + 6) (laid n A P) (wiring w) (laid_mutual K laws n A G P act) b_v (wiring_mutual K w rl) (wiring_ports K w rl) (plugs K n P) (plugs_ready K laws n A G P act))

  pub both_mutual : Mutual (laid_both n A P.rule w)
  both_mutual = subst Mutual asc (mutual_beside (n + 6) (laid n A P) (wiring w) (laid_mutual K laws n A G P act) b_v (wiring_mutual K w rl) (wiring_ports K w rl))

abbrev swap : ℕ → ℕ → ℕ
swap n = both n n (λ i. i) turn

swap_old : (n r : ℕ) → r < n → swap n r ≡ r
swap_old n r h = split_low n (λ i. i) (λ i. n + turn i) r h

swap_first : (n i : ℕ) → i < 6 → swap n (n + i) ≡ n + 6 + i
swap_first n i h = split_at n (λ i. i) (λ i. n + turn i) i ∙ ap (λ t. n + t) (turn_low i h) ∙ omega arith

swap_second : (n i : ℕ) → swap n (n + 6 + i) ≡ n + i
swap_second n i =
    let e : n + 6 + i ≡ n + (6 + i) = omega arith in
    ap (swap n) e ∙ split_at n (λ i. i) (λ i. n + turn i) (6 + i) ∙ ap (λ t. n + t) (turn_high i)

module _ (K : RuleBook) (laws : Laws K) (n : ℕ) (A : Net) (G : Sized K n A) (P Q : Pair) (act : Facing K A P) (act' : Facing K A Q) (d : Disjoint Q P) where
  abbrev A₁ : Net
  A₁ = rewrite K n A P

  abbrev A₂ : Net
  A₂ = rewrite K n A Q

  G₁ : Sized K (n + 6) A₁
  G₁ = sized_after K laws n A G P act

  G₂ : Sized K (n + 6) A₂
  G₂ = sized_after K laws n A G Q act'

  act₁ : Facing K A₁ Q
  act₁ = stays_facing K laws n A G P Q act act' d

  act₂ : Facing K A₂ P
  act₂ = stays_facing K laws n A G Q P act' act (disjoint_back Q P d)

  kinds_there : (r c : ℕ) → (rewrite K (n + 6) A₁ Q).kind r ≡ Some c → ((rewrite K (n + 6) A₂ P).kind (swap n r) ≡ Some c) × (swap n (swap n r) ≡ r)
  kinds_there r c e = go (cells K laws (n + 6) A₁ G₁ Q act₁ r c e)
    where
      hp : P.left < n
      hp = left_small K laws n A G P act

      hq : P.right < n
      hq = right_small K laws n A G P act

      old_one : r ≢ Q.left → r ≢ Q.right → ((r ≢ P.left) × (r ≢ P.right) × (r < n) × (A.kind r ≡ Some c)) ⊎ ((i : ℕ) × (r ≡ n + i) × (i < 4) × (slice_get P.rule.cells i ≡ Some c)) →
          ((rewrite K (n + 6) A₂ P).kind (swap n r) ≡ Some c) × (swap n (swap n r) ≡ r)
      old_one a b (inl (a', b', h, y)) =
          let s = swap_old n r h in
          (ap (rewrite K (n + 6) A₂ P).kind s ∙ old_cell K laws (n + 6) A₂ G₂ P act₂ r c a' b' (old_cell K laws n A G Q act' r c a b y), ap (swap n) s ∙ s)
      old_one a b (inr (i, z, h, y)) =
          let h6 : i < 6 = omega arith in
          let s : swap n r ≡ n + 6 + i = ap (swap n) z ∙ swap_first n i h6 in (
            ap (rewrite K (n + 6) A₂ P).kind s ∙ new_cell K laws (n + 6) A₂ G₂ P act₂ i c y,
            ap (swap n) s ∙ swap_second n i ∙ sym z,
          )

      go : ((r ≢ Q.left) × (r ≢ Q.right) × (r < n + 6) × (A₁.kind r ≡ Some c)) ⊎ ((i : ℕ) × (r ≡ n + 6 + i) × (i < 4) × (slice_get Q.rule.cells i ≡ Some c)) →
          ((rewrite K (n + 6) A₂ P).kind (swap n r) ≡ Some c) × (swap n (swap n r) ≡ r)
      go (inl (a, b, h, y)) = old_one a b (cells K laws n A G P act r c y)
      go (inr (i, z, h, y)) =
          let h6 : i < 6 = omega arith in
          let lp = hp in
          let lq = hq in
          let s : swap n r ≡ n + i = ap (swap n) z ∙ swap_second n i in (
            ap (rewrite K (n + 6) A₂ P).kind s ∙ old_cell K laws (n + 6) A₂ G₂ P act₂ (n + i) c (omega arith) (omega arith) (new_cell K laws n A G Q act' i c y),
            ap (swap n) s ∙ swap_first n i h6 ∙ sym z,
          )

  rl_q : RuleLaws K Q.rule
  rl_q = rule_laws K laws n A G Q act'

  -- the splices of the second rewriting, and where it starts
  second_mate : (rewrite K (n + 6) A₁ Q).mate ≡ run (plugs K (n + 6) Q) (run (plugs K n P) (laid_both n A P.rule Q.rule))
  second_mate = after_mate K laws (n + 6) A₁ G₁ Q act₁ ∙ ap (run (plugs K (n + 6) Q)) (second K laws n A G P act Q.rule rl_q)

  second_total : (rewrite K (n + 6) A₁ Q).loops + 2
      ≡ A.loops + tally (plugs K n P) (laid_both n A P.rule Q.rule) + tally (plugs K (n + 6) Q) (run (plugs K n P) (laid_both n A P.rule Q.rule))
  second_total =
      let t = after_loops K laws (n + 6) A₁ G₁ Q act₁ in
      let u = ap (tally (plugs K (n + 6) Q)) (second K laws n A G P act Q.rule rl_q) in
      omega (arith, t, u, second_loops K laws n A G P act Q.rule rl_q)

  second_plugs : Ready (plugs K (n + 6) Q) (run (plugs K n P) (laid_both n A P.rule Q.rule))
  second_plugs = subst (Ready (plugs K (n + 6) Q)) (second K laws n A G P act Q.rule rl_q) (plugs_ready K laws (n + 6) A₁ G₁ Q act₁)

  second_ends : (rewrite K (n + 6) A₁ Q).ends ≡ A.ends
  second_ends = after_ends K laws (n + 6) A₁ G₁ Q act₁ ∙ after_ends K laws n A G P act

module _ (K : RuleBook) (laws : Laws K) (n : ℕ) (A : Net) (G : Sized K n A) (P Q : Pair) (act : Facing K A P) (act' : Facing K A Q) (d : Disjoint Q P) where
  pub cross : Alike (rewrite K (n + 6) (rewrite K n A P) Q) (rewrite K (n + 6) (rewrite K n A Q) P)
  cross = (
    σ,
    σ,
    record {
      ends = second_ends K laws n A G P Q act act' d ∙ sym (second_ends K laws n A G Q P act' act d');
      loops = total;
      kinds = record { there = kinds_there K laws n A G P Q act act' d; back = kinds_there K laws n A G Q P act' act d' };
      links = subst₂ (SameLinks (carry σ) (carry σ)) (sym (second_mate K laws n A G P Q act act' d))
          (ap (λ t. run t (run P⁺ W')) list2 ∙ ex.0 ∙ sym (second_mate K laws n A G Q P act' act d')) s2.0;
    },
  )
    where
      d' : Disjoint P Q
      d' = disjoint_back Q P d

      σ : ℕ → ℕ
      σ = swap n

      P₀ : List (Spot × Spot)
      P₀ = plugs K n P

      P⁺ : List (Spot × Spot)
      P⁺ = plugs K (n + 6) P

      Q₀ : List (Spot × Spot)
      Q₀ = plugs K n Q

      Q⁺ : List (Spot × Spot)
      Q⁺ = plugs K (n + 6) Q

      W₀ : Spot → Spot
      W₀ = laid_both n A P.rule Q.rule

      W' : Spot → Spot
      W' = laid_both n A Q.rule P.rule

      R₁ : RuleLaws K P.rule
      R₁ = rule_laws K laws n A G P act

      R₂ : RuleLaws K Q.rule
      R₂ = rule_laws K laws n A G Q act'

      hp : P.left < n
      hp = left_small K laws n A G P act

      hq : P.right < n
      hq = right_small K laws n A G P act

      hp' : Q.left < n
      hp' = left_small K laws n A G Q act'

      hq' : Q.right < n
      hq' = right_small K laws n A G Q act'

      i_w : Mutual W₀
      i_w = both_mutual K laws n A G P act Q.rule R₂

      i_w' : Mutual W'
      i_w' = both_mutual K laws n A G Q act' P.rule R₁

      b6 : (v w : Rule) → RuleLaws K v → RuleLaws K w → Mutual (beside 6 (wiring v) (wiring w))
      b6 v w r s = mutual_beside 6 (wiring v) (wiring w) (wiring_mutual K v r) (wiring_bounded K v r) (wiring_mutual K w s) (wiring_ports K w s)

      s_w : SameLinks (carry σ) (carry σ) W₀ W'
      s_w = same_beside n n (λ i. i) (λ i. i) turn turn A.mate A.mate (beside 6 (wiring P.rule) (wiring Q.rule)) (beside 6 (wiring Q.rule) (wiring P.rule))
          G.good.twice G.good.twice (bounded K n A G) (bounded K n A G) (b6 P.rule Q.rule R₁ R₂) (b6 Q.rule P.rule R₂ R₁)
          (ports_beside 6 (wiring P.rule) (wiring Q.rule) (wiring_ports K P.rule R₁)) (ports_beside 6 (wiring Q.rule) (wiring P.rule) (wiring_ports K Q.rule R₂))
          (links_id A.mate)
          (same_turn (wiring P.rule) (wiring Q.rule) (wiring_mutual K P.rule R₁) (wiring_mutual K Q.rule R₂) (wiring_ports K P.rule R₁) (wiring_ports K Q.rule R₂)
          (wiring_bounded K P.rule R₁) (wiring_bounded K Q.rule R₂))

      list1 : pairs (carry σ) P₀ ≡ P⁺
      list1 =
          let e₁ = swap_old n P.left hp in
          let e₂ = swap_old n P.right hq in
          let e₃ = swap_first n 4 (omega arith) in
          let e₄ = swap_first n 5 (omega arith) in
          pairs_plugs σ K n P
          ∙ (λ i. (port (e₁ i) 0, port (e₂ i) 0) ∷ (wires (e₁ i) (e₃ i) (ports K P.rule.left) ++ wires (e₂ i) (e₄ i) (ports K P.rule.right)))

      list2 : pairs (carry σ) Q⁺ ≡ Q₀
      list2 =
          let e₁ = swap_old n Q.left hp' in
          let e₂ = swap_old n Q.right hq' in
          let e₃ = swap_second n 4 in
          let e₄ = swap_second n 5 in
          pairs_plugs σ K (n + 6) Q
          ∙ (λ i. (port (e₁ i) 0, port (e₂ i) 0) ∷ (wires (e₁ i) (e₃ i) (ports K Q.rule.left) ++ wires (e₂ i) (e₄ i) (ports K Q.rule.right)))

      r_p : Ready P₀ W₀
      r_p = second_ready K laws n A G P act Q.rule R₂

      r_q : Ready Q₀ W'
      r_q = second_ready K laws n A G Q act' P.rule R₁

      r_p⁺ : Ready P⁺ W'
      r_p⁺ = subst (λ t. Ready t W') list1 (image_ready (carry σ) (carry σ) W₀ W' i_w s_w P₀ r_p)

      r_q⁺ : Ready Q⁺ (run P₀ W₀)
      r_q⁺ = second_plugs K laws n A G P Q act act' d

      s1 : SameLinks (carry σ) (carry σ) (run P₀ W₀) (run (pairs (carry σ) P₀) W') × (tally P₀ W₀ ≡ tally (pairs (carry σ) P₀) W')
      s1 = same_run (carry σ) (carry σ) W₀ W' i_w i_w' s_w P₀ r_p

      s1' : SameLinks (carry σ) (carry σ) (run P₀ W₀) (run P⁺ W')
      s1' = subst (λ t. SameLinks (carry σ) (carry σ) (run P₀ W₀) (run t W')) list1 s1.0

      s2 : SameLinks (carry σ) (carry σ) (run Q⁺ (run P₀ W₀)) (run (pairs (carry σ) Q⁺) (run P⁺ W')) × (tally Q⁺ (run P₀ W₀) ≡ tally (pairs (carry σ) Q⁺) (run P⁺ W'))
      s2 = same_run (carry σ) (carry σ) (run P₀ W₀) (run P⁺ W') (mutual_run P₀ W₀ i_w r_p) (mutual_run P⁺ W' i_w' r_p⁺) s1' Q⁺ r_q⁺

      ap' : Apart P⁺ Q₀
      ap' = apart_plugs K (n + 6) n P Q
          (λ j. out_plugs K n Q P.left j d'.left_left d'.left_right (let h = hp in omega arith) (let h = hp in omega arith))
          (λ j. out_plugs K n Q P.right j d'.right_left d'.right_right (let h = hq in omega arith) (let h = hq in omega arith))
          (λ j. out_plugs K n Q (n + 6 + 4) j (let h = hp' in omega arith) (let h = hq' in omega arith) (omega arith) (omega arith))
          (λ j. out_plugs K n Q (n + 6 + 5) j (let h = hp' in omega arith) (let h = hq' in omega arith) (omega arith) (omega arith))

      ex : (run Q₀ (run P⁺ W') ≡ run P⁺ (run Q₀ W')) × (tally P⁺ W' + tally Q₀ (run P⁺ W') ≡ tally Q₀ W' + tally P⁺ (run Q₀ W'))
      ex = exchange P⁺ Q₀ W' i_w' r_p⁺ r_q ap'

      total : (rewrite K (n + 6) (rewrite K n A P) Q).loops ≡ (rewrite K (n + 6) (rewrite K n A Q) P).loops
      total =
          let t₁ = second_total K laws n A G P Q act act' d in
          let t₂ = second_total K laws n A G Q P act' act d' in
          let u₁ = s1.1 ∙ ap (λ t. tally t W') list1 in
          let u₂ = s2.1 ∙ ap (λ t. tally t (run P⁺ W')) list2 in
          omega (arith, t₁, t₂, u₁, u₂, ex.1)
