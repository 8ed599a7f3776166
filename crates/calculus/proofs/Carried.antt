-- A pair and its image in an alike net, or with its two sides exchanged, rewrite to alike nets. Assumes nothing.
use Rattle.std.proofs.Common.{◌≡◌, ℕ, zero, suc, ◌+◌, ◌<◌, ◌≢◌, ◌⊎◌, List, [], ◌∷◌, ◌++◌, Some, sym, refl, ap, ◌∙◌, subst, ap₂, inl, inr, arith}
use Rattle.std.specs.List.{slice_get}
use Rattle.calculus.specs.Spots.{Spot, port, carry}
use Rattle.calculus.specs.Books.{RuleBook, Symmetric, RuleLaws, Laws}
use Rattle.calculus.specs.Nets.{Net, Pair}
use Rattle.calculus.specs.Alike.{SameKinds, SameLinks, AlikeBy, Alike}
use Rattle.calculus.proofs.Wires.{through, closes, run, tally, Ready}
use Rattle.calculus.proofs.Splice.{Mutual, mirror, exchange, ready_through, keeps_mutual, closes_iff}
use Rattle.calculus.proofs.Iso.{pairs, same_run}
use Rattle.calculus.proofs.Beside.{both, same_beside, split_low, split_at}
use Rattle.calculus.proofs.Wiring.{ports, wiring, wiring_mutual, wiring_ports}
use Rattle.calculus.proofs.Plugs.{wires, gates, plugs, ready_front, ready_rear, ready_apart}
use Rattle.calculus.proofs.Rewrite.{Sized, Facing, laid, rewrite, bounded, rule_laws, left_linked, left_small, right_small, laid_mutual, plugs_ready, after_mate, after_ends, after_loops, cells, old_cell, new_cell}
use Rattle.calculus.proofs.Exchange.{rows, rows_four, rows_five, same_rows, same_wiring}
use Rattle.calculus.proofs.Alikes.{kinds_id, links_id, kinds_back, by_id}

-- the pair with its two cells in other places
abbrev pub seat : Pair → ℕ → ℕ → Pair
seat P p q = record { left = p; right = q; position = P.position; rule = P.rule }

pairs_wires : (f : ℕ → ℕ) (p g n : ℕ) → pairs (carry f) (wires p g n) ≡ wires (f p) (f g) n
pairs_wires f p g zero = refl
pairs_wires f p g (suc n) = ap (λ t. (port (f p) (suc n), port (f g) (suc n)) ∷ t) (pairs_wires f p g n)

pub pairs-append : (f : Spot → Spot) (xs ys : List (Spot × Spot)) → pairs f (xs ++ ys) ≡ pairs f xs ++ pairs f ys
pairs-append f [] ys = refl
pairs-append f (x ∷ xs) ys = ap (λ t. (f x.0, f x.1) ∷ t) (pairs-append f xs ys)

pub pairs_plugs : (f : ℕ → ℕ) (K : RuleBook) (n : ℕ) (P : Pair) →
    pairs (carry f) (plugs K n P)
    ≡ (port (f P.left) 0, port (f P.right) 0) ∷ (wires (f P.left) (f (n + 4)) (ports K P.rule.left) ++ wires (f P.right) (f (n + 5)) (ports K P.rule.right))
pairs_plugs f K n P =
    ap (λ t. (port (f P.left) 0, port (f P.right) 0) ∷ t)
    (pairs-append (carry f) (wires P.left (n + 4) (ports K P.rule.left)) (wires P.right (n + 5) (ports K P.rule.right))
    ∙ ap₂ ◌++◌ (pairs_wires f P.left (n + 4) (ports K P.rule.left)) (pairs_wires f P.right (n + 5) (ports K P.rule.right)))

-- cells carried by f, new cells by r
module _ (K : RuleBook) (laws : Laws K) (n n' : ℕ) (A A' : Net) (G : Sized K n A) (G' : Sized K n' A') (P : Pair) (p' q' : ℕ)
    (act : Facing K A P) (act' : Facing K A' (seat P p' q')) (f g r s : ℕ → ℕ)
    (sk : SameKinds f g A.kind A'.kind) (sr : SameKinds r s (slice_get P.rule.cells) (slice_get P.rule.cells))
    (avoid : (x c : ℕ) → A.kind x ≡ Some c → x ≢ P.left → x ≢ P.right → (f x ≢ p') × (f x ≢ q')) where
  kinds_there : (x c : ℕ) → (rewrite K n A P).kind x ≡ Some c →
      ((rewrite K n' A' (seat P p' q')).kind (both n n' f r x) ≡ Some c) × (both n' n g s (both n n' f r x) ≡ x)
  kinds_there x c e = go (cells K laws n A G P act x c e)
    where
      go : ((x ≢ P.left) × (x ≢ P.right) × (x < n) × (A.kind x ≡ Some c)) ⊎ ((i : ℕ) × (x ≡ n + i) × (i < 4) × (slice_get P.rule.cells i ≡ Some c)) →
          ((rewrite K n' A' (seat P p' q')).kind (both n n' f r x) ≡ Some c) × (both n' n g s (both n n' f r x) ≡ x)
      go (inl (np, nq, h, y)) =
          let e₁ : both n n' f r x ≡ f x = split_low n f (λ i. n' + r i) x h in
          let t = sk.there x c y in
          let av = avoid x c y np nq in (
            ap (rewrite K n' A' (seat P p' q')).kind e₁ ∙ old_cell K laws n' A' G' (seat P p' q') act' (f x) c av.0 av.1 t.0,
            ap (both n' n g s) e₁ ∙ split_low n' g (λ i. n + s i) (f x) (G'.small (f x) c t.0) ∙ t.1,
          )
      go (inr (i, z, h, y)) =
          let e₁ : both n n' f r x ≡ n' + r i = ap (both n n' f r) z ∙ split_at n f (λ i. n' + r i) i in
          let t = sr.there i c y in (
            ap (rewrite K n' A' (seat P p' q')).kind e₁ ∙ new_cell K laws n' A' G' (seat P p' q') act' (r i) c t.0,
            ap (both n' n g s) e₁ ∙ split_at n' g (λ i. n + s i) (r i) ∙ ap (λ i. n + i) t.1 ∙ sym z,
          )

module _ (K : RuleBook) (laws : Laws K) (n n' : ℕ) (A A' : Net) (G : Sized K n A) (G' : Sized K n' A') (P : Pair) (p' q' : ℕ)
    (act : Facing K A P) (act' : Facing K A' (seat P p' q')) (f g r s : ℕ → ℕ) (al : AlikeBy f g A A')
    (sr : SameKinds r s (slice_get P.rule.cells) (slice_get P.rule.cells)) (sw : SameLinks (carry r) (carry s) (wiring P.rule) (wiring P.rule))
    (avoid : (x c : ℕ) → A.kind x ≡ Some c → x ≢ P.left → x ≢ P.right → (f x ≢ p') × (f x ≢ q'))
    (avoid' : (x c : ℕ) → A'.kind x ≡ Some c → x ≢ p' → x ≢ q' → (g x ≢ P.left) × (g x ≢ P.right)) where
  abbrev F : ℕ → ℕ
  F = both n n' f r

  abbrev H : ℕ → ℕ
  H = both n' n g s

  abbrev P' : Pair
  P' = seat P p' q'

  laid_alike : SameLinks (carry F) (carry H) (laid n A P) (laid n' A' P')
  laid_alike =
      let rl = rule_laws K laws n A G P act in
      same_beside n n' f g r s A.mate A'.mate (wiring P.rule) (wiring P.rule) G.good.twice G'.good.twice (bounded K n A G) (bounded K n' A' G')
      (wiring_mutual K P.rule rl) (wiring_mutual K P.rule rl) (wiring_ports K P.rule rl) (wiring_ports K P.rule rl) al.links sw

  pub carried_by : (run (pairs (carry F) (plugs K n P)) (laid n' A' P') ≡ run (plugs K n' P') (laid n' A' P'))
      × (tally (pairs (carry F) (plugs K n P)) (laid n' A' P') ≡ tally (plugs K n' P') (laid n' A' P')) →
      AlikeBy F H (rewrite K n A P) (rewrite K n' A' P')
  carried_by lists =
      let sm = same_run (carry F) (carry H) (laid n A P) (laid n' A' P') (laid_mutual K laws n A G P act) (laid_mutual K laws n' A' G' P' act') laid_alike
      (plugs K n P) (plugs_ready K laws n A G P act) in
      record {
        ends = after_ends K laws n A G P act ∙ al.ends ∙ sym (after_ends K laws n' A' G' P' act');
        loops = omega (arith, after_loops K laws n A G P act, after_loops K laws n' A' G' P' act', al.loops, sm.1, lists.1);
        kinds = record {
          there = kinds_there K laws n n' A A' G G' P p' q' act act' f g r s al.kinds sr avoid;
          back = kinds_there K laws n' n A' A G' G P' P.left P.right act' act g f s r (kinds_back al.kinds) (kinds_back sr) avoid';
        };
        links = subst (λ m. SameLinks (carry F) (carry H) m (rewrite K n' A' P').mate) (sym (after_mate K laws n A G P act))
            (subst (λ m. SameLinks (carry F) (carry H) (run (plugs K n P) (laid n A P)) m) (lists.0 ∙ sym (after_mate K laws n' A' G' P' act')) sm.0);
      }

-- nets that are alike
module _ (K : RuleBook) (laws : Laws K) (n n' : ℕ) (A A' : Net) (G : Sized K n A) (G' : Sized K n' A') (P : Pair) (act : Facing K A P)
    (f g : ℕ → ℕ) (al : AlikeBy f g A A') where
  pub image : Facing K A' (seat P (f P.left) (f P.right))
  image = record {
    listed = act.listed;
    left = (al.kinds.there P.left P.rule.left act.left).0;
    right = (al.kinds.there P.right P.rule.right act.right).0;
    facing = (al.links.there (port P.left 0) (left_linked K laws n A G P act 0 (omega arith))).0 ∙ ap (carry f) act.facing;
  }

  keep : (x y c d : ℕ) → A.kind x ≡ Some c → A.kind y ≡ Some d → x ≢ y → f x ≢ f y
  keep x y c d e h o z = o (sym (al.kinds.there x c e).1 ∙ ap g z ∙ (al.kinds.there y d h).1)

  pub image_alike : Alike (rewrite K n A P) (rewrite K n' A' (seat P (f P.left) (f P.right)))
  image_alike = (
    F₁,
    both n' n g (λ i. i),
    carried_by K laws n n' A A' G G' P (f P.left) (f P.right) act image f g (λ i. i) (λ i. i) al (kinds_id (slice_get P.rule.cells)) (links_id (wiring P.rule))
        (λ x c e a b. (keep x P.left c P.rule.left e act.left a, keep x P.right c P.rule.right e act.right b))
        (λ x c e a b. ((λ z. a (sym (al.kinds.back x c e).1 ∙ ap f z)), (λ z. b (sym (al.kinds.back x c e).1 ∙ ap f z))))
        (ap (λ t. run t V₁) lists, ap (λ t. tally t V₁) lists),
  )
    where
      F₁ : ℕ → ℕ
      F₁ = both n n' f (λ i. i)

      V₁ : Spot → Spot
      V₁ = laid n' A' (seat P (f P.left) (f P.right))

      e₁ : F₁ P.left ≡ f P.left
      e₁ = split_low n f (λ i. n' + i) P.left (left_small K laws n A G P act)

      e₂ : F₁ P.right ≡ f P.right
      e₂ = split_low n f (λ i. n' + i) P.right (right_small K laws n A G P act)

      e₃ : F₁ (n + 4) ≡ n' + 4
      e₃ = split_at n f (λ i. n' + i) 4

      e₄ : F₁ (n + 5) ≡ n' + 5
      e₄ = split_at n f (λ i. n' + i) 5

      lists : pairs (carry F₁) (plugs K n P) ≡ plugs K n' (seat P (f P.left) (f P.right))
      lists = pairs_plugs F₁ K n P
          ∙ (λ i. (port (e₁ i) 0, port (e₂ i) 0) ∷ (wires (e₁ i) (e₃ i) (ports K P.rule.left) ++ wires (e₂ i) (e₄ i) (ports K P.rule.right)))

pub run-append : (xs ys : List (Spot × Spot)) (m : Spot → Spot) → run (xs ++ ys) m ≡ run ys (run xs m)
run-append [] ys m = refl
run-append (x ∷ xs) ys m = run-append xs ys (through x.0 x.1 m)

pub tally_append : (xs ys : List (Spot × Spot)) (m : Spot → Spot) → tally (xs ++ ys) m ≡ tally xs m + tally ys (run xs m)
tally_append [] ys m = omega arith
tally_append (x ∷ xs) ys m = let h = tally_append xs ys (through x.0 x.1 m) in omega arith

pub swap_append : (xs ys : List (Spot × Spot)) (m : Spot → Spot) → Mutual m → Ready (xs ++ ys) m →
    (run (ys ++ xs) m ≡ run (xs ++ ys) m) × (tally (ys ++ xs) m ≡ tally (xs ++ ys) m)
swap_append xs ys m im r =
    let ex = exchange xs ys m im (ready_front m xs ys r) (ready_rear m xs ys r) (ready_apart m xs ys r) in
    let t₁ = tally_append xs ys m in
    let t₂ = tally_append ys xs m in
    (run-append ys xs m ∙ sym ex.0 ∙ sym (run-append xs ys m), omega (arith, ex.1))

-- two cells of one kind change sides
module _ (K : RuleBook) (laws : Laws K) (n : ℕ) (A : Net) (G : Sized K n A) (P : Pair) (act : Facing K A P) (same : P.rule.left ≡ P.rule.right) where
  pub sides : Facing K A (seat P P.right P.left)
  sides = record {
    listed = act.listed;
    left = act.right ∙ ap Some (sym same);
    right = act.left ∙ ap Some same;
    facing = let i = G.good.twice in ap A.mate (sym act.facing) ∙ i (port P.left 0);
  }

  pub sides_alike : Alike (rewrite K n A P) (rewrite K n A (seat P P.right P.left))
  sides_alike = (
    F₁,
    both n n (λ i. i) (rows y.from),
    carried_by K laws n n A A G G P q p act sides (λ i. i) (λ i. i) (rows y.to) (rows y.from) (by_id A)
        (same_rows K P.rule rl same y) (same_wiring K P.rule rl same y) (λ x c e a b. (b, a)) (λ x c e a b. (b, a)) (
          ap (λ t. run t V₁) lists ∙ ap (run (wires p (n + 5) b ++ wires q (n + 4) a)) mir ∙ sw.0,
          ap (λ t. tally t V₁) lists ∙ total,
        ),
  )
    where
      p : ℕ
      p = P.left

      q : ℕ
      q = P.right

      a : ℕ
      a = ports K P.rule.left

      b : ℕ
      b = ports K P.rule.right

      ab : a ≡ b
      ab = ap (ports K) same

      rl : RuleLaws K P.rule
      rl = rule_laws K laws n A G P act

      y : Symmetric P.rule
      y = rl.symmetric same

      F₁ : ℕ → ℕ
      F₁ = both n n (λ i. i) (rows y.to)

      V₁ : Spot → Spot
      V₁ = laid n A P

      e₁ : F₁ p ≡ p
      e₁ = split_low n (λ i. i) (λ i. n + rows y.to i) p (left_small K laws n A G P act)

      e₂ : F₁ q ≡ q
      e₂ = split_low n (λ i. i) (λ i. n + rows y.to i) q (right_small K laws n A G P act)

      e₃ : F₁ (n + 4) ≡ n + 5
      e₃ = split_at n (λ i. i) (λ i. n + rows y.to i) 4 ∙ ap (λ i. n + i) (rows_four y.to)

      e₄ : F₁ (n + 5) ≡ n + 4
      e₄ = split_at n (λ i. i) (λ i. n + rows y.to i) 5 ∙ ap (λ i. n + i) (rows_five y.to)

      lists : pairs (carry F₁) (plugs K n P) ≡ (port p 0, port q 0) ∷ (wires p (n + 5) b ++ wires q (n + 4) a)
      lists = pairs_plugs F₁ K n P
          ∙ (λ i. (port (e₁ i) 0, port (e₂ i) 0) ∷ (wires (e₁ i) (e₃ i) (ab i) ++ wires (e₂ i) (e₄ i) (sym ab i)))

      rd : Ready (plugs K n (seat P q p)) V₁
      rd = plugs_ready K laws n A G (seat P q p) sides

      iv : Mutual V₁
      iv = laid_mutual K laws n A G P act

      mir : through (port p 0) (port q 0) V₁ ≡ through (port q 0) (port p 0) V₁
      mir = sym (mirror (port q 0) (port p 0) V₁ rd.0)

      sw : (run (wires p (n + 5) b ++ wires q (n + 4) a) (through (port q 0) (port p 0) V₁) ≡ run (wires q (n + 4) a ++ wires p (n + 5) b) (through (port q 0) (port p 0) V₁))
          × (tally (wires p (n + 5) b ++ wires q (n + 4) a) (through (port q 0) (port p 0) V₁) ≡ tally (wires q (n + 4) a ++ wires p (n + 5) b) (through (port q 0) (port p 0) V₁))
      sw = swap_append (wires q (n + 4) a) (wires p (n + 5) b) (through (port q 0) (port p 0) V₁)
          (keeps_mutual (port q 0) (port p 0) V₁ iv rd.0 rd.1 rd.2)
          (ready_through (port q 0) (port p 0) V₁ iv rd.0 rd.1 rd.2 (gates K n (seat P q p)) rd.3 rd.4 rd.5)

      total : tally ((port p 0, port q 0) ∷ (wires p (n + 5) b ++ wires q (n + 4) a)) V₁ ≡ tally (plugs K n (seat P q p)) V₁
      total =
          let c : closes (port p 0) (port q 0) V₁ ≡ closes (port q 0) (port p 0) V₁ =
          closes_iff (port p 0) (port q 0) V₁ (port q 0) (port p 0) V₁ (λ z. ap V₁ (sym z) ∙ iv (port p 0)) (λ z. ap V₁ (sym z) ∙ iv (port q 0)) in
          let t = ap (tally (wires p (n + 5) b ++ wires q (n + 4) a)) mir ∙ sw.1 in
          omega (arith, c, t)
