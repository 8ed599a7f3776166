-- Splices on one side; three wirings side by side. Assumes nothing.
use Rattle.std.proofs.Common.{◌≡◌, ℕ, ◌+◌, ◌-◌, ◌<◌, ◌≤◌, ◌≢◌, ◌⊎◌, List, [], ◌∷◌, sym, refl, ap, ◌∙◌, subst, inl, inr, arith}
use mathlib.Core.Path.{fun_ext}
use Rattle.std.proofs.lemmas.Bool.{cases_lt}
use Rattle.calculus.specs.Spots.{Spot, end, port, carry}
use Rattle.calculus.proofs.Wires.{through, closes, run, tally, Ready}
use Rattle.calculus.specs.Alike.{SameLinks}
use Rattle.calculus.proofs.Splice.{Mutual, keeps_mutual, was_live, ready_through, closes_iff}
use Rattle.calculus.proofs.Beside.{split, beside, Left, up, Ports, Bounded, side, port_mate, on_left, on_right, right_live, left_mate, beside_through, split_low, split_at}

pub beside_run : (n : ℕ) (w : Spot → Spot) → Mutual w → Ports w → (ss : List (Spot × Spot)) (m : Spot → Spot) → Mutual m → Bounded n m → Ready ss m →
    (beside n (run ss m) w ≡ run ss (beside n m w)) × (tally ss (beside n m w) ≡ tally ss m)
beside_run n w iw pw [] m im bm r = (refl, refl)
beside_run n w iw pw (s ∷ ss) m im bm r =
    let a = s.0 in
    let b = s.1 in
    let m₁ = through a b m in
    let im₁ = keeps_mutual a b m im r.0 r.1 r.2 in
    let bm₁ : Bounded n m₁ = λ x l. bm x (was_live a b m im r.0 r.1 r.2 x l).2 in
    let r₁ = ready_through a b m im r.0 r.1 r.2 ss r.3 r.4 r.5 in
    let ih = beside_run n w iw pw ss m₁ im₁ bm₁ r₁ in
    let sw = beside_through n m w im bm iw pw a b (bm a r.1) (bm b r.2) in
    let e : beside n m w a ≡ m a = on_left n m w a (bm a r.1) in
    let c : closes a b (beside n m w) ≡ closes a b m = closes_iff a b (beside n m w) a b m (λ z. sym e ∙ z) (λ z. e ∙ z) in
    let t : tally ss (through a b (beside n m w)) ≡ tally ss m₁ = ap (tally ss) (sym sw) ∙ ih.1 in
    (ih.0 ∙ ap (run ss) sw, omega (arith, c, t))

up_up : (n k : ℕ) (y : Spot) → up n (up k y) ≡ up (n + k) y
up_up n k (end e) = refl
up_up n k (port i j) = let e : n + (k + i) ≡ n + k + i = omega arith in ap (λ p. port p j) e

pub assoc : (n k : ℕ) (m v w : Spot → Spot) → Mutual m → Bounded n m → Mutual v → Ports v → Bounded k v →
    beside (n + k) (beside n m v) w ≡ beside n m (beside k v w)
assoc n k m v w im bm iv pv bv = fun_ext at
  where
    at : (x : Spot) → beside (n + k) (beside n m v) w x ≡ beside n m (beside k v w) x
    at x = go (side n x)
      where
        widen : (y : Spot) → Left n y → Left (n + k) y
        widen (end e) l = tt
        widen (port r j) l = omega arith

        go : Left n x ⊎ ((i : ℕ) × (j : ℕ) × (x ≡ port (n + i) j)) → beside (n + k) (beside n m v) w x ≡ beside n m (beside k v w) x
        go (inl l) = on_left (n + k) (beside n m v) w x (widen x l) ∙ on_left n m v x l ∙ sym (on_left n m (beside k v w) x l)
        go (inr (i, j, e)) = ap (beside (n + k) (beside n m v) w) e ∙ in' (cases_lt i k) ∙ ap (beside n m (beside k v w)) (sym e)
          where
            in' : (i < k) ⊎ (k ≤ i) → beside (n + k) (beside n m v) w (port (n + i) j) ≡ beside n m (beside k v w) (port (n + i) j)
            in' (inl h) =
                let h' : n + i < n + k = omega arith in
                on_left (n + k) (beside n m v) w (port (n + i) j) h' ∙ on_right n m v i j
                ∙ sym (on_right n m (beside k v w) i j ∙ ap (up n) (on_left k v w (port i j) h))
            in' (inr h) =
                let h' : n + i ≡ n + k + (i - k) = omega arith in
                let h'' : i ≡ k + (i - k) = omega arith in
                ap (λ p. beside (n + k) (beside n m v) w (port p j)) h' ∙ on_right (n + k) (beside n m v) w (i - k) j ∙ sym (up_up n k (w (port (i - k) j)))
                ∙ sym (on_right n m (beside k v w) i j ∙ ap (up n) (ap (λ p. beside k v w (port p j)) h'' ∙ on_right k v w (i - k) j))

-- the two blocks of six change places
pub turn : ℕ → ℕ
turn = split 6 (λ i. 6 + i) (λ i. i)

pub turn_low : (i : ℕ) → i < 6 → turn i ≡ 6 + i
unfolding turn
turn_low i h = split_low 6 (λ i. 6 + i) (λ i. i) i h

pub turn_high : (i : ℕ) → turn (6 + i) ≡ i
unfolding turn
turn_high i = split_at 6 (λ i. 6 + i) (λ i. i) i

pub ports_beside : (n : ℕ) (v w : Spot → Spot) → Ports v → Ports (beside n v w)
ports_beside n v w pv e = on_left n v w (end e) tt ∙ pv e

module _ (v w : Spot → Spot) (iv : Mutual v) (iw : Mutual w) (pv : Ports v) (pw : Ports w) (bv : Bounded 6 v) (bw : Bounded 6 w) where
  turn_there : (x : Spot) → beside 6 v w x ≢ x → (beside 6 w v (carry turn x) ≡ carry turn (beside 6 v w x)) × (carry turn (carry turn x) ≡ x)
  turn_there x live = go (side 6 x)
    where
      low : (i j : ℕ) → i < 6 → (beside 6 v w (port i j) ≢ port i j) → (beside 6 w v (port (turn i) j) ≡ carry turn (beside 6 v w (port i j))) × (carry turn (port (turn i) j) ≡ port i j)
      low i j h l =
          let t = port_mate v iv pv i j in
          let b : Left 6 (port t.0 t.1) = subst (Left 6) t.2 (left_mate 6 v w iv bv iw pw (port i j) h) in (
            ap (λ p. beside 6 w v (port p j)) (turn_low i h) ∙ on_right 6 w v i j ∙ ap (up 6) t.2 ∙ ap (λ p. port p t.1) (sym (turn_low t.0 b))
                ∙ ap (carry turn) (sym t.2 ∙ sym (on_left 6 v w (port i j) h)),
            ap (λ p. port (turn p) j) (turn_low i h) ∙ ap (λ p. port p j) (turn_high i),
          )

      high : (i j : ℕ) → (beside 6 v w (port (6 + i) j) ≢ port (6 + i) j) → (beside 6 w v (port (turn (6 + i)) j) ≡ carry turn (beside 6 v w (port (6 + i) j))) × (carry turn (port (turn (6 + i)) j) ≡ port (6 + i) j)
      high i j l =
          let lw : w (port i j) ≢ port i j = right_live 6 v w iv bv iw pw i j l in
          let h : i < 6 = bw (port i j) lw in
          let t = port_mate w iw pw i j in (
            ap (λ p. beside 6 w v (port p j)) (turn_high i) ∙ on_left 6 w v (port i j) h ∙ t.2 ∙ ap (λ p. port p t.1) (sym (turn_high t.0))
                ∙ ap (carry turn) (ap (up 6) (sym t.2) ∙ sym (on_right 6 v w i j)),
            ap (λ p. port (turn p) j) (turn_high i) ∙ ap (λ p. port p j) (turn_low i h),
          )

      go : Left 6 x ⊎ ((i : ℕ) × (j : ℕ) × (x ≡ port (6 + i) j)) → (beside 6 w v (carry turn x) ≡ carry turn (beside 6 v w x)) × (carry turn (carry turn x) ≡ x)
      go (inl l) = left x l live
        where
          left : (y : Spot) → Left 6 y → beside 6 v w y ≢ y → (beside 6 w v (carry turn y) ≡ carry turn (beside 6 v w y)) × (carry turn (carry turn y) ≡ y)
          left (end e) l live = absurd (live (on_left 6 v w (end e) tt ∙ pv e))
          left (port i j) l live = low i j l live
      go (inr (i, j, e)) =
          subst (λ y. (beside 6 w v (carry turn y) ≡ carry turn (beside 6 v w y)) × (carry turn (carry turn y) ≡ y)) (sym e) (high i j (subst (λ y. beside 6 v w y ≢ y) e live))

pub same_turn : (v w : Spot → Spot) → Mutual v → Mutual w → Ports v → Ports w → Bounded 6 v → Bounded 6 w → SameLinks (carry turn) (carry turn) (beside 6 v w) (beside 6 w v)
same_turn v w iv iw pv pw bv bw = record { there = turn_there v w iv iw pv pw bv bw; back = turn_there w v iw iv pw pv bw bv }
