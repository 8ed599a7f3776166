-- The loops that splices add are the closed circuits. Assumes nothing.
use Rattle.std.proofs.Common.{◌≡◌, ◌≢◌, ◌⊎◌, List, [], ◌∷◌, length, sym, refl, ap, ◌∙◌, subst, subst₂, inl, inr, arith}
use Rattle.calculus.specs.Spots.{Spot}
use Rattle.calculus.proofs.Wires.{through, tally, Out, Partner, Ready}
use Rattle.calculus.proofs.Follow.{Follow, stop, across, lift}
use Rattle.calculus.proofs.Splice.{spot, Mutual, at_a, at_b, to_a, to_b, past, keeps_mutual, ready_through, closes_yes, closes_no}

-- a way along wires and across splices
pub data Joined (ss : List (Spot × Spot)) (m : Spot → Spot) : Spot → Spot → Type 0 where
  there : {y : Spot} → Joined ss m y y
  wire : {y z : Spot} → Joined ss m (m y) z → Joined ss m y z
  over : {y u z : Spot} → Partner ss y u → Joined ss m u z → Joined ss m y z

-- no way leads from y to a spot that is not spliced
abbrev pub Closed : List (Spot × Spot) → (Spot → Spot) → Spot → Type 0
Closed ss m y = (z : Spot) → Joined ss m y z → Out z ss → ⊥

abbrev pub Every : (Spot → Type 0) → List Spot → Type 0
Every P [] = Unit {0}
Every P (c ∷ cs) = P c × Every P cs

abbrev pub Some : (Spot → Type 0) → List Spot → Type 0
Some P [] = ⊥
Some P (c ∷ cs) = P c ⊎ Some P cs

-- no two of them are joined
abbrev pub Separate : List (Spot × Spot) → (Spot → Spot) → List Spot → Type 0
Separate ss m [] = Unit {0}
Separate ss m (c ∷ cs) = Every (λ d. Joined ss m c d → ⊥) cs × Separate ss m cs

-- one spot of each closed circuit
pub record Circuits (ss : List (Spot × Spot)) (m : Spot → Spot) (cs : List Spot) : Type 0 where
  pub closed : Every (Closed ss m) cs
  pub separate : Separate ss m cs
  pub all : (y : Spot) → Closed ss m y → Some (Joined ss m y) cs

pub trans : {ss : List (Spot × Spot)} {m : Spot → Spot} {x y : Spot} → Joined ss m x y → (z : Spot) → Joined ss m y z → Joined ss m x z
trans there z k = k
trans (wire j) z k = wire (trans j z k)
trans (over p j) z k = over p (trans j z k)

right_off : (ts : List (Spot × Spot)) (a y u : Spot) → Out a ts → Partner ts y u → (y ≢ a) × (u ≢ a)
right_off [] a y u o p = absurd p
right_off (t ∷ ts) a y u o (inl p) = ((λ z. o.0 (sym z ∙ p.0)), (λ z. o.1 (sym z ∙ p.1)))
right_off (t ∷ ts) a y u o (inr (inl p)) = ((λ z. o.1 (sym z ∙ p.0)), (λ z. o.0 (sym z ∙ p.1)))
right_off (t ∷ ts) a y u o (inr (inr p)) = right_off ts a y u o.2 p

-- a spot that is its own mate and not spliced is joined with itself alone
alone : (ts : List (Spot × Spot)) (n : Spot → Spot) → Mutual n → (a : Spot) → n a ≡ a → Out a ts → {y z : Spot} → Joined ts n y z → z ≡ a → y ≡ a
alone ts n jn a f o there e = e
alone ts n jn a f o (wire {y = y} j) e = sym (jn y) ∙ ap n (alone ts n jn a f o j e) ∙ f
alone ts n jn a f o (over {y = y} {u = u} p j) e = absurd ((right_off ts a y u o p).1 (alone ts n jn a f o j e))

module _ (a b : Spot) (ts : List (Spot × Spot)) (m : Spot → Spot) (im : Mutual m) (ab : a ≢ b) (la : m a ≢ a) (lb : m b ≢ b) (oa : Out a ts) (ob : Out b ts) where
  wire_up : (y z : Spot) → Joined ((a, b) ∷ ts) m (through a b m y) z → Joined ((a, b) ∷ ts) m y z
  wire_up y z j = go (spot y a) (spot y b) (spot (m y) a) (spot (m y) b)
    where
      J : Spot → Type 0
      J x = Joined ((a, b) ∷ ts) m x z

      go : (y ≡ a) ⊎ (y ≢ a) → (y ≡ b) ⊎ (y ≢ b) → (m y ≡ a) ⊎ (m y ≢ a) → (m y ≡ b) ⊎ (m y ≢ b) → J y
      go (inl e) q r s = subst J (ap (through a b m) e ∙ at_a a b m ∙ sym e) j
      go (inr n) (inl e) r s = subst J (ap (through a b m) e ∙ at_b a b m ∙ sym e) j
      go (inr n) (inr k) (inl e) s = wire (over (inl (e, refl)) (wire (subst J (to_a a b m y n k e) j)))
      go (inr n) (inr k) (inr o) (inl e) = wire (over (inr (inl (e, refl))) (wire (subst J (to_b a b m y n k ab e) j)))
      go (inr n) (inr k) (inr o) (inr l) = wire (subst J (past a b m y n k o l) j)

  up : {y z : Spot} → Joined ts (through a b m) y z → Joined ((a, b) ∷ ts) m y z
  up there = there
  up (wire {y = y} {z = z} j) = wire_up y z (up j)
  up (over p j) = over (inr (inr p)) (up j)

  im₁ : Mutual (through a b m)
  im₁ = keeps_mutual a b m im ab la lb

  closed_down : (y : Spot) → y ≢ a → y ≢ b → Closed ((a, b) ∷ ts) m y → Closed ts (through a b m) y
  closed_down y n k h z j o =
      h z (up j) ((λ e. n (alone ts (through a b m) im₁ a (at_a a b m) oa j e)), (λ e. k (alone ts (through a b m) im₁ b (at_b a b m) ob j e)), o)

  -- a spot for a and a spot for b
  module _ (ra rb : Spot) where
    rep : Spot → Spot
    rep y = elim (spot y a) [ inl e ↦ ra | inr n ↦ elim (spot y b) [ inl e ↦ rb | inr k ↦ y ] ]

    rep_a : (y : Spot) → y ≡ a → rep y ≡ ra
    unfolding rep
    rep_a y e = elim (spot y a) as (λ s. elim s [ inl e ↦ ra | inr n ↦ elim (spot y b) [ inl e ↦ rb | inr k ↦ y ] ] ≡ ra) [ inl e ↦ refl | inr n ↦ absurd (n e) ]

    rep_b : (y : Spot) → y ≡ b → rep y ≡ rb
    unfolding rep
    rep_b y e = elim (spot y a) as (λ s. elim s [ inl e ↦ ra | inr n ↦ elim (spot y b) [ inl e ↦ rb | inr k ↦ y ] ] ≡ rb) [
      | inl f ↦ absurd (ab (sym f ∙ e))
      | inr n ↦ elim (spot y b) as (λ s. elim s [ inl e ↦ rb | inr k ↦ y ] ≡ rb) [ inl f ↦ refl | inr k ↦ absurd (k e) ]
    ]

    rep_else : (y : Spot) → y ≢ a → y ≢ b → rep y ≡ y
    unfolding rep
    rep_else y n k = elim (spot y a) as (λ s. elim s [ inl e ↦ ra | inr n ↦ elim (spot y b) [ inl e ↦ rb | inr k ↦ y ] ] ≡ y) [
      | inl f ↦ absurd (n f)
      | inr n ↦ elim (spot y b) as (λ s. elim s [ inl e ↦ rb | inr k ↦ y ] ≡ y) [ inl f ↦ absurd (k f) | inr k ↦ refl ]
    ]

    module _ (wd : (y : Spot) → Joined ts (through a b m) (rep y) (rep (m y))) (od : (y u : Spot) → Partner ((a, b) ∷ ts) y u → Joined ts (through a b m) (rep y) (rep u))
        (home : (y : Spot) → Joined ((a, b) ∷ ts) m y (rep y)) where
      down : {y z : Spot} → Joined ((a, b) ∷ ts) m y z → Joined ts (through a b m) (rep y) (rep z)
      down there = there
      down (wire {y = y} {z = z} j) = trans (wd y) (rep z) (down j)
      down (over {y = y} {u = u} {z = z} p j) = trans (od y u p) (rep z) (down j)

      down_at : (y z : Spot) → y ≢ a → y ≢ b → z ≢ a → z ≢ b → Joined ((a, b) ∷ ts) m y z → Joined ts (through a b m) y z
      down_at y z n k o l j = subst₂ (Joined ts (through a b m)) (rep_else y n k) (rep_else z o l) (down j)

      closed_up : (y : Spot) → y ≢ a → y ≢ b → Closed ts (through a b m) y → Closed ((a, b) ∷ ts) m y
      closed_up y n k h z j o = h z (down_at y z n k o.0 o.1 j) o.2

      off : (c : Spot) → Closed ts (through a b m) c → (c ≢ a) × (c ≢ b)
      off c h = ((λ e. h c there (subst (λ x. Out x ts) (sym e) oa)), (λ e. h c there (subst (λ x. Out x ts) (sym e) ob)))

      every_up : (cs : List Spot) → Every (Closed ts (through a b m)) cs → Every (Closed ((a, b) ∷ ts) m) cs
      every_up [] h = tt
      every_up (c ∷ cs) h = (closed_up c (off c h.0).0 (off c h.0).1 h.0, every_up cs h.1)

      from_one : (c : Spot) → Closed ts (through a b m) c → (cs : List Spot) → Every (Closed ts (through a b m)) cs →
          Every (λ d. Joined ts (through a b m) c d → ⊥) cs → Every (λ d. Joined ((a, b) ∷ ts) m c d → ⊥) cs
      from_one c h [] g s = tt
      from_one c h (d ∷ cs) g s =
          ((λ j. s.0 (down_at c d (off c h).0 (off c h).1 (off d g.0).0 (off d g.0).1 j)), from_one c h cs g.1 s.1)

      separate_up : (cs : List Spot) → Every (Closed ts (through a b m)) cs → Separate ts (through a b m) cs → Separate ((a, b) ∷ ts) m cs
      separate_up [] h s = tt
      separate_up (c ∷ cs) h s = (from_one c h.0 cs h.1 s.0, separate_up cs h.1 s.1)

      some_up : (y : Spot) (cs : List Spot) → Some (Joined ts (through a b m) (rep y)) cs → Some (Joined ((a, b) ∷ ts) m y) cs
      some_up y [] h = h
      some_up y (c ∷ cs) (inl j) = inl (trans (home y) c (up j))
      some_up y (c ∷ cs) (inr h) = inr (some_up y cs h)

      closed_rep : (y : Spot) → Closed ((a, b) ∷ ts) m y → Closed ((a, b) ∷ ts) m (rep y)
      closed_rep y h z j o = h z (trans (home y) z j) o

  -- the splice closes no circuit
  module _ (n₀ : m a ≢ b) where
    n₁ : m b ≢ a
    n₁ e = n₀ (ap m (sym e) ∙ im b)

    R : Spot → Spot
    R = rep (m a) (m b)

    wd₁ : (y : Spot) → Joined ts (through a b m) (R y) (R (m y))
    unfolding R
    wd₁ y = go (spot y a) (spot y b) (spot (m y) a) (spot (m y) b)
      where
        same_at : {x z : Spot} → x ≡ z → Joined ts (through a b m) x z
        same_at {x} e = subst (Joined ts (through a b m) x) e there

        go : (y ≡ a) ⊎ (y ≢ a) → (y ≡ b) ⊎ (y ≢ b) → (m y ≡ a) ⊎ (m y ≢ a) → (m y ≡ b) ⊎ (m y ≢ b) → Joined ts (through a b m) (rep (m a) (m b) y) (rep (m a) (m b) (m y))
        go (inl e) q r s = same_at (rep_a (m a) (m b) y e ∙ ap m (sym e) ∙ sym (rep_else (m a) (m b) (m y) (λ z. la (ap m (sym e) ∙ z)) (λ z. n₀ (ap m (sym e) ∙ z))))
        go (inr n) (inl e) r s = same_at (rep_b (m a) (m b) y e ∙ ap m (sym e) ∙ sym (rep_else (m a) (m b) (m y) (λ z. n₁ (ap m (sym e) ∙ z)) (λ z. lb (ap m (sym e) ∙ z))))
        go (inr n) (inr k) (inl e) s = same_at (rep_else (m a) (m b) y n k ∙ sym (im y) ∙ ap m e ∙ sym (rep_a (m a) (m b) (m y) e))
        go (inr n) (inr k) (inr o) (inl e) = same_at (rep_else (m a) (m b) y n k ∙ sym (im y) ∙ ap m e ∙ sym (rep_b (m a) (m b) (m y) e))
        go (inr n) (inr k) (inr o) (inr l) =
            subst₂ (Joined ts (through a b m)) (sym (rep_else (m a) (m b) y n k)) (past a b m y n k o l ∙ sym (rep_else (m a) (m b) (m y) o l)) (wire there)

    od₁ : (y u : Spot) → Partner ((a, b) ∷ ts) y u → Joined ts (through a b m) (R y) (R u)
    unfolding R
    od₁ y u (inl p) =
        subst₂ (Joined ts (through a b m)) (sym (rep_a (m a) (m b) y p.0)) (to_a a b m (m a) la n₀ (im a) ∙ sym (rep_b (m a) (m b) u p.1)) (wire there)
    od₁ y u (inr (inl p)) =
        subst₂ (Joined ts (through a b m)) (sym (rep_b (m a) (m b) y p.0)) (to_b a b m (m b) n₁ lb ab (im b) ∙ sym (rep_a (m a) (m b) u p.1)) (wire there)
    od₁ y u (inr (inr p)) =
        let ha = right_off ts a y u oa p in
        let hb = right_off ts b y u ob p in
        subst₂ (Joined ts (through a b m)) (sym (rep_else (m a) (m b) y ha.0 hb.0)) (sym (rep_else (m a) (m b) u ha.1 hb.1)) (over p there)

    home₁ : (y : Spot) → Joined ((a, b) ∷ ts) m y (R y)
    unfolding R
    home₁ y = go (spot y a) (spot y b)
      where
        go : (y ≡ a) ⊎ (y ≢ a) → (y ≡ b) ⊎ (y ≢ b) → Joined ((a, b) ∷ ts) m y (rep (m a) (m b) y)
        go (inl e) q = subst (Joined ((a, b) ∷ ts) m y) (ap m e ∙ sym (rep_a (m a) (m b) y e)) (wire there)
        go (inr n) (inl e) = subst (Joined ((a, b) ∷ ts) m y) (ap m e ∙ sym (rep_b (m a) (m b) y e)) (wire there)
        go (inr n) (inr k) = subst (Joined ((a, b) ∷ ts) m y) (sym (rep_else (m a) (m b) y n k)) there

    R_off : (y : Spot) → (R y ≢ a) × (R y ≢ b)
    unfolding R
    R_off y = go (spot y a) (spot y b)
      where
        go : (y ≡ a) ⊎ (y ≢ a) → (y ≡ b) ⊎ (y ≢ b) → (rep (m a) (m b) y ≢ a) × (rep (m a) (m b) y ≢ b)
        go (inl e) q = ((λ z. la (sym (rep_a (m a) (m b) y e) ∙ z)), (λ z. n₀ (sym (rep_a (m a) (m b) y e) ∙ z)))
        go (inr n) (inl e) = ((λ z. n₁ (sym (rep_b (m a) (m b) y e) ∙ z)), (λ z. lb (sym (rep_b (m a) (m b) y e) ∙ z)))
        go (inr n) (inr k) = ((λ z. n (sym (rep_else (m a) (m b) y n k) ∙ z)), (λ z. k (sym (rep_else (m a) (m b) y n k) ∙ z)))

    closed_more : (y : Spot) → y ≢ a → y ≢ b → Closed ts (through a b m) y → Closed ((a, b) ∷ ts) m y
    unfolding R
    closed_more = closed_up (m a) (m b) wd₁ od₁ home₁

    same_circuits : (cs : List Spot) → Circuits ts (through a b m) cs → Circuits ((a, b) ∷ ts) m cs
    unfolding R
    same_circuits cs c = record {
      closed = every_up (m a) (m b) wd₁ od₁ home₁ cs c.closed;
      separate = separate_up (m a) (m b) wd₁ od₁ home₁ cs c.closed c.separate;
      all = λ y h. some_up (m a) (m b) wd₁ od₁ home₁ y cs (c.all (R y) (closed_down (R y) (R_off y).0 (R_off y).1 (closed_rep (m a) (m b) wd₁ od₁ home₁ y h)));
    }

  -- the splice closes one
  module _ (e₀ : m a ≡ b) where
    e₁ : m b ≡ a
    e₁ = ap m (sym e₀) ∙ im a

    S : Spot → Spot
    S = rep a a

    wd₂ : (y : Spot) → Joined ts (through a b m) (S y) (S (m y))
    unfolding S
    wd₂ y = go (spot y a) (spot y b)
      where
        same_at : {x z : Spot} → x ≡ z → Joined ts (through a b m) x z
        same_at {x} e = subst (Joined ts (through a b m) x) e there

        go : (y ≡ a) ⊎ (y ≢ a) → (y ≡ b) ⊎ (y ≢ b) → Joined ts (through a b m) (rep a a y) (rep a a (m y))
        go (inl e) q = same_at (rep_a a a y e ∙ sym (rep_b a a (m y) (ap m e ∙ e₀)))
        go (inr n) (inl e) = same_at (rep_b a a y e ∙ sym (rep_a a a (m y) (ap m e ∙ e₁)))
        go (inr n) (inr k) =
            let o : m y ≢ a = λ z. k (sym (im y) ∙ ap m z ∙ e₀) in
            let l : m y ≢ b = λ z. n (sym (im y) ∙ ap m z ∙ e₁) in
            subst₂ (Joined ts (through a b m)) (sym (rep_else a a y n k)) (past a b m y n k o l ∙ sym (rep_else a a (m y) o l)) (wire there)

    od₂ : (y u : Spot) → Partner ((a, b) ∷ ts) y u → Joined ts (through a b m) (S y) (S u)
    unfolding S
    od₂ y u (inl p) = subst₂ (Joined ts (through a b m)) (sym (rep_a a a y p.0)) (sym (rep_b a a u p.1)) there
    od₂ y u (inr (inl p)) = subst₂ (Joined ts (through a b m)) (sym (rep_b a a y p.0)) (sym (rep_a a a u p.1)) there
    od₂ y u (inr (inr p)) =
        let ha = right_off ts a y u oa p in
        let hb = right_off ts b y u ob p in
        subst₂ (Joined ts (through a b m)) (sym (rep_else a a y ha.0 hb.0)) (sym (rep_else a a u ha.1 hb.1)) (over p there)

    home₂ : (y : Spot) → Joined ((a, b) ∷ ts) m y (S y)
    unfolding S
    home₂ y = go (spot y a) (spot y b)
      where
        go : (y ≡ a) ⊎ (y ≢ a) → (y ≡ b) ⊎ (y ≢ b) → Joined ((a, b) ∷ ts) m y (rep a a y)
        go (inl e) q = subst (Joined ((a, b) ∷ ts) m y) (e ∙ sym (rep_a a a y e)) there
        go (inr n) (inl e) = subst (Joined ((a, b) ∷ ts) m y) (ap m e ∙ e₁ ∙ sym (rep_b a a y e)) (wire there)
        go (inr n) (inr k) = subst (Joined ((a, b) ∷ ts) m y) (sym (rep_else a a y n k)) there

    -- a's way leads nowhere else
    a_closed : Closed ((a, b) ∷ ts) m a
    unfolding S
    a_closed z j o =
        let j₁ = subst₂ (Joined ts (through a b m)) (rep_a a a a refl) (rep_else a a z o.0 o.1) (down a a wd₂ od₂ home₂ j) in
        o.0 (reach j₁ refl)
      where
        reach : {y z : Spot} → Joined ts (through a b m) y z → y ≡ a → z ≡ a
        reach there e = e
        reach (wire j) e = reach j (ap (through a b m) e ∙ at_a a b m)
        reach (over {y = y} {u = u} p j) e = absurd ((right_off ts a y u oa p).0 e)

    closed_still : (y : Spot) → y ≢ a → y ≢ b → Closed ts (through a b m) y → Closed ((a, b) ∷ ts) m y
    unfolding S
    closed_still = closed_up a a wd₂ od₂ home₂

    far : (cs : List Spot) → Every (Closed ts (through a b m)) cs → Every (λ d. Joined ((a, b) ∷ ts) m a d → ⊥) cs
    unfolding S
    far [] h = tt
    far (d ∷ cs) h =
        let o = off a a wd₂ od₂ home₂ d h.0 in
        ((λ j. o.0 (reach (subst₂ (Joined ts (through a b m)) (rep_a a a a refl) (rep_else a a d o.0 o.1) (down a a wd₂ od₂ home₂ j)) refl)), far cs h.1)
      where
        reach : {y z : Spot} → Joined ts (through a b m) y z → y ≡ a → z ≡ a
        reach there e = e
        reach (wire j) e = reach j (ap (through a b m) e ∙ at_a a b m)
        reach (over {y = y} {u = u} p j) e = absurd ((right_off ts a y u oa p).0 e)

    more_circuits : (cs : List Spot) → Circuits ts (through a b m) cs → Circuits ((a, b) ∷ ts) m (a ∷ cs)
    unfolding S
    more_circuits cs c = record {
      closed = (a_closed, every_up a a wd₂ od₂ home₂ cs c.closed);
      separate = (far cs c.closed, separate_up a a wd₂ od₂ home₂ cs c.closed c.separate);
      all = λ y h. cover y h (spot y a) (spot y b);
    }
      where
        cover : (y : Spot) → Closed ((a, b) ∷ ts) m y → (y ≡ a) ⊎ (y ≢ a) → (y ≡ b) ⊎ (y ≢ b) → Joined ((a, b) ∷ ts) m y a ⊎ Some (Joined ((a, b) ∷ ts) m y) cs
        cover y h (inl e) q = inl (subst (Joined ((a, b) ∷ ts) m y) e there)
        cover y h (inr n) (inl e) = inl (subst (Joined ((a, b) ∷ ts) m y) (ap m e ∙ e₁) (wire there))
        cover y h (inr n) (inr k) =
            inr (some_up a a wd₂ od₂ home₂ y cs (subst (λ x. Some (Joined ts (through a b m) x) cs) (sym (rep_else a a y n k)) (c.all y (closed_down y n k h))))

-- as many circuits as the tally says
pub counts : (ss : List (Spot × Spot)) (m : Spot → Spot) → Mutual m → Ready ss m → (cs : List Spot) × (length cs ≡ tally ss m) × Circuits ss m cs
counts [] m im r = ([], refl, record { closed = tt; separate = tt; all = λ y h. h y there tt })
counts (s ∷ ss) m im r =
    let a = s.0 in
    let b = s.1 in
    let ih = counts ss (through a b m) (keeps_mutual a b m im r.0 r.1 r.2) (ready_through a b m im r.0 r.1 r.2 ss r.3 r.4 r.5) in
    let go : (m a ≡ b) ⊎ (m a ≢ b) → (cs : List Spot) × (length cs ≡ tally (s ∷ ss) m) × Circuits (s ∷ ss) m cs = elim [
      | inl e ↦ (a ∷ ih.0, (let c = closes_yes a b m e in omega (arith, ih.1)), more_circuits a b ss m im r.0 r.1 r.2 r.3 r.4 e ih.0 ih.2)
      | inr n ↦ (ih.0, (let c = closes_no a b m n in omega (arith, ih.1)), same_circuits a b ss m im r.0 r.1 r.2 r.3 r.4 n ih.0 ih.2)
    ] in
    go (spot (m a) b)

-- every way ends, or is on a closed circuit
pub decided : (ss : List (Spot × Spot)) (m : Spot → Spot) → Mutual m → Ready ss m → (y : Spot) → ((z : Spot) × Follow ss m y z) ⊎ Closed ss m y
decided [] m im r y = inl (y, stop tt)
decided (s ∷ ss) m im r y =
    go (spot s.0 y) (spot s.1 y) (spot (m s.0) s.1)
    (decided ss (through s.0 s.1 m) (keeps_mutual s.0 s.1 m im r.0 r.1 r.2) (ready_through s.0 s.1 m im r.0 r.1 r.2 ss r.3 r.4 r.5))
  where
    a : Spot
    a = s.0

    b : Spot
    b = s.1

    Answer : Spot → Type 0
    Answer x = ((z : Spot) × Follow (s ∷ ss) m x z) ⊎ Closed (s ∷ ss) m x

    closed : (m a ≡ b) ⊎ (m a ≢ b) → (x : Spot) → x ≢ a → x ≢ b → Closed ss (through a b m) x → Closed (s ∷ ss) m x
    closed (inl e) = closed_still a b ss m im r.0 r.1 r.2 r.3 r.4 e
    closed (inr n) = closed_more a b ss m im r.0 r.1 r.2 r.3 r.4 n

    away : (m a ≡ b) ⊎ (m a ≢ b) → (x : Spot) → x ≢ a → x ≢ b → ((z : Spot) × Follow ss (through a b m) x z) ⊎ Closed ss (through a b m) x → Answer x
    away q x n k (inl t) = inl (t.0, lift a b ss m im r.0 r.1 r.2 r.3 r.4 t.1 n k)
    away q x n k (inr c) = inr (closed q x n k c)

    -- from a across to b and on, or the other way
    over_a : Answer (m b) → Answer a
    over_a (inl t) = inl (t.0, across (inl (refl, refl)) t.1)
    over_a (inr c) = inr (λ z j o. c z (wire (subst (λ x. Joined (s ∷ ss) m x z) (sym (im b)) (over (inr (inl (refl, refl))) j))) o)

    over_b : Answer (m a) → Answer b
    over_b (inl t) = inl (t.0, across (inr (inl (refl, refl))) t.1)
    over_b (inr c) = inr (λ z j o. c z (wire (subst (λ x. Joined (s ∷ ss) m x z) (sym (im a)) (over (inl (refl, refl)) j))) o)

    go : (a ≡ y) ⊎ (a ≢ y) → (b ≡ y) ⊎ (b ≢ y) → (m a ≡ b) ⊎ (m a ≢ b) → ((x : Spot) → ((z : Spot) × Follow ss (through a b m) x z) ⊎ Closed ss (through a b m) x) → Answer y
    go (inl e) q (inl f) ih = subst Answer e (inr (a_closed a b ss m im r.0 r.1 r.2 r.3 r.4 f))
    go (inl e) q (inr n) ih = subst Answer e (over_a (away (inr n) (m b) (λ z. n (ap m (sym z) ∙ im b)) r.2 (ih (m b))))
    go (inr n) (inl e) (inl f) ih = subst Answer e (inr (λ z j o. a_closed a b ss m im r.0 r.1 r.2 r.3 r.4 f z (over (inl (refl, refl)) j) o))
    go (inr n) (inl e) (inr k) ih = subst Answer e (over_b (away (inr k) (m a) r.1 k (ih (m a))))
    go (inr n) (inr k) q ih = away q y (λ z. n (sym z)) (λ z. k (sym z)) (ih y)
