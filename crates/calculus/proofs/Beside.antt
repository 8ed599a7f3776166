-- Two wirings side by side. Assumes nothing.
use Rattle.std.proofs.Common.{◌≡◌, ℕ, ◌+◌, ◌-◌, ◌<◌, ◌≤◌, ◌≢◌, ◌⊎◌, sym, refl, ap, ◌∙◌, subst, ap₂, inl, inr, arith}
use mathlib.Core.Path.{fun_ext}
use Rattle.std.proofs.lemmas.Bool.{cases_lt}
use Rattle.calculus.specs.Spots.{Spot, end, port, carry}
use Rattle.calculus.proofs.Wires.{through}
use Rattle.calculus.specs.Alike.{SameLinks}
unfoldable pub use Rattle.calculus.specs.Joining.{split}
use Rattle.calculus.proofs.Splice.{spot, past, Mutual}
use Rattle.calculus.proofs.Iso.{same_sym, image_live}

-- m on the places below n and on the ends, w from n on
unfoldable pub beside : ℕ → (Spot → Spot) → (Spot → Spot) → Spot → Spot
beside n m w (end e) = m (end e)
beside n m w (port r j) = split n (λ r. m (port r j)) (λ i. carry (λ k. n + k) (w (port i j))) r

module _ {A : Type 0} (n : ℕ) (f g : ℕ → A) where
  pub split_low : (r : ℕ) → r < n → split n f g r ≡ f r
  unfolding split
  split_low r h = grind (arith)

  pub split_high : (r : ℕ) → n ≤ r → split n f g r ≡ g (r - n)
  unfolding split
  split_high r h = grind (arith)

  pub split_at : (i : ℕ) → split n f g (n + i) ≡ g i
  split_at i =
      let h : n ≤ n + i = omega arith in
      let e : n + i - n ≡ i = omega arith in
      split_high (n + i) h ∙ ap g e

abbrev pub Left : ℕ → Spot → Type 0
Left n (end e) = Unit {0}
Left n (port r j) = r < n

abbrev pub up : ℕ → Spot → Spot
up n = carry (λ k. n + k)

-- every spot is on one side
pub side : (n : ℕ) (x : Spot) → Left n x ⊎ ((i : ℕ) × (j : ℕ) × (x ≡ port (n + i) j))
side n (end e) = inl tt
side n (port r j) = go (cases_lt r n)
  where
    go : (r < n) ⊎ (n ≤ r) → (r < n) ⊎ ((i : ℕ) × (k : ℕ) × (port r j ≡ port (n + i) k))
    go (inl h) = inl h
    go (inr h) = let e : r ≡ n + (r - n) = omega arith in inr (r - n, j, ap (λ r. port r j) e)

pub not_left : (n i j : ℕ) → Left n (port (n + i) j) → ⊥
not_left n i j h = omega arith

-- no end is live, so a port's mate is a port
abbrev pub Ports : (Spot → Spot) → Type 0
Ports w = (e : ℕ) → w (end e) ≡ end e

abbrev pub Bounded : ℕ → (Spot → Spot) → Type 0
Bounded n m = (x : Spot) → m x ≢ x → Left n x

pub end≢port : (e i j : ℕ) → end e ≢ port i j
end≢port e i j p = let z : ◌≡◌ {A = ℕ} 0 1 = cc in omega arith

pub port_mate : (w : Spot → Spot) → Mutual w → Ports w → (i j : ℕ) → (k : ℕ) × (l : ℕ) × (w (port i j) ≡ port k l)
port_mate w iw pw i j = go (w (port i j)) refl
  where
    go : (y : Spot) → w (port i j) ≡ y → (k : ℕ) × (l : ℕ) × (y ≡ port k l)
    go (end e) p = absurd (end≢port e i j (sym (pw e) ∙ ap w (sym p) ∙ iw (port i j)))
    go (port k l) p = (k, l, refl)

pub through_cong : (a b : Spot) (m n : Spot → Spot) (x : Spot) → m x ≡ n x → m a ≡ n a → m b ≡ n b → through a b m x ≡ through a b n x
unfolding through
through_cong a b m n x e f g = cc

pub on_left : (n : ℕ) (m w : Spot → Spot) (x : Spot) → Left n x → beside n m w x ≡ m x
unfolding beside
on_left n m w (end e) l = refl
on_left n m w (port r j) l = split_low n (λ r. m (port r j)) (λ i. up n (w (port i j))) r l

pub on_right : (n : ℕ) (m w : Spot → Spot) (i j : ℕ) → beside n m w (port (n + i) j) ≡ up n (w (port i j))
unfolding beside
on_right n m w i j = split_at n (λ r. m (port r j)) (λ i. up n (w (port i j))) i

module _ (n : ℕ) (m w : Spot → Spot) where
  module _ (im : Mutual m) (bm : Bounded n m) (iw : Mutual w) (pw : Ports w) where
    pub left_mate : (x : Spot) → Left n x → Left n (m x)
    left_mate x l = go (spot (m x) x)
      where
        go : (m x ≡ x) ⊎ (m x ≢ x) → Left n (m x)
        go (inl e) = subst (Left n) (sym e) l
        go (inr k) = bm (m x) (λ e. k (sym (sym (im x) ∙ e)))

    pub mutual_beside : Mutual (beside n m w)
    mutual_beside x = go (side n x)
      where
        go : Left n x ⊎ ((i : ℕ) × (j : ℕ) × (x ≡ port (n + i) j)) → beside n m w (beside n m w x) ≡ x
        go (inl l) = ap (beside n m w) (on_left n m w x l) ∙ on_left n m w (m x) (left_mate x l) ∙ im x
        go (inr (i, j, e)) =
            let t = port_mate w iw pw i j in
            ap (λ y. beside n m w (beside n m w y)) e ∙ ap (beside n m w) (on_right n m w i j ∙ ap (up n) t.2) ∙ on_right n m w t.0 t.1
            ∙ ap (up n) (ap w (sym t.2) ∙ iw (port i j)) ∙ sym e

    up_inj : (i j : ℕ) (y : Spot) → up n y ≡ port (n + i) j → y ≡ port i j
    up_inj i j (end e) p = absurd (end≢port e (n + i) j p)
    up_inj i j (port k l) p =
        let a : n + k ≡ n + i = cc in
        let b : l ≡ j = cc in
        let c : k ≡ i = omega arith in
        ap₂ port c b

    pub right_live : (i j : ℕ) → beside n m w (port (n + i) j) ≢ port (n + i) j → w (port i j) ≢ port i j
    right_live i j l e = l (on_right n m w i j ∙ ap (up n) e)

    pub live_right : (i j : ℕ) → w (port i j) ≢ port i j → beside n m w (port (n + i) j) ≢ port (n + i) j
    live_right i j l e = l (up_inj i j (w (port i j)) (sym (on_right n m w i j) ∙ e))

    pub left_live : (x : Spot) → Left n x → beside n m w x ≢ x → m x ≢ x
    left_live x s l e = l (on_left n m w x s ∙ e)

    pub live_left : (x : Spot) → m x ≢ x → beside n m w x ≢ x
    live_left x l e = l (sym (on_left n m w x (bm x l)) ∙ e)

    -- a splice on the left is made before or after
    pub beside_through : (a b : Spot) → Left n a → Left n b → beside n (through a b m) w ≡ through a b (beside n m w)
    beside_through a b la lb = fun_ext at
      where
        on_left₁ : (x : Spot) → Left n x → beside n (through a b m) w x ≡ through a b m x
        on_left₁ = on_left n (through a b m) w

        on_right₁ : (i j : ℕ) → beside n (through a b m) w (port (n + i) j) ≡ up n (w (port i j))
        on_right₁ = on_right n (through a b m) w

        sa : m a ≡ beside n m w a
        sa = sym (on_left n m w a la)

        sb : m b ≡ beside n m w b
        sb = sym (on_left n m w b lb)

        at : (x : Spot) → beside n (through a b m) w x ≡ through a b (beside n m w) x
        at x = go (side n x)
          where
            go : Left n x ⊎ ((i : ℕ) × (j : ℕ) × (x ≡ port (n + i) j)) → beside n (through a b m) w x ≡ through a b (beside n m w) x
            go (inl l) = on_left₁ x l ∙ through_cong a b m (beside n m w) x (sym (on_left n m w x l)) sa sb
            go (inr (i, j, e)) =
                let t = port_mate w iw pw i j in
                let v : beside n m w x ≡ port (n + t.0) t.1 = ap (beside n m w) e ∙ on_right n m w i j ∙ ap (up n) t.2 in
                ap (beside n (through a b m) w) e ∙ on_right₁ i j ∙ sym (on_right n m w i j) ∙ ap (beside n m w) (sym e)
                ∙ sym (past a b (beside n m w) x
                (λ z. not_left n i j (subst (Left n) (sym (sym e ∙ z)) la))
                (λ z. not_left n i j (subst (Left n) (sym (sym e ∙ z)) lb))
                (λ z. not_left n t.0 t.1 (subst (Left n) (sym (sym v ∙ z)) la))
                (λ z. not_left n t.0 t.1 (subst (Left n) (sym (sym v ∙ z)) lb)))

-- f below n, r from n on
abbrev pub both : ℕ → ℕ → (ℕ → ℕ) → (ℕ → ℕ) → ℕ → ℕ
both n n' f r = split n f (λ i. n' + r i)

pub both_left : (n n' : ℕ) (f r : ℕ → ℕ) (x : Spot) → Left n x → carry (both n n' f r) x ≡ carry f x
both_left n n' f r (end e) l = refl
both_left n n' f r (port p j) l = ap (λ p. port p j) (split_low n f (λ i. n' + r i) p l)

pub both_right : (n n' : ℕ) (f r : ℕ → ℕ) (y : Spot) → (k l : ℕ) → y ≡ port k l → carry (both n n' f r) (up n y) ≡ up n' (carry r y)
both_right n n' f r y k l e = ap (λ y. carry (both n n' f r) (up n y)) e ∙ ap (λ p. port p l) (split_at n f (λ i. n' + r i) k) ∙ ap (λ y. up n' (carry r y)) (sym e)

module _ (n n' : ℕ) (f g r s : ℕ → ℕ) (m m' w w' : Spot → Spot) (im : Mutual m) (bm : Bounded n m) (bm' : Bounded n' m') (iw : Mutual w) (pw : Ports w)
    (sm : SameLinks (carry f) (carry g) m m') (sw : SameLinks (carry r) (carry s) w w') where
  both_there : (x : Spot) → beside n m w x ≢ x →
      (beside n' m' w' (carry (both n n' f r) x) ≡ carry (both n n' f r) (beside n m w x)) × (carry (both n' n g s) (carry (both n n' f r) x) ≡ x)
  both_there x live = go (side n x)
    where
      go : Left n x ⊎ ((i : ℕ) × (j : ℕ) × (x ≡ port (n + i) j)) →
          (beside n' m' w' (carry (both n n' f r) x) ≡ carry (both n n' f r) (beside n m w x)) × (carry (both n' n g s) (carry (both n n' f r) x) ≡ x)
      go (inl l) =
          let lx : m x ≢ x = left_live n m w im bm iw pw x l live in
          let t = sm.there x lx in
          let l' : Left n' (carry f x) = bm' (carry f x) (image_live (carry f) (carry g) m m' im sm x lx) in (
            ap (beside n' m' w') (both_left n n' f r x l) ∙ on_left n' m' w' (carry f x) l' ∙ t.0
                ∙ sym (both_left n n' f r (m x) (left_mate n m w im bm iw pw x l)) ∙ ap (carry (both n n' f r)) (sym (on_left n m w x l)),
            ap (carry (both n' n g s)) (both_left n n' f r x l) ∙ both_left n' n g s (carry f x) l' ∙ t.1,
          )
      go (inr (i, j, e)) =
          let lx : w (port i j) ≢ port i j = right_live n m w im bm iw pw i j (subst (λ y. beside n m w y ≢ y) e live) in
          let t = sw.there (port i j) lx in
          let k = port_mate w iw pw i j in
          let ex : carry (both n n' f r) x ≡ port (n' + r i) j = ap (carry (both n n' f r)) e ∙ both_right n n' f r (port i j) i j refl in (
            ap (beside n' m' w') ex ∙ on_right n' m' w' (r i) j ∙ ap (up n') t.0 ∙ sym (both_right n n' f r (w (port i j)) k.0 k.1 k.2)
                ∙ ap (carry (both n n' f r)) (sym (on_right n m w i j) ∙ ap (beside n m w) (sym e)),
            ap (carry (both n' n g s)) ex ∙ both_right n' n g s (port (r i) j) (r i) j refl ∙ ap (up n) t.1 ∙ sym e,
          )

pub same_beside : (n n' : ℕ) (f g r s : ℕ → ℕ) (m m' w w' : Spot → Spot) → Mutual m → Mutual m' → Bounded n m → Bounded n' m' → Mutual w → Mutual w' → Ports w → Ports w' →
    SameLinks (carry f) (carry g) m m' → SameLinks (carry r) (carry s) w w' → SameLinks (carry (both n n' f r)) (carry (both n' n g s)) (beside n m w) (beside n' m' w')
same_beside n n' f g r s m m' w w' im im' bm bm' iw iw' pw pw' sm sw = record {
  there = both_there n n' f g r s m m' w w' im bm bm' iw pw sm sw;
  back = both_there n' n g f s r m' m w' w im' bm' bm iw' pw' (same_sym sm) (same_sym sw);
}
