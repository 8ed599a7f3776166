-- Links that show a wiring under one change of names show it under another that does the same to what is live. Assumes nothing.
use Rattle.std.proofs.Common.{◌≡◌, ℕ, ◌<◌, ◌≤◌, Bool, true, false, cond, ◌≢◌, ◌⊎◌, List, Option, IfSome, sym, refl, ap, ◌∙◌, subst, ap₂, inl, inr, arith}
use Rattle.std.proofs.lemmas.Bool.{cases_eq, cases_lt}
use Rattle.nets.specs.declared.link.Link.{Link}
use Rattle.std.specs.Bool.{then_some}
use Rattle.nets.specs.Rewiring.{Shows, trade, part, under, renamed, Parked, Cleared}
use Rattle.nets.proofs.Slots.{same_live}
use Rattle.nets.proofs.Parking.{trade_p, trade_else, trade_twice, part_above, part_below, part_twice}
use Rattle.nets.proofs.Renaming.{move_twice, renamed_mutual}
use Rattle.calculus.specs.Spots.{Spot, end, port, carry}
use Rattle.calculus.proofs.Splice.{spot, Mutual}
use Rattle.calculus.proofs.Beside.{Bounded}

-- the spare row is given where a test passes
pub record ClearedIf (xs : List Link) (p t n : ℕ) (b : Bool) (ys : List Link) (r : ℕ) : Type 0 where
  pub moved : b ≡ true → (r ≡ t) × Parked xs p t n ys
  pub stayed : b ≡ false → (r ≡ p) × (ys ≡ xs)

pub cleared_if : (xs : List Link) (p t n : ℕ) (b : Bool) (ys : List Link) (r : ℕ) (o : Option ℕ) → o ≡ then_some b t → Cleared xs p o n ys r → ClearedIf xs p t n b ys r
cleared_if xs p t n b ys r o e C = record { moved = λ h. C.moved t (e ∙ ap (λ (b : Bool). then_some b t) h); stayed = λ h. C.stayed (e ∙ ap (λ (b : Bool). then_some b t) h) }

pub if_spare : (P : ℕ → Type 0) (b : Bool) (t : ℕ) (o : Option ℕ) → o ≡ then_some b t → P t → IfSome o P
if_spare P true t o e h = subst (λ (o : Option ℕ). IfSome o P) (sym e) h
if_spare P false t o e h = subst (λ (o : Option ℕ). IfSome o P) (sym e) tt

pub alter : (xs : List Link) (m f f' g : Spot → Spot) → Mutual m → ((y : Spot) → g (g y) ≡ y) → ((x : Spot) → m x ≢ x → (f x ≡ g x) × (f' (f x) ≡ x)) →
    Shows xs (λ y. f (m (f' y))) → Shows xs (under g m)
alter xs m f f' g inv gg h = same_live xs (λ y. f (m (f' y))) (under g m) go
  where
    go : (y : Spot) → under g m y ≢ y → f (m (f' y)) ≡ under g m y
    go y l =
        let x = g y in
        let lx : m (g y) ≢ g y = λ e. l (ap g e ∙ gg y) in
        let lm : m (m (g y)) ≢ m (g y) = λ e. lx (sym (sym (inv (g y)) ∙ e)) in
        let t = h (g y) lx in
        let ey : f (g y) ≡ y = t.0 ∙ gg y in
        let e' : f' y ≡ g y = ap f' (sym ey) ∙ t.1 in
        ap (λ (z : Spot). f (m z)) e' ∙ (h (m (g y)) lm).0

-- a row parked
module _ (m : Spot → Spot) (inv : Mutual m) (p t n : ℕ) (dt : (j : ℕ) → m (port t j) ≡ port t j) (p0 : m (port p 0) ≡ port p 0)
    (pl : (j : ℕ) → 1 ≤ j → j ≤ n → m (port p j) ≢ port p j) (pd : (j : ℕ) → m (port p j) ≢ port p j → j ≤ n) where
  first : (x : Spot) → m x ≢ x → (x ≡ part n p t x) × (x ≡ x)
  first (end e) l = (refl, refl)
  first (port r j) l = (sym (go (cases_lt n j)), refl)
    where
      go : (n < j) ⊎ (j ≤ n) → part n p t (port r j) ≡ port r j
      go (inl h) =
          part_above n p t r j h
          ∙ ap (λ (r : ℕ). port r j) (trade_else p t r
          (λ e. let z = pd j (subst (λ (r : ℕ). m (port r j) ≢ port r j) e l) in omega arith)
          (λ e. l (subst (λ (r : ℕ). m (port r j) ≡ port r j) (sym e) (dt j))))
      go (inr h) = part_below n p t r j h

  last : (x : Spot) → m x ≢ x → (part 0 p t x ≡ carry (trade p t) x) × (part 0 p t (part 0 p t x) ≡ x)
  last (end e) l = (refl, refl)
  last (port r j) l = (go (cases_lt 0 j), part_twice 0 p t (port r j))
    where
      go : (0 < j) ⊎ (j ≤ 0) → part 0 p t (port r j) ≡ port (trade p t r) j
      go (inl h) = part_above 0 p t r j h
      go (inr h) =
          let z : j ≡ 0 = omega arith in
          part_below 0 p t r j h
          ∙ ap (λ (r : ℕ). port r j) (sym (trade_else p t r
          (λ e. l (ap₂ (λ (r j : ℕ). m (port r j)) e z ∙ p0 ∙ sym (ap₂ port e z)))
          (λ e. l (subst (λ (r : ℕ). m (port r j) ≡ port r j) (sym e) (dt j)))))

  pub park_shows : (xs ys : List Link) → Parked xs p t n ys → Shows xs m → Shows ys (renamed (trade p t) m)
  park_shows xs ys P S =
      alter ys m (part 0 p t) (part 0 p t) (carry (trade p t)) inv (move_twice (trade p t) (trade_twice p t)) last
      (P.shows m inv dt pl (alter xs m (λ y. y) (λ y. y) (part n p t) inv (part_twice n p t) first S))

-- the change of names, where there is one
abbrev pub trade_if : Bool → ℕ → ℕ → ℕ → ℕ
trade_if b p t r = cond b (trade p t r) r

module _ (b : Bool) (p t : ℕ) where
  pub trade_if_twice : (r : ℕ) → trade_if b p t (trade_if b p t r) ≡ r
  trade_if_twice r = elim b as (λ b. trade_if b p t (trade_if b p t r) ≡ r) [ true ↦ trade_twice p t r | false ↦ refl ]

  pub trade_if_here : trade_if b p t p ≡ cond b t p
  trade_if_here = elim b as (λ b. trade_if b p t p ≡ cond b t p) [ true ↦ trade_p p t | false ↦ refl ]

  pub trade_if_else : (r : ℕ) → r ≢ p → r ≢ t → trade_if b p t r ≡ r
  trade_if_else r n k = elim b as (λ b. trade_if b p t r ≡ r) [ true ↦ trade_else p t r n k | false ↦ refl ]

still_carried : (y : Spot) → carry (λ (r : ℕ). r) y ≡ y
still_carried (end e) = refl
still_carried (port r j) = refl

-- a row cleared or not
pub clear_shows : (m : Spot → Spot) → Mutual m → (p t n : ℕ) → ((j : ℕ) → m (port t j) ≡ port t j) → m (port p 0) ≡ port p 0 →
    ((j : ℕ) → 1 ≤ j → j ≤ n → m (port p j) ≢ port p j) → ((j : ℕ) → m (port p j) ≢ port p j → j ≤ n) →
    (b : Bool) (xs ys : List Link) (r : ℕ) → ClearedIf xs p t n b ys r → Shows xs m → Shows ys (renamed (trade_if b p t) m) × (r ≡ cond b t p)
clear_shows m inv p t n dt p0 pl pd true xs ys r C S = let x = C.moved refl in (park_shows m inv p t n dt p0 pl pd xs ys x.1 S, x.0)
clear_shows m inv p t n dt p0 pl pd false xs ys r C S =
    let x = C.stayed refl in (
      subst (λ (l : List Link). Shows l (renamed (λ (r : ℕ). r) m)) (sym x.1)
          (same_live xs m (renamed (λ (r : ℕ). r) m) (λ y l. sym (still_carried (m (carry (λ (r : ℕ). r) y)) ∙ ap m (still_carried y))) S),
      x.0,
    )

-- both rows of the pair
module _ (m : Spot → Spot) (inv : Mutual m) (bm : Bounded 1024 m) (p q a b u v : ℕ) (pq : p ≢ q) (hp : p < 1024) (hq : q < 1024) (hu : 1024 ≤ u) (hv : 1024 ≤ v) (uv : u ≢ v)
    (p0 : m (port p 0) ≡ port p 0) (pl : (j : ℕ) → 1 ≤ j → j ≤ a → m (port p j) ≢ port p j) (pd : (j : ℕ) → m (port p j) ≢ port p j → j ≤ a)
    (q0 : m (port q 0) ≡ port q 0) (ql : (j : ℕ) → 1 ≤ j → j ≤ b → m (port q j) ≢ port q j) (qd : (j : ℕ) → m (port q j) ≢ port q j → j ≤ b)
    (f : ℕ → ℕ) (ff : (r : ℕ) → f (f r) ≡ r) (c d : Bool) (other : (r j : ℕ) → m (port r j) ≢ port r j → r ≢ p → r ≢ q → f r ≡ r)
    (fp : f p ≡ cond c u p) (fq : f q ≡ cond d v q) where
  high : (t : ℕ) → 1024 ≤ t → (j : ℕ) → m (port t j) ≡ port t j
  high t h j = elim (spot (m (port t j)) (port t j)) [ inl e ↦ e | inr l ↦ absurd (let z : t < 1024 = bm (port t j) l in omega arith) ]

  abbrev g : ℕ → ℕ
  g = trade_if c p u

  abbrev h : ℕ → ℕ
  h = trade_if d q v

  gg : (x : Spot) → carry (trade_if c p u) (carry (trade_if c p u) x) ≡ x
  gg = move_twice (trade_if c p u) (trade_if_twice c p u)

  hh : (x : Spot) → carry (trade_if d q v) (carry (trade_if d q v) x) ≡ x
  hh = move_twice (trade_if d q v) (trade_if_twice d q v)

  up_or_p : (x : Bool) → cond x u p ≢ q × (cond x u p ≢ v)
  up_or_p true = ((λ z. omega arith), uv)
  up_or_p false = (pq, λ z. omega arith)

  -- what the changes of names do to a live row
  rows : (r j : ℕ) → m (port r j) ≢ port r j → trade_if d q v (trade_if c p u r) ≡ f r
  rows r j l = go (cases_eq r p) (cases_eq r q)
    where
      go : (r ≡ p) ⊎ (r ≢ p) → (r ≡ q) ⊎ (r ≢ q) → trade_if d q v (trade_if c p u r) ≡ f r
      go (inl e) y =
          let t = up_or_p c in
          ap (λ (r : ℕ). trade_if d q v (trade_if c p u r)) e ∙ ap (trade_if d q v) (trade_if_here c p u) ∙ trade_if_else d q v (cond c u p) t.0 t.1 ∙ sym (ap f e ∙ fp)
      go (inr n) (inl e) =
          ap (λ (r : ℕ). trade_if d q v (trade_if c p u r)) e ∙ ap (trade_if d q v) (trade_if_else c p u q (λ z. pq (sym z)) (λ z. omega arith)) ∙ trade_if_here d q v ∙ sym (ap f e ∙ fq)
      go (inr n) (inr o) =
          let low : r < 1024 = bm (port r j) l in
          ap (trade_if d q v) (trade_if_else c p u r n (λ z. omega arith)) ∙ trade_if_else d q v r o (λ z. omega arith) ∙ sym (other r j l n o)

  both : (x : Spot) → m x ≢ x → carry (trade_if d q v) (carry (trade_if c p u) x) ≡ carry f x
  both (end e) l = refl
  both (port r j) l = ap (λ (r : ℕ). port r j) (rows r j l)

  moved_row : (r j : ℕ) → r ≢ p → r ≢ u → renamed (trade_if c p u) m (port r j) ≡ carry (trade_if c p u) (m (port r j))
  moved_row r j n o = ap (λ (r : ℕ). carry (trade_if c p u) (m (port r j))) (trade_if_else c p u r n o)

  g_still : (r j : ℕ) → r ≢ p → r ≢ u → carry (trade_if c p u) (port r j) ≡ port r j
  g_still r j n o = ap (λ (r : ℕ). port r j) (trade_if_else c p u r n o)

  still : (r j : ℕ) → r ≢ p → r ≢ u → m (port r j) ≡ port r j → renamed (trade_if c p u) m (port r j) ≡ port r j
  still r j n o e = moved_row r j n o ∙ ap (carry (trade_if c p u)) e ∙ g_still r j n o

  stirs : (r j : ℕ) → r ≢ p → r ≢ u → renamed (trade_if c p u) m (port r j) ≡ port r j → m (port r j) ≡ port r j
  stirs r j n o e = sym (gg (m (port r j))) ∙ ap (carry (trade_if c p u)) (sym (moved_row r j n o) ∙ e) ∙ g_still r j n o

  pub cleared : (xs ys zs : List Link) (top low : ℕ) → ClearedIf xs p u a c ys top → ClearedIf ys q v b d zs low → Shows xs m →
      Shows zs (renamed f m) × (top ≡ f p) × (low ≡ f q)
  cleared xs ys zs top low C D S =
      let qp : q ≢ p = λ z. pq (sym z) in
      let qu : q ≢ u = λ z. omega arith in
      let vp : v ≢ p = λ z. omega arith in
      let vu : v ≢ u = λ z. uv (sym z) in
      let s = clear_shows m inv p u a (high u hu) p0 pl pd c xs ys top C S in
      let t = clear_shows (renamed (trade_if c p u) m) (renamed_mutual (trade_if c p u) (trade_if_twice c p u) m inv) q v b
      (λ j. still v j vp vu (high v hv j))
      (still q 0 qp qu q0)
      (λ j i k e. ql j i k (stirs q j qp qu e))
      (λ j l. qd j (λ e. l (still q j qp qu e)))
      d ys zs low D s.0 in (
        alter zs m (λ x. carry (trade_if d q v) (carry (trade_if c p u) x)) (λ x. carry (trade_if c p u) (carry (trade_if d q v) x)) (carry f) inv (move_twice f ff)
            (λ x l. (both x l, ap (carry (trade_if c p u)) (hh (carry (trade_if c p u) x)) ∙ gg x)) t.0,
        s.1 ∙ sym fp,
        t.1 ∙ sym fq,
      )
