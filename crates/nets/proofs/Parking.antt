-- Ports moved one by one from row to row. Assumes nothing.
use Rattle.std.proofs.Common.{◌≡◌, ℕ, suc, ◌+◌, ◌-◌, ◌*◌, ◌<◌, ◌≤◌, Bool, true, false, cond, ltb, ◌≢◌, ◌⊎◌, List, Some, None, Option, get_or, set, sym, refl, ap, ◌∙◌, subst, ap₂, inl, inr, arith, length-set}
use mathlib.Core.Path.{fun_ext}
use Rattle.std.proofs.lemmas.Bool.{cases_eq, cases_lt}
use Rattle.nets.specs.declared.link.Link.{Link}
use Rattle.nets.specs.Layout.{code, slot_of, goal, nil}
use Rattle.nets.specs.Rewiring.{HasSlot, Shows, trade, part, under, Parked, Cleared}
use Rattle.nets.proofs.Slots.{Whole, code_inj, port_slot, goal_same, goal_other}
use Rattle.calculus.specs.Spots.{Spot, end, port}
use Rattle.calculus.proofs.Wires.{same}
use Rattle.calculus.proofs.Splice.{spot, same_yes, same_no, Mutual}

abbrev tau : Spot → Spot → Spot → Spot
tau a b y = cond (same y a) b (cond (same y b) a y)

module _ (a b : Spot) where
  tau_a : tau a b a ≡ b
  tau_a = ap (λ (t : Bool). cond t b (cond (same a b) a a)) (same_yes a a refl)

  tau_b : a ≢ b → tau a b b ≡ a
  tau_b n = ap (λ (t : Bool). cond t b (cond (same b b) a b)) (same_no b a (λ e. n (sym e))) ∙ ap (λ (t : Bool). cond t a b) (same_yes b b refl)

  tau_else : (y : Spot) → y ≢ a → y ≢ b → tau a b y ≡ y
  tau_else y n k = ap (λ (t : Bool). cond t b (cond (same y b) a y)) (same_no y a n) ∙ ap (λ (t : Bool). cond t a y) (same_no y b k)

  tau_twice : a ≢ b → (y : Spot) → tau a b (tau a b y) ≡ y
  tau_twice n y = go (spot y a) (spot y b)
    where
      go : (y ≡ a) ⊎ (y ≢ a) → (y ≡ b) ⊎ (y ≢ b) → tau a b (tau a b y) ≡ y
      go (inl e) q = ap (λ (z : Spot). tau a b (tau a b z)) e ∙ ap (tau a b) tau_a ∙ tau_b n ∙ sym e
      go (inr k) (inl e) = ap (λ (z : Spot). tau a b (tau a b z)) e ∙ ap (tau a b) (tau_b n) ∙ tau_a ∙ sym e
      go (inr k) (inr h) = ap (tau a b) (tau_else y k h) ∙ tau_else y k h

-- one port moved
module _ (xs : List Link) (m : Spot → Spot) (inv : Mutual m) (S : Shows xs m) (W : Whole xs) (a b : Spot) (ab : a ≢ b) (la : m a ≢ a) (db : m b ≡ b) (drawn : HasSlot b)
    (X B : Link) (eX : slot_of X ≡ code (m a)) (eB : slot_of B ≡ code b) where
  ys : List Link
  ys = set xs (code b) X

  zs : List Link
  zs = set (set xs (code b) X) (slot_of X) B

  lma : m (m a) ≢ m a
  lma e = la (sym (sym (inv a) ∙ e))

  dma : HasSlot (m a)
  dma = (S (m a) lma).0

  mab : m a ≢ b
  mab e = ab (sym (inv a) ∙ ap m e ∙ db)

  apart : code b ≢ slot_of X
  apart e = mab (sym (code_inj b (m a) drawn dma (e ∙ eX)))

  at_b : goal (set (set xs (code b) X) (slot_of X) B) (code b) ≡ code (m a)
  at_b = goal_other (set xs (code b) X) (slot_of X) B (code b) apart ∙ goal_same xs (code b) X (omega (arith, W.long, drawn.1)) ∙ eX

  at_m : goal (set (set xs (code b) X) (slot_of X) B) (code (m a)) ≡ code b
  at_m =
      ap (goal (set (set xs (code b) X) (slot_of X) B)) (sym eX)
      ∙ goal_same (set xs (code b) X) (slot_of X) B (simp length-set (omega (arith, W.long, dma.1))) ∙ eB

  pub ported : Shows (set (set xs (code b) X) (slot_of X) B) (under (tau a b) m)
  ported y l = go (spot y b) (spot y a) (spot (m y) a)
    where
      zz : List Link
      zz = set (set xs (code b) X) (slot_of X) B

      go : (y ≡ b) ⊎ (y ≢ b) → (y ≡ a) ⊎ (y ≢ a) → (m y ≡ a) ⊎ (m y ≢ a) → HasSlot y × (goal (set (set xs (code b) X) (slot_of X) B) (code y) ≡ code (under (tau a b) m y))
      go (inl e) q r =
          let v : under (tau a b) m y ≡ m a = ap (λ (z : Spot). tau a b (m (tau a b z))) e ∙ ap (λ (z : Spot). tau a b (m z)) (tau_b a b ab) ∙ tau_else a b (m a) la mab in
          (subst HasSlot (sym e) drawn, ap (λ (z : Spot). goal (set (set xs (code b) X) (slot_of X) B) (code z)) e ∙ at_b ∙ ap code (sym v))
      go (inr nb) (inl e) r =
          absurd (l (ap (λ (z : Spot). tau a b (m (tau a b z))) e ∙ ap (λ (z : Spot). tau a b (m z)) (tau_a a b) ∙ ap (tau a b) db ∙ tau_b a b ab ∙ sym e))
      go (inr nb) (inr na) (inl e) =
          let f : y ≡ m a = sym (inv y) ∙ ap m e in
          let v : under (tau a b) m y ≡ b = ap (λ (z : Spot). tau a b (m z)) (tau_else a b y na nb) ∙ ap (tau a b) e ∙ tau_a a b in
          (subst HasSlot (sym f) dma, ap (λ (z : Spot). goal (set (set xs (code b) X) (slot_of X) B) (code z)) f ∙ at_m ∙ ap code (sym v))
      go (inr nb) (inr na) (inr k) =
          let nm : m y ≢ b = λ e. nb (sym (inv y) ∙ ap m e ∙ db) in
          let v : under (tau a b) m y ≡ m y = ap (λ (z : Spot). tau a b (m z)) (tau_else a b y na nb) ∙ tau_else a b (m y) k nm in
          let ly : m y ≢ y = λ e. l (v ∙ e) in
          let s = S y ly in
          let n1 : code y ≢ code b = λ e. nb (code_inj y b s.0 drawn e) in
          let n2 : code y ≢ slot_of X = λ e. k (ap m (code_inj y (m a) s.0 dma (e ∙ eX)) ∙ inv a) in
          (s.0, goal_other (set xs (code b) X) (slot_of X) B (code y) n2 ∙ goal_other xs (code b) X (code y) n1 ∙ s.1 ∙ ap code (sym v))

-- the change of names by parts
pub trade_p : (p t : ℕ) → trade p t p ≡ t
trade_p p t = grind (arith)

trade_t : (p t : ℕ) → trade p t t ≡ p
trade_t p t = grind (arith)

pub trade_else : (p t r : ℕ) → r ≢ p → r ≢ t → trade p t r ≡ r
trade_else p t r n k = grind (arith)

pub trade_twice : (p t r : ℕ) → trade p t (trade p t r) ≡ r
trade_twice p t r = go (cases_eq r p) (cases_eq r t)
  where
    go : (r ≡ p) ⊎ (r ≢ p) → (r ≡ t) ⊎ (r ≢ t) → trade p t (trade p t r) ≡ r
    go (inl e) q = ap (λ (r : ℕ). trade p t (trade p t r)) e ∙ ap (trade p t) (trade_p p t) ∙ trade_t p t ∙ sym e
    go (inr n) (inl e) = ap (λ (r : ℕ). trade p t (trade p t r)) e ∙ ap (trade p t) (trade_t p t) ∙ trade_p p t ∙ sym e
    go (inr n) (inr k) = ap (trade p t) (trade_else p t r n k) ∙ trade_else p t r n k

pub part_above : (n p t r j : ℕ) → n < j → part n p t (port r j) ≡ port (trade p t r) j
part_above n p t r j h = let b : ltb n j ≡ true = grind (arith) in ap (λ (b : Bool). cond b (port (trade p t r) j) (port r j)) b

pub part_below : (n p t r j : ℕ) → j ≤ n → part n p t (port r j) ≡ port r j
part_below n p t r j h = let b : ltb n j ≡ false = grind (arith) in ap (λ (b : Bool). cond b (port (trade p t r) j) (port r j)) b

pub part_twice : (n p t : ℕ) (y : Spot) → part n p t (part n p t y) ≡ y
part_twice n p t (end e) = refl
part_twice n p t (port r j) = go (cases_lt n j)
  where
    go : (n < j) ⊎ (j ≤ n) → part n p t (part n p t (port r j)) ≡ port r j
    go (inl h) = ap (part n p t) (part_above n p t r j h) ∙ part_above n p t (trade p t r) j h ∙ ap (λ (r : ℕ). port r j) (trade_twice p t r)
    go (inr h) = ap (part n p t) (part_below n p t r j h) ∙ part_below n p t r j h

module _ (n p t : ℕ) (pt : p ≢ t) where
  abbrev A : Spot
  A = port p (suc n)

  abbrev B : Spot
  B = port t (suc n)

  pub AB : port p (suc n) ≢ port t (suc n)
  AB e = pt (cc)

  step₁ : (y : Spot) → part (suc n) p t (tau (port p (suc n)) (port t (suc n)) y) ≡ part n p t y
  step₁ (end e) = refl
  step₁ (port r j) = go (cases_eq j (suc n)) (cases_eq r p) (cases_eq r t)
    where
      go : (j ≡ suc n) ⊎ (j ≢ suc n) → (r ≡ p) ⊎ (r ≢ p) → (r ≡ t) ⊎ (r ≢ t) → part (suc n) p t (tau A B (port r j)) ≡ part n p t (port r j)
      go (inl e) (inl f) q =
          let z : port r j ≡ port p (suc n) = ap₂ port f e in
          ap (λ (y : Spot). part (suc n) p t (tau A B y)) z ∙ ap (part (suc n) p t) (tau_a A B) ∙ part_below (suc n) p t t (suc n) (omega arith)
          ∙ sym (ap (part n p t) z ∙ part_above n p t p (suc n) (omega arith) ∙ ap (λ (r : ℕ). port r (suc n)) (trade_p p t))
      go (inl e) (inr k) (inl f) =
          let z : port r j ≡ port t (suc n) = ap₂ port f e in
          ap (λ (y : Spot). part (suc n) p t (tau A B y)) z ∙ ap (part (suc n) p t) (tau_b A B AB) ∙ part_below (suc n) p t p (suc n) (omega arith)
          ∙ sym (ap (part n p t) z ∙ part_above n p t t (suc n) (omega arith) ∙ ap (λ (r : ℕ). port r (suc n)) (trade_t p t))
      go (inl e) (inr k) (inr h) =
          ap (part (suc n) p t) (tau_else A B (port r j) (λ z. k (cc)) (λ z. h (cc))) ∙ part_below (suc n) p t r j (omega arith)
          ∙ sym (part_above n p t r j (omega arith) ∙ ap (λ (r : ℕ). port r j) (trade_else p t r k h))
      go (inr o) q s =
          ap (part (suc n) p t) (tau_else A B (port r j) (λ z. o (cc)) (λ z. o (cc))) ∙ rest (cases_lt n j)
        where
          rest : (n < j) ⊎ (j ≤ n) → part (suc n) p t (port r j) ≡ part n p t (port r j)
          rest (inl h) = part_above (suc n) p t r j (omega arith) ∙ sym (part_above n p t r j h)
          rest (inr h) = part_below (suc n) p t r j (omega arith) ∙ sym (part_below n p t r j h)

  step₂ : (y : Spot) → tau (port p (suc n)) (port t (suc n)) (part (suc n) p t y) ≡ part n p t y
  step₂ y =
      let x = tau A B (part (suc n) p t y) in
      let e : y ≡ part n p t x = sym (part_twice (suc n) p t y) ∙ ap (part (suc n) p t) (sym (tau_twice A B AB (part (suc n) p t y))) ∙ step₁ x in
      sym (part_twice n p t x) ∙ ap (part n p t) (sym e)

  module _ (m : Spot → Spot) where
    steps : (y : Spot) → under (tau (port p (suc n)) (port t (suc n))) (under (part (suc n) p t) m) y ≡ under (part n p t) m y
    steps y = step₂ (m (part (suc n) p t (tau A B y))) ∙ ap (λ (z : Spot). part n p t (m z)) (step₁ y)

pub under_mutual : (f m : Spot → Spot) → ((y : Spot) → f (f y) ≡ y) → Mutual m → Mutual (under f m)
under_mutual f m ff inv y = ap (λ (z : Spot). f (m z)) (ff (m (f y))) ∙ ap f (inv (f y)) ∙ ff y

pub parked_none : (xs : List Link) (p t : ℕ) → Parked xs p t 0 xs
parked_none xs p t = record { shows = λ m inv d l S. S }

more : (xs zs : List Link) (p t n : ℕ) (X L : Link) → Whole xs → p < 1030 → t < 1030 → p ≢ t → suc n < 3 → X ≡ get_or xs (p * 4 + suc n) nil → slot_of L ≡ t * 4 + suc n →
    Parked (set (set xs (t * 4 + suc n) X) (slot_of X) L) p t n zs → Parked xs p t (suc n) zs
more xs zs p t n X L W hp ht pt hn eX eL P = record {
  shows = λ m inv dt lp S.
      let M = under (part (suc n) p t) m in
      let M2 = under_mutual (part (suc n) p t) m (part_twice (suc n) p t) inv in
      let bA = part_below (suc n) p t p (suc n) (omega arith) in
      let bB = part_below (suc n) p t t (suc n) (omega arith) in
      let lA : under (part (suc n) p t) m (port p (suc n)) ≢ port p (suc n) =
      λ e. lp (suc n) (omega arith) (omega arith)
      (ap m (sym bA) ∙ sym (part_twice (suc n) p t (m (part (suc n) p t (port p (suc n))))) ∙ ap (part (suc n) p t) e ∙ bA) in
      let dB : under (part (suc n) p t) m (port t (suc n)) ≡ port t (suc n) =
      ap (λ (z : Spot). part (suc n) p t (m z)) bB ∙ ap (part (suc n) p t) (dt (suc n)) ∙ bB in
      let sX : slot_of X ≡ code (under (part (suc n) p t) m (port p (suc n))) = ap slot_of eX ∙ (S (port p (suc n)) lA).1 in
      let q = ported xs M M2 S W (port p (suc n)) (port t (suc n)) (AB n p t pt) lA dB (port_slot t (suc n) ht (omega arith)) X L sX eL in
      P.shows m inv dt (λ j a b. lp j a (omega arith))
      (subst (Shows (set (set xs (t * 4 + suc n) X) (slot_of X) L)) (fun_ext (steps n p t pt m)) q);
}

-- one port less to move: what moves the ports below n moves all of them
pub parked_down : (xs ys : List Link) (p t n N : ℕ) (X L : Link) → 1 ≤ n → Whole ys → p < 1030 → t < 1030 → p ≢ t → n < 3 → X ≡ get_or ys (p * 4 + n) nil → slot_of L ≡ t * 4 + n →
    ((us : List Link) → Parked ys p t n us → Parked xs p t N us) →
    (us : List Link) → Parked (set (set ys (t * 4 + n) X) (slot_of X) L) p t (n - 1) us → Parked xs p t N us
parked_down xs ys p t n N X L l W hp ht pt hn eX eL f us P =
    let e : n ≡ suc (n - 1) = omega arith in
    f us
    (subst (λ (i : ℕ). Parked ys p t i us) (sym e)
    (more ys us p t (n - 1) X L W hp ht pt (omega arith) (eX ∙ ap (λ (i : ℕ). get_or ys (p * 4 + i) nil) e) (eL ∙ ap (λ (i : ℕ). t * 4 + i) e)
    (subst (λ (i : ℕ). Parked (set (set ys (t * 4 + i) X) (slot_of X) L) p t (n - 1) us) e P)))

-- a row whose ports moved to the spare one given
pub cleared_by : (xs : List Link) (p : ℕ) (o : Option ℕ) (t n : ℕ) (ys : List Link) → t < 1030 → o ≡ Some t → Parked xs p t n ys → Cleared xs p o n ys t
cleared_by xs p o t n ys h e P = record {
  small = h;
  moved = λ u f. let z : t ≡ u = cc in (z, subst (λ (u : ℕ). Parked xs p u n ys) z P);
  stayed = λ f. let z : ◌≡◌ {A = ℕ} 0 1 = cc in absurd (omega arith);
}
