-- The cells whose principal ports are linked with auxiliary ports of a pair. Assumes nothing.
use Rattle.std.proofs.Common.{◌≡◌, ℕ, zero, suc, ◌+◌, ◌<◌, ◌≤◌, ◌≢◌, ◌⊎◌, List, [], ◌∷◌, ◌++◌, get_or, take, Option, Some, None, sym, refl, ap, ◌∙◌, subst, inl, inr, arith}
use Rattle.std.specs.List.{ContainsAt as Has, flat_map}
use Rattle.std.proofs.lemmas.List.{take_more, flat_map_more}
use Rattle.std.specs.Option.{option_to_list}
use Rattle.calculus.specs.Spots.{Spot, end, port}
use Rattle.calculus.specs.Nets.{Net}
use Rattle.nets.specs.declared.spot.Spot.{Spot as Seen}
use Rattle.nets.specs.declared.spot.Spot.TheVariants.{Port}
use Rattle.nets.specs.Views.{at}
use Rattle.pairs.specs.Gathering.{cell_at, Across, ports, neighbours}
use Rattle.pairs.proofs.Members.{has_none, has_first, has_cases, has_flat, flat_has, Apart, apart_flat}

pub has_cell : (y : Spot) (r : ℕ) → Has (cell_at y) r → y ≡ port r 0
has_cell (end e) r h = absurd (has_none r h)
has_cell (port s zero) r h = elim (has_cases s [] r h) [ inl e ↦ ap (λ (v : ℕ). port v 0) e | inr g ↦ absurd (has_none r g) ]
has_cell (port s (suc j)) r h = absurd (has_none r h)

cell_has : (y : Spot) (r : ℕ) → y ≡ port r 0 → Has (cell_at y) r
cell_has y r e = subst (λ (z : Spot). Has (cell_at z) r) (sym e) (has_first r [])

-- what the code notes of one auxiliary port
pub noted_across : (A : Net) (x : Spot) (o : Option ℕ) → ((r : ℕ) → x ≢ port r 0) → Across A x o → option_to_list o ≡ cell_at (A.mate x)
noted_across A x (Some r) n a = sym (ap cell_at a.0)
noted_across A x None n a = go (A.mate x) refl
  where
    go : (y : Spot) → A.mate x ≡ y → [] ≡ cell_at y
    go (end e) z = refl
    go (port r zero) z = absurd (n r (sym (a r z) ∙ z))
    go (port r (suc i)) z = refl

one_cell : (y : Spot) → Apart (cell_at y)
one_cell (end e) = tt
one_cell (port s zero) = (has_none s, tt)
one_cell (port s (suc j)) = tt

module _ (A : Net) (twice : (x : Spot) → A.mate (A.mate x) ≡ x) (p q : ℕ) where
  -- its principal port is linked with port j of the cell in s
  abbrev Beside : ℕ → Type 0
  Beside r = (s : ℕ) × (j : ℕ) × ((s ≡ p) ⊎ (s ≡ q)) × (1 ≤ j) × (A.mate (port r 0) ≡ port s j)

  at_port : (x : Spot) → Has (ports p q) x → (s : ℕ) × (j : ℕ) × ((s ≡ p) ⊎ (s ≡ q)) × (1 ≤ j) × (x ≡ port s j)
  at_port x (zero, l, e) = (p, 1, inl refl, omega arith, sym (e x))
  at_port x (suc zero, l, e) = (p, 2, inl refl, omega arith, sym (e x))
  at_port x (suc (suc zero), l, e) = (q, 1, inr refl, omega arith, sym (e x))
  at_port x (suc (suc (suc zero)), l, e) = (q, 2, inr refl, omega arith, sym (e x))
  at_port x (suc (suc (suc (suc k))), l, e) = absurd (omega arith)

  port_at : (s j : ℕ) → (s ≡ p) ⊎ (s ≡ q) → 1 ≤ j → j ≤ 2 → Has (ports p q) (port s j)
  port_at s zero side h l = absurd (omega arith)
  port_at s (suc zero) (inl e) h l = (0, omega arith, λ d. ap (λ (v : ℕ). port v 1) (sym e))
  port_at s (suc (suc zero)) (inl e) h l = (1, omega arith, λ d. ap (λ (v : ℕ). port v 2) (sym e))
  port_at s (suc zero) (inr e) h l = (2, omega arith, λ d. ap (λ (v : ℕ). port v 1) (sym e))
  port_at s (suc (suc zero)) (inr e) h l = (3, omega arith, λ d. ap (λ (v : ℕ). port v 2) (sym e))
  port_at s (suc (suc (suc j))) side h l = absurd (omega arith)

  ports_apart : p ≢ q → Apart (ports p q)
  ports_apart n = (
    (λ h. elim (has_cases (port p 2) (port q 1 ∷ port q 2 ∷ []) (port p 1) h) [
      | inl e ↦ absurd (let z : ◌≡◌ {A = ℕ} 2 1 = cc in omega arith)
      | inr g ↦ elsewhere 1 g
    ]),
    (
      (λ h. elsewhere 2 h),
      (
        (λ h. elim (has_cases (port q 2) [] (port q 1) h) [
          | inl e ↦ absurd (let z : ◌≡◌ {A = ℕ} 2 1 = cc in omega arith)
          | inr g ↦ has_none (port q 1) g
        ]),
        ((λ h. has_none (port q 2) h), tt),
      ),
    ),
  )
    where
      elsewhere : (j : ℕ) → Has (port q 1 ∷ port q 2 ∷ []) (port p j) → ⊥
      elsewhere j h = elim (has_cases (port q 1) (port q 2 ∷ []) (port p j) h) [
        | inl e ↦ n (cc)
        | inr g ↦ elim (has_cases (port q 2) [] (port p j) g) [ inl e ↦ n (cc) | inr f ↦ has_none (port p j) f ]
      ]

  turn : (x y : Spot) → A.mate x ≡ y → A.mate y ≡ x
  turn x y e = ap A.mate (sym e) ∙ twice x

  pub near_beside : (r : ℕ) → Has (neighbours A p q) r → Beside r
  near_beside r h =
      let t = has_flat (λ x. cell_at (A.mate x)) (ports p q) r h in
      let o = at_port t.0 t.1 in
      (o.0, o.1, o.2, o.3, turn (port o.0 o.1) (port r 0) (ap A.mate (sym o.4) ∙ has_cell (A.mate t.0) r t.2))

  pub beside_near : (r s j : ℕ) → (s ≡ p) ⊎ (s ≡ q) → 1 ≤ j → j ≤ 2 → A.mate (port r 0) ≡ port s j → Has (neighbours A p q) r
  beside_near r s j side h l e =
      flat_has (λ x. cell_at (A.mate x)) (ports p q) (port s j) r (port_at s j side h l) (cell_has (A.mate (port s j)) r (turn (port r 0) (port s j) e))

  -- no cell is noted twice
  pub near_apart : p ≢ q → Apart (neighbours A p q)
  near_apart pq =
      apart_flat (λ x. cell_at (A.mate x)) (ports p q) (ports_apart pq) (λ x. one_cell (A.mate x))
      (λ x y r f g. sym (twice x) ∙ ap A.mate (has_cell (A.mate x) r f ∙ sym (has_cell (A.mate y) r g)) ∙ twice y)

-- the ports as the code names them
abbrev pub seen : ℕ → ℕ → List Seen
seen p q = Port p 1 ∷ Port p 2 ∷ Port q 1 ∷ Port q 2 ∷ []

seen_auxiliary : (p q i : ℕ) (d : Seen) → i < 4 → (r : ℕ) → at (get_or (seen p q) i d) ≢ port r 0
seen_auxiliary p q zero d h r e = let z : ◌≡◌ {A = ℕ} 1 0 = cc in absurd (omega arith)
seen_auxiliary p q (suc zero) d h r e = let z : ◌≡◌ {A = ℕ} 2 0 = cc in absurd (omega arith)
seen_auxiliary p q (suc (suc zero)) d h r e = let z : ◌≡◌ {A = ℕ} 1 0 = cc in absurd (omega arith)
seen_auxiliary p q (suc (suc (suc zero))) d h r e = let z : ◌≡◌ {A = ℕ} 2 0 = cc in absurd (omega arith)
seen_auxiliary p q (suc (suc (suc (suc i)))) d h r e = absurd (omega arith)

-- the next of them
pub seen_more : (A : Net) (p q i : ℕ) (d : Seen) (o : Option ℕ) → i < 4 → Across A (at (get_or (seen p q) i d)) o →
    flat_map (λ x. cell_at (A.mate (at x))) (take i (seen p q)) ++ option_to_list o ≡ flat_map (λ x. cell_at (A.mate (at x))) (take (i + 1) (seen p q))
seen_more A p q i d o h a =
    ap (λ (l : List ℕ). flat_map (λ x. cell_at (A.mate (at x))) (take i (seen p q)) ++ l) (noted_across A (at (get_or (seen p q) i d)) o (seen_auxiliary p q i d h) a)
    ∙ flat_map_more (λ x. cell_at (A.mate (at x))) [] (take i (seen p q)) (get_or (seen p q) i d)
    ∙ ap (flat_map (λ x. cell_at (A.mate (at x)))) (sym (take_more (seen p q) i d h))
