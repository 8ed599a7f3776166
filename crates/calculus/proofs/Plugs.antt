-- The spots that a rewriting splices. Assumes nothing.
use Rattle.std.proofs.Common.{◌≡◌, ℕ, zero, suc, ◌+◌, ◌≤◌, ◌≢◌, List, [], ◌∷◌, ◌++◌, ap, inl, inr, arith}
use Rattle.std.proofs.lemmas.Bool.{cases_lt}
use Rattle.calculus.specs.Spots.{Spot, end, port}
use Rattle.calculus.specs.Books.{RuleBook}
use Rattle.calculus.specs.Nets.{Pair}
use Rattle.calculus.proofs.Wires.{Out, Ready}
use Rattle.calculus.proofs.Splice.{Apart}
use Rattle.calculus.proofs.Beside.{end≢port}
use Rattle.calculus.proofs.Wiring.{ports}

-- ports 1 to n of the one with ports 1 to n of the other
abbrev pub wires : ℕ → ℕ → ℕ → List (Spot × Spot)
wires p g zero = []
wires p g (suc n) = (port p (suc n), port g (suc n)) ∷ wires p g n

-- the auxiliary ports of the pair with the rule's gates
abbrev pub gates : RuleBook → ℕ → Pair → List (Spot × Spot)
gates K n P = wires P.left (n + 4) (ports K P.rule.left) ++ wires P.right (n + 5) (ports K P.rule.right)

-- and the two principal ports with each other
abbrev pub plugs : RuleBook → ℕ → Pair → List (Spot × Spot)
plugs K n P = (port P.left 0, port P.right 0) ∷ gates K n P

pub out_wires : (x : Spot) (p g n : ℕ) → ((i : ℕ) → 1 ≤ i → i ≤ n → (x ≢ port p i) × (x ≢ port g i)) → Out x (wires p g n)
out_wires x p g zero h = tt
out_wires x p g (suc n) h =
    let t = h (suc n) (omega arith) (omega arith) in
    (t.0, t.1, out_wires x p g n (λ i a b. h i a (omega arith)))

pub in_left : (p g n j : ℕ) → 1 ≤ j → j ≤ n → Out (port p j) (wires p g n) → ⊥
in_left p g zero j a b o = omega arith
in_left p g (suc n) j a b o =
    elim (cases_lt j (suc n)) [
      | inl h ↦ in_left p g n j a (omega arith) o.2
      | inr h ↦ (let e : j ≡ suc n = omega arith in o.0 (ap (port p) e))
    ]

pub in_right : (p g n j : ℕ) → 1 ≤ j → j ≤ n → Out (port g j) (wires p g n) → ⊥
in_right p g zero j a b o = omega arith
in_right p g (suc n) j a b o =
    elim (cases_lt j (suc n)) [
      | inl h ↦ in_right p g n j a (omega arith) o.2
      | inr h ↦ (let e : j ≡ suc n = omega arith in o.1 (ap (port g) e))
    ]

pub ready_wires : (m : Spot → Spot) (p g n : ℕ) → p ≢ g → ((i : ℕ) → 1 ≤ i → i ≤ n → (m (port p i) ≢ port p i) × (m (port g i) ≢ port g i)) → Ready (wires p g n) m
ready_wires m p g zero pg h = tt
ready_wires m p g (suc n) pg h =
    let t = h (suc n) (omega arith) (omega arith) in (
      (λ e. pg (cc)),
      t.0,
      t.1,
      out_wires (port p (suc n)) p g n (λ i a b. ((λ e. let z : suc n ≡ i = cc in omega arith), (λ e. pg (cc)))),
      out_wires (port g (suc n)) p g n (λ i a b. ((λ e. pg (cc)), (λ e. let z : suc n ≡ i = cc in omega arith))),
      ready_wires m p g n pg (λ i a b. h i a (omega arith)),
    )

pub out_append : (x : Spot) (xs ys : List (Spot × Spot)) → Out x xs → Out x ys → Out x (xs ++ ys)
out_append x [] ys a b = b
out_append x (s ∷ xs) ys a b = (a.0, a.1, out_append x xs ys a.2 b)

pub out_front : (x : Spot) (xs ys : List (Spot × Spot)) → Out x (xs ++ ys) → Out x xs
out_front x [] ys a = tt
out_front x (s ∷ xs) ys a = (a.0, a.1, out_front x xs ys a.2)

pub out_rear : (x : Spot) (xs ys : List (Spot × Spot)) → Out x (xs ++ ys) → Out x ys
out_rear x [] ys a = a
out_rear x (s ∷ xs) ys a = out_rear x xs ys a.2

pub ready-append : (m : Spot → Spot) (xs ys : List (Spot × Spot)) → Ready xs m → Ready ys m → Apart xs ys → Ready (xs ++ ys) m
ready-append m [] ys a b s = b
ready-append m (x ∷ xs) ys a b s =
    (a.0, a.1, a.2, out_append x.0 xs ys a.3 s.0, out_append x.1 xs ys a.4 s.1, ready-append m xs ys a.5 b s.2)

pub ready_front : (m : Spot → Spot) (xs ys : List (Spot × Spot)) → Ready (xs ++ ys) m → Ready xs m
ready_front m [] ys r = tt
ready_front m (x ∷ xs) ys r = (r.0, r.1, r.2, out_front x.0 xs ys r.3, out_front x.1 xs ys r.4, ready_front m xs ys r.5)

pub ready_rear : (m : Spot → Spot) (xs ys : List (Spot × Spot)) → Ready (xs ++ ys) m → Ready ys m
ready_rear m [] ys r = r
ready_rear m (x ∷ xs) ys r = ready_rear m xs ys r.5

pub ready_apart : (m : Spot → Spot) (xs ys : List (Spot × Spot)) → Ready (xs ++ ys) m → Apart xs ys
ready_apart m [] ys r = tt
ready_apart m (x ∷ xs) ys r = (out_rear x.0 xs ys r.3, out_rear x.1 xs ys r.4, ready_apart m xs ys r.5)

pub apart_wires : (p g n : ℕ) (ys : List (Spot × Spot)) → ((i : ℕ) → Out (port p i) ys × Out (port g i) ys) → Apart (wires p g n) ys
apart_wires p g zero ys h = tt
apart_wires p g (suc n) ys h = ((h (suc n)).0, (h (suc n)).1, apart_wires p g n ys h)

pub apart-append : (xs ys zs : List (Spot × Spot)) → Apart xs zs → Apart ys zs → Apart (xs ++ ys) zs
apart-append [] ys zs a b = b
apart-append (x ∷ xs) ys zs a b = (a.0, a.1, apart-append xs ys zs a.2 b)

pub other_place : (r j p g n : ℕ) → r ≢ p → r ≢ g → Out (port r j) (wires p g n)
other_place r j p g n a b = out_wires (port r j) p g n (λ i h k. ((λ e. a (cc)), (λ e. b (cc))))

module _ (K : RuleBook) (n : ℕ) (P : Pair) where
  lefts : List (Spot × Spot)
  lefts = wires P.left (n + 4) (ports K P.rule.left)

  rights : List (Spot × Spot)
  rights = wires P.right (n + 5) (ports K P.rule.right)

  -- which spots are spliced
  pub out_plugs : (r j : ℕ) → r ≢ P.left → r ≢ P.right → r ≢ n + 4 → r ≢ n + 5 → Out (port r j) (plugs K n P)
  unfolding lefts rights
  out_plugs r j h i k l = (
    (λ e. h (cc)),
    (λ e. i (cc)),
    out_append (port r j) lefts rights (other_place r j P.left (n + 4) (ports K P.rule.left) h k) (other_place r j P.right (n + 5) (ports K P.rule.right) i l),
  )

  end_out : (e p g k : ℕ) → Out (end e) (wires p g k)
  end_out e p g k = out_wires (end e) p g k (λ i a b. ((λ z. end≢port e p i z), (λ z. end≢port e g i z)))

  pub end_plugs : (e : ℕ) → Out (end e) (plugs K n P)
  unfolding lefts rights
  end_plugs e = (
    (λ z. end≢port e P.left 0 z),
    (λ z. end≢port e P.right 0 z),
    out_append (end e) lefts rights (end_out e P.left (n + 4) (ports K P.rule.left)) (end_out e P.right (n + 5) (ports K P.rule.right)),
  )

-- the spots of two rewritings
pub apart_plugs : (K : RuleBook) (n m : ℕ) (P Q : Pair) → ((j : ℕ) → Out (port P.left j) (plugs K m Q)) → ((j : ℕ) → Out (port P.right j) (plugs K m Q)) →
    ((j : ℕ) → Out (port (n + 4) j) (plugs K m Q)) → ((j : ℕ) → Out (port (n + 5) j) (plugs K m Q)) → Apart (plugs K n P) (plugs K m Q)
apart_plugs K n m P Q hp hq h4 h5 = (
  hp 0,
  hq 0,
  apart-append (wires P.left (n + 4) (ports K P.rule.left)) (wires P.right (n + 5) (ports K P.rule.right)) (plugs K m Q)
      (apart_wires P.left (n + 4) (ports K P.rule.left) (plugs K m Q) (λ i. (hp i, h4 i)))
      (apart_wires P.right (n + 5) (ports K P.rule.right) (plugs K m Q) (λ i. (hq i, h5 i))),
)
