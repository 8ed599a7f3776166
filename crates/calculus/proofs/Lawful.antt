-- The laws of a rule book by one computed test. Assumes nothing.
use Rattle.std.proofs.Common.{◌≡◌, ℕ, zero, suc, ◌<◌, ◌≤◌, Bool, true, false, cond, not, ◌&&◌, ◌||◌, eqb, leb, ◌≢◌, ◌⊎◌, List, [], ◌∷◌, ◌++◌, map, length, get_or, Some, None, Option, sym, refl, ap, ◌∙◌, subst, inl, inr, arith}
use Rattle.std.specs.List.{slice_get}
use Rattle.std.proofs.lemmas.Option.{slice_get-get_or, slice_get_past}
use Rattle.std.proofs.lemmas.Bool.{and_parts, and_from, or_cases, or_left, or_right, both_ways, not-true, leb-true, le-leb, eqb-true, eq-eqb, cases_lt}
use Rattle.calculus.specs.Books.{RulePort, L, R, N, Rule, RuleBook, HasPort, Wired, Leaving, Entering, exchange, Symmetric, RuleLaws, Laws}
use Rattle.calculus.specs.Combinators.{combinators}
use Rattle.calculus.specs.Combinators.{arities as γδε}
use Rattle.calculus.specs.Counts.{counts}
use Rattle.calculus.specs.Counts.{arities as ZSA}
use Rattle.calculus.proofs.Tests.{every?, every_at, some?, some_one, below?, below_at, if?, if_then, pass?, passed, nth_within}

-- ── ports ──

-- the two are one port
abbrev pub same? : RulePort → RulePort → Bool
same? (L i) (L j) = eqb i j
same? (L i) (R j) = false
same? (L i) (N j l) = false
same? (R i) (L j) = false
same? (R i) (R j) = eqb i j
same? (R i) (N j l) = false
same? (N i k) (L j) = false
same? (N i k) (R j) = false
same? (N i k) (N j l) = eqb i j && eqb k l

pub same_port : (x y : RulePort) → same? x y ≡ true → x ≡ y
same_port (L i) (L j) t = ap L (eqb-true i j t)
same_port (L i) (R j) t = absurd (both_ways false refl t)
same_port (L i) (N j l) t = absurd (both_ways false refl t)
same_port (R i) (L j) t = absurd (both_ways false refl t)
same_port (R i) (R j) t = ap R (eqb-true i j t)
same_port (R i) (N j l) t = absurd (both_ways false refl t)
same_port (N i k) (L j) t = absurd (both_ways false refl t)
same_port (N i k) (R j) t = absurd (both_ways false refl t)
same_port (N i k) (N j l) t =
    let p = and_parts (eqb i j) (eqb k l) t in
    let e = eqb-true i j p.0 in
    let f = eqb-true k l p.1 in
    cc

pub same_self : (x : RulePort) → same? x x ≡ true
same_self (L i) = eq-eqb i i refl
same_self (R i) = eq-eqb i i refl
same_self (N i k) = and_from (eqb i i) (eqb k k) (eq-eqb i i refl) (eq-eqb k k refl)

-- the port stands in the list
abbrev in? : RulePort → List RulePort → Bool
in? x [] = false
in? x (y ∷ ys) = same? x y || in? x ys

-- no port stands in the list twice
abbrev distinct? : List RulePort → Bool
distinct? [] = true
distinct? (x ∷ xs) = not (in? x xs) && distinct? xs

in_front : (x y : RulePort) (ys : List RulePort) → x ≡ y → in? x (y ∷ ys) ≡ true
in_front x y ys e = or_left (same? x y) (in? x ys) (subst (λ v. same? x v ≡ true) e (same_self x))

in_rest : (x y : RulePort) (ys : List RulePort) → in? x ys ≡ true → in? x (y ∷ ys) ≡ true
in_rest x y ys t = or_right (same? x y) (in? x ys) t

-- ── wires ──

-- both ports of each wire
abbrev ports : List (RulePort × RulePort) → List RulePort
ports [] = []
ports (p ∷ ps) = p.0 ∷ p.1 ∷ ports ps

pub wired_back : (ws : List (RulePort × RulePort)) (x y : RulePort) → Wired ws x y → Wired ws y x
wired_back [] x y h = h
wired_back (p ∷ ps) x y (inl h) = inr (inl (h.1, h.0))
wired_back (p ∷ ps) x y (inr (inl h)) = inl (h.1, h.0)
wired_back (p ∷ ps) x y (inr (inr h)) = inr (inr (wired_back ps x y h))

wired_in : (ws : List (RulePort × RulePort)) (x y : RulePort) → Wired ws x y → in? x (ports ws) ≡ true
wired_in [] x y h = absurd h
wired_in (p ∷ ps) x y (inl h) = in_front x p.0 (p.1 ∷ ports ps) h.0
wired_in (p ∷ ps) x y (inr (inl h)) = in_rest x p.0 (p.1 ∷ ports ps) (in_front x p.1 (ports ps) h.0)
wired_in (p ∷ ps) x y (inr (inr h)) =
    in_rest x p.0 (p.1 ∷ ports ps) (in_rest x p.1 (ports ps) (wired_in ps x y h))

in_wired : (ws : List (RulePort × RulePort)) (x : RulePort) → in? x (ports ws) ≡ true → (y : RulePort) × Wired ws x y
in_wired [] x t = absurd (both_ways false refl t)
in_wired (p ∷ ps) x t =
    elim (or_cases (same? x p.0) (in? x (p.1 ∷ ports ps)) t) [
      | inl e ↦ (p.1, inl (same_port x p.0 e, refl))
      | inr r ↦
          elim (or_cases (same? x p.1) (in? x (ports ps)) r) [
            | inl e ↦ (p.0, inr (inl (same_port x p.1 e, refl)))
            | inr s ↦ let more = in_wired ps x s in (more.0, inr (inr more.1))
          ]
    ]

-- where no port is on two wires, the ports of the first wire are apart and on no other
record Apart (p : RulePort × RulePort) (ps : List (RulePort × RulePort)) : Type 0 where
  ends : p.0 ≢ p.1
  first : (y : RulePort) → Wired ps p.0 y → ⊥
  second : (y : RulePort) → Wired ps p.1 y → ⊥
  rest : distinct? (ports ps) ≡ true

apart : (p : RulePort × RulePort) (ps : List (RulePort × RulePort)) → distinct? (ports (p ∷ ps)) ≡ true → Apart p ps
apart p ps t =
    let a = and_parts (not (in? p.0 (p.1 ∷ ports ps))) (distinct? (p.1 ∷ ports ps)) t in
    let b = and_parts (not (in? p.1 (ports ps))) (distinct? (ports ps)) a.1 in
    let out = not-true (in? p.0 (p.1 ∷ ports ps)) a.0 in
    record {
      ends = λ e. both_ways _ out (in_front p.0 p.1 (ports ps) e);
      first = λ y h. both_ways _ out (in_rest p.0 p.1 (ports ps) (wired_in ps p.0 y h));
      second = λ y h. both_ways _ (not-true (in? p.1 (ports ps)) b.0) (wired_in ps p.1 y h);
      rest = b.1;
    }

with_one : (ws : List (RulePort × RulePort)) → distinct? (ports ws) ≡ true → (x y z : RulePort) → Wired ws x y → Wired ws x z → y ≡ z
with_one [] t x y z h k = absurd h
with_one (p ∷ ps) t x y z (inl h) (inl k) = h.1 ∙ sym k.1
with_one (p ∷ ps) t x y z (inl h) (inr (inl k)) = absurd ((apart p ps t).ends (sym h.0 ∙ k.0))
with_one (p ∷ ps) t x y z (inl h) (inr (inr k)) = absurd ((apart p ps t).first z (subst (λ v. Wired ps v z) h.0 k))
with_one (p ∷ ps) t x y z (inr (inl h)) (inl k) = absurd ((apart p ps t).ends (sym k.0 ∙ h.0))
with_one (p ∷ ps) t x y z (inr (inl h)) (inr (inl k)) = h.1 ∙ sym k.1
with_one (p ∷ ps) t x y z (inr (inl h)) (inr (inr k)) =
    absurd ((apart p ps t).second z (subst (λ v. Wired ps v z) h.0 k))
with_one (p ∷ ps) t x y z (inr (inr h)) (inl k) = absurd ((apart p ps t).first y (subst (λ v. Wired ps v y) k.0 h))
with_one (p ∷ ps) t x y z (inr (inr h)) (inr (inl k)) =
    absurd ((apart p ps t).second y (subst (λ v. Wired ps v y) k.0 h))
with_one (p ∷ ps) t x y z (inr (inr h)) (inr (inr k)) = with_one ps (apart p ps t).rest x y z h k

with_other : (ws : List (RulePort × RulePort)) → distinct? (ports ws) ≡ true → (x y : RulePort) → Wired ws x y → x ≢ y
with_other [] t x y h e = h
with_other (p ∷ ps) t x y (inl h) e = (apart p ps t).ends (sym h.0 ∙ e ∙ h.1)
with_other (p ∷ ps) t x y (inr (inl h)) e = (apart p ps t).ends (sym h.1 ∙ sym e ∙ h.0)
with_other (p ∷ ps) t x y (inr (inr h)) e = with_other ps (apart p ps t).rest x y h e

-- ── the ports that a rule has to pair ──

-- a cell whose kind has this arity, if the book has the kind, has a port j
abbrev pub fits? : ℕ → Option ℕ → Bool
fits? j None = false
fits? j (Some a) = leb j a

abbrev pub has? : RuleBook → ℕ → ℕ → Bool
has? K k j = fits? j (K.arity k)

fits_at : (j : ℕ) (o : Option ℕ) → fits? j o ≡ true → (a : ℕ) × (o ≡ Some a) × (j ≤ a)
fits_at j None t = absurd (both_ways false refl t)
fits_at j (Some a) t = (a, refl, leb-true j a t)

pub has_port : (K : RuleBook) (k j : ℕ) → has? K k j ≡ true → HasPort K k j
has_port K k j t = fits_at j (K.arity k) t

pub port_has : (K : RuleBook) (k j : ℕ) → HasPort K k j → has? K k j ≡ true
port_has K k j h = subst (λ o. fits? j o ≡ true) (sym h.1) (le-leb j h.0 h.2)

module _ (K : RuleBook) where
  -- port j of a new cell, if there is one
  abbrev cell? : Option ℕ → ℕ → Bool
  cell? None j = false
  cell? (Some k) j = has? K k j

  cell_at : (o : Option ℕ) (j : ℕ) → cell? o j ≡ true → (k : ℕ) × (o ≡ Some k) × HasPort K k j
  cell_at None j t = absurd (both_ways false refl t)
  cell_at (Some k) j t = (k, refl, has_port K k j t)

  module _ (w : Rule) where
    abbrev due? : RulePort → Bool
    due? (L j) = leb 1 j && has? K w.left j
    due? (R j) = leb 1 j && has? K w.right j
    due? (N i j) = cell? (slice_get w.cells i) j

    due_port : (x : RulePort) → due? x ≡ true → Leaving K w x ⊎ Entering K w x
    due_port (L j) t =
        let p = and_parts (leb 1 j) (has? K w.left j) t in
        inl (leb-true 1 j p.0, has_port K w.left j p.1)
    due_port (R j) t =
        let p = and_parts (leb 1 j) (has? K w.right j) t in
        inl (leb-true 1 j p.0, has_port K w.right j p.1)
    due_port (N i j) t = inr (cell_at (slice_get w.cells i) j t)

    port_due : (x : RulePort) → Leaving K w x ⊎ Entering K w x → due? x ≡ true
    port_due (L j) (inl h) = and_from (leb 1 j) (has? K w.left j) (le-leb 1 j h.0) (port_has K w.left j h.1)
    port_due (L j) (inr h) = absurd h
    port_due (R j) (inl h) =
        and_from (leb 1 j) (has? K w.right j) (le-leb 1 j h.0) (port_has K w.right j h.1)
    port_due (R j) (inr h) = absurd h
    port_due (N i j) (inl h) = absurd h
    port_due (N i j) (inr h) = subst (λ o. cell? o j ≡ true) (sym h.1) (port_has K h.0 j h.2)

    -- each port that is due, of L, of R and of the new cells, is on a wire
    abbrev met? : RulePort → Bool
    met? x = if? (due? x) (in? x (ports w.wires))

    abbrev all_met : List Bool
    all_met =
        below? (λ j. met? (L j)) 3
        ∷ below? (λ j. met? (R j)) 3
        ∷ below? (λ i. below? (λ j. met? (N i j)) 3) 4
        ∷ []

    module _ (small : (k j : ℕ) → HasPort K k j → j < 3) (few : length w.cells ≤ 4) (t : pass? all_met ≡ true) where
      met_at : (x : RulePort) → Leaving K w x ⊎ Entering K w x → met? x ≡ true
      met_at (L j) (inl h) = below_at (λ j. met? (L j)) 3 (passed all_met t 0 _ refl) j (small w.left j h.1)
      met_at (L j) (inr h) = absurd h
      met_at (R j) (inl h) = below_at (λ j. met? (R j)) 3 (passed all_met t 1 _ refl) j (small w.right j h.1)
      met_at (R j) (inr h) = absurd h
      met_at (N i j) (inl h) = absurd h
      met_at (N i j) (inr h) =
          let within = nth_within w.cells i h.0 h.1 in
          let row = below_at (λ i. below? (λ j. met? (N i j)) 3) 4 (passed all_met t 2 _ refl) i (omega arith) in
          below_at (λ j. met? (N i j)) 3 row j (small h.0 j h.2)

      pairs_all : (x : RulePort) → Leaving K w x ⊎ Entering K w x → (y : RulePort) × Wired w.wires x y
      pairs_all x h = in_wired w.wires x (if_then (due? x) (in? x (ports w.wires)) (met_at x h) (port_due x h))

    -- each port on a wire is due
    only_at : (ws : List (RulePort × RulePort)) → every? due? (ports ws) ≡ true → (x y : RulePort) → Wired ws x y → due? x ≡ true
    only_at [] t x y h = absurd h
    only_at (p ∷ ps) t x y (inl h) =
        subst (λ v. due? v ≡ true) (sym h.0) (and_parts (due? p.0) (every? due? (p.1 ∷ ports ps)) t).0
    only_at (p ∷ ps) t x y (inr (inl h)) =
        let r = (and_parts (due? p.0) (every? due? (p.1 ∷ ports ps)) t).1 in
        subst (λ v. due? v ≡ true) (sym h.0) (and_parts (due? p.1) (every? due? (ports ps)) r).0
    only_at (p ∷ ps) t x y (inr (inr h)) =
        let r = (and_parts (due? p.0) (every? due? (p.1 ∷ ports ps)) t).1 in
        only_at ps (and_parts (due? p.1) (every? due? (ports ps)) r).1 x y h

-- ── changing sides ──

-- some wire of the list joins the two
abbrev wired? : List (RulePort × RulePort) → RulePort → RulePort → Bool
wired? [] x y = false
wired? (p ∷ ps) x y = (same? x p.0 && same? y p.1) || ((same? x p.1 && same? y p.0) || wired? ps x y)

wired_at : (ws : List (RulePort × RulePort)) (x y : RulePort) → wired? ws x y ≡ true → Wired ws x y
wired_at [] x y t = absurd (both_ways false refl t)
wired_at (p ∷ ps) x y t =
    let straight = same? x p.0 && same? y p.1 in
    let turned = same? x p.1 && same? y p.0 in
    elim (or_cases straight (turned || wired? ps x y) t) [
      | inl e ↦
          let b = and_parts (same? x p.0) (same? y p.1) e in
          inl (same_port x p.0 b.0, same_port y p.1 b.1)
      | inr r ↦
          elim (or_cases turned (wired? ps x y) r) [
            | inl e ↦
                let b = and_parts (same? x p.1) (same? y p.0) e in
                inr (inl (same_port x p.1 b.0, same_port y p.0 b.1))
            | inr s ↦ inr (inr (wired_at ps x y s))
          ]
    ]

-- a new cell of the kind k
abbrev pub kind? : ℕ → Option ℕ → Bool
kind? k None = false
kind? k (Some l) = eqb l k

pub kind_at : (k : ℕ) (o : Option ℕ) → kind? k o ≡ true → o ≡ Some k
kind_at k None t = absurd (both_ways false refl t)
kind_at k (Some l) t = ap Some (eqb-true l k t)

module _ (w : Rule) (to from : ℕ → ℕ) where
  -- one renumbering keeps the kind of the new cell i, and the other brings it back
  abbrev kept? : (ℕ → ℕ) → (ℕ → ℕ) → ℕ → Bool
  kept? f g i = kind? (get_or w.cells i 0) (slice_get w.cells (f i)) && eqb (g (f i)) i

  -- the two are wired after the exchange too
  abbrev crossed? : RulePort × RulePort → Bool
  crossed? p = wired? w.wires (exchange to p.0) (exchange to p.1)

  abbrev turning : List Bool
  turning =
      below? (kept? to from) (length w.cells)
      ∷ below? (kept? from to) (length w.cells)
      ∷ every? crossed? w.wires
      ∷ []

  kept_at : (f g : ℕ → ℕ) → below? (kept? f g) (length w.cells) ≡ true → (i k : ℕ) → slice_get w.cells i ≡ Some k → (slice_get w.cells (f i) ≡ Some k) × (g (f i) ≡ i)
  kept_at f g t i k e =
      let within = nth_within w.cells i k e in
      let b = and_parts (kind? (get_or w.cells i 0) (slice_get w.cells (f i))) (eqb (g (f i)) i) (below_at (kept? f g) (length w.cells) t i within) in
      let here = kind_at (get_or w.cells i 0) (slice_get w.cells (f i)) b.0 in
      let there = slice_get-get_or w.cells i 0 within in
      (here ∙ sym there ∙ e, eqb-true (g (f i)) i b.1)

  wires_at : (ws : List (RulePort × RulePort)) → every? crossed? ws ≡ true → (x y : RulePort) → Wired ws x y → Wired w.wires (exchange to x) (exchange to y)
  wires_at [] t x y h = absurd h
  wires_at (p ∷ ps) t x y h =
      let b = and_parts (crossed? p) (every? crossed? ps) t in
      let one = wired_at w.wires (exchange to p.0) (exchange to p.1) b.0 in
      elim h [
        | inl e ↦ rw (e.0, e.1) one
        | inr r ↦
            elim r [
              | inl e ↦ rw (e.0, e.1) (wired_back w.wires (exchange to p.0) (exchange to p.1) one)
              | inr s ↦ wires_at ps b.1 x y s
            ]
      ]

  turns : pass? turning ≡ true → Symmetric w
  turns t =
      record {
        to = to;
        from = from;
        cells = kept_at to from (passed turning t 0 _ refl);
        back = kept_at from to (passed turning t 1 _ refl);
        wires = wires_at w.wires (passed turning t 2 _ refl);
      }

-- where i stands in the list
abbrev place : List ℕ → ℕ → ℕ
place [] i = 0
place (x ∷ xs) i = cond (eqb x i) 0 (suc (place xs i))

-- x put in at every place of the list, and so every order of the numbers below n
abbrev put_in : ℕ → List ℕ → List (List ℕ)
put_in x [] = (x ∷ []) ∷ []
put_in x (y ∷ ys) = (x ∷ y ∷ ys) ∷ map (λ zs. y ∷ zs) (put_in x ys)

abbrev put_in_each : ℕ → List (List ℕ) → List (List ℕ)
put_in_each x [] = []
put_in_each x (ys ∷ yss) = put_in x ys ++ put_in_each x yss

abbrev orders : ℕ → List (List ℕ)
orders zero = [] ∷ []
orders (suc n) = put_in_each n (orders n)

-- some renumbering of the new cells makes the rule with L and R exchanged the same rule
abbrev symmetric? : Rule → Bool
symmetric? w = some? (λ o. pass? (turning w (λ i. get_or o i 0) (place o))) (orders (length w.cells))

symmetric : (w : Rule) → symmetric? w ≡ true → Symmetric w
symmetric w t =
    let found = some_one (λ o. pass? (turning w (λ i. get_or o i 0) (place o))) (orders (length w.cells)) t in
    turns w (λ i. get_or found.0 i 0) (place found.0) found.1

-- ── one rule ──

module _ (K : RuleBook) (w : Rule) where
  -- the tests of a rule: first its kinds, then its wires, then whether its cells may change sides
  abbrev of_rule : List Bool
  of_rule =
      leb w.left w.right
      ∷ has? K w.left 0
      ∷ has? K w.right 0
      ∷ leb (length w.cells) 4
      ∷ every? (λ k. has? K k 0) w.cells
      ∷ pass? (all_met K w)
      ∷ every? (due? K w) (ports w.wires)
      ∷ distinct? (ports w.wires)
      ∷ if? (eqb w.left w.right) (symmetric? w)
      ∷ []

  rule_laws : ((k j : ℕ) → HasPort K k j → j < 3) → pass? of_rule ≡ true → RuleLaws K w
  rule_laws small t =
      let few = leb-true (length w.cells) 4 (passed of_rule t 3 _ refl) in
      let apart = passed of_rule t 7 _ refl in
      record {
        order = leb-true w.left w.right (passed of_rule t 0 _ refl);
        left_kind = has_port K w.left 0 (passed of_rule t 1 _ refl);
        right_kind = has_port K w.right 0 (passed of_rule t 2 _ refl);
        few = few;
        cell_kinds = λ i k e. has_port K k 0 (every_at (λ k. has? K k 0) w.cells (passed of_rule t 4 _ refl) i k e);
        pairs_all = pairs_all K w small few (passed of_rule t 5 _ refl);
        pairs_only = λ x y h. due_port K w x (only_at K w w.wires (passed of_rule t 6 _ refl) x y h);
        with_one = with_one w.wires apart;
        with_other = with_other w.wires apart;
        symmetric =
            λ e.
            symmetric w
            (if_then (eqb w.left w.right) (symmetric? w) (passed of_rule t 8 _ refl) (eq-eqb w.left w.right e));
      }

-- ── a book ──

-- the rule is for the same two kinds
abbrev alike? : Rule → Rule → Bool
alike? v w = eqb v.left w.left && eqb v.right w.right

-- no two rules are for the same two kinds
abbrev single? : List Rule → Bool
single? [] = true
single? (w ∷ ws) = every? (λ v. not (alike? w v)) ws && single? ws

unlike : (w v : Rule) → not (alike? w v) ≡ true → w.left ≡ v.left → w.right ≡ v.right → ⊥
unlike w v t e f =
    both_ways (alike? w v) (not-true (alike? w v) t)
    (and_from (eqb w.left v.left) (eqb w.right v.right) (eq-eqb w.left v.left e) (eq-eqb w.right v.right f))

single : (ws : List Rule) → single? ws ≡ true → (i j : ℕ) (v w : Rule) → slice_get ws i ≡ Some v → slice_get ws j ≡ Some w → v.left ≡ w.left → v.right ≡ w.right → i ≡ j
single [] t i j v w a b e f = let z : ◌≡◌ {A = ℕ} 0 1 = cc in absurd (omega arith)
single (r ∷ rs) t zero zero v w a b e f = refl
single (r ∷ rs) t zero (suc j) v w a b e f =
    let p = and_parts (every? (λ u. not (alike? r u)) rs) (single? rs) t in
    let s : r ≡ v = cc in
    absurd (unlike r w (every_at (λ u. not (alike? r u)) rs p.0 j w b) (ap (λ u. u.left) s ∙ e) (ap (λ u. u.right) s ∙ f))
single (r ∷ rs) t (suc i) zero v w a b e f =
    let p = and_parts (every? (λ u. not (alike? r u)) rs) (single? rs) t in
    let s : r ≡ w = cc in
    absurd (unlike r v (every_at (λ u. not (alike? r u)) rs p.0 i v a) (ap (λ u. u.left) s ∙ sym e) (ap (λ u. u.right) s ∙ sym f))
single (r ∷ rs) t (suc i) (suc j) v w a b e f =
    ap suc (single rs (and_parts (every? (λ u. not (alike? r u)) rs) (single? rs) t).1 i j v w a b e f)

-- the arity, if the book has the kind, is at most two
abbrev small? : Option ℕ → Bool
small? None = true
small? (Some a) = leb a 2

small_at : (o : Option ℕ) (a : ℕ) → small? o ≡ true → o ≡ Some a → a ≤ 2
small_at o a t e = leb-true a 2 (subst (λ p. small? p ≡ true) e t)

-- the tests of a book
abbrev of_book : RuleBook → List Bool
of_book K =
    leb K.number 63
    ∷ below? (λ k. small? (K.arity k)) 64
    ∷ every? (λ w. pass? (of_rule K w)) K.rules
    ∷ single? K.rules
    ∷ []

-- the one test of a book whose kinds are below 64
abbrev pub lawful? : RuleBook → Bool
lawful? K = pass? (of_book K)

-- a book that has no kind from 64 on keeps the laws where the test passes
pub lawful : (K : RuleBook) → ((k : ℕ) → 64 ≤ k → K.arity k ≡ None) → lawful? K ≡ true → Laws K
lawful K beyond t =
    record {
      number = leb-true K.number 63 (passed (of_book K) t 0 _ refl);
      kinds = known;
      rules =
          λ i w e.
          rule_laws K w (λ k j h. let n = known k h.0 h.1 in omega arith)
          (every_at (λ w. pass? (of_rule K w)) K.rules (passed (of_book K) t 2 _ refl) i w e);
      single = single K.rules (passed (of_book K) t 3 _ refl);
    }
  where
    known : (k a : ℕ) → K.arity k ≡ Some a → (k ≤ 63) × (a ≤ 2)
    known k a e =
        elim (cases_lt k 64) [
          | inl less ↦
              let s = below_at (λ k. small? (K.arity k)) 64 (passed (of_book K) t 1 _ refl) k less in
              (omega arith, small_at (K.arity k) a s e)
          | inr more ↦ let n = beyond k more in let z : ◌≡◌ {A = ℕ} 0 1 = cc in absurd (omega arith)
        ]

-- ── the two books ──

pub combinators_lawful : Laws combinators
combinators_lawful = lawful combinators (λ k h. slice_get_past γδε k (omega arith)) refl

pub counts_lawful : Laws counts
counts_lawful = lawful counts (λ k h. slice_get_past ZSA k (omega arith)) refl
