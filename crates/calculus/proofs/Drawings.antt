-- Nets given as data, checked by computing: well formed, at rest, alike. Assumes nothing.
use Rattle.std.proofs.Common.{◌≡◌, ℕ, suc, ◌<◌, Bool, true, false, not, ◌&&◌, ◌||◌, eqb, leb, ◌≢◌, List, [], ◌∷◌, length, Some, None, Option, sym, refl, ap, ◌∙◌, subst, inl, inr, arith}
use Rattle.std.specs.List.{slice_get}
use Rattle.std.proofs.lemmas.Bool.{and_parts, and_from, or_cases, both_ways, not-true, leb-true, le-leb, eqb-true, eq-eqb}
use Rattle.calculus.specs.Spots.{Spot, end, port, carry}
use Rattle.calculus.specs.Books.{Rule, RuleBook, HasPort, Laws}
use Rattle.calculus.specs.Nets.{Net, Stands, Good, AtRest}
use Rattle.calculus.specs.Alike.{Alike}
use Rattle.calculus.specs.Splicing.{same, Out}
use Rattle.calculus.specs.Drawn.{linked, Drawing, drawn}
use Rattle.calculus.proofs.Tests.{every?, every_at, below?, below_at, if?, if_then, pass?, passed, nth_within}
use Rattle.calculus.proofs.Lawful.{has?, has_port, port_has, kind?, kind_at}
use Rattle.calculus.proofs.Wires.{Partner}
use Rattle.calculus.proofs.Splice.{same_yes, same_no, same_true, Mutual}
use Rattle.calculus.proofs.Closings.{find}
use Rattle.calculus.proofs.Leads.{partner_back}
use Rattle.calculus.proofs.Rewrite.{Sized}

-- ── links ──

abbrev apart? : Spot → List (Spot × Spot) → Bool
apart? x [] = true
apart? x (l ∷ ls) = not (same x l.0) && (not (same x l.1) && apart? x ls)

-- no spot is on two links
abbrev distinct? : List (Spot × Spot) → Bool
distinct? [] = true
distinct? (l ∷ ls) = not (same l.0 l.1) && (apart? l.0 ls && (apart? l.1 ls && distinct? ls))

abbrev Distinct : List (Spot × Spot) → Type 0
Distinct [] = Unit {0}
Distinct (l ∷ ls) = (l.0 ≢ l.1) × Out l.0 ls × Out l.1 ls × Distinct ls

differ : (x y : Spot) → not (same x y) ≡ true → x ≢ y
differ x y t e = both_ways (same x y) (not-true (same x y) t) (same_yes x y e)

apart_at : (x : Spot) (ls : List (Spot × Spot)) → apart? x ls ≡ true → Out x ls
apart_at x [] t = tt
apart_at x (l ∷ ls) t =
    let p = and_parts (not (same x l.0)) (not (same x l.1) && apart? x ls) t in
    let q = and_parts (not (same x l.1)) (apart? x ls) p.1 in
    (differ x l.0 p.0, differ x l.1 q.0, apart_at x ls q.1)

distinct_at : (ls : List (Spot × Spot)) → distinct? ls ≡ true → Distinct ls
distinct_at [] t = tt
distinct_at (l ∷ ls) t =
    let p = and_parts (not (same l.0 l.1)) (apart? l.0 ls && (apart? l.1 ls && distinct? ls)) t in
    let q = and_parts (apart? l.0 ls) (apart? l.1 ls && distinct? ls) p.1 in
    let r = and_parts (apart? l.1 ls) (distinct? ls) q.1 in
    (differ l.0 l.1 p.0, apart_at l.0 ls q.0, apart_at l.1 ls r.0, distinct_at ls r.1)

linked_out : (ls : List (Spot × Spot)) (x : Spot) → Out x ls → linked ls x ≡ x
linked_out [] x o = refl
linked_out (l ∷ ls) x o =
    let ih = linked_out ls x o.2 in
    let e = same_no x l.0 o.0 in
    let f = same_no x l.1 o.1 in
    cc

not_both : (ls : List (Spot × Spot)) (x y : Spot) → Out x ls → Partner ls x y → ⊥
not_both [] x y o p = p
not_both (l ∷ ls) x y o (inl p) = o.0 p.0
not_both (l ∷ ls) x y o (inr (inl p)) = o.1 p.0
not_both (l ∷ ls) x y o (inr (inr p)) = not_both ls x y o.2 p

linked_in : (ls : List (Spot × Spot)) → Distinct ls → (x y : Spot) → Partner ls x y → linked ls x ≡ y
linked_in [] d x y p = absurd p
linked_in (l ∷ ls) d x y (inl p) = let e = same_yes x l.0 p.0 in let f = p.1 in cc
linked_in (l ∷ ls) d x y (inr (inl p)) =
    let e = same_no x l.0 (λ z. d.0 (sym z ∙ p.0)) in
    let g = same_yes x l.1 p.0 in
    let f = p.1 in
    cc
linked_in (l ∷ ls) d x y (inr (inr p)) =
    let ih = linked_in ls d.3 x y p in
    let e = same_no x l.0 (λ z. not_both ls x y (subst (λ t. Out t ls) (sym z) d.1) p) in
    let f = same_no x l.1 (λ z. not_both ls x y (subst (λ t. Out t ls) (sym z) d.2) p) in
    cc

linked_twice : (ls : List (Spot × Spot)) → Distinct ls → Mutual (linked ls)
linked_twice ls d x = elim (find ls x) [
  | inl t ↦ ap (linked ls) (linked_in ls d x t.0 t.1) ∙ linked_in ls d t.0 x (partner_back ls x t.0 t.1)
  | inr o ↦ ap (linked ls) (linked_out ls x o) ∙ linked_out ls x o
]

-- ── well formed ──

module _ (K : RuleBook) (D : Drawing) where
  abbrev of_cell? : Option ℕ → ℕ → Bool
  of_cell? None j = false
  of_cell? (Some k) j = has? K k j

  abbrev stands? : Spot → Bool
  stands? (end e) = leb (suc e) D.ends
  stands? (port r j) = of_cell? (slice_get D.kinds r) j

  of_cell_at : (o : Option ℕ) (j : ℕ) → of_cell? o j ≡ true → (k : ℕ) × (o ≡ Some k) × HasPort K k j
  of_cell_at None j t = absurd (both_ways false refl t)
  of_cell_at (Some k) j t = (k, refl, has_port K k j t)

  abbrev met? : Spot → Bool
  met? x = if? (stands? x) (not (same (linked D.links x) x))

  abbrev pub well_formed : List Bool
  well_formed =
      every? (λ k. has? K k 0) D.kinds
      ∷ distinct? D.links
      ∷ every? (λ l. stands? l.0 && stands? l.1) D.links
      ∷ below? (λ e. met? (end e)) D.ends
      ∷ below? (λ r. below? (λ j. met? (port r j)) 3) (length D.kinds)
      ∷ []

  module _ (laws : Laws K) (t : pass? well_formed ≡ true) where
    stands_at : (x : Spot) → stands? x ≡ true → Stands K (drawn D) x
    stands_at (end e) s = leb-true (suc e) D.ends s
    stands_at (port r j) s = of_cell_at (slice_get D.kinds r) j s

    at_stands : (x : Spot) → Stands K (drawn D) x → stands? x ≡ true
    at_stands (end e) h = le-leb (suc e) D.ends h
    at_stands (port r j) h = subst (λ o. of_cell? o j ≡ true) (sym h.1) (port_has K h.0 j h.2)

    met_at : (x : Spot) → Stands K (drawn D) x → met? x ≡ true
    met_at (end e) h = below_at (λ e. met? (end e)) D.ends (passed well_formed t 3 _ refl) e h
    met_at (port r j) h =
        let a = (laws.kinds h.0 h.2.0 h.2.1).1 in
        let b = h.2.2 in
        below_at (λ j. met? (port r j)) 3
        (below_at (λ r. below? (λ j. met? (port r j)) 3) (length D.kinds) (passed well_formed t 4 _ refl) r (nth_within D.kinds r h.0 h.1)) j (omega arith)

    on_link : (ls : List (Spot × Spot)) → every? (λ l. stands? l.0 && stands? l.1) ls ≡ true → (x y : Spot) → Partner ls x y → stands? x ≡ true
    on_link [] s x y p = absurd p
    on_link (l ∷ ls) s x y p =
        let a = and_parts (stands? l.0 && stands? l.1) (every? (λ l. stands? l.0 && stands? l.1) ls) s in
        let b = and_parts (stands? l.0) (stands? l.1) a.0 in
        elim p [
          | inl e ↦ subst (λ x. stands? x ≡ true) (sym e.0) b.0
          | inr q ↦ elim q [
            | inl e ↦ subst (λ x. stands? x ≡ true) (sym e.0) b.1
            | inr r ↦ on_link ls a.1 x y r
          ]
        ]

    pub good_drawn : Good K (drawn D)
    good_drawn = record {
      finite = (length D.kinds, λ r k e. nth_within D.kinds r k e);
      known = λ r k e. has_port K k 0 (every_at (λ k. has? K k 0) D.kinds (passed well_formed t 0 _ refl) r k e);
      twice = linked_twice D.links (distinct_at D.links (passed well_formed t 1 _ refl));
      linked = λ x h. differ (linked D.links x) x (if_then (stands? x) (not (same (linked D.links x) x)) (met_at x h) (at_stands x h));
      there = λ x l. stands_at x (elim (find D.links x) [
        | inl p ↦ on_link D.links (passed well_formed t 2 _ refl) x p.0 p.1
        | inr o ↦ absurd (l (linked_out D.links x o))
      ]);
    }

-- ── at rest ──

kind_is : (k : ℕ) (o : Option ℕ) → o ≡ Some k → kind? k o ≡ true
kind_is k o e = subst (λ o. kind? k o ≡ true) (sym e) (eq-eqb k k refl)

module _ (K : RuleBook) (A : Net) where
  abbrev for? : ℕ → ℕ → Rule → Bool
  for? r s w = kind? w.left (A.kind r) && kind? w.right (A.kind s)

  abbrev quiet? : ℕ → ℕ → Bool
  quiet? r s = if? (same (A.mate (port r 0)) (port s 0)) (every? (λ w. not (for? r s w)) K.rules)

  abbrev pub rest? : ℕ → Bool
  rest? n = below? (λ r. below? (quiet? r) n) n

  pub at_rest : (n : ℕ) → ((r k : ℕ) → A.kind r ≡ Some k → r < n) → rest? n ≡ true → AtRest K A
  at_rest n small t P a =
      let r = P.left in
      let s = P.right in
      let w = P.rule in
      let q = below_at (quiet? r) n (below_at (λ r. below? (quiet? r) n) n t r (small r w.left a.left)) s (small s w.right a.right) in
      let e = if_then (same (A.mate (port r 0)) (port s 0)) (every? (λ w. not (for? r s w)) K.rules) q (same_yes (A.mate (port r 0)) (port s 0) a.facing) in
      let f = every_at (λ w. not (for? r s w)) K.rules e P.position w a.listed in
      both_ways (for? r s w) (not-true (for? r s w) f)
      (and_from (kind? w.left (A.kind r)) (kind? w.right (A.kind s)) (kind_is w.left (A.kind r) a.left) (kind_is w.right (A.kind s) a.right))

-- ── alike ──

module _ (A B : Net) (to from : ℕ → ℕ) where
  abbrev cell_kept? : ℕ → Option ℕ → Bool
  cell_kept? r None = true
  cell_kept? r (Some k) = kind? k (B.kind (to r)) && eqb (from (to r)) r

  abbrev spot_kept? : Spot → Bool
  spot_kept? x = same (A.mate x) x || (same (B.mate (carry to x)) (carry to (A.mate x)) && same (carry from (carry to x)) x)

  -- one direction
  abbrev pub kept : ℕ → List Bool
  kept n =
      below? (λ r. cell_kept? r (A.kind r)) n
      ∷ below? (λ e. spot_kept? (end e)) A.ends
      ∷ below? (λ r. below? (λ j. spot_kept? (port r j)) 3) n
      ∷ []

  module _ (K : RuleBook) (laws : Laws K) (n : ℕ) (G : Sized K n A) (t : pass? (kept n) ≡ true) where
    cells_kept : (r k : ℕ) → A.kind r ≡ Some k → (B.kind (to r) ≡ Some k) × (from (to r) ≡ r)
    cells_kept r k e =
        let s = subst (λ o. cell_kept? r o ≡ true) e (below_at (λ r. cell_kept? r (A.kind r)) n (passed (kept n) t 0 _ refl) r (G.small r k e)) in
        let p = and_parts (kind? k (B.kind (to r))) (eqb (from (to r)) r) s in
        (kind_at k (B.kind (to r)) p.0, eqb-true (from (to r)) r p.1)

    spot_test : (x : Spot) → Stands K A x → spot_kept? x ≡ true
    spot_test (end e) h = below_at (λ e. spot_kept? (end e)) A.ends (passed (kept n) t 1 _ refl) e h
    spot_test (port r j) h =
        let a = (laws.kinds h.0 h.2.0 h.2.1).1 in
        let b = h.2.2 in
        below_at (λ j. spot_kept? (port r j)) 3
        (below_at (λ r. below? (λ j. spot_kept? (port r j)) 3) n (passed (kept n) t 2 _ refl) r (G.small r h.0 h.1)) j (omega arith)

    spots_kept : (x : Spot) → A.mate x ≢ x → (B.mate (carry to x) ≡ carry to (A.mate x)) × (carry from (carry to x) ≡ x)
    spots_kept x l =
        let moved = same (B.mate (carry to x)) (carry to (A.mate x)) in
        let back = same (carry from (carry to x)) x in
        elim (or_cases (same (A.mate x) x) (moved && back) (spot_test x (G.good.there x l))) [
          | inl e ↦ absurd (l (same_true (A.mate x) x e))
          | inr e ↦ (let p = and_parts moved back e in
              (same_true (B.mate (carry to x)) (carry to (A.mate x)) p.0, same_true (carry from (carry to x)) x p.1))
        ]

pub alike_drawn : (K : RuleBook) → Laws K → (A B : Net) (n m : ℕ) → Sized K n A → Sized K m B → (to from : ℕ → ℕ) →
    A.ends ≡ B.ends → A.loops ≡ B.loops → pass? (kept A B to from n) ≡ true → pass? (kept B A from to m) ≡ true → Alike A B
alike_drawn K laws A B n m G H to from e l t u = (
  to,
  from,
  record {
    ends = e;
    loops = l;
    kinds = record { there = cells_kept A B to from K laws n G t; back = cells_kept B A from to K laws m H u };
    links = record { there = spots_kept A B to from K laws n G t; back = spots_kept B A from to K laws m H u };
  },
)
