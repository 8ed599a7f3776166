-- The places given, a rewriting has one result. Assumes nothing.
use Rattle.std.proofs.Common.{◌≡◌, ℕ, ◌+◌, ◌<◌, ◌≤◌, ◌≢◌, ◌⊎◌, List, length, Some, sym, refl, ap, ◌∙◌, subst, inl, inr, arith}
use mathlib.Core.Path.{fun_ext}
use Rattle.std.specs.List.{slice_get}
use Rattle.calculus.specs.Spots.{Spot, port}
use Rattle.calculus.specs.Books.{RulePort, L, R, N, RuleBook, Wired, Leaving, Entering, RuleLaws, Laws}
use Rattle.calculus.specs.Nets.{Net, Pair, Good, Active}
use Rattle.calculus.specs.Rewriting.{Come, stand, Outside, Unused, along, across, Leads, stays, enters, crosses, goes_on, Joined, here, by_rule, by_link, Circuits, Rewriting}
use Rattle.calculus.specs.Theorems.{Free, Rewritable, StaysGood, OneCount, OneResult}
use Rattle.calculus.proofs.Tests.{nth_within}
use Rattle.calculus.proofs.Splice.{spot}
use Rattle.calculus.proofs.Lawful.{wired_back}
use Rattle.calculus.proofs.Wiring.{number}
use Rattle.calculus.proofs.Rewrite.{sized, facing, two}
use Rattle.calculus.proofs.Places.{look, nth_some, settled, settled_good, settles_as}
use Rattle.calculus.proofs.Pigeons.{fits}

module _ (K : RuleBook) (laws : Laws K) (A : Net) (G : Good K A) (P : Pair) (active : Active K A P) (place : ℕ → ℕ) where
  rl : RuleLaws K P.rule
  rl = laws.rules P.position P.rule active.listed

  apart : P.left ≢ P.right
  apart = two K laws G.finite.0 A (sized K A G) P (facing K A P active)

  stand_one : (g h : RulePort) → Leaving K P.rule g → Leaving K P.rule h → stand P place g ≡ stand P place h → g ≡ h
  stand_one (L i) (L j) s t e = let z : i ≡ j = cc in ap L z
  stand_one (L i) (R j) s t e = absurd (apart (cc))
  stand_one (R i) (L j) s t e = absurd (apart (cc))
  stand_one (R i) (R j) s t e = let z : i ≡ j = cc in ap R z
  stand_one (L i) (N k j) s t e = absurd t
  stand_one (R i) (N k j) s t e = absurd t
  stand_one (N k i) h s t e = absurd s

  inside : (g : RulePort) → Leaving K P.rule g → Outside P (stand P place g) → ⊥
  inside (L j) s o = o.0 refl
  inside (R j) s o = o.1 refl
  inside (N i j) s o = s

  -- the ways to have come to a spot, or to a port of the rule
  came_along : {y z : Spot} → Leads K A P place (along y) z →
      (Outside P y × (z ≡ y)) ⊎ ((g : RulePort) × (h : RulePort) × (y ≡ stand P place g) × Leaving K P.rule g × Wired P.rule.wires g h × Leads K A P place (across h) z)
  came_along (stays o) = inl (o, refl)
  came_along (crosses g h e s w r) = inr (g, h, e, s, w, r)

  came_across : {g : RulePort} {z : Spot} → Leads K A P place (across g) z →
      ((i : ℕ) × (j : ℕ) × (g ≡ N i j) × (z ≡ port (place i) j)) ⊎ (Leaving K P.rule g × Leads K A P place (along (A.mate (stand P place g))) z)
  came_across (enters {i = i} {j = j} e) = inl (i, j, refl, e)
  came_across (goes_on s r) = inr (s, r)

  -- following has one end
  pub one_end : {c : Come} {z : Spot} → Leads K A P place c z → (z' : Spot) → Leads K A P place c z' → z ≡ z'
  one_end (stays {z = y} o) z' q = elim (came_along q) [
    | inl t ↦ sym t.1
    | inr t ↦ absurd (inside t.0 t.3 (subst (Outside P) t.2 o))
  ]
  one_end (enters {i = i} {j = j} e) z' q = elim (came_across q) [
    | inl t ↦ (
        let f = t.2 in
        let a : i ≡ t.0 = cc in
        let b : j ≡ t.1 = cc in
        e ∙ (λ k. port (place (a k)) (b k)) ∙ sym t.3)
    | inr t ↦ absurd t.0
  ]
  one_end (crosses g h e s w r) z' q = elim (came_along q) [
    | inl t ↦ absurd (inside g s (subst (Outside P) e t.0))
    | inr t ↦ (
        let eg : t.0 ≡ g = stand_one t.0 g t.3 s (sym t.2 ∙ e) in
        let eh : t.1 ≡ h = rl.with_one g t.1 h (subst (λ g. Wired P.rule.wires g t.1) eg t.4) w in
        one_end r z' (subst (λ h. Leads K A P place (across h) z') eh t.5))
  ]
  one_end (goes_on {g = g} s r) z' q = elim (came_across q) [
    | inl t ↦ absurd (subst (Leaving K P.rule) t.2 s)
    | inr t ↦ one_end r z' t.1
  ]

  joined_on : {f g : RulePort} → Joined K A P place f g → (h : RulePort) → Joined K A P place g h → Joined K A P place f h
  joined_on here h k = k
  joined_on (by_rule g s w j) h k = by_rule g s w (joined_on j h k)
  joined_on (by_link g s e j) h k = by_link g s e (joined_on j h k)

  joined_back : {f g : RulePort} → Joined K A P place f g → Leaving K P.rule f → Joined K A P place g f
  joined_back here s = here
  joined_back (by_rule {f = f} g t w j) s = joined_on (joined_back j t) f (by_rule f s (wired_back P.rule.wires f g w) here)
  joined_back (by_link {f = f} g t e j) s =
      let i = G.twice in
      joined_on (joined_back j t) f (by_link f s (ap A.mate (sym e) ∙ i (stand P place f)) here)

  -- no list of circuits is longer than another
  no_longer : (gs hs : List RulePort) → Circuits K A P place gs → Circuits K A P place hs → length gs ≤ length hs
  no_longer gs hs c d =
      fits (length gs) (length hs) (λ i j. (g : RulePort) × (h : RulePort) × (slice_get gs i ≡ Some g) × (slice_get hs j ≡ Some h) × Joined K A P place g h)
      (λ i l.
      let g = nth_some gs i l in
      let t = d.all g.0 (c.closed i g.0 g.1) in
      (t.0, nth_within hs t.0 t.1 t.2, (g.0, t.1, g.1, t.2, t.3)))
      (λ i k j s t.
      let e = s.3 in
      let f = t.3 in
      let z : s.1 ≡ t.1 = cc in
      let back = joined_back t.4 (c.closed k t.0 t.2).0 in
      c.apart i k s.0 t.0 s.2 t.2 (joined_on s.4 t.0 (subst (λ h. Joined K A P place h t.0) (sym z) back)))

  pub one_count_lem : (gs hs : List RulePort) → Circuits K A P place gs → Circuits K A P place hs → length gs ≡ length hs
  one_count_lem gs hs c d = let a = no_longer gs hs c d in let b = no_longer hs gs d c in omega arith

  module _ (B B' : Net) (w : Rewriting K A P place B) (w' : Rewriting K A P place B') where
    same_kind : (r : ℕ) → B.kind r ≡ B'.kind r
    same_kind r = go (look place (length P.rule.cells) r) (number r P.left) (number r P.right)
      where
        unused : ((i : ℕ) → i < length P.rule.cells → place i ≢ r) → Unused P place r
        unused o i k e = o i (nth_within P.rule.cells i k e)

        go : ((i : ℕ) × (i < length P.rule.cells) × (place i ≡ r)) ⊎ ((i : ℕ) → i < length P.rule.cells → place i ≢ r) →
            (r ≡ P.left) ⊎ (r ≢ P.left) → (r ≡ P.right) ⊎ (r ≢ P.right) → B.kind r ≡ B'.kind r
        go (inl (i, h, e)) s t =
            let k = nth_some P.rule.cells i h in
            ap B.kind (sym e) ∙ w.new i k.0 k.1 ∙ sym (w'.new i k.0 k.1) ∙ ap B'.kind e
        go (inr o) (inl e) t = w.gone r (inl e) (unused o) ∙ sym (w'.gone r (inl e) (unused o))
        go (inr o) (inr n) (inl e) = w.gone r (inr e) (unused o) ∙ sym (w'.gone r (inr e) (unused o))
        go (inr o) (inr n) (inr m) = w.kept r n m (unused o) ∙ sym (w'.kept r n m (unused o))

    same_mate : (x : Spot) → B.mate x ≡ B'.mate x
    same_mate x = go (spot (B.mate x) x) (spot (B'.mate x) x)
      where
        linked : ((A.mate x ≢ x) × Outside P x) ⊎ ((g : RulePort) × Entering K P.rule g × (x ≡ stand P place g)) → B.mate x ≡ B'.mate x
        linked (inl (l, o)) = one_end (w.old_links x l o) (B'.mate x) (w'.old_links x l o)
        linked (inr (g, h, e)) =
            let t = rl.pairs_all g (inr h) in
            ap B.mate e ∙ one_end (w.new_links g t.0 h t.1) (B'.mate (stand P place g)) (w'.new_links g t.0 h t.1) ∙ ap B'.mate (sym e)

        go : (B.mate x ≡ x) ⊎ (B.mate x ≢ x) → (B'.mate x ≡ x) ⊎ (B'.mate x ≢ x) → B.mate x ≡ B'.mate x
        go (inl e) (inl f) = e ∙ sym f
        go (inl e) (inr n) = linked (w'.no_more x n)
        go (inr n) s = linked (w.no_more x n)

    same_loops : B.loops ≡ B'.loops
    same_loops = w.loops ∙ ap (λ n. A.loops + n) (one_count_lem w.circuits w'.circuits w.counted w'.counted) ∙ sym w'.loops

    pub one_result_lem : B ≡ B'
    one_result_lem = λ i. record {
      ends = (w.ends ∙ sym w'.ends) i;
      kind = fun_ext same_kind i;
      mate = fun_ext same_mate i;
      loops = same_loops i;
    }

pub free_of : (K : RuleBook) (A B : Net) (P : Pair) (place : ℕ → ℕ) → Rewriting K A P place B → Free A P place
free_of K A B P place w = record { vacant = w.vacant; apart = w.apart }

pub rewritable : Rewritable
rewritable K A P place laws G active free =
    (settled K laws G.finite.0 A (sized K A G) P active place free, settles_as K laws G.finite.0 A (sized K A G) P active place free)

pub stays_good_lem : StaysGood
stays_good_lem K A B P place laws G w =
    let n = G.finite.0 in
    let free = free_of K A B P place w in
    subst (Good K) (one_result_lem K laws A G P w.active place (settled K laws n A (sized K A G) P w.active place free) B
    (settles_as K laws n A (sized K A G) P w.active place free) w)
    (settled_good K laws n A (sized K A G) P w.active place free)

pub counted_once : OneCount
counted_once K A P place gs hs laws G active = one_count_lem K laws A G P active place gs hs

pub results_once : OneResult
results_once K A B B' P place laws G w w' = one_result_lem K laws A G P w.active place B B' w w'
