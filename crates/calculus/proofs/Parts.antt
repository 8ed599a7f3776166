-- A net that is a part of another: a pair rewritten in the part is rewritten in the whole. Assumes nothing.
use Rattle.std.proofs.Common.{◌≡◌, ℕ, ◌+◌, ◌<◌, ◌≢◌, ◌⊎◌, List, Some, None, sym, refl, ap, ◌∙◌, subst, subst₂, inl, inr, arith}
use Rattle.std.specs.List.{slice_get}
use Rattle.calculus.specs.Spots.{Spot, end, port}
use Rattle.calculus.specs.Books.{RulePort, L, R, N, RuleBook, Wired, Leaving, Entering, Laws}
use Rattle.calculus.specs.Nets.{Net, Good, Pair, Active}
use Rattle.calculus.specs.Rewriting.{stand, Outside, Unused, Come, along, across, Leads, stays, enters, crosses, goes_on, Joined, here, by_rule, by_link, Closed, Circuits, Rewriting}
use Rattle.calculus.proofs.Rewrite.{sized, facing}
use Rattle.calculus.proofs.Leads.{fresh, leaving_live}
use Rattle.calculus.proofs.Places.{stand_leaving}
use Rattle.calculus.proofs.Carried.{seat}

-- how the places and the spots of the part stand in the whole
pub record Putting (ρ : ℕ → ℕ) (φ : Spot → Spot) (Near : ℕ → Type 0) (In : Spot → Type 0) : Type 0 where
  pub on_port : (r j : ℕ) → φ (port r j) ≡ port (ρ r) j
  pub on_end : (e : ℕ) → (f : ℕ) × (φ (end e) ≡ end f)
  pub one_spot : (x y : Spot) → φ x ≡ φ y → x ≡ y
  pub one_place : (r s : ℕ) → ρ r ≡ ρ s → r ≡ s
  pub rises : (r s : ℕ) → r < s → ρ r < ρ s
  pub near : (r j : ℕ) → Near r → In (port r j)

-- A is a part of X
pub record Part (ρ : ℕ → ℕ) (φ : Spot → Spot) (Near : ℕ → Type 0) (In : Spot → Type 0) (A X : Net) : Type 0 where
  pub cells : (r k : ℕ) → A.kind r ≡ Some k → Near r
  pub kinds : (r : ℕ) → Near r → X.kind (ρ r) ≡ A.kind r
  pub spots : (x : Spot) → A.mate x ≢ x → In x
  pub mates : (x : Spot) → In x → X.mate (φ x) ≡ φ (A.mate x)

module _ (ρ : ℕ → ℕ) (φ : Spot → Spot) (Near : ℕ → Type 0) (In : Spot → Type 0) where
  -- x is no port in a place of the part
  abbrev pub Far : Spot → Type 0
  Far x = (s j : ℕ) → Near s → x ≢ port (ρ s) j

  -- X and X' are the same elsewhere
  pub record Elsewhere (X X' : Net) : Type 0 where
    pub places : (r : ℕ) → ((s : ℕ) × Near s × (r ≡ ρ s)) ⊎ (X'.kind r ≡ X.kind r)
    pub links : (x : Spot) → ((y : Spot) × In y × (x ≡ φ y)) ⊎ ((X'.mate x ≡ X.mate x) × Far x × Far (X.mate x))

  module _ (K : RuleBook) (laws : Laws K) (A A' X X' : Net) (P : Pair) (place : ℕ → ℕ) (G : Good K A) (w : Rewriting K A P place A')
      (put : Putting ρ φ Near In) (part : Part ρ φ Near In A X) (part' : Part ρ φ Near In A' X') (rest : Elsewhere X X')
      (ends : X'.ends ≡ X.ends) (more : ℕ) (loops : X.loops ≡ A.loops + more) (loops' : X'.loops ≡ A'.loops + more) where
    -- the pair and the places in the whole
    abbrev pub Q : Pair
    Q = seat P (ρ P.left) (ρ P.right)

    abbrev pub room : ℕ → ℕ
    room i = ρ (place i)

    left_near : Near P.left
    left_near = part.cells P.left P.rule.left w.active.left

    right_near : Near P.right
    right_near = part.cells P.right P.rule.right w.active.right

    place_near : (i k : ℕ) → slice_get P.rule.cells i ≡ Some k → Near (place i)
    place_near i k e = part'.cells (place i) k (w.new i k e)

    stand_put : (g : RulePort) → stand Q room g ≡ φ (stand P place g)
    stand_put (L j) = sym (put.on_port P.left j)
    stand_put (R j) = sym (put.on_port P.right j)
    stand_put (N i j) = sym (put.on_port (place i) j)

    outside_in : (x : Spot) → Outside P x → Outside Q (φ x)
    outside_in (end e) o = let t = put.on_end e in subst (Outside Q) (sym t.1) tt
    outside_in (port r j) o =
        subst (Outside Q) (sym (put.on_port r j)) ((λ z. o.0 (put.one_place r P.left z)), (λ z. o.1 (put.one_place r P.right z)))

    outside_out : (x : Spot) → Outside Q (φ x) → Outside P x
    outside_out (end e) o = tt
    outside_out (port r j) o = let t = subst (Outside Q) (put.on_port r j) o in ((λ z. t.0 (ap ρ z)), (λ z. t.1 (ap ρ z)))

    far_outside : (x : Spot) → Far x → Outside Q x
    far_outside (end e) f = tt
    far_outside (port r j) f =
        ((λ z. f P.left j left_near (ap (λ r. port r j) z)), (λ z. f P.right j right_near (ap (λ r. port r j) z)))

    leaving_mate : (g : RulePort) → Leaving K P.rule g → A.mate (stand P place g) ≢ stand P place g
    leaving_mate g s = subst (λ x. A.mate x ≢ x) (stand_leaving K P (fresh G.finite.0) place g s)
        (leaving_live K laws G.finite.0 A (sized K A G) P (facing K A P w.active) g s)

    leaving_put : (g : RulePort) → Leaving K P.rule g → X.mate (stand Q room g) ≡ φ (A.mate (stand P place g))
    leaving_put g s = ap X.mate (stand_put g) ∙ part.mates (stand P place g) (part.spots (stand P place g) (leaving_mate g s))

    -- following in the part is following in the whole
    abbrev come : Come → Come
    come (along y) = along (φ y)
    come (across g) = across g

    leads_in : {c : Come} {z : Spot} → Leads K A P place c z → Leads K X Q room (come c) (φ z)
    leads_in (stays {z = z} o) = stays (outside_in z o)
    leads_in (enters {i = i} {j = j} e) = enters (ap φ e ∙ put.on_port (place i) j)
    leads_in (crosses g h e s d r) = crosses g h (ap φ e ∙ sym (stand_put g)) s d (leads_in r)
    leads_in (goes_on {g = g} {z = z} s r) = goes_on s (subst (λ y. Leads K X Q room (along y) (φ z)) (sym (leaving_put g s)) (leads_in r))

    abbrev ComesFrom : Come → Type 0
    ComesFrom (along x) = (y : Spot) → x ≡ φ y → (z : Spot) × Leads K A P place (along y) z
    ComesFrom (across g) = (z : Spot) × Leads K A P place (across g) z

    leads_out : {c : Come} {z : Spot} → Leads K X Q room c z → ComesFrom c
    leads_out (stays {z = x} o) = λ y e. (y, stays (outside_out y (subst (Outside Q) e o)))
    leads_out (enters {i = i} {j = j} e) = (port (place i) j, enters refl)
    leads_out (crosses g h e s d r) = λ y f.
        let t = leads_out r in
        (t.0, crosses g h (put.one_spot y (stand P place g) (sym f ∙ e ∙ stand_put g)) s d t.1)
    leads_out (goes_on {g = g} s r) = let t = leads_out r (A.mate (stand P place g)) (leaving_put g s) in (t.0, goes_on s t.1)

    joined_in : {g h : RulePort} → Joined K A P place g h → Leaving K P.rule g → Joined K X Q room g h
    joined_in here s = here
    joined_in (by_rule g t d j) s = by_rule g t d (joined_in j t)
    joined_in (by_link {f = f} g t e j) s = by_link g t (leaving_put f s ∙ ap φ e ∙ sym (stand_put g)) (joined_in j t)

    joined_out : {g h : RulePort} → Joined K X Q room g h → Leaving K P.rule g → Joined K A P place g h
    joined_out here s = here
    joined_out (by_rule g t d j) s = by_rule g t d (joined_out j t)
    joined_out (by_link {f = f} g t e j) s =
        by_link g t (put.one_spot (A.mate (stand P place f)) (stand P place g) (sym (leaving_put f s) ∙ e ∙ stand_put g)) (joined_out j t)

    closed_in : (g : RulePort) → Closed K A P place g → Closed K X Q room g
    closed_in g c = (c.0, λ z r. let t = leads_out r (stand P place g) (stand_put g) in c.1 t.0 t.1)

    closed_out : (g : RulePort) → Closed K X Q room g → Closed K A P place g
    closed_out g c = (c.0, λ z r. c.1 (φ z) (subst (λ y. Leads K X Q room (along y) (φ z)) (sym (stand_put g)) (leads_in r)))

    circuits_in : (gs : List RulePort) → Circuits K A P place gs → Circuits K X Q room gs
    circuits_in gs c = record {
      closed = λ i g e. closed_in g (c.closed i g e);
      apart = λ i j g h e f d. c.apart i j g h e f (joined_out d (c.closed i g e).0);
      all = λ g k. let t = c.all g (closed_out g k) in (t.0, t.1, t.2, joined_in t.3 k.0);
    }

    active_in : Active K X Q
    active_in =
        let a = w.active in
        let l : A.mate (port P.left 0) ≢ port P.left 0 =
        G.linked (port P.left 0) (P.rule.left, a.left, (laws.rules P.position P.rule a.listed).left_kind) in
        record {
          listed = a.listed;
          left = part.kinds P.left left_near ∙ a.left;
          right = part.kinds P.right right_near ∙ a.right;
          facing = ap X.mate (sym (put.on_port P.left 0)) ∙ part.mates (port P.left 0) (part.spots (port P.left 0) l) ∙ ap φ a.facing ∙ put.on_port P.right 0;
          first = λ e. put.rises P.left P.right (a.first e);
        }

    vacant_in : (i k : ℕ) → slice_get P.rule.cells i ≡ Some k → (X.kind (room i) ≡ None) ⊎ ((room i ≡ ρ P.left) ⊎ (room i ≡ ρ P.right))
    vacant_in i k e = elim (w.vacant i k e) [
      | inl v ↦ inl (part.kinds (place i) (place_near i k e) ∙ v)
      | inr v ↦ elim v [ inl z ↦ inr (inl (ap ρ z)) | inr z ↦ inr (inr (ap ρ z)) ]
    ]

    unused_out : (s : ℕ) → Unused Q room (ρ s) → Unused P place s
    unused_out s u i k e z = u i k e (ap ρ z)

    gone_in : (r : ℕ) → (r ≡ ρ P.left) ⊎ (r ≡ ρ P.right) → Unused Q room r → X'.kind r ≡ None
    gone_in r (inl e) u =
        ap X'.kind e ∙ part'.kinds P.left left_near ∙ w.gone P.left (inl refl) (unused_out P.left (subst (Unused Q room) e u))
    gone_in r (inr e) u =
        ap X'.kind e ∙ part'.kinds P.right right_near ∙ w.gone P.right (inr refl) (unused_out P.right (subst (Unused Q room) e u))

    kept_in : (r : ℕ) → r ≢ ρ P.left → r ≢ ρ P.right → Unused Q room r → X'.kind r ≡ X.kind r
    kept_in r a b u = elim (rest.places r) [
      | inl t ↦ (
          let e = t.2 in
          ap X'.kind e ∙ part'.kinds t.0 t.1
          ∙ w.kept t.0 (λ z. a (e ∙ ap ρ z)) (λ z. b (e ∙ ap ρ z)) (unused_out t.0 (subst (Unused Q room) e u))
          ∙ sym (part.kinds t.0 t.1) ∙ ap X.kind (sym e))
      | inr e ↦ e
    ]

    linked_out : (x y : Spot) → In y → x ≡ φ y → X.mate x ≢ x → A.mate y ≢ y
    linked_out x y n e l z = l (ap X.mate e ∙ part.mates y n ∙ ap φ z ∙ sym e)

    old_in : (x : Spot) → X.mate x ≢ x → Outside Q x → Leads K X Q room (along (X.mate x)) (X'.mate x)
    old_in x l o = elim (rest.links x) [
      | inl t ↦ (
          let y = t.0 in
          let e = t.2 in
          subst₂ (λ u v. Leads K X Q room (along u) v) (sym (ap X.mate e ∙ part.mates y t.1)) (sym (ap X'.mate e ∙ part'.mates y t.1))
          (leads_in (w.old_links y (linked_out x y t.1 e l) (outside_out y (subst (Outside Q) e o)))))
      | inr t ↦ subst (Leads K X Q room (along (X.mate x))) (sym t.0) (stays (far_outside (X.mate x) t.2))
    ]

    entering_near : (g : RulePort) → Entering K P.rule g → In (stand P place g)
    entering_near (L j) h = absurd h
    entering_near (R j) h = absurd h
    entering_near (N i j) h = put.near (place i) j (place_near i h.0 h.1)

    new_in : (x y : RulePort) → Entering K P.rule x → Wired P.rule.wires x y → Leads K X Q room (across y) (X'.mate (stand Q room x))
    new_in x y h d =
        subst (Leads K X Q room (across y)) (sym (ap X'.mate (stand_put x) ∙ part'.mates (stand P place x) (entering_near x h))) (leads_in (w.new_links x y h d))

    no_more_in : (x : Spot) → X'.mate x ≢ x → ((X.mate x ≢ x) × Outside Q x) ⊎ ((g : RulePort) × Entering K P.rule g × (x ≡ stand Q room g))
    no_more_in x l = elim (rest.links x) [
      | inl t ↦ (
          let y = t.0 in
          let e = t.2 in
          elim (w.no_more y (λ z. l (ap X'.mate e ∙ part'.mates y t.1 ∙ ap φ z ∙ sym e))) [
            | inl h ↦ inl (
              (λ z. h.0 (put.one_spot (A.mate y) y (sym (ap X.mate e ∙ part.mates y t.1) ∙ z ∙ e))),
              subst (Outside Q) (sym e) (outside_in y h.1),
            )
            | inr h ↦ inr (h.0, h.1, e ∙ ap φ h.2 ∙ sym (stand_put h.0))
          ])
      | inr t ↦ inl ((λ z. l (t.0 ∙ z)), far_outside x t.1)
    ]

    pub whole : Rewriting K X Q room X'
    whole = record {
      active = active_in;
      vacant = vacant_in;
      apart = λ i j k l e f z. w.apart i j k l e f (put.one_place (place i) (place j) z);
      new = λ i k e. part'.kinds (place i) (place_near i k e) ∙ w.new i k e;
      gone = gone_in;
      kept = kept_in;
      ends = ends;
      old_links = old_in;
      new_links = new_in;
      no_more = no_more_in;
      circuits = w.circuits;
      counted = circuits_in w.circuits w.counted;
      loops = let a = w.loops in omega (arith, loops, loops', a);
    }
