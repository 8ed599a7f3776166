-- A net with its places renumbered: alike, and good again. Assumes nothing.
use Rattle.std.proofs.Common.{◌≡◌, ℕ, zero, suc, ◌<◌, max, true, false, eqb, ◌≢◌, ◌⊎◌, Some, None, sym, refl, ap, ◌∙◌, subst, inl, inr, arith}
use Rattle.std.proofs.lemmas.Bool.{cases_lt}
use Rattle.calculus.specs.Spots.{Spot, end, port, carry}
use Rattle.calculus.specs.Books.{RuleBook}
use Rattle.calculus.specs.Nets.{Net, Stands, Good}
use Rattle.calculus.specs.Alike.{AlikeBy}
use Rattle.calculus.proofs.Wires.{same}
use Rattle.calculus.proofs.Splice.{spot, same_yes, same_no}
use Rattle.calculus.proofs.Wiring.{number, some_none}

-- A with the cell in place r put in place `to r`; `from` leads back
unfoldable pub renumber : (ℕ → ℕ) → (ℕ → ℕ) → Net → Net
renumber to from A = record {
  ends = A.ends;
  kind = λ r. elim (eqb (to (from r)) r) [ true ↦ A.kind (from r) | false ↦ None ];
  mate = λ y. elim (same (carry to (carry from y)) y) [ true ↦ carry to (A.mate (carry from y)) | false ↦ y ];
  loops = A.loops;
}

module _ (to from : ℕ → ℕ) (A : Net) where
  pub kind_in : (r : ℕ) → to (from r) ≡ r → (renumber to from A).kind r ≡ A.kind (from r)
  unfolding renumber
  kind_in r e = grind (arith)

  pub kind_off : (r : ℕ) → to (from r) ≢ r → (renumber to from A).kind r ≡ None
  unfolding renumber
  kind_off r n = grind (arith)

  pub mate_in : (y : Spot) → carry to (carry from y) ≡ y → (renumber to from A).mate y ≡ carry to (A.mate (carry from y))
  unfolding renumber
  mate_in y e = let f = same_yes (carry to (carry from y)) y e in cc

  pub mate_off : (y : Spot) → carry to (carry from y) ≢ y → (renumber to from A).mate y ≡ y
  unfolding renumber
  mate_off y n = let f = same_no (carry to (carry from y)) y n in cc

  pub ends_kept : (renumber to from A).ends ≡ A.ends
  unfolding renumber
  ends_kept = refl

  pub loops_kept : (renumber to from A).loops ≡ A.loops
  unfolding renumber
  loops_kept = refl

-- more than f of any number below n
top : (ℕ → ℕ) → ℕ → ℕ
top f zero = 0
top f (suc n) = max (suc (f n)) (top f n)

below_top : (f : ℕ → ℕ) (n r : ℕ) → r < n → f r < top f n
unfolding top
below_top f zero r h = absurd (let z : ⊥ = omega arith in z)
below_top f (suc n) r h = elim (cases_lt r n) [
  | inl k ↦ (let i = below_top f n r k in omega arith)
  | inr k ↦ (let e : r ≡ n = omega arith in let g : f r ≡ f n = ap f e in omega arith)
]

module _ (K : RuleBook) (A : Net) (G : Good K A) (to from : ℕ → ℕ) (inverse : (r k : ℕ) → A.kind r ≡ Some k → from (to r) ≡ r) where
  abbrev B : Net
  B = renumber to from A

  -- a spot that is linked comes back
  pub comes_back : (x : Spot) → A.mate x ≢ x → carry from (carry to x) ≡ x
  comes_back (end e) l = refl
  comes_back (port r j) l = let t = G.there (port r j) l in ap (λ r. port r j) (inverse r t.0 t.1)

  pub new_mate : (x : Spot) → A.mate x ≢ x → B.mate (carry to x) ≡ carry to (A.mate x)
  new_mate x l = mate_in to from A (carry to x) (ap (carry to) (comes_back x l)) ∙ ap (λ x. carry to (A.mate x)) (comes_back x l)

  pub linked_from : (y : Spot) → B.mate y ≢ y → (A.mate (carry from y) ≢ carry from y) × (carry to (carry from y) ≡ y)
  linked_from y l = go (spot (carry to (carry from y)) y)
    where
      go : (carry to (carry from y) ≡ y) ⊎ (carry to (carry from y) ≢ y) → (A.mate (carry from y) ≢ carry from y) × (carry to (carry from y) ≡ y)
      go (inl e) = ((λ z. l (mate_in to from A y e ∙ ap (carry to) z ∙ e)), e)
      go (inr n) = absurd (l (mate_off to from A y n))

  pub kind_from : (r k : ℕ) → B.kind r ≡ Some k → (A.kind (from r) ≡ Some k) × (to (from r) ≡ r)
  kind_from r k e = go (number (to (from r)) r)
    where
      go : (to (from r) ≡ r) ⊎ (to (from r) ≢ r) → (A.kind (from r) ≡ Some k) × (to (from r) ≡ r)
      go (inl z) = (sym (kind_in to from A r z) ∙ e, z)
      go (inr n) = absurd (some_none k (sym e ∙ kind_off to from A r n))

  back_mate : (y : Spot) → B.mate y ≢ y → A.mate (carry from y) ≡ carry from (B.mate y)
  back_mate y l =
      let t = linked_from y l in
      let i = G.twice in
      sym (ap (carry from) (mate_in to from A y t.1) ∙ comes_back (A.mate (carry from y)) (λ z. t.0 (sym (sym (i (carry from y)) ∙ z))))

  pub alike_renumber : AlikeBy to from A B
  alike_renumber = record {
    ends = sym (ends_kept to from A);
    loops = sym (loops_kept to from A);
    kinds = record {
      there = λ r k e. (kind_in to from A (to r) (ap to (inverse r k e)) ∙ ap A.kind (inverse r k e) ∙ e, inverse r k e);
      back = kind_from;
    };
    links = record {
      there = λ x l. (new_mate x l, comes_back x l);
      back = λ y l. (back_mate y l, (linked_from y l).1);
    };
  }

  pub good_renumber : Good K B
  good_renumber = record {
    finite = (top to G.finite.0, λ r k e. let t = kind_from r k e in subst (λ s. s < top to G.finite.0) t.1 (below_top to G.finite.0 (from r) (G.finite.1 (from r) k t.0)));
    known = λ r k e. G.known (from r) k (kind_from r k e).0;
    twice = twice;
    linked = linked;
    there = there;
  }
    where
      i : (x : Spot) → A.mate (A.mate x) ≡ x
      i = G.twice

      twice : (y : Spot) → B.mate (B.mate y) ≡ y
      twice y = go (spot (B.mate y) y)
        where
          go : (B.mate y ≡ y) ⊎ (B.mate y ≢ y) → B.mate (B.mate y) ≡ y
          go (inl e) = ap B.mate e ∙ e
          go (inr l) =
              let t = linked_from y l in
              let x = carry from y in
              let f : B.mate y ≡ carry to (A.mate x) = mate_in to from A y t.1 in
              ap B.mate f ∙ new_mate (A.mate x) (λ z. t.0 (sym (sym (i x) ∙ z))) ∙ ap (carry to) (i x) ∙ t.1

      there : (y : Spot) → B.mate y ≢ y → Stands K B y
      there (end e) l = subst (λ n. e < n) (sym (ends_kept to from A)) (G.there (end e) (linked_from (end e) l).0)
      there (port r j) l =
          let t = linked_from (port r j) l in
          let s = G.there (port (from r) j) t.0 in
          let e = t.1 in
          let f : to (from r) ≡ r = cc in
          (s.0, kind_in to from A r f ∙ s.1, s.2)

      still : (x : Spot) → A.mate x ≢ x → B.mate (carry to x) ≢ carry to x
      still x l e =
          l (sym (comes_back (A.mate x) (λ z. l (sym (sym (i x) ∙ z)))) ∙ ap (carry from) (sym (new_mate x l) ∙ e) ∙ comes_back x l)

      linked : (y : Spot) → Stands K B y → B.mate y ≢ y
      linked (end e) h = still (end e) (G.linked (end e) (subst (λ n. e < n) (ends_kept to from A) h))
      linked (port r j) (k, e, h) =
          let t = kind_from r k e in
          subst (λ r. B.mate (port r j) ≢ port r j) t.1 (still (port (from r) j) (G.linked (port (from r) j) (k, t.0, h)))
