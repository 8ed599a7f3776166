-- The active pair at a place, by kinds and facing. Assumes nothing.
use Rattle.std.proofs.lemmas.List.{length-map}
use Rattle.std.proofs.Common.{◌≡◌, ℕ, ◌<◌, ◌≤◌, ◌≢◌, ◌⊎◌, length, Some, None, Option, sym, refl, ap, ◌∙◌, subst, inl, inr, arith}
use Rattle.calculus.specs.Spots.{Spot, port}
use Rattle.calculus.specs.Books.{RuleBook, Laws}
use Rattle.calculus.specs.Nets.{Net, Active, Pair as CPair}
use Rattle.books.specs.declared.table.RuleTable.{RuleTable}
use Rattle.books.specs.Answers.{Meant, Found, Answers}
use Rattle.pairs.specs.Pairs.{PairAt}
use Rattle.pairs.specs.Gathering.{Across}

-- the cells of an active pair are two
pub two_cells : (K : RuleBook) (A : Net) (P : CPair) → Active K A P → P.left ≢ P.right
two_cells K A P act e =
    let x : Some P.rule.left ≡ Some P.rule.right = sym act.left ∙ ap A.kind e ∙ act.right in
    let y : P.rule.left ≡ P.rule.right = cc in
    let z = act.first y in
    omega arith

-- from L's principal port R is seen
pub right_across : (K : RuleBook) (A : Net) (P : CPair) → Active K A P → (o : Option ℕ) → Across A (port P.left 0) o → o ≡ Some P.right
right_across K A P act None n =
    let z : port P.right 0 ≡ port P.left 0 = sym act.facing ∙ n P.right act.facing in
    let e : P.left ≡ P.right = cc in
    absurd (two_cells K A P act e)
right_across K A P act (Some r) f =
    let z : port r 0 ≡ port P.right 0 = sym f.0 ∙ act.facing in
    let e : r ≡ P.right = cc in
    ap (λ (v : ℕ). Some v) e

module _ (K : RuleBook) (laws : Laws K) (A : Net) (twice : (x : Spot) → A.mate (A.mate x) ≡ x) where
  -- what is seen from one of its cells
  record Met (P : CPair) (r : ℕ) : Type 0 where
    pub other : ℕ
    pub kind : ℕ
    pub across : ℕ
    pub here : A.kind r ≡ Some kind
    pub there : A.kind other ≡ Some across
    pub facing : A.mate (port r 0) ≡ port other 0
    pub apart : A.mate (port r 0) ≢ port r 0
    pub meant : Meant P.rule kind across

  met : (P : CPair) → Active K A P → (r : ℕ) → (P.left ≡ r) ⊎ (P.right ≡ r) → Met P r
  met P act r (inl e) = subst (Met P) e (record {
    other = P.right;
    kind = P.rule.left;
    across = P.rule.right;
    here = act.left;
    there = act.right;
    facing = act.facing;
    apart = λ z. let y : port P.right 0 ≡ port P.left 0 = sym act.facing ∙ z in two_cells K A P act (sym (cc));
    meant = inl (refl, refl);
  })
  met P act r (inr e) =
      let back : A.mate (port P.right 0) ≡ port P.left 0 = ap A.mate (sym act.facing) ∙ twice (port P.left 0) in
      subst (Met P) e (record {
        other = P.left;
        kind = P.rule.right;
        across = P.rule.left;
        here = act.right;
        there = act.left;
        facing = back;
        apart = λ z. let y : port P.left 0 ≡ port P.right 0 = sym back ∙ z in two_cells K A P act (cc);
        meant = inr (refl, refl);
      })

  -- nothing is met there
  none : (r : ℕ) → ((P : CPair) → Active K A P → Met P r → ⊥) → PairAt K A r None
  none r f P act = ((λ e. f P act (met P act r (inl e))), (λ e. f P act (met P act r (inr e))))

  pub no_cell : (r : ℕ) → A.kind r ≡ None → PairAt K A r None
  no_cell r n = none r (λ P act m. let e = m.here in let z : ◌≡◌ {A = ℕ} 0 1 = cc in omega arith)

  pub no_other : (r : ℕ) → Across A (port r 0) None → PairAt K A r None
  no_other r n = none r (λ P act m. m.apart (n m.other m.facing))

  module _ (r s : ℕ) (f : A.mate (port r 0) ≡ port s 0) where
    same_other : (P : CPair) (m : Met P r) → m.other ≡ s
    same_other P m = let z : port m.other 0 ≡ port s 0 = sym m.facing ∙ f in cc

    pub no_second : A.kind s ≡ None → PairAt K A r None
    no_second n = none r (λ P act m.
        let e : A.kind s ≡ Some m.across = ap A.kind (sym (same_other P m)) ∙ m.there in
        let z : ◌≡◌ {A = ℕ} 0 1 = cc in
        omega arith)

    module _ (k l : ℕ) (ek : A.kind r ≡ Some k) (el : A.kind s ≡ Some l) where
      pub no_rule : Answers K k l None → PairAt K A r None
      no_rule n = none r (λ P act m. n P.position P.rule act.listed (meant P m))
        where
          meant : (P : CPair) (m : Met P r) → Meant P.rule k l
          meant P m =
              let x : Some m.kind ≡ Some k = sym m.here ∙ ek in
              let y : Some m.across ≡ Some l = sym m.there ∙ ap A.kind (same_other P m) ∙ el in
              let xk : m.kind ≡ k = cc in
              let yl : m.across ≡ l = cc in
              elim m.meant [ inl t ↦ inl (t.0 ∙ xk, t.1 ∙ yl) | inr t ↦ inr (t.0 ∙ yl, t.1 ∙ xk) ]

      module _ (w : RuleTable) (F : Found K k l w) where
        rs : A.mate (port r 0) ≢ port r 0 → r ≢ s
        rs n e = n (f ∙ ap (λ (v : ℕ). port v 0) (sym e))

        many : length F.rule.cells ≡ length w.cells.now
        many = sym (ap length F.depicts.kinds) ∙ length-map w.cells.now (λ c. c.kind)

        -- the rule has few new cells
        pub few : length w.cells.now ≤ 4
        few = let l = (laws.rules F.position F.rule F.listed).few in let e = many in omega arith

        ordered : F.rule.left ≤ F.rule.right
        ordered = (laws.rules F.position F.rule F.listed).order

        -- the cell in r is L
        pub as_left : (k < l) ⊎ ((k ≡ l) × (r < s)) → PairAt K A r (Some (record { left = r; right = s; cells = length w.cells.now }))
        as_left o = (P, act, (λ i. record { left = r; right = s; cells = many i }), inl refl)
          where
            P : CPair
            P = record { left = r; right = s; position = F.position; rule = F.rule }

            sides : (F.rule.left ≡ k) × (F.rule.right ≡ l)
            sides = elim F.meant [
              | inl t ↦ t
              | inr t ↦ (let h = ordered in elim o [
                | inl u ↦ absurd (omega arith)
                | inr u ↦ (t.0 ∙ sym u.0, t.1 ∙ u.0)
              ])
            ]

            act : Active K A (record { left = r; right = s; position = F.position; rule = F.rule })
            act = record {
              listed = F.listed;
              left = ek ∙ ap (λ (v : ℕ). Some v) (sym sides.0);
              right = el ∙ ap (λ (v : ℕ). Some v) (sym sides.1);
              facing = f;
              first = λ e. elim o [ inl u ↦ (let a = sides.0 in let b = sides.1 in absurd (omega arith)) | inr u ↦ u.1 ];
            }

        -- the cell in r is R
        pub as_right : A.mate (port r 0) ≢ port r 0 → (l < k) ⊎ ((l ≡ k) × (s ≤ r)) → PairAt K A r (Some (record { left = s; right = r; cells = length w.cells.now }))
        as_right n o = (P, act, (λ i. record { left = s; right = r; cells = many i }), inr refl)
          where
            P : CPair
            P = record { left = s; right = r; position = F.position; rule = F.rule }

            sides : (F.rule.left ≡ l) × (F.rule.right ≡ k)
            sides = elim F.meant [
              | inr t ↦ t
              | inl t ↦ (let h = ordered in elim o [
                | inl u ↦ absurd (omega arith)
                | inr u ↦ (t.0 ∙ sym u.0, t.1 ∙ u.0)
              ])
            ]

            act : Active K A (record { left = s; right = r; position = F.position; rule = F.rule })
            act = record {
              listed = F.listed;
              left = el ∙ ap (λ (v : ℕ). Some v) (sym sides.0);
              right = ek ∙ ap (λ (v : ℕ). Some v) (sym sides.1);
              facing = ap A.mate (sym f) ∙ twice (port r 0);
              first = λ e. elim o [ inl u ↦ (let a = sides.0 in let b = sides.1 in absurd (omega arith)) | inr u ↦ (let m = rs n in let h = u.1 in omega arith) ];
            }
