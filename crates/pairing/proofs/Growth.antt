-- Partial renumberings: soundness, forced propagation, and growth by a whole piece without loss. Assumes nothing.
use Rattle.std.proofs.Common.{◌≡◌, ℕ, zero, suc, ◌*◌, ◌<◌, ◌≤◌, Bool, true, false, ◌&&◌, eqb, ltb, leb, ◌≢◌, sym, ap, ◌∙◌, subst, inl, inr, arith}
use Rattle.std.proofs.lemmas.Bool.{cases_Bool, cases_lt, cases_eq, and_parts, and_from, leb-true, ltb-true, eqb-true, le-leb, lt-ltb, eq-eqb}
use Rattle.pairing.specs.Graph.{Graph, Sound, Iso}
use Rattle.pairing.specs.Pieces.{Stable, Piece, exchanged}
use Rattle.pairing.proofs.Pairs.{Matched, Closed, Born, Extends}
use Rattle.pairing.proofs.Exchange.{exchange, at_P, at_rest}

pub strong : (P : ℕ → Type 0) → ((k : ℕ) → ((i : ℕ) → i < k → P i) → P k) → (k : ℕ) → P k
strong P step k = below (suc k) k (omega arith)
  where
    below : (m k : ℕ) → k < m → P k
    below zero k h = absurd (omega arith)
    below (suc m) k h = step k (λ i e. below m i (omega arith))

-- one side of the pairs: rows l, and the seat of each
module _ (n : ℕ) (l a : ℕ → ℕ) where
  -- whether x stands there, at o or later
  abbrev pub is_late : ℕ → ℕ → Bool
  is_late o x = leb o (a x) && (ltb (a x) n && eqb (l (a x)) x)

  of_late : (o x : ℕ) → is_late o x ≡ true → (o ≤ a x) × (a x < n) × (l (a x) ≡ x)
  of_late o x e =
      let u = and_parts (leb o (a x)) (ltb (a x) n && eqb (l (a x)) x) e in
      let v = and_parts (ltb (a x) n) (eqb (l (a x)) x) u.1 in
      (leb-true o (a x) u.0, ltb-true (a x) n v.0, eqb-true (l (a x)) x v.1)

  module _ (seated : (k : ℕ) → k < n → a (l k) ≡ k) where
    pub once : (i k : ℕ) → i < n → k < n → l i ≡ l k → i ≡ k
    once i k hi hk e = sym (seated i hi) ∙ ap a e ∙ seated k hk

    late : (o k : ℕ) → o ≤ k → k < n → is_late o (l k) ≡ true
    late o k h t = and_from _ _ (le-leb o (a (l k)) (subst (λ (z : ℕ). o ≤ z) (sym (seated k t)) h)) (and_from _ _
        (lt-ltb (a (l k)) n (subst (λ (z : ℕ). z < n) (sym (seated k t)) t)) (eq-eqb (l (a (l k))) (l k) (ap l (seated k t))))

    -- an early one is no late one
    not_late : (o k : ℕ) → k < o → k < n → is_late o (l k) ≡ false
    not_late o k h t = elim (cases_Bool (is_late o (l k))) [
      | inl e ↦ absurd (let u = of_late o (l k) e in let v = seated k t in let w : o ≤ a (l k) = u.0 in omega arith)
      | inr e ↦ e
    ]

-- rows that links lead to from the one at o are in one piece with it
pub one_piece : (A : Graph) (o n : ℕ) (l : ℕ → ℕ) → ((k : ℕ) → k < n → A.kind (l k) ≢ 0)
    → ((k : ℕ) → o < k → k < n → (i : ℕ) × (j : ℕ) × (o ≤ i) × (i < k) × (j < 3) × (l k ≡ A.row (l i) j))
    → (C : ℕ → Bool) → Stable A C → (k : ℕ) → o ≤ k → k < n → C (l k) ≡ C (l o)
one_piece A o n l live born C st = strong (λ k. o ≤ k → k < n → C (l k) ≡ C (l o)) (λ k ih h t.
    elim (cases_eq k o) [
      | inl y ↦ ap (λ (z : ℕ). C (l z)) y
      | inr y ↦
          let w = born k (omega arith) t in
          let wi : w.0 < k = w.3 in
          ap C w.5 ∙ st (l w.0) w.1 (live w.0 (omega arith)) w.4 ∙ ih w.0 w.3 w.2 (omega arith)
    ])

module _ (A B : Graph) (n : ℕ) (l r a b : ℕ → ℕ) (m : Matched A B n l r a b) where
  ours : (k : ℕ) → k < n → a (l k) ≡ k
  ours k h = (m.places k h).0

  theirs : (k : ℕ) → k < n → b (r k) ≡ k
  theirs k h = (m.places k h).1

  -- soundness: pairs that are closed and hold all that is there are a renumbering
  pub total : Closed A B (3 * n) n l r → ((p : ℕ) → A.kind p ≢ 0 → (k : ℕ) × (k < n) × (l k ≡ p)) → ((q : ℕ) → B.kind q ≢ 0 → (k : ℕ) × (k < n) × (r k ≡ q)) →
      Iso A B (λ x. r (a x)) (λ y. l (b y))
  total c la lb = record {
    to = λ p h.
        let k = la p h in
        let u = m.places k.0 k.1 in
        let v = m.kinds k.0 k.1 in
        let e : a p ≡ k.0 = ap a (sym k.2) ∙ u.0 in
        (ap (λ (z : ℕ). B.kind (r z)) e ∙ v.1 ∙ ap A.kind k.2, ap (λ (z : ℕ). l (b (r z))) e ∙ ap l u.1 ∙ k.2);
    fro = λ q h.
        let k = lb q h in
        let u = m.places k.0 k.1 in
        let v = m.kinds k.0 k.1 in
        let e : b q ≡ k.0 = ap b (sym k.2) ∙ u.1 in
        (ap (λ (z : ℕ). A.kind (l z)) e ∙ sym v.1 ∙ ap B.kind k.2, ap (λ (z : ℕ). r (a (l z))) e ∙ ap r u.0 ∙ k.2);
    links = λ p j h t.
        let k = la p h in
        let u = m.places k.0 k.1 in
        let e : a p ≡ k.0 = ap a (sym k.2) ∙ u.0 in
        let kn : k.0 < n = k.1 in
        let d = c k.0 j t (omega arith) in
        let i = d.1 in
        let w = m.places i.0 i.1 in
        let x : A.row p j ≡ l i.0 = ap (λ (z : ℕ). A.row z j) (sym k.2) ∙ sym i.2 in
        let y : a (A.row p j) ≡ i.0 = ap a x ∙ w.0 in
        (ap (λ (z : ℕ). B.row (r z) j) e ∙ sym i.3 ∙ ap r (sym y), ap (λ (z : ℕ). B.slot (r z) j) e ∙ sym d.0 ∙ ap (λ (z : ℕ). A.slot z j) k.2);
  }

  -- a renumbering that has the pair at k has the pair of the mates
  pub mates : (f g : ℕ → ℕ) → Iso A B f g → (k j : ℕ) → k < n → j < 3 → f (l k) ≡ r k →
      (f (A.row (l k) j) ≡ B.row (r k) j) × (A.slot (l k) j ≡ B.slot (r k) j)
  mates f g i k j h t e =
      let u = i.links (l k) j (m.kinds k h).0 t in
      (sym u.0 ∙ ap (λ (z : ℕ). B.row z j) e, sym u.1 ∙ ap (λ (z : ℕ). B.slot z j) e)

  -- forced: a renumbering that has the pairs up to o has all that were born from them
  pub forced : (o : ℕ) (f g : ℕ → ℕ) → Iso A B f g → Born A B o n l r → Extends f o l r → f (l o) ≡ r o → Extends f n l r
  forced o f g i bo ex e = strong (λ k. k < n → f (l k) ≡ r k) (λ k ih h.
      elim (cases_lt k o) [
        | inl x ↦ ex k x
        | inr x ↦ elim (cases_eq k o) [
          | inl y ↦ ap f (ap l y) ∙ e ∙ ap r (sym y)
          | inr y ↦
              let w = bo k (omega arith) h in
              let wi : w.0 < k = w.3 in
              let z = ih w.0 w.3 (omega arith) in
              let v = mates f g i w.0 w.1 (omega arith) w.4 z in
              ap f w.5 ∙ v.0 ∙ sym w.6
        ]
      ])

  module _ (o : ℕ) (lt : o < n) (sa : Sound A) (sb : Sound B) (before : Closed A B (3 * o) o l r) (after : Closed A B (3 * n) n l r) (bo : Born A B o n l r) where
    abbrev P : ℕ → Bool
    P = is_late n l a o

    abbrev Q : ℕ → Bool
    Q = is_late n r b o

    -- a link from the new pairs leads to a new pair
    new : (k j i : ℕ) → o ≤ k → k < n → j < 3 → i < n → l i ≡ A.row (l k) j → o ≤ i
    new k j i h t s q e = elim (cases_lt i o) [
      | inl y ↦
          let lv = (m.kinds k t).0 in
          let u = (before i (A.slot (l k) j) (sa.slots (l k) j lv s) (let z = sa.slots (l k) j lv s in omega arith)).1 in
          let v : l u.0 ≡ l k = u.2 ∙ ap (λ (z : ℕ). A.row z (A.slot (l k) j)) e ∙ sa.back_row (l k) j lv s in
          let un : u.0 < o = u.1 in
          let w = once n l a ours u.0 k (omega arith) t v in
          omega arith
      | inr y ↦ y
    ]

    piece_l : (C : ℕ → Bool) → Stable A C → (k : ℕ) → o ≤ k → k < n → C (l k) ≡ C (l o)
    piece_l = one_piece A o n l (λ k t. (m.kinds k t).0) (λ k h t. let w = bo k h t in (w.0, w.1, w.2, w.3, w.4, w.5))

    piece_r : (C : ℕ → Bool) → Stable B C → (k : ℕ) → o ≤ k → k < n → C (r k) ≡ C (r o)
    piece_r = one_piece B o n r (λ k t. let u = m.kinds k t in λ e. u.0 (sym u.1 ∙ e)) (λ k h t. let w = bo k h t in (w.0, w.1, w.2, w.3, w.4, w.6))

    pub piece : Piece A B P Q (λ x. r (a x)) (λ y. l (b y))
    piece = record {
      to = λ x e.
          let u = of_late n l a o x e in
          let p = m.places (a x) u.1 in
          let q = m.kinds (a x) u.1 in
          (late n r b theirs o (a x) u.0 u.1, ap l p.1 ∙ u.2, (λ z. q.0 (ap A.kind u.2 ∙ z)), q.1 ∙ ap A.kind u.2);
      fro = λ y e.
          let u = of_late n r b o y e in
          let p = m.places (b y) u.1 in
          (late n l a ours o (b y) u.0 u.1, ap r p.0 ∙ u.2);
      links = λ x j e t.
          let u = of_late n l a o x e in
          let un : a x < n = u.1 in
          let d = after (a x) j t (omega arith) in
          let i = d.1 in
          let h = new (a x) j i.0 u.0 u.1 t i.1 i.2 in
          let y : l i.0 ≡ A.row x j = i.2 ∙ ap (λ (z : ℕ). A.row z j) u.2 in
          (ap P (sym y) ∙ late n l a ours o i.0 h i.1, sym i.3 ∙ ap r (sym (m.places i.0 i.1).0 ∙ ap a y), sym d.0 ∙ ap (λ (z : ℕ). A.slot z j) u.2);
      one = λ x y e d C st.
          let u = of_late n l a o x e in
          let v = of_late n l a o y d in
          ap C (sym u.2) ∙ piece_l C st (a x) u.0 u.1 ∙ sym (piece_l C st (a y) v.0 v.1) ∙ ap C v.2;
      other = λ x y e d C st.
          let u = of_late n r b o x e in
          let v = of_late n r b o y d in
          ap C (sym u.2) ∙ piece_r C st (b x) u.0 u.1 ∙ sym (piece_r C st (b y) v.0 v.1) ∙ ap C v.2;
    }

    -- growth by a whole piece is without loss
    pub grown : (f g : ℕ → ℕ) → Iso A B f g → Extends f o l r → (f' : ℕ → ℕ) × (g' : ℕ → ℕ) × Iso A B f' g' × Extends f' n l r
    grown f g i ex = (
      exchanged P Q (λ x. r (a x)) (λ y. l (b y)) f,
      exchanged Q P (λ y. l (b y)) (λ x. r (a x)) g,
      exchange A B P Q (λ x. r (a x)) (λ y. l (b y)) f g sa sb piece i,
      λ k t. elim (cases_lt k o) [
        | inl h ↦
            at_rest A B P Q (λ x. r (a x)) (λ y. l (b y)) f g sa sb piece i (l k) (not_late n l a ours o k h t) (ap Q (ex k h) ∙ not_late n r b theirs o k h t)
            ∙ ex k h
        | inr h ↦ at_P A B P Q (λ x. r (a x)) (λ y. l (b y)) f g sa sb piece i (l k) (late n l a ours o k h t) ∙ ap r (m.places k t).0
      ],
    )
