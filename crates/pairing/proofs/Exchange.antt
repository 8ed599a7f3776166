-- The exchange lemma. Assumes nothing.
use Rattle.std.proofs.Common.{◌≡◌, ℕ, ◌<◌, Bool, true, false, ◌≢◌, ◌⊎◌, sym, ap, ◌∙◌, inl, inr}
use Rattle.std.specs.Cmp.{both_ways as same_tests}
use Rattle.std.proofs.lemmas.Bool.{cases_Bool, both_ways}
use Rattle.pairing.specs.Graph.{Graph, Sound, Iso}
use Rattle.pairing.specs.Pieces.{Stable, Piece, exchanged}

pub iso_sym : {A B : Graph} {f g : ℕ → ℕ} → Sound A → Iso A B f g → Iso B A g f
iso_sym {A} {B} {f} {g} s i = record {
  to = i.fro;
  fro = i.to;
  links = λ q j l m.
      let k = i.fro q l in
      let lp : A.kind (g q) ≢ 0 = λ e. l (sym k.0 ∙ e) in
      let a = i.links (g q) j lp m in
      let t = i.to (A.row (g q) j) (s.there (g q) j lp m) in
      let e : g (B.row q j) ≡ A.row (g q) j = cc in
      (sym e, cc);
}

pub piece_sym : {A B : Graph} {P Q : ℕ → Bool} {h k : ℕ → ℕ} → Piece A B P Q h k → Piece B A Q P k h
piece_sym {A} {B} {P} {Q} {h} {k} c = record {
  to = λ y l.
      let t = c.fro y l in
      let u = c.to (k y) t.0 in
      (t.0, t.1, (λ e. u.2 (sym u.3 ∙ ap B.kind t.1 ∙ e)), cc);
  fro = λ x l. let t = c.to x l in (t.0, t.1);
  links = λ y j l m.
      let t = c.fro y l in
      let u = c.links (k y) j t.0 m in
      let v = c.to (A.row (k y) j) u.0 in
      let e : B.row y j ≡ h (A.row (k y) j) = cc in
      (cc, cc, cc);
  one = c.other;
  other = c.one;
}

pub stable : {A B : Graph} {P Q : ℕ → Bool} {h k : ℕ → ℕ} → Sound A → Piece A B P Q h k → Stable A P
stable {A} {B} {P} {Q} {h} {k} s c x j l m =
    same_tests (P (A.row x j)) (P x) (λ e.
    let u = (c.links (A.row x j) (A.slot x j) e (s.slots x j l m)).0 in
    let v = s.back_row x j l m in
    cc) (λ e. (c.links x j e m).0)

module _ (A B : Graph) (P Q : ℕ → Bool) (h k : ℕ → ℕ) (f g : ℕ → ℕ) (sa : Sound A) (sb : Sound B) (c : Piece A B P Q h k) (i : Iso A B f g) where
  i' : Iso B A g f
  i' = iso_sym sa i

  c' : Piece B A Q P k h
  c' = piece_sym c

  -- what goes back into P is stable
  pulled : Stable B (λ y. P (g y))
  pulled y j l m =
      let k = i.fro y l in
      let lp : A.kind (g y) ≢ 0 = λ e. l (sym k.0 ∙ e) in
      ap P (sym (i'.links y j l m).0) ∙ stable sa c (g y) j lp m

  live : (x : ℕ) → P x ≡ true → A.kind x ≢ 0
  live x e = (c.to x e).2

  -- if something outside P goes into Q, nothing of P does
  pub apart : (x u : ℕ) → A.kind x ≢ 0 → P x ≡ false → Q (f x) ≡ true → P u ≡ true → Q (f u) ≡ false
  apart x u l p q pu = elim (cases_Bool (Q (f u))) [
    | inl e ↦
        let o = c.other (f x) (f u) q e (λ y. P (g y)) pulled in
        let a = i.to x l in
        let b = i.to u (live u pu) in
        let z : P x ≡ true = cc in
        absurd (both_ways (P x) p z)
    | inr e ↦ e
  ]

  abbrev f' : ℕ → ℕ
  f' = exchanged P Q h k f

  abbrev g' : ℕ → ℕ
  g' = exchanged Q P k h g

  pub at_P : (x : ℕ) → P x ≡ true → f' x ≡ h x
  at_P x e = simp e

  pub at_Q : (x : ℕ) → P x ≡ false → Q (f x) ≡ true → f' x ≡ f (k (f x))
  at_Q x e d = simp (e, d)

  pub at_rest : (x : ℕ) → P x ≡ false → Q (f x) ≡ false → f' x ≡ f x
  at_rest x e d = simp (e, d)

  back_P : (y : ℕ) → Q y ≡ true → g' y ≡ k y
  back_P y e = simp e

  back_Q : (y : ℕ) → Q y ≡ false → P (g y) ≡ true → g' y ≡ g (h (g y))
  back_Q y e d = simp (e, d)

  back_rest : (y : ℕ) → Q y ≡ false → P (g y) ≡ false → g' y ≡ g y
  back_rest y e d = simp (e, d)

  pub goes : (x : ℕ) → A.kind x ≢ 0 → (B.kind (f' x) ≡ A.kind x) × (g' (f' x) ≡ x)
  goes x l = go (cases_Bool (P x)) (cases_Bool (Q (f x)))
    where
      go : (P x ≡ true) ⊎ (P x ≡ false) → (Q (f x) ≡ true) ⊎ (Q (f x) ≡ false) → (B.kind (f' x) ≡ A.kind x) × (g' (f' x) ≡ x)
      go (inl p) q =
          let a = at_P x p in
          let t = c.to x p in
          let b = back_P (h x) t.0 in
          (ap B.kind a ∙ t.3, ap g' a ∙ b ∙ t.1)
      go (inr p) (inl q) =
          let a = at_Q x p q in
          let t = c.fro (f x) q in
          let n = apart x (k (f x)) l p q t.0 in
          let u = i.to (k (f x)) (live (k (f x)) t.0) in
          let v = i.to x l in
          let w = c.to (k (f x)) t.0 in
          let r : P (g (f (k (f x)))) ≡ true = ap P u.1 ∙ t.0 in
          let b = back_Q (f (k (f x))) n r in
          let e : g (h (g (f (k (f x))))) ≡ x = ap (λ (z : ℕ). g (h z)) u.1 ∙ ap g t.1 ∙ v.1 in
          (ap B.kind a ∙ u.0 ∙ sym w.3 ∙ ap B.kind t.1 ∙ v.0, ap g' a ∙ b ∙ e)
      go (inr p) (inr q) =
          let a = at_rest x p q in
          let v = i.to x l in
          let b = back_rest (f x) q (ap P v.1 ∙ p) in
          (ap B.kind a ∙ v.0, ap g' a ∙ b ∙ v.1)

  pub follows : (x j : ℕ) → A.kind x ≢ 0 → j < 3 → (B.row (f' x) j ≡ f' (A.row x j)) × (B.slot (f' x) j ≡ A.slot x j)
  follows x j l m = go (cases_Bool (P x)) (cases_Bool (Q (f x)))
    where
      st : P (A.row x j) ≡ P x
      st = stable sa c x j l m

      il : (B.row (f x) j ≡ f (A.row x j)) × (B.slot (f x) j ≡ A.slot x j)
      il = i.links x j l m

      lf : B.kind (f x) ≢ 0
      lf e = l (sym (i.to x l).0 ∙ e)

      sq : Q (f (A.row x j)) ≡ Q (f x)
      sq = ap Q (sym il.0) ∙ stable sb c' (f x) j lf m

      go : (P x ≡ true) ⊎ (P x ≡ false) → (Q (f x) ≡ true) ⊎ (Q (f x) ≡ false) → (B.row (f' x) j ≡ f' (A.row x j)) × (B.slot (f' x) j ≡ A.slot x j)
      go (inl p) q =
          let a = at_P x p in
          let b = at_P (A.row x j) (st ∙ p) in
          let t = c.links x j p m in
          (ap (λ (z : ℕ). B.row z j) a ∙ t.1 ∙ sym b, ap (λ (z : ℕ). B.slot z j) a ∙ t.2)
      go (inr p) (inl q) =
          let a = at_Q x p q in
          let b = at_Q (A.row x j) (st ∙ p) (sq ∙ q) in
          let t = c.fro (f x) q in
          let d = c'.links (f x) j q m in
          let u = i.links (k (f x)) j (live (k (f x)) t.0) m in (
            ap (λ (z : ℕ). B.row z j) a ∙ u.0 ∙ ap f d.1 ∙ ap (λ (z : ℕ). f (k z)) il.0 ∙ sym b,
            ap (λ (z : ℕ). B.slot z j) a ∙ u.1 ∙ d.2 ∙ il.1,
          )
      go (inr p) (inr q) =
          let a = at_rest x p q in
          let b = at_rest (A.row x j) (st ∙ p) (sq ∙ q) in
          (ap (λ (z : ℕ). B.row z j) a ∙ il.0 ∙ sym b, ap (λ (z : ℕ). B.slot z j) a ∙ il.1)

pub exchange : (A B : Graph) (P Q : ℕ → Bool) (h k f g : ℕ → ℕ) → Sound A → Sound B → Piece A B P Q h k → Iso A B f g →
    Iso A B (exchanged P Q h k f) (exchanged Q P k h g)
exchange A B P Q h k f g sa sb c i = record {
  to = goes A B P Q h k f g sa sb c i;
  fro = goes B A Q P k h g f sb sa (piece_sym c) (iso_sym sa i);
  links = follows A B P Q h k f g sa sb c i;
}
