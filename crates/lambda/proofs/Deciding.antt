-- Whether a net is that of a linear term. Assumes nothing.
use Rattle.std.proofs.Common.{◌≡◌, ℕ, zero, suc, ◌+◌, ◌<◌, ◌≤◌, ◌≢◌, ◌⊎◌, [], Some, None, Option, sym, refl, ap, ◌∙◌, subst, inl, inr, arith}
use mathlib.Core.Path.{fun_ext}
use Rattle.calculus.specs.Spots.{Spot, end, port}
use Rattle.calculus.specs.Nets.{Net, Stands, Good}
use Rattle.calculus.specs.Alike.{AlikeBy, Alike}
use Rattle.calculus.specs.Combinators.{γ, combinators}
use Rattle.calculus.proofs.Splice.{spot}
use Rattle.std.proofs.lemmas.Bool.{cases_lt}
use Rattle.calculus.proofs.Alikes.{by_id}
use Rattle.lambda.specs.Terms.{Term, var, item, lam, app, size, one, uses, stands, binds, applies, cells, Linear}
use Rattle.lambda.specs.TermNets.{links, net}
use Rattle.lambda.specs.Indices.{Same}
use Rattle.lambda.specs.Reading.{Reads, ReadsBack}
use Rattle.lambda.specs.Theorems.{EveryReadingBack}
use Rattle.lambda.proofs.Counts.{number, one_yes, one_no}
use Rattle.lambda.proofs.Wirings.{In}
use Rattle.lambda.proofs.Good.{reach, good, kind_yes, kind_some, kind_none, ends_are, no_loops}
use Rattle.lambda.proofs.Contracting.{mates, either_way}
use Rattle.lambda.proofs.Relabels.{relabel, cells_at, relabel_linear}
use Rattle.lambda.proofs.Reading.{read, symbols, symbols_size, computed, sound, one_reading, reads_has, cell_back, reads}
use Rattle.lambda.proofs.Indexing.{relabel_id, same_relabel}
use Rattle.lambda.proofs.Linearity.{read_linear}

abbrev Decided : Type 0 → Type 0
Decided P = P ⊎ (P → ⊥)

dec_and : {P Q : Type 0} → Decided P → Decided Q → Decided (P × Q)
dec_and (inl p) (inl q) = inl (p, q)
dec_and (inl p) (inr q) = inr (λ h. q h.1)
dec_and (inr p) q = inr (λ h. p h.0)

dec_if : {P Q : Type 0} → Decided P → Decided Q → Decided (P → Q)
dec_if (inl p) (inl q) = inl (λ h. q)
dec_if (inl p) (inr q) = inr (λ h. q (h p))
dec_if (inr p) q = inl (λ h. absurd (p h))

dec_eq : (a b : ℕ) → Decided (a ≡ b)
dec_eq a b = elim (number a b) [ inl h ↦ inl h.0 | inr h ↦ inr h.0 ]

dec_le : (a b : ℕ) → Decided (a ≤ b)
dec_le a b = elim (cases_lt b a) [ inl h ↦ inr (λ z. omega arith) | inr h ↦ inl h ]

dec_all : (P : ℕ → Type 0) → ((r : ℕ) → Decided (P r)) → (N : ℕ) → Decided ((r : ℕ) → r < N → P r)
dec_all P d zero = inl (λ r h. absurd (omega arith))
dec_all P d (suc N) = go (dec_all P d N) (d N)
  where
    go : Decided ((r : ℕ) → r < N → P r) → Decided (P N) → Decided ((r : ℕ) → r < suc N → P r)
    go (inl a) (inl b) = inl (λ r h. elim (cases_lt r N) [ inl i ↦ a r i | inr i ↦ (let e : N ≡ r = omega arith in subst P e b) ])
    go (inl a) (inr b) = inr (λ f. b (f N (omega arith)))
    go (inr a) b = inr (λ f. a (λ r h. f r (omega arith)))

pub above : (r : ℕ) (v : Term) → reach v ≤ r → (uses r v ≡ 0) × (binds r v ≡ 0) × (applies r v ≡ 0) × (stands r v ≡ 0)
above r (var p) h = (one_no r p (omega arith), refl, refl, refl)
above r (item k) h = (refl, refl, refl, one_no r k (omega arith))
above r (lam p b) h = let i = above r b (omega arith) in let o = one_no r p (omega arith) in (omega arith, omega arith, omega arith, omega arith)
above r (app p f a) h =
    let i = above r f (omega arith) in
    let j = above r a (omega arith) in
    let o = one_no r p (omega arith) in
    (omega arith, omega arith, omega arith, omega arith)

-- no more cells than places
abbrev sum : (ℕ → ℕ) → ℕ → ℕ
sum f zero = 0
sum f (suc N) = f N + sum f N

sum_cong : (f g : ℕ → ℕ) (N : ℕ) → ((r : ℕ) → f r ≡ g r) → sum f N ≡ sum g N
sum_cong f g zero h = refl
sum_cong f g (suc N) h = let i = h N in let j = sum_cong f g N h in omega arith

sum_add : (f g : ℕ → ℕ) (N : ℕ) → sum (λ r. f r + g r) N ≡ sum f N + sum g N
sum_add f g zero = refl
sum_add f g (suc N) = let j = sum_add f g N in omega arith

sum_most : (f : ℕ → ℕ) (N : ℕ) → ((r : ℕ) → f r ≤ 1) → sum f N ≤ N
sum_most f zero h = omega arith
sum_most f (suc N) h = let i = h N in let j = sum_most f N h in omega arith

sum_none : (p N : ℕ) → N ≤ p → sum (λ r. one r p) N ≡ 0
sum_none p zero h = refl
sum_none p (suc N) h = let i = sum_none p N (omega arith) in let o = one_no N p (omega arith) in omega arith

sum_one : (p N : ℕ) → p < N → sum (λ r. one r p) N ≡ 1
sum_one p zero h = absurd (omega arith)
sum_one p (suc N) h = elim (number N p) [
  | inl e ↦ (let i = e.0 in let j = sum_none p N (omega arith) in let o = one_yes N p e.0 in omega arith)
  | inr e ↦ (let k = e.0 in let j = sum_one p N (omega arith) in let o = one_no N p e.0 in omega arith)
]

sum_zero : (N : ℕ) → sum (λ r. 0) N ≡ 0
sum_zero zero = refl
sum_zero (suc N) = let i = sum_zero N in omega arith

cells_sum : (v : Term) (N : ℕ) → ((p : ℕ) → 1 ≤ cells p v → p < N) → sum (λ r. cells r v) N ≡ size v
cells_sum (var p) N h = sum_zero N
cells_sum (item k) N h = sum_zero N
cells_sum (lam p b) N h =
    let o = one_yes p p refl in
    let a = sum_one p N (h p (omega arith)) in
    let i = cells_sum b N (λ r z. h r (omega arith)) in
    let c = sum_cong (λ r. cells r (lam p b)) (λ r. one r p + cells r b) N (λ r. omega arith) in
    let s = sum_add (λ r. one r p) (λ r. cells r b) N in
    omega arith
cells_sum (app p f b) N h =
    let o = one_yes p p refl in
    let a = sum_one p N (h p (omega arith)) in
    let i = cells_sum f N (λ r z. h r (omega arith)) in
    let j = cells_sum b N (λ r z. h r (omega arith)) in
    let c = sum_cong (λ r. cells r (app p f b)) (λ r. one r p + (cells r f + cells r b)) N (λ r. omega arith) in
    let s = sum_add (λ r. one r p) (λ r. cells r f + cells r b) N in
    let u = sum_add (λ r. cells r f) (λ r. cells r b) N in
    omega arith

-- ── what is read has exactly this net ──

module _ (n : ℕ) (A : Net) (G : Good combinators A) (t : Term) (R : ReadsBack n A t) where
  l : Linear n t
  l = read_linear n A G t R

  linked_same : (x : Spot) → (net n t).mate x ≢ x → (net n t).mate x ≡ A.mate x
  linked_same x h = at (either_way n t l x h)
    where
      at : (y : Spot) × (In (links (end 0) t) x y ⊎ In (links (end 0) t) y x) → (net n t).mate x ≡ A.mate x
      at (y, inl i) = (mates n t l x y i).0 ∙ sym (reads_has A.mate R.root x y i)
      at (y, inr i) = (mates n t l y x i).1 ∙ sym (ap A.mate (sym (reads_has A.mate R.root y x i)) ∙ G.twice y)

  mate_same : (x : Spot) → (net n t).mate x ≡ A.mate x
  mate_same x = go (spot ((net n t).mate x) x) (spot (A.mate x) x)
    where
      stands_too : (x : Spot) → Stands combinators A x → Stands combinators (net n t) x
      stands_too (end e) z = subst (λ m. e < m) (R.ends ∙ sym (ends_are n t)) z
      stands_too (port r j) (k, e, z) = let w = R.whole r k e in (k, kind_yes n t r w.1 ∙ ap Some (sym w.0), z)

      go : ((net n t).mate x ≡ x) ⊎ ((net n t).mate x ≢ x) → (A.mate x ≡ x) ⊎ (A.mate x ≢ x) → (net n t).mate x ≡ A.mate x
      go (inr h) z = linked_same x h
      go (inl e) (inl z) = e ∙ sym z
      go (inl e) (inr z) = absurd ((good n t l).linked x (stands_too x (G.there x z)) e)

  -- a cell of the term is one of the net
  pub has_cell : (r : ℕ) → 1 ≤ cells r t → (k : ℕ) × (A.kind r ≡ Some k)
  has_cell r h =
      let k = (good n t l).linked (port r 0) (γ, kind_yes n t r h, (2, refl, omega arith)) in
      let i = G.there (port r 0) (λ z. k (mate_same (port r 0) ∙ z)) in
      (i.0, i.1)

  kind_same : (r : ℕ) → (net n t).kind r ≡ A.kind r
  kind_same r = go (A.kind r) refl (cases_lt 0 (cells r t))
    where
      go : (o : Option ℕ) → A.kind r ≡ o → (0 < cells r t) ⊎ (cells r t ≤ 0) → (net n t).kind r ≡ A.kind r
      go (Some k) e h = let w = R.whole r k e in kind_yes n t r w.1 ∙ ap Some (sym w.0) ∙ sym e
      go None e (inl h) = let i = has_cell r h in let f = i.1 in absurd (let z : ◌≡◌ {A = ℕ} 0 1 = cc in let y : ⊥ = omega arith in y)
      go None e (inr h) = kind_none n t r (omega arith) ∙ sym e

  pub exact : net n t ≡ A
  exact = λ i. record {
    ends = (ends_are n t ∙ sym R.ends) i;
    kind = fun_ext kind_same i;
    mate = fun_ext mate_same i;
    loops = (no_loops n t ∙ sym R.loops) i;
  }

  pub shallow : (N : ℕ) → ((r k : ℕ) → A.kind r ≡ Some k → r < N) → symbols t ≤ N + N + 1
  shallow N small =
      let s = cells_sum t N (λ r h. let i = has_cell r h in small r i.0 i.1) in
      let m = sum_most (λ r. cells r t) N (λ r. R.apart r) in
      let b = symbols_size t in
      omega arith

-- ── a term that has the net is read ──

module _ (n : ℕ) (A : Net) (t : Term) (l : Linear n t) (f g : ℕ → ℕ) (al : AlikeBy f g (net n t) A) where
  back : (p : ℕ) → 1 ≤ cells p t → g (f p) ≡ p
  back = cell_back n t l A f g al

  read_back : ReadsBack n A (relabel f t)
  read_back =
      let r = relabel_linear n t l f g back in
      record {
        ends = sym al.ends ∙ ends_are n t;
        root = reads n t l A f g al;
        apart = r.apart;
        used = λ p h. let a = r.closed p in omega arith;
        listed = λ k i j. let a = r.listed k i j in omega arith;
        whole = λ r k e.
            let b = al.kinds.back r k e in
            let c = kind_some n t (g r) k b.0 in
            let h = c.0 in
            let d = cells_at n t l f g back (g r) c.0 in
            (c.1, subst (λ s. 1 ≤ cells s (relabel f t)) b.1 (omega arith));
        loops = sym al.loops ∙ no_loops n t;
      }

pub found_back : (n : ℕ) (A : Net) (t : Term) → Linear n t → Alike (net n t) A → (u : Term) × ReadsBack n A u × Same t u
found_back n A t l (f, g, al) = (relabel f t, read_back n A t l f g al, same_relabel n t l f g (back n A t l f g al))

pub reads_itself : (n : ℕ) (t : Term) → Linear n t → ReadsBack n (net n t) t
reads_itself n t l = subst (ReadsBack n (net n t)) (relabel_id t) (read_back n (net n t) t l (λ i. i) (λ i. i) (by_id (net n t)))

-- ── reading is decided ──

module _ (n : ℕ) (A : Net) (G : Good combinators A) where
  abbrev N : ℕ
  N = G.finite.0

  abbrev Met : Term → ℕ → Option ℕ → Type 0
  Met t r None = Unit {0}
  Met t r (Some k) = (k ≡ γ) × (1 ≤ cells r t)

  -- met at most once, its variable at least once
  abbrev Fair : Term → ℕ → Type 0
  Fair t r = (cells r t ≤ 1) × (1 ≤ binds r t → 1 ≤ uses r t)

  dec_met : (t : Term) (r : ℕ) (o : Option ℕ) → Decided (Met t r o)
  dec_met t r None = inl tt
  dec_met t r (Some k) = dec_and (dec_eq k γ) (dec_le 1 (cells r t))

  dec_back : (t : Term) → Reads A.mate [] (end 0) t → Decided (ReadsBack n A t)
  dec_back t r = go
      (dec_and (dec_eq A.ends (suc n)) (dec_eq A.loops 0))
      (dec_all (λ r. Met t r (A.kind r)) (λ r. dec_met t r (A.kind r)) N)
      (dec_all (λ r. Fair t r) (λ r. dec_and (dec_le (cells r t) 1) (dec_if (dec_le 1 (binds r t)) (dec_le 1 (uses r t)))) (reach t))
      (dec_all (λ k. 1 ≤ k → 1 ≤ stands k t) (λ k. dec_if (dec_le 1 k) (dec_le 1 (stands k t))) (suc n))
    where
      whole : ((r : ℕ) → r < N → Met t r (A.kind r)) → (r k : ℕ) → A.kind r ≡ Some k → (k ≡ γ) × (1 ≤ cells r t)
      whole w r k e = subst (Met t r) e (w r (G.finite.1 r k e))

      met : ReadsBack n A t → (r : ℕ) → Met t r (A.kind r)
      met R r = at (A.kind r) refl
        where
          at : (o : Option ℕ) → A.kind r ≡ o → Met t r o
          at None e = tt
          at (Some k) e = R.whole r k e

      fair : ((r : ℕ) → r < reach t → Fair t r) → (r : ℕ) → Fair t r
      fair h r = elim (cases_lt r (reach t)) [ inl i ↦ h r i | inr i ↦ (let a = above r t i in (omega arith, λ z. absurd (let y : ⊥ = omega arith in y))) ]

      go : Decided ((A.ends ≡ suc n) × (A.loops ≡ 0)) → Decided ((r : ℕ) → r < N → Met t r (A.kind r)) → Decided ((r : ℕ) → r < reach t → Fair t r) →
          Decided ((k : ℕ) → k < suc n → 1 ≤ k → 1 ≤ stands k t) → Decided (ReadsBack n A t)
      go (inl e) (inl w) (inl f) (inl h) = inl (record {
        ends = e.0;
        root = r;
        whole = whole w;
        apart = λ r. (fair f r).0;
        used = λ p. (fair f p).1;
        listed = λ k i j. h k (omega arith) i;
        loops = e.1;
      })
      go (inl e) (inl w) (inl f) (inr h) = inr (λ R. h (λ k i j. R.listed k j (omega arith)))
      go (inl e) (inl w) (inr f) h = inr (λ R. f (λ r i. (R.apart r, R.used r)))
      go (inl e) (inr w) f h = inr (λ R. w (λ r i. met R r))
      go (inr e) w f h = inr (λ R. e (R.ends, R.loops))

  pub decide : ((t : Term) × ReadsBack n A t) ⊎ ((t : Term) → ReadsBack n A t → ⊥)
  decide = go (read A.mate (N + N + 1) [] (end 0)) refl
    where
      there : (t : Term) → ReadsBack n A t → read A.mate (N + N + 1) [] (end 0) ≡ Some t
      there t R = computed A.mate R.root (N + N + 1) (shallow n A G t R N G.finite.1)

      go : (o : Option Term) → read A.mate (N + N + 1) [] (end 0) ≡ o → ((t : Term) × ReadsBack n A t) ⊎ ((t : Term) → ReadsBack n A t → ⊥)
      go None e = inr (λ t R. let f = there t R in let z : ◌≡◌ {A = ℕ} 0 1 = cc in omega arith)
      go (Some t) e = elim (dec_back t (sound A.mate (N + N + 1) [] (end 0) t e)) [
        | inl R ↦ inl (t, R)
        | inr no' ↦ inr (λ u R. let f = there u R in let z : u ≡ t = cc in no' (subst (ReadsBack n A) z R))
      ]

pub reading_back_lem : EveryReadingBack
reading_back_lem n A G = record {
  linear = read_linear n A G;
  exact = exact n A G;
  found = found_back n A;
  one = λ t u R S. one_reading A.mate [] (end 0) t u R.root S.root;
  decided = elim (decide n A G) [ inl h ↦ inl h | inr h ↦ inr (λ t l al. let (u, R, s) = found_back n A t l al in h u R) ];
}
