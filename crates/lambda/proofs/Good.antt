-- The net of a linear term is well formed. Assumes nothing.
use Rattle.std.proofs.Common.{◌≡◌, ℕ, zero, suc, ◌+◌, ◌<◌, ◌≤◌, Bool, true, false, ◌&&◌, eqb, ◌≢◌, ◌⊎◌, ◌∷◌, Some, None, sym, refl, ap, ◌∙◌, subst, inl, inr, arith}
use Rattle.calculus.specs.Spots.{Spot, end, port}
use Rattle.calculus.specs.Nets.{Stands, Good}
use Rattle.calculus.specs.Drawn.{linked}
use Rattle.calculus.specs.Combinators.{γ, combinators}
use Rattle.std.proofs.lemmas.Bool.{cases_lt}
use Rattle.calculus.proofs.Splice.{Mutual}
use Rattle.lambda.specs.Terms.{Term, var, item, lam, app, uses, stands, applies, cells, Linear}
use Rattle.lambda.specs.TermNets.{head, inner, links, net}
use Rattle.lambda.specs.Theorems.{TermNetsGood}
use Rattle.lambda.proofs.Counts.{Weights, weigh, number, one_no}
use Rattle.lambda.proofs.Wirings.{at, occ, at_no, occ_append, Distinct, distinct, linked_mutual, linked_live, linked_named}

-- how often a spot is named by each symbol
abbrev pub naming : Spot → Weights
naming s = record {
  onvar = λ p. at s (port p 1);
  onitem = λ k. at s (end k);
  onlam = λ p. at s (port p 0) + at s (port p 2);
  onapp = λ p. at s (port p 1) + (at s (port p 0) + at s (port p 2));
}

pub named : (s : Spot) (t : Term) → at s (head t) + occ s (inner t) ≡ weigh (naming s) t
named s (var p) = omega arith
named s (item k) = omega arith
named s (lam p b) = let ih = named s b in omega arith
named s (app p f a) =
    let i = named s f in
    let j = named s a in
    let k = occ_append s (inner f) ((port p 2, head a) ∷ inner a) in
    omega arith

pub match : (b : Bool) → (◌≡◌ {A = ℕ} (elim (b && true) [ true ↦ 1 | false ↦ 0 ]) (elim b [ true ↦ 1 | false ↦ 0 ])) × (◌≡◌ {A = ℕ} (elim (b && false) [ true ↦ 1 | false ↦ 0 ]) 0)
match true = (refl, refl)
match false = (refl, refl)

pub ports0 : (r : ℕ) (t : Term) → weigh (naming (port r 0)) t ≡ cells r t
ports0 r (var p) = let h = match (eqb r p) in omega arith
ports0 r (item k) = refl
ports0 r (lam p b) = let h = match (eqb r p) in let i = ports0 r b in omega arith
ports0 r (app p f a) = let h = match (eqb r p) in let i = ports0 r f in let k = ports0 r a in omega arith

pub ports2 : (r : ℕ) (t : Term) → weigh (naming (port r 2)) t ≡ cells r t
ports2 r (var p) = let h = match (eqb r p) in omega arith
ports2 r (item k) = refl
ports2 r (lam p b) = let h = match (eqb r p) in let i = ports2 r b in omega arith
ports2 r (app p f a) = let h = match (eqb r p) in let i = ports2 r f in let k = ports2 r a in omega arith

pub ports1 : (r : ℕ) (t : Term) → weigh (naming (port r 1)) t ≡ uses r t + applies r t
ports1 r (var p) = let h = match (eqb r p) in omega arith
ports1 r (item k) = refl
ports1 r (lam p b) = let h = match (eqb r p) in let i = ports1 r b in omega arith
ports1 r (app p f a) = let h = match (eqb r p) in let i = ports1 r f in let k = ports1 r a in omega arith

pub far : (r j : ℕ) (t : Term) → 3 ≤ j → weigh (naming (port r j)) t ≡ 0
far r j t h = go t
  where
    off : (p i : ℕ) → i < 3 → at (port r j) (port p i) ≡ 0
    off p i l = at_no (port r j) (port p i) (λ e. let z : j ≡ i = cc in omega arith)

    go : (t : Term) → weigh (naming (port r j)) t ≡ 0
    go (var p) = off p 1 (omega arith)
    go (item k) = refl
    go (lam p b) = let e = off p 0 (omega arith) in let f = off p 2 (omega arith) in let i = go b in omega arith
    go (app p f a) =
        let d = off p 0 (omega arith) in
        let e = off p 1 (omega arith) in
        let g = off p 2 (omega arith) in
        let i = go f in
        let k = go a in
        omega arith

pub ends : (k : ℕ) (t : Term) → weigh (naming (end k)) t ≡ stands k t
ends k (var p) = refl
ends k (item i) = refl
ends k (lam p b) = let ih = ends k b in omega arith
ends k (app p f a) = let i = ends k f in let j = ends k a in omega arith

-- ── cells ──

module _ (n : ℕ) (t : Term) where
  pub kind_yes : (r : ℕ) → 1 ≤ cells r t → (net n t).kind r ≡ Some γ
  unfolding net
  kind_yes r h = grind (arith)

  pub kind_some : (r k : ℕ) → (net n t).kind r ≡ Some k → (1 ≤ cells r t) × (k ≡ γ)
  unfolding net
  kind_some r k e = (grind (arith), grind (arith))

  pub kind_none : (r : ℕ) → cells r t ≡ 0 → (net n t).kind r ≡ None
  unfolding net
  kind_none r h = grind (arith)

  pub mate_is : (net n t).mate ≡ linked (links (end 0) t)
  unfolding net
  mate_is = refl

  pub ends_are : (net n t).ends ≡ suc n
  unfolding net
  ends_are = refl

  pub no_loops : (net n t).loops ≡ 0
  unfolding net
  no_loops = refl

-- more than every place and every number in a term
abbrev pub reach : Term → ℕ
reach = weigh (record { onvar = suc; onitem = suc; onlam = suc; onapp = suc })

within_reach : (r : ℕ) (u : Term) → 1 ≤ cells r u → r < reach u
within_reach r (var p) h = absurd (omega arith)
within_reach r (item k) h = absurd (omega arith)
within_reach r (lam p b) h = elim (number r p) [
  | inl e ↦ (let z = e.0 in omega arith)
  | inr e ↦ (let z = one_no r p e.0 in let ih = within_reach r b (omega arith) in omega arith)
]
within_reach r (app p f a) h = elim (number r p) [
  | inl e ↦ (let z = e.0 in omega arith)
  | inr e ↦ (let z = one_no r p e.0 in elim (cases_lt 0 (cells r f)) [
    | inl y ↦ (let ih = within_reach r f y in omega arith)
    | inr y ↦ (let ih = within_reach r a (omega arith) in omega arith)
  ])
]

-- ── links ──

module _ (n : ℕ) (t : Term) (l : Linear n t) where
  -- a port below 3 is named as often as its cell stands in the term
  pub port_named : (r j : ℕ) → j ≤ 2 → occ (port r j) (links (end 0) t) ≡ cells r t
  port_named r j h = go j h
    where
      go : (j : ℕ) → j ≤ 2 → occ (port r j) (links (end 0) t) ≡ cells r t
      go zero h = let a = named (port r 0) t in let b = ports0 r t in omega arith
      go (suc zero) h = let a = named (port r 1) t in let b = ports1 r t in let c = l.closed r in omega arith
      go (suc (suc zero)) h = let a = named (port r 2) t in let b = ports2 r t in omega arith
      go (suc (suc (suc j))) h = absurd (omega arith)

  pub port_far : (r j : ℕ) → 3 ≤ j → occ (port r j) (links (end 0) t) ≡ 0
  port_far r j h = let a = named (port r j) t in let b = far r j t h in omega arith

  pub end_named : (e : ℕ) → occ (end e) (links (end 0) t) ≡ at (end e) (end 0) + stands e t
  end_named e = let a = named (end e) t in let b = ends e t in omega arith

  pub end_live : (e : ℕ) → e < suc n → occ (end e) (links (end 0) t) ≡ 1
  end_live zero h = let a = end_named 0 in go (cases_lt 0 (stands 0 t))
    where
      go : (0 < stands 0 t) ⊎ (stands 0 t ≤ 0) → occ (end 0) (links (end 0) t) ≡ 1
      go (inl z) = let y = l.only 0 z in absurd (omega arith)
      go (inr z) = let a = end_named 0 in omega arith
  end_live (suc e) h =
      let a = end_named (suc e) in
      let b = at_no (end (suc e)) (end 0) (λ z. let y : suc e ≡ 0 = cc in omega arith) in
      let c = l.listed (suc e) (omega arith) (omega arith) in
      omega arith

  pub end_far : (e : ℕ) → suc n ≤ e → occ (end e) (links (end 0) t) ≡ 0
  end_far e h = go (cases_lt 0 (stands e t))
    where
      go : (0 < stands e t) ⊎ (stands e t ≤ 0) → occ (end e) (links (end 0) t) ≡ 0
      go (inl z) = let y = l.only e z in absurd (omega arith)
      go (inr z) =
          let a = end_named e in
          let b = at_no (end e) (end 0) (λ z. let y : e ≡ 0 = cc in omega arith) in
          omega arith

  pub distinct_links : Distinct (links (end 0) t)
  distinct_links = distinct (links (end 0) t) most
    where
      most : (s : Spot) → occ s (links (end 0) t) ≤ 1
      most (end e) = elim (cases_lt e (suc n)) [ inl h ↦ (let a = end_live e h in omega arith) | inr h ↦ (let a = end_far e h in omega arith) ]
      most (port r j) = elim (cases_lt j 3) [
        | inl h ↦ (let a = port_named r j (omega arith) in let b = l.apart r in omega arith)
        | inr h ↦ (let a = port_far r j h in omega arith)
      ]

  pub good : Good combinators (net n t)
  good = record {
    finite = (reach t, λ r k e. within_reach r t (kind_some n t r k e).0);
    known = λ r k e. (2, ap combinators.arity (kind_some n t r k e).1, omega arith);
    twice = subst Mutual (sym (mate_is n t)) (linked_mutual (links (end 0) t) distinct_links);
    linked = λ x h. subst (λ m. m x ≢ x) (sym (mate_is n t)) (linked_live (links (end 0) t) distinct_links x (alive x h));
    there = λ x h. is x (linked_named (links (end 0) t) x (subst (λ m. m x ≢ x) (mate_is n t) h));
  }
    where
      low : (k j a : ℕ) → k ≡ γ → combinators.arity k ≡ Some a → j ≤ a → j ≤ 2
      low k j a e f h = let g : Some 2 ≡ Some a = ap combinators.arity (sym e) ∙ f in let z : 2 ≡ a = cc in omega arith

      alive : (x : Spot) → Stands combinators (net n t) x → 1 ≤ occ x (links (end 0) t)
      alive (end e) h = let a = end_live e (subst (λ m. e < m) (ends_are n t) h) in omega arith
      alive (port r j) (k, e, (m, f, h)) =
          let b = kind_some n t r k e in
          let a = port_named r j (low k j m b.1 f h) in
          let c = b.0 in
          omega arith

      is : (x : Spot) → 1 ≤ occ x (links (end 0) t) → Stands combinators (net n t) x
      is (end e) h = elim (cases_lt e (suc n)) [
        | inl i ↦ subst (λ m. e < m) (sym (ends_are n t)) i
        | inr i ↦ (let a = end_far e i in absurd (omega arith))
      ]
      is (port r j) h = elim (cases_lt j 3) [
        | inl i ↦ (let a = port_named r j (omega arith) in (γ, kind_yes n t r (omega arith), (2, refl, omega arith)))
        | inr i ↦ (let a = port_far r j i in absurd (omega arith))
      ]

pub term_nets_good_lem : TermNetsGood
term_nets_good_lem n t l = (good n t l, ends_are n t)
