-- Splicing is rewriting: with the new cells in fresh places, and then in any free places. Assumes nothing.
use Rattle.std.proofs.Common.{◌≡◌, ℕ, zero, suc, ◌+◌, ◌-◌, ◌<◌, ◌≤◌, ◌≢◌, ◌⊎◌, List, [], ◌∷◌, length, Some, None, Option, sym, refl, ap, ◌∙◌, subst, inl, inr, arith}
use Rattle.std.specs.List.{slice_get}
use Rattle.std.proofs.lemmas.Bool.{cases_lt}
use Rattle.calculus.specs.Spots.{Spot, end, port, carry}
use Rattle.calculus.specs.Books.{RulePort, L, R, N, RuleBook, Wired, Leaving, Entering, Laws}
use Rattle.calculus.specs.Nets.{Net, Pair, Good, Active}
use Rattle.calculus.specs.Alike.{AlikeBy}
use Rattle.calculus.specs.Rewriting.{stand, Outside, Unused, Come, along, across, Leads, stays, enters, crosses, goes_on, Joined, here, by_rule, by_link, Closed, Circuits, Rewriting}
use Rattle.calculus.specs.Theorems.{Free}
use Rattle.calculus.proofs.Tests.{nth_within}
use Rattle.calculus.proofs.Beside.{split, Left, split_low, split_at, split_high}
use Rattle.calculus.proofs.Wiring.{number, some_none}
use Rattle.calculus.proofs.Rewrite.{Sized, Facing, facing, without_yes, without_no, rewrite, bounded, left_small, right_small, after_kind, after_ends, cells, old_cell, new_cell, is_there, was_there, stands_after, sized_after}
use Rattle.calculus.proofs.Leads.{leaving_live, fresh, outside_of, old_links, new_links}
use Rattle.calculus.proofs.Closings.{circuits}
use Rattle.calculus.proofs.Renumber.{renumber, kind_in, kind_off, ends_kept, loops_kept, new_mate, linked_from, alike_renumber, good_renumber}

pub cell_or_none : (o : Option ℕ) → ((k : ℕ) × (o ≡ Some k)) ⊎ (o ≡ None)
cell_or_none None = inr refl
cell_or_none (Some k) = inl (k, refl)

module _ (K : RuleBook) (laws : Laws K) (n : ℕ) (A : Net) (G : Sized K n A) (P : Pair) (active : Active K A P) where
  act : Facing K A P
  act = facing K A P active

  pub empty : (r : ℕ) → n ≤ r → A.kind r ≡ None
  empty r h = elim (cell_or_none (A.kind r)) [ inl t ↦ absurd (let s = G.small r t.0 t.1 in let z : ⊥ = omega arith in z) | inr e ↦ e ]

  gone : (r : ℕ) → (r ≡ P.left) ⊎ (r ≡ P.right) → (rewrite K n A P).kind r ≡ None
  gone r h = ap (λ f. f r) (after_kind K laws n A G P act) ∙ without_yes P.left P.right r (split n A.kind (slice_get P.rule.cells)) h

  kept_low : (r : ℕ) → r ≢ P.left → r ≢ P.right → r < n → (rewrite K n A P).kind r ≡ A.kind r
  kept_low r a b h =
      ap (λ f. f r) (after_kind K laws n A G P act) ∙ without_no P.left P.right r (split n A.kind (slice_get P.rule.cells)) a b
      ∙ split_low n A.kind (slice_get P.rule.cells) r h

  kept : (r : ℕ) → r ≢ P.left → r ≢ P.right → Unused P (fresh n) r → (rewrite K n A P).kind r ≡ A.kind r
  kept r a b u = go (cases_lt r n)
    where
      go : (r < n) ⊎ (n ≤ r) → (rewrite K n A P).kind r ≡ A.kind r
      go (inl h) = kept_low r a b h
      go (inr h) =
          let z : n + (r - n) ≡ r = omega arith in
          let e : slice_get P.rule.cells (r - n) ≡ None =
          elim (cell_or_none (slice_get P.rule.cells (r - n))) [ inl t ↦ absurd (u (r - n) t.0 t.1 z) | inr e ↦ e ] in
          ap (λ f. f r) (after_kind K laws n A G P act) ∙ without_no P.left P.right r (split n A.kind (slice_get P.rule.cells)) a b
          ∙ split_high n A.kind (slice_get P.rule.cells) r h ∙ e ∙ sym (empty r h)

  no_more : (x : Spot) → (rewrite K n A P).mate x ≢ x → ((A.mate x ≢ x) × Outside P x) ⊎ ((g : RulePort) × Entering K P.rule g × (x ≡ stand P (fresh n) g))
  no_more x l =
      let t = was_there K laws n A G P act x l in
      elim (is_there K laws n A G P act x t.0 t.1) [
        | inl h ↦ inl (h.0, outside_of K laws n A G P act x t.0 h.0)
        | inr h ↦ inr (N h.0 h.1, (h.2, h.4, h.5), h.3)
      ]

  loops : (rewrite K n A P).loops ≡ A.loops + length (circuits K laws n A G P act).0
  unfolding rewrite
  loops = let e = (circuits K laws n A G P act).1 in omega (arith, e)

  pub at_fresh : Rewriting K A P (fresh n) (rewrite K n A P)
  at_fresh = record {
    active = active;
    vacant = λ i k e. inl (empty (n + i) (omega arith));
    apart = λ i j k l e f z. omega arith;
    new = new_cell K laws n A G P act;
    gone = λ r h u. gone r h;
    kept = kept;
    ends = after_ends K laws n A G P act;
    old_links = old_links K laws n A G P act;
    new_links = new_links K laws n A G P act;
    no_more = no_more;
    circuits = (circuits K laws n A G P act).0;
    counted = (circuits K laws n A G P act).2;
    loops = loops;
  }

-- a leaving port stands where it stood, whatever the places of the new cells
pub stand_leaving : (K : RuleBook) (P : Pair) (place place' : ℕ → ℕ) (g : RulePort) → Leaving K P.rule g → stand P place g ≡ stand P place' g
stand_leaving K P place place' (L j) h = refl
stand_leaving K P place place' (R j) h = refl
stand_leaving K P place place' (N i j) h = absurd h

module _ (K : RuleBook) (A : Net) (P : Pair) (place place' : ℕ → ℕ) where
  -- the circuits do not depend on the places of the new cells
  elsewhere : {c : Come} {z : Spot} → Leads K A P place c z → (z' : Spot) × Leads K A P place' c z'
  elsewhere (stays {z = z} o) = (z, stays o)
  elsewhere (enters {i = i} {j = j} e) = (port (place' i) j, enters refl)
  elsewhere (crosses g h e s w r) = let t = elsewhere r in (t.0, crosses g h (e ∙ stand_leaving K P place place' g s) s w t.1)
  elsewhere (goes_on {g = g} s r) =
      let t = elsewhere r in
      (t.0, goes_on s (subst (λ y. Leads K A P place' (along (A.mate y)) t.0) (stand_leaving K P place place' g s) t.1))

  joined_elsewhere : {g h : RulePort} → Joined K A P place g h → Leaving K P.rule g → Joined K A P place' g h
  joined_elsewhere here s = here
  joined_elsewhere (by_rule g t w j) s = by_rule g t w (joined_elsewhere j t)
  joined_elsewhere (by_link {f = f} g t e j) s =
      by_link g t (ap A.mate (sym (stand_leaving K P place place' f s)) ∙ e ∙ stand_leaving K P place place' g t) (joined_elsewhere j t)

closed_elsewhere : (K : RuleBook) (A : Net) (P : Pair) (place place' : ℕ → ℕ) (g : RulePort) → Closed K A P place g → Closed K A P place' g
closed_elsewhere K A P place place' g c = (
  c.0,
  λ z r. let t = elsewhere K A P place' place r in
      c.1 t.0 (subst (λ y. Leads K A P place (along y) t.0) (stand_leaving K P place' place g c.0) t.1),
)

circuits_elsewhere : (K : RuleBook) (A : Net) (P : Pair) (place place' : ℕ → ℕ) (gs : List RulePort) → Circuits K A P place gs → Circuits K A P place' gs
circuits_elsewhere K A P place place' gs c = record {
  closed = λ i g e. closed_elsewhere K A P place place' g (c.closed i g e);
  apart = λ i j g h e f w. c.apart i j g h e f (joined_elsewhere K A P place' place w (c.closed i g e).0);
  all = λ g k.
      let t = c.all g (closed_elsewhere K A P place' place g k) in
      (t.0, t.1, t.2, joined_elsewhere K A P place place' t.3 k.0);
}

-- which of the first c numbers f takes to r
pub look : (f : ℕ → ℕ) (c r : ℕ) → ((i : ℕ) × (i < c) × (f i ≡ r)) ⊎ ((i : ℕ) → i < c → f i ≢ r)
look f zero r = inr (λ i h e. let z : ⊥ = omega arith in z)
look f (suc c) r = go (number (f c) r) (look f c r)
  where
    go : (f c ≡ r) ⊎ (f c ≢ r) → ((i : ℕ) × (i < c) × (f i ≡ r)) ⊎ ((i : ℕ) → i < c → f i ≢ r) → ((i : ℕ) × (i < suc c) × (f i ≡ r)) ⊎ ((i : ℕ) → i < suc c → f i ≢ r)
    go (inl e) s = inl (c, omega arith, e)
    go (inr n) (inl (i, h, e)) = inl (i, omega arith, e)
    go (inr n) (inr o) = inr (λ i h. elim (cases_lt i c) [ inl k ↦ o i k | inr k ↦ (let e : i ≡ c = omega arith in λ z. n (ap f (sym e) ∙ z)) ])

module _ (n : ℕ) (f : ℕ → ℕ) (c : ℕ) where
  -- new cell i goes from place n + i to its own, and back
  out : ℕ → ℕ
  out = split n (λ r. r) f

  home_of : (r : ℕ) → ((i : ℕ) × (i < c) × (f i ≡ r)) ⊎ ((i : ℕ) → i < c → f i ≢ r) → ℕ
  home_of r (inl t) = n + t.0
  home_of r (inr o) = split n (λ r. r) (λ i. n + 6 + i) r

  home : ℕ → ℕ
  home r = home_of r (look f c r)

  out_low : (r : ℕ) → r < n → out r ≡ r
  unfolding out
  out_low r h = split_low n (λ r. r) f r h

  out_new : (i : ℕ) → out (n + i) ≡ f i
  unfolding out
  out_new i = split_at n (λ r. r) f i

  home_new : (i : ℕ) → i < c → ((j : ℕ) → j < c → f j ≡ f i → j ≡ i) → home (f i) ≡ n + i
  unfolding home home_of
  home_new i h o = go (look f c (f i))
    where
      go : (d : ((j : ℕ) × (j < c) × (f j ≡ f i)) ⊎ ((j : ℕ) → j < c → f j ≢ f i)) → home_of (f i) d ≡ n + i
      go (inl (j, k, e)) = ap (λ j. n + j) (o j k e)
      go (inr u) = absurd (u i h refl)

  home_low : (r : ℕ) → ((i : ℕ) → i < c → f i ≢ r) → r < n → home r ≡ r
  unfolding home home_of
  home_low r o h = go (look f c r)
    where
      go : (d : ((j : ℕ) × (j < c) × (f j ≡ r)) ⊎ ((j : ℕ) → j < c → f j ≢ r)) → home_of r d ≡ r
      go (inl (j, k, e)) = absurd (o j k e)
      go (inr u) = split_low n (λ r. r) (λ i. n + 6 + i) r h

  home_high : (r : ℕ) → ((i : ℕ) → i < c → f i ≢ r) → n ≤ r → n + 6 ≤ home r
  unfolding home home_of
  home_high r o h = go (look f c r)
    where
      go : (d : ((j : ℕ) × (j < c) × (f j ≡ r)) ⊎ ((j : ℕ) → j < c → f j ≢ r)) → n + 6 ≤ home_of r d
      go (inl (j, k, e)) = absurd (o j k e)
      go (inr u) = let e = split_high n (λ r. r) (λ i. n + 6 + i) r h in omega arith

pub nth_some : {X : Type 0} (xs : List X) (i : ℕ) → i < length xs → (x : X) × (slice_get xs i ≡ Some x)
nth_some [] i h = absurd (let z : ⊥ = omega arith in z)
nth_some (x ∷ xs) zero h = (x, refl)
nth_some (x ∷ xs) (suc i) h = nth_some xs i (omega arith)

module _ (K : RuleBook) (laws : Laws K) (n : ℕ) (A : Net) (G : Sized K n A) (P : Pair) (active : Active K A P) (place : ℕ → ℕ) (free : Free A P place) where
  act₁ : Facing K A P
  act₁ = facing K A P active

  pub count : ℕ
  count = length P.rule.cells

  -- the net before its new cells take their places
  abbrev A₁ : Net
  A₁ = rewrite K n A P

  pub to : ℕ → ℕ
  to = out n place count

  pub from : ℕ → ℕ
  from = home n place count

  -- the net with the new cells in their places
  pub settled : Net
  settled = renumber to from A₁

  taken : (i : ℕ) → i < count → (A.kind (place i) ≡ None) ⊎ ((place i ≡ P.left) ⊎ (place i ≡ P.right))
  unfolding count
  taken i h = let t = nth_some P.rule.cells i h in free.vacant i t.0 t.1

  single : (i : ℕ) → i < count → (j : ℕ) → j < count → place j ≡ place i → j ≡ i
  unfolding count
  single i h j k e =
      let t = nth_some P.rule.cells i h in
      let u = nth_some P.rule.cells j k in
      free.apart j i u.0 t.0 u.1 t.1 e

  -- a cell that stays has no new cell in its place
  aside : (r k : ℕ) → r ≢ P.left → r ≢ P.right → A.kind r ≡ Some k → (i : ℕ) → i < count → place i ≢ r
  aside r k a b e i h z = go (taken i h)
    where
      go : (A.kind (place i) ≡ None) ⊎ ((place i ≡ P.left) ⊎ (place i ≡ P.right)) → ⊥
      go (inl f) = some_none k (sym e ∙ ap A.kind (sym z) ∙ f)
      go (inr (inl f)) = a (sym z ∙ f)
      go (inr (inr f)) = b (sym z ∙ f)

  pub to_low : (r : ℕ) → r < n → to r ≡ r
  unfolding to
  to_low = out_low n place count

  pub to_new : (i : ℕ) → to (n + i) ≡ place i
  unfolding to
  to_new = out_new n place count

  pub from_new : (i k : ℕ) → slice_get P.rule.cells i ≡ Some k → from (place i) ≡ n + i
  unfolding from count
  from_new i k e = let h = nth_within P.rule.cells i k e in home_new n place count i h (single i h)

  pub from_low : (r : ℕ) → ((i : ℕ) → i < count → place i ≢ r) → r < n → from r ≡ r
  unfolding from
  from_low = home_low n place count

  from_high : (r : ℕ) → ((i : ℕ) → i < count → place i ≢ r) → n ≤ r → n + 6 ≤ from r
  unfolding from
  from_high = home_high n place count

  inverse : (r k : ℕ) → A₁.kind r ≡ Some k → from (to r) ≡ r
  inverse r k e = go (cells K laws n A G P act₁ r k e)
    where
      go : ((r ≢ P.left) × (r ≢ P.right) × (r < n) × (A.kind r ≡ Some k)) ⊎ ((i : ℕ) × (r ≡ n + i) × (i < 4) × (slice_get P.rule.cells i ≡ Some k)) → from (to r) ≡ r
      go (inl (a, b, h, f)) = ap from (to_low r h) ∙ from_low r (aside r k a b f) h
      go (inr (i, z, h, f)) = ap from (ap to z ∙ to_new i) ∙ from_new i k f ∙ sym z

  good₁ : Good K A₁
  good₁ = (sized_after K laws n A G P act₁).good

  pub settled_alike : AlikeBy to from A₁ settled
  unfolding settled
  settled_alike = alike_renumber K A₁ good₁ to from inverse

  pub settled_good : Good K settled
  unfolding settled
  settled_good = good_renumber K A₁ good₁ to from inverse

  carry_left : (x : Spot) → Left n x → carry to x ≡ x
  carry_left (end e) l = refl
  carry_left (port r j) l = ap (λ r. port r j) (to_low r l)

  carry_new : (g : RulePort) → Entering K P.rule g → carry to (stand P (fresh n) g) ≡ stand P place g
  carry_new (L j) h = absurd h
  carry_new (R j) h = absurd h
  carry_new (N i j) h = ap (λ r. port r j) (to_new i)

  -- following with the new cells in their places
  abbrev Low : Come → Type 0
  Low (along y) = Left n y
  Low (across g) = Unit {0}

  settles : {c : Come} {z : Spot} → Leads K A P (fresh n) c z → Low c → Leads K A P place c (carry to z)
  settles (stays {z = z} o) l = subst (Leads K A P place (along z)) (sym (carry_left z l)) (stays o)
  settles (enters {i = i} {j = j} e) l = enters (ap (carry to) e ∙ ap (λ r. port r j) (to_new i))
  settles (crosses g h e s w r) l = crosses g h (e ∙ stand_leaving K P (fresh n) place g s) s w (settles r tt)
  settles (goes_on {g = g} {z = z} s r) l =
      let i = G.good.twice in
      let y = stand P (fresh n) g in
      goes_on s (subst (λ y. Leads K A P place (along (A.mate y)) (carry to z)) (stand_leaving K P (fresh n) place g s)
      (settles r (bounded K n A G (A.mate y) (λ z. leaving_live K laws n A G P act₁ g s (sym (sym (i y) ∙ z))))))

  first : Rewriting K A P (fresh n) A₁
  first = at_fresh K laws n A G P active

  live_low : (x : Spot) → A.mate x ≢ x → Left n (A.mate x)
  live_low x l = let i = G.good.twice in bounded K n A G (A.mate x) (λ z. l (sym (sym (i x) ∙ z)))

  old_live : (x : Spot) → A.mate x ≢ x → Outside P x → A₁.mate x ≢ x
  old_live (end e) l o = stands_after K laws n A G P act₁ (end e) (subst (λ m. e < m) (sym first.ends) (G.good.there (end e) l))
  old_live (port r j) l o =
      let t = G.good.there (port r j) l in
      stands_after K laws n A G P act₁ (port r j) (t.0, old_cell K laws n A G P act₁ r t.0 o.0 o.1 t.1, t.2)

  pub old_links₂ : (x : Spot) → A.mate x ≢ x → Outside P x → Leads K A P place (along (A.mate x)) (settled.mate x)
  unfolding settled
  old_links₂ x l o =
      let e : settled.mate x ≡ carry to (A₁.mate x) =
      ap settled.mate (sym (carry_left x (bounded K n A G x l))) ∙ new_mate K A₁ good₁ to from inverse x (old_live x l o) in
      subst (Leads K A P place (along (A.mate x))) (sym e) (settles (first.old_links x l o) (live_low x l))

  new_live : (g : RulePort) → Entering K P.rule g → A₁.mate (stand P (fresh n) g) ≢ stand P (fresh n) g
  new_live (L j) h = absurd h
  new_live (R j) h = absurd h
  new_live (N i j) h = stands_after K laws n A G P act₁ (port (n + i) j) (h.0, new_cell K laws n A G P act₁ i h.0 h.1, h.2)

  pub new_links₂ : (x y : RulePort) → Entering K P.rule x → Wired P.rule.wires x y → Leads K A P place (across y) (settled.mate (stand P place x))
  unfolding settled
  new_links₂ x y h w =
      let e : settled.mate (stand P place x) ≡ carry to (A₁.mate (stand P (fresh n) x)) =
      ap settled.mate (sym (carry_new x h)) ∙ new_mate K A₁ good₁ to from inverse (stand P (fresh n) x) (new_live x h) in
      subst (Leads K A P place (across y)) (sym e) (settles (first.new_links x y h w) tt)

  no_more₂ : (y : Spot) → settled.mate y ≢ y → ((A.mate y ≢ y) × Outside P y) ⊎ ((g : RulePort) × Entering K P.rule g × (y ≡ stand P place g))
  unfolding settled
  no_more₂ y l = go (first.no_more (carry from y) t.0)
    where
      t : (A₁.mate (carry from y) ≢ carry from y) × (carry to (carry from y) ≡ y)
      t = linked_from K A₁ good₁ to from inverse y l

      go : ((A.mate (carry from y) ≢ carry from y) × Outside P (carry from y)) ⊎ ((g : RulePort) × Entering K P.rule g × (carry from y ≡ stand P (fresh n) g)) →
          ((A.mate y ≢ y) × Outside P y) ⊎ ((g : RulePort) × Entering K P.rule g × (y ≡ stand P place g))
      go (inl (h, o)) =
          let e : carry from y ≡ y = sym (carry_left (carry from y) (bounded K n A G (carry from y) h)) ∙ t.1 in
          inl (subst (λ y. A.mate y ≢ y) e h, subst (Outside P) e o)
      go (inr (g, h, e)) = inr (g, h, sym t.1 ∙ ap (carry to) e ∙ carry_new g h)

  unused : (r : ℕ) → Unused P place r → (i : ℕ) → i < count → place i ≢ r
  unfolding count
  unused r u i h = let t = nth_some P.rule.cells i h in u i t.0 t.1

  gone₂ : (r : ℕ) → (r ≡ P.left) ⊎ (r ≡ P.right) → Unused P place r → settled.kind r ≡ None
  unfolding settled
  gone₂ r h u =
      let s : r < n = small h in
      let e : from r ≡ r = from_low r (unused r u) s in
      kind_in to from A₁ r (ap to e ∙ to_low r s) ∙ ap A₁.kind e ∙ gone K laws n A G P active r h
    where
      small : (r ≡ P.left) ⊎ (r ≡ P.right) → r < n
      small (inl z) = subst (λ r. r < n) (sym z) (left_small K laws n A G P act₁)
      small (inr z) = subst (λ r. r < n) (sym z) (right_small K laws n A G P act₁)

  kept₂ : (r : ℕ) → r ≢ P.left → r ≢ P.right → Unused P place r → settled.kind r ≡ A.kind r
  unfolding settled
  kept₂ r a b u = go (cases_lt r n)
    where
      far : n ≤ r → (to (from r) ≡ r) ⊎ (to (from r) ≢ r) → settled.kind r ≡ None
      far h (inl e) =
          let k = from_high r (unused r u) h in
          kind_in to from A₁ r e
          ∙ (elim (cell_or_none (A₁.kind (from r))) [
            | inl t ↦ absurd (let s = (sized_after K laws n A G P act₁).small (from r) t.0 t.1 in let z : ⊥ = omega arith in z)
            | inr f ↦ f
          ])
      far h (inr o) = kind_off to from A₁ r o

      go : (r < n) ⊎ (n ≤ r) → settled.kind r ≡ A.kind r
      go (inl h) =
          let e : from r ≡ r = from_low r (unused r u) h in
          kind_in to from A₁ r (ap to e ∙ to_low r h) ∙ ap A₁.kind e ∙ kept_low K laws n A G P active r a b h
      go (inr h) = far h (number (to (from r)) r) ∙ sym (empty K laws n A G P active r h)

  pub settles_as : Rewriting K A P place settled
  unfolding settled
  settles_as = record {
    active = active;
    vacant = free.vacant;
    apart = free.apart;
    new = λ i k e. ap settled.kind (sym (to_new i)) ∙ (settled_alike.kinds.there (n + i) k (new_cell K laws n A G P act₁ i k e)).0;
    gone = gone₂;
    kept = kept₂;
    ends = ends_kept to from A₁ ∙ first.ends;
    old_links = old_links₂;
    new_links = new_links₂;
    no_more = no_more₂;
    circuits = first.circuits;
    counted = circuits_elsewhere K A P (fresh n) place first.circuits first.counted;
    loops = loops_kept to from A₁ ∙ first.loops;
  }
