-- Plans in which links are named both ways.
use Rattle.std.proofs.Common.{◌≡◌, ℕ, ◌+◌, ◌<◌, ◌≤◌, true, ltb, leb, ◌≢◌, List, [], ◌∷◌, ◌++◌, ap, ◌∙◌, subst, inl, inr, arith}
use Rattle.std.specs.List.{AllByRecursion}
use Rattle.std.proofs.ByRecursion.{All-push, All-weaker}
use Rattle.std.proofs.lemmas.Bool.{lt-ltb, le-leb, ltb-true, leb-true, and_from, and_parts, cases_eq}
use Rattle.calculus.specs.Spots.{Spot, end, port}
use Rattle.calculus.specs.Splicing.{Out}
use Rattle.calculus.specs.Combinators.{γ}
use Rattle.lambda.proofs.Wirings.{Distinct}
use Rattle.nets.specs.declared.draft.Draft.{Draft}
use Rattle.nets.specs.Drafts.{Plan, plan, planned, nameable, CellAdded, LinkNamed}
use Rattle.compile.specs.Linking.{Linked, BothWays, Drafted}

-- a spot that is there stays there
planned_grows : (p q : Plan) → q.ends ≡ p.ends → p.cells ≤ q.cells → ((r : ℕ) → r < p.cells → q.arity r ≡ p.arity r) → (z : Spot) → planned p z ≡ true → planned q z ≡ true
planned_grows p q e l a (end k) h = lt-ltb k q.ends (omega (arith, ltb-true k p.ends h))
planned_grows p q e l a (port r j) h =
    let parts = and_parts (ltb r p.cells) (leb j (p.arity r)) h in
    let less : r < p.cells = ltb-true r p.cells parts.0 in
    and_from _ _ (lt-ltb r q.cells (omega arith)) (le-leb j (q.arity r) (omega (arith, leb-true j (p.arity r) parts.1, a r less)))

-- a spot that is there can be named
pub planned_nameable : (d : Draft) (z : Spot) → planned (plan d) z ≡ true → nameable z ≡ true
planned_nameable d (end k) h = lt-ltb k 64 (omega (arith, ltb-true k d.ends h, d.few))
planned_nameable d (port r j) h =
    let parts = and_parts (ltb r (plan d).cells) (leb j ((plan d).arity r)) h in
    and_from _ _ (lt-ltb r 1024 (omega (arith, ltb-true r (plan d).cells parts.0, d.room))) (lt-ltb j 3 (omega (arith, leb-true j ((plan d).arity r) parts.1, d.ports r)))

-- naming a link one way leaves every spot there
pub planned_named : (p q : Plan) (x y : Spot) → LinkNamed p x y q → (z : Spot) → planned p z ≡ true → planned q z ≡ true
planned_named p q x y h = planned_grows p q h.ends (omega (arith, h.cells)) (λ r l. h.arities r)

pub planned_linked : (p q : Plan) (x y : Spot) → Linked p x y q → (z : Spot) → planned p z ≡ true → planned q z ≡ true
planned_linked p q x y h = planned_grows p q h.ends (omega (arith, h.cells)) (λ r l. h.arities r)

pub planned_added : (p q : Plan) (k a : ℕ) → CellAdded p k a q → (z : Spot) → planned p z ≡ true → planned q z ≡ true
planned_added p q k a h = planned_grows p q h.ends (omega (arith, h.cells)) (λ r l. h.arities r (λ e. omega arith))

-- a new cell's port is there, and was not
pub new_port : (p q : Plan) (j : ℕ) → CellAdded p γ 2 q → j ≤ 2 → planned q (port p.cells j) ≡ true
new_port p q j h l = and_from _ _ (lt-ltb p.cells q.cells (omega (arith, h.cells))) (le-leb j (q.arity p.cells) (omega (arith, h.arity)))

pub old_spot : (p : Plan) (x : Spot) (j : ℕ) → planned p x ≡ true → x ≢ port p.cells j
old_spot p x j h e =
    let parts = and_parts (ltb p.cells p.cells) (leb j (p.arity p.cells)) (subst (λ z. planned p z ≡ true) e h) in
    omega (arith, ltb-true p.cells p.cells parts.0)

-- one way and the other way
pub linked_both : (p m q : Plan) (x y : Spot) → x ≢ y → planned p x ≡ true → LinkNamed p x y m → LinkNamed m y x q → Linked p x y q
linked_both p m q x y n there one two = record {
  ends = two.ends ∙ one.ends;
  loops = two.loops ∙ one.loops;
  cells = two.cells ∙ one.cells;
  kinds = λ r. two.kinds r ∙ one.kinds r;
  arities = λ r. two.arities r ∙ one.arities r;
  here = two.others x (planned_named p m x y one x there) n ∙ one.link;
  back = two.link;
  others = λ z h i k. two.others z (planned_named p m x y one z h) k ∙ one.others z h i;
}

-- ── links are named for good ──

-- a link that shares no spot with l
abbrev pub Off : Spot × Spot → Spot × Spot → Type 0
Off l k = (k.0 ≢ l.0) × (k.0 ≢ l.1) × (k.1 ≢ l.0) × (k.1 ≢ l.1)

out_at : (x : Spot) (ls : List (Spot × Spot)) (l : Spot × Spot) (rest : List (Spot × Spot)) → Out x (ls ++ l ∷ rest) → (x ≢ l.0) × (x ≢ l.1)
out_at x [] l rest o = (o.0, o.1)
out_at x (k ∷ ls) l rest o = out_at x ls l rest o.2

pub distinct_front : (ls : List (Spot × Spot)) (l : Spot × Spot) (rest : List (Spot × Spot)) → Distinct (ls ++ l ∷ rest) → AllByRecursion (Off l) ls × (l.0 ≢ l.1)
distinct_front [] l rest d = (tt, d.0)
distinct_front (k ∷ ls) l rest d =
    let a = out_at k.0 ls l rest d.1 in
    let b = out_at k.1 ls l rest d.2 in
    let i = distinct_front ls l rest d.3 in
    (((a.0, a.1, b.0, b.1), i.0), i.1)

pub drafted_cell : (n c : ℕ) (ls : List (Spot × Spot)) (p q : Plan) → Drafted n c ls p → CellAdded p γ 2 q → Drafted n (c + 1) ls q
drafted_cell n c ls p q d h = record {
  ends = h.ends ∙ d.ends;
  loops = h.loops ∙ d.loops;
  cells = h.cells ∙ ap (λ k. k + 1) d.cells;
  kinds = λ r l. elim (cases_eq r p.cells) [ inl e ↦ ap q.kind e ∙ h.kind | inr e ↦ h.kinds r e ∙ d.kinds r (omega (arith, d.cells)) ];
  arities = λ r l. elim (cases_eq r p.cells) [ inl e ↦ ap q.arity e ∙ h.arity | inr e ↦ h.arities r e ∙ d.arities r (omega (arith, d.cells)) ];
  named = All-weaker (BothWays p) (BothWays q) (λ l b. (h.links l.0 ∙ b.0, h.links l.1 ∙ b.1, planned_added p q γ 2 h l.0 b.2, planned_added p q γ 2 h l.1 b.3)) ls d.named;
}

both_kept : (p q : Plan) (x y : Spot) → Linked p x y q → (ls : List (Spot × Spot)) → AllByRecursion (Off (x, y)) ls → AllByRecursion (BothWays p) ls → AllByRecursion (BothWays q) ls
both_kept p q x y h [] o b = tt
both_kept p q x y h (l ∷ ls) o b =
    let (a, c, d, e) = o.0 in
    let (i, j, k, m) = b.0 in (
      (h.others l.0 k a c ∙ i, h.others l.1 m d e ∙ j, planned_linked p q x y h l.0 k, planned_linked p q x y h l.1 m),
      both_kept p q x y h ls o.1 b.1,
    )

pub drafted_link : (n c : ℕ) (ls : List (Spot × Spot)) (p q : Plan) (x y : Spot) → Drafted n c ls p → planned p x ≡ true → planned p y ≡ true → AllByRecursion (Off (x, y)) ls → Linked p x y q → Drafted n c (ls ++ (x, y) ∷ []) q
drafted_link n c ls p q x y d i j o h = record {
  ends = h.ends ∙ d.ends;
  loops = h.loops ∙ d.loops;
  cells = h.cells ∙ d.cells;
  kinds = λ r l. h.kinds r ∙ d.kinds r l;
  arities = λ r l. h.arities r ∙ d.arities r l;
  named = All-push (BothWays q) ls (x, y) (both_kept p q x y h ls o d.named) (h.here, h.back, planned_linked p q x y h x i, planned_linked p q x y h y j);
}

-- the spots of a drafted plan
pub drafted_port : (n c : ℕ) (ls : List (Spot × Spot)) (p : Plan) → Drafted n c ls p → (r j : ℕ) → r < c → j ≤ 2 → planned p (port r j) ≡ true
drafted_port n c ls p d r j l m = and_from _ _ (lt-ltb r p.cells (omega (arith, d.cells))) (le-leb j (p.arity r) (omega (arith, d.arities r l)))

pub drafted_end : (n c : ℕ) (ls : List (Spot × Spot)) (p : Plan) → Drafted n c ls p → (e : ℕ) → e ≤ n → planned p (end e) ≡ true
drafted_end n c ls p d e l = lt-ltb e p.ends (omega (arith, d.ends))
