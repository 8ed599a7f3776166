-- Which pair of places is ready to be rewritten, and that its rule fits. Assumes nothing.
use Rattle.std.proofs.Common.{◌≡◌, ℕ, ◌+◌, ◌<◌, ◌≤◌, ◌≢◌, length, get_or, Some, None, Ok, Err, vec_items, Result, sym, refl, ap, ◌∙◌, subst, inl, inr, arith}
use Rattle.std.specs.List.{slice_get}
use Rattle.std.specs.Result.{result_err}
use Rattle.calculus.specs.Spots.{port}
use Rattle.calculus.specs.Books.{Rule, RuleBook, Laws}
use Rattle.calculus.specs.Nets.{Pair, Active}
use Rattle.books.specs.declared.table.RuleTable.{RuleTable}
use Rattle.books.proofs.Depicted.{cells_same}
use Rattle.books.specs.Answers.{Meant, Found, Answers}
use Rattle.nets.specs.Layout.{kinds}
use Rattle.nets.specs.declared.fault.PairFault.{PairFault}
use Rattle.nets.specs.declared.fault.Limit.{Limit}
use Rattle.nets.specs.declared.fault.Limit.TheVariants.{Loops, Places}
use Rattle.nets.specs.declared.table.Table.{Table}
use Rattle.nets.specs.Meaning.{content, arity_at, net}
use Rattle.nets.specs.Rewrites.{Face, ports_at, pair, LoopsFree}
use Rattle.nets.specs.ByBook.{At, Ready, PairCause, PairAllowed, Against}
use Rattle.nets.specs.Seating.{RuleReady, RuleChecked, RoomFor, Limiting, to_pair_fault, Replaceable}
use Rattle.nets.proofs.Standing.{kind_some, some_kind, some_arity, there_port}
use Rattle.nets.proofs.Standing as standing
use Rattle.nets.proofs.Finishing.{p_on, q_on, depicted_fits}

-- cells of an active pair face each other
pub active_faces : (K : RuleBook) (t : Table) (P : Pair) → Active K (net t) P → Face (net t) P.left P.right
active_faces K t P act =
    let on = (kind_some (content t) P.left P.rule.left act.left).0 in
    let th = there_port (content t) P.left 0 on (omega arith) in
    (act.facing, λ z. standing.apart t (port P.left 0) th (act.facing ∙ ap (λ (r : ℕ). port r 0) (sym z)))

pub facing_there : (K : RuleBook) (t : Table) (p q : ℕ) (P : Pair) → At p q P → Active K (net t) P → Face (net t) p q
facing_there K t p q P at act = subst (λ (r : ℕ). Face (net t) p r) at.1 (subst (λ (r : ℕ). Face (net t) r P.right) at.0 (active_faces K t P act))

-- two listed rules for the same two kinds are one
pub one_rule : (K : RuleBook) → Laws K → (i j : ℕ) (v w : Rule) → slice_get K.rules i ≡ Some v → slice_get K.rules j ≡ Some w → (a b : ℕ) → Meant v a b → Meant w a b → (v ≡ w) × (i ≡ j)
one_rule K laws i j v w ev ew a b mv mw =
    let ij : i ≡ j = laws.single i j v w ev ew (omega (arith, sides.0)) (omega (arith, sides.1)) in
    let z : Some v ≡ Some w = sym ev ∙ ap (slice_get K.rules) ij ∙ ew in
    (cc, ij)
  where
    ordered : (u : Rule) → u.left ≤ u.right → Meant u a b → (u.left ≤ a) × (u.left ≤ b) × (a ≤ u.right) × (b ≤ u.right) × (u.left + u.right ≡ a + b)
    ordered u o (inl m) = (omega arith, omega arith, omega arith, omega arith, omega arith)
    ordered u o (inr m) = (omega arith, omega arith, omega arith, omega arith, omega arith)

    sides : (v.left ≡ w.left) × (v.right ≡ w.right)
    sides =
        let x = ordered v (laws.rules i v ev).order mv in
        let y = ordered w (laws.rules j w ew).order mw in
        (omega arith, omega arith)

-- a pair that faces, by the numbers that the code reads
module _ (K : RuleBook) (laws : Laws K) (t : Table) (p q : ℕ) (F : Face (net t) p q) (a b : ℕ) (ea : a ≡ get_or (kinds (vec_items t.places)) p 0) (eb : b ≡ get_or (kinds (vec_items t.places)) q 0) where
  kind_p : (net t).kind p ≡ Some a
  kind_p = some_kind (content t) p (p_on t p q F) ∙ ap (λ (v : ℕ). Some v) (sym ea)

  kind_q : (net t).kind q ≡ Some b
  kind_q = some_kind (content t) q (q_on t p q F) ∙ ap (λ (v : ℕ). Some v) (sym eb)

  -- the kinds of a pair in these places
  sides : (P : Pair) → At p q P → Active K (net t) P → (P.rule.left ≡ a) × (P.rule.right ≡ b)
  sides P at act =
      let x : Some P.rule.left ≡ Some a = sym act.left ∙ ap (net t).kind at.0 ∙ kind_p in
      let y : Some P.rule.right ≡ Some b = sym act.right ∙ ap (net t).kind at.1 ∙ kind_q in
      (cc, cc)

  pub no_rule : Answers K a b None → (P : Pair) → At p q P → Ready K t P → ⊥
  no_rule none P at R = none P.position P.rule R.active.listed (inl (sides P at R.active))

  module _ (r : RuleTable) (f : Found K a b r) where
    -- it is the rule of every pair in these places
    its_rule : (P : Pair) → At p q P → Active K (net t) P → P.rule ≡ f.rule
    its_rule P at act = (one_rule K laws P.position f.position P.rule f.rule act.listed f.listed a b (inl (sides P at act)) f.meant).0

    pub other_left : r.left ≢ a → (P : Pair) → At p q P → Ready K t P → ⊥
    other_left n P at R = n (f.depicts.left ∙ ap (λ (w : Rule). w.left) (sym (its_rule P at R.active)) ∙ (sides P at R.active).0)

    pub other_right : r.right ≢ b → (P : Pair) → At p q P → Ready K t P → ⊥
    other_right n P at R = n (f.depicts.right ∙ ap (λ (w : Rule). w.right) (sym (its_rule P at R.active)) ∙ (sides P at R.active).1)

    pub turned_round : a ≡ b → q < p → (P : Pair) → At p q P → Ready K t P → ⊥
    turned_round e l P at R =
        let s = sides P at R.active in
        let o = R.active.first (s.0 ∙ e ∙ sym s.1) in
        omega arith

    pub rule_ready : r.left ≡ a → r.right ≡ b → (a ≡ b → p < q) → K.arity a ≡ Some (ports_at t p) → K.arity b ≡ Some (ports_at t q) → RuleReady K t p q r
    rule_ready el er o ap' bq = record {
      position = f.position;
      rule = f.rule;
      depicts = f.depicts;
      ready = record {
        active = record {
          listed = f.listed;
          left = kind_p ∙ ap (λ (v : ℕ). Some v) (sym left);
          right = kind_q ∙ ap (λ (v : ℕ). Some v) (sym right);
          facing = F.0;
          first = λ e. o (sym left ∙ e ∙ right);
        };
        left = ap K.arity left ∙ ap' ∙ sym (some_arity (content t) p (p_on t p q F));
        right = ap K.arity right ∙ bq ∙ sym (some_arity (content t) q (q_on t p q F));
      };
    }
      where
        left : f.rule.left ≡ a
        left = sym f.depicts.left ∙ el

        right : f.rule.right ≡ b
        right = sym f.depicts.right ∙ er

  pub other_arity_left : (K.arity a ≡ Some (ports_at t p) → ⊥) → (P : Pair) → At p q P → Ready K t P → ⊥
  other_arity_left n P at R = n (ap K.arity (sym (sides P at R.active).0) ∙ R.left ∙ ap (arity_at (content t)) at.0 ∙ some_arity (content t) p (p_on t p q F))

  pub other_arity_right : (K.arity b ≡ Some (ports_at t q) → ⊥) → (P : Pair) → At p q P → Ready K t P → ⊥
  other_arity_right n P at R = n (ap K.arity (sym (sides P at R.active).1) ∙ R.right ∙ ap (arity_at (content t)) at.1 ∙ some_arity (content t) q (q_on t p q F))

-- what the limits say of a pair that is ready
module _ (K : RuleBook) (laws : Laws K) (t : Table) (p q : ℕ) (r : RuleTable) (C : RuleReady K t p q r) where
  abbrev P : Pair
  P = pair p q C.position C.rule

  pub allowed : LoopsFree t × RoomFor t (length r.cells.now) → PairAllowed K t P
  allowed l = record { ready = C.ready; loops = l.0; places = let e = cells_same K r C.rule C.depicts in let h = l.1 in omega arith }

  pub replaceable : LoopsFree t × RoomFor t (length r.cells.now) → Replaceable t p q r
  replaceable l =
      let act = C.ready.active in
      let F = active_faces K t P act in
      record {
        facing = F;
        fitting = depicted_fits K r C.rule C.depicts (laws.rules C.position C.rule act.listed) (ports_at t p) (ports_at t q)
            (C.ready.left ∙ some_arity (content t) p (p_on t p q F)) (C.ready.right ∙ some_arity (content t) q (q_on t p q F)) (λ k x e. (laws.kinds k x e).1);
        loops = l.0;
        places = l.1;
      }

  -- the limit that is against it
  pub limited : (l : Limit) → Limiting t (length r.cells.now) (Err l) → PairCause K t p q (to_pair_fault l)
  limited Loops h = (P, (refl, refl), C.ready, h)
  limited Places h = (P, (refl, refl), C.ready, h.0, λ f. h.1 (let e = cells_same K r C.rule C.depicts in omega arith))

  -- a pair that is active there is this one
  pub same_pair : (Q : Pair) → At p q Q → Active K (net t) Q → pair p q C.position C.rule ≡ Q
  same_pair Q at act =
      let x : Some Q.rule.left ≡ Some C.rule.left = sym act.left ∙ ap (net t).kind at.0 ∙ C.ready.active.left in
      let y : Some Q.rule.right ≡ Some C.rule.right = sym act.right ∙ ap (net t).kind at.1 ∙ C.ready.active.right in
      let o = one_rule K laws C.position Q.position C.rule Q.rule C.ready.active.listed act.listed C.rule.left C.rule.right (inl (refl, refl)) (inl (cc, cc)) in
      λ i. record { left = sym at.0 i; right = sym at.1 i; position = o.1 i; rule = o.0 i }

-- what is against the pair, if anything is
pub against : (K : RuleBook) → Laws K → (t : Table) (p q : ℕ) (x : Result RuleTable PairFault) → RuleChecked K t p q x → Against K t p q (result_err x)
against K laws t p q (Ok r) h = (P K laws t p q r h.0, (refl, refl), allowed K laws t p q r h.0 (h.1, h.2))
against K laws t p q (Err e) h = h
