-- Contracting a redex is rewriting its pair. Assumes nothing.
use Rattle.std.proofs.Common.{◌≡◌, ℕ, ◌<◌, ◌≤◌, true, false, ◌≢◌, ◌⊎◌, [], Some, None, Option, sym, refl, ap, ◌∙◌, subst, inl, inr, arith}
use Rattle.std.specs.List.{slice_get}
use Rattle.calculus.specs.Spots.{Spot, end, port}
use Rattle.calculus.specs.Books.{RulePort, L, R, N, Wired, Leaving, Entering, HasPort}
use Rattle.calculus.specs.Nets.{Net, Stands, Good, Pair, Active, AtRest}
use Rattle.calculus.specs.Rewriting.{stand, Outside, along, across, Leads, stays, crosses, goes_on, Closed, Rewriting}
use Rattle.calculus.specs.Combinators.{γ, γγ, combinators}
use Rattle.std.proofs.lemmas.Bool.{cases_lt, lt-ltb, le-ltb}
use Rattle.calculus.proofs.Lawful.{combinators_lawful}
use Rattle.calculus.proofs.Unique.{results_once}
use Rattle.calculus.proofs.Respects.{same_pair}
use Rattle.lambda.specs.Terms.{Term, Linear}
use Rattle.lambda.specs.Reduction.{Beta, Normal}
use Rattle.lambda.specs.TermNets.{links, net, facing}
use Rattle.lambda.specs.Theorems.{PairsAreRedexes, RewritingContracts}
use Rattle.lambda.proofs.Counts.{none_some, one_yes, one_no}
use Rattle.lambda.proofs.Wirings.{end≢port, In, find, linked_in, linked_out}
use Rattle.lambda.proofs.Good.{good, distinct_links, kind_yes, kind_some, mate_is, ends_are, no_loops}
use Rattle.lambda.proofs.Reducts.{Via, kept, body, argument, beta_via, beta_root, beta_arg, beta_pair, pair_beta, beta_cells, beta_linear}

-- ── the mates in a term's net ──

module _ (n : ℕ) (t : Term) (l : Linear n t) where
  pub mates : (u v : Spot) → In (links (end 0) t) u v → ((net n t).mate u ≡ v) × ((net n t).mate v ≡ u) × (u ≢ v)
  mates u v h =
      let i = linked_in (links (end 0) t) (distinct_links n t l) u v h in
      let e = mate_is n t in
      (ap (λ f. f u) e ∙ i.0, ap (λ f. f v) e ∙ i.1, i.2)

  pub either_way : (x : Spot) → (net n t).mate x ≢ x → (y : Spot) × (In (links (end 0) t) x y ⊎ In (links (end 0) t) y x)
  either_way x h = elim (find (links (end 0) t) x) [
    | inl i ↦ i
    | inr o ↦ absurd (h (ap (λ f. f x) (mate_is n t) ∙ linked_out (links (end 0) t) x o))
  ]

-- ── the pair ──

abbrev seat : ℕ → ℕ → Pair
seat l r = record { left = l; right = r; position = 0; rule = γγ }

facing_low : (p q : ℕ) → p < q → facing p q ≡ seat p q
facing_low p q h = ap (λ b. elim b [ true ↦ seat p q | false ↦ seat q p ]) (lt-ltb p q h)

facing_high : (p q : ℕ) → q < p → facing p q ≡ seat q p
facing_high p q h = ap (λ b. elim b [ true ↦ seat p q | false ↦ seat q p ]) (le-ltb p q (omega arith))

-- the spot is no port of the two cells
abbrev Away : ℕ → ℕ → Spot → Type 0
Away p q (end e) = Unit {0}
Away p q (port r j) = (r ≢ p) × (r ≢ q)

-- which of L and R is the application p, and which the abstraction q
pub record Sides (P : Pair) (place : ℕ → ℕ) (p q : ℕ) : Type 0 where
  pub app : ℕ → RulePort
  pub abs : ℕ → RulePort
  pub at_app : (j : ℕ) → stand P place (app j) ≡ port p j
  pub at_abs : (j : ℕ) → stand P place (abs j) ≡ port q j
  pub leaving : (j : ℕ) → 1 ≤ j → j ≤ 2 → Leaving combinators P.rule (app j) × Leaving combinators P.rule (abs j)
  pub position_body : Wired P.rule.wires (app 1) (abs 2)
  pub body_position : Wired P.rule.wires (abs 2) (app 1)
  pub argument_variable : Wired P.rule.wires (app 2) (abs 1)
  pub variable_argument : Wired P.rule.wires (abs 1) (app 2)
  pub outside : (x : Spot) → Away p q x → Outside P x
  pub away : (x : Spot) → Outside P x → Away p q x
  pub four : (g : RulePort) → Leaving combinators P.rule g → ((g ≡ app 1) ⊎ (g ≡ app 2)) ⊎ ((g ≡ abs 1) ⊎ (g ≡ abs 2))

low : (j : ℕ) → 1 ≤ j → HasPort combinators γ j → (j ≡ 1) ⊎ (j ≡ 2)
low j h (a, e, k) =
    let z : 2 ≡ a = cc in
    elim (cases_lt j 2) [ inl i ↦ inl (omega arith) | inr i ↦ inr (omega arith) ]

app_left : (p q : ℕ) (place : ℕ → ℕ) → Sides (seat p q) place p q
app_left p q place = record {
  app = L;
  abs = R;
  at_app = λ j. refl;
  at_abs = λ j. refl;
  leaving = λ j h k. ((h, (2, refl, k)), (h, (2, refl, k)));
  position_body = inl (refl, refl);
  body_position = inr (inl (refl, refl));
  argument_variable = inr (inr (inl (refl, refl)));
  variable_argument = inr (inr (inr (inl (refl, refl))));
  outside = outside;
  away = away;
  four = four;
}
  where
    outside : (x : Spot) → Away p q x → Outside (seat p q) x
    outside (end e) h = tt
    outside (port r j) h = h

    away : (x : Spot) → Outside (seat p q) x → Away p q x
    away (end e) h = tt
    away (port r j) h = h

    four : (g : RulePort) → Leaving combinators γγ g → ((g ≡ L 1) ⊎ (g ≡ L 2)) ⊎ ((g ≡ R 1) ⊎ (g ≡ R 2))
    four (L j) h = inl (elim (low j h.0 h.1) [ inl e ↦ inl (ap L e) | inr e ↦ inr (ap L e) ])
    four (R j) h = inr (elim (low j h.0 h.1) [ inl e ↦ inl (ap R e) | inr e ↦ inr (ap R e) ])
    four (N i j) h = absurd h

app_right : (p q : ℕ) (place : ℕ → ℕ) → Sides (seat q p) place p q
unfolding app_left
app_right p q place =
    let S = app_left q p place in
    record {
      app = R;
      abs = L;
      at_app = λ j. refl;
      at_abs = λ j. refl;
      leaving = λ j h k. ((S.leaving j h k).1, (S.leaving j h k).0);
      position_body = S.variable_argument;
      body_position = S.argument_variable;
      argument_variable = S.body_position;
      variable_argument = S.position_body;
      outside = λ x h. S.outside x (turn x h);
      away = λ x h. turn' x (S.away x h);
      four = λ g h. elim (S.four g h) [ inl e ↦ inr e | inr e ↦ inl e ];
    }
  where
    turn : (x : Spot) → Away p q x → Away q p x
    turn (end e) h = tt
    turn (port r j) h = (h.1, h.0)

    turn' : (x : Spot) → Away q p x → Away p q x
    turn' (end e) h = tt
    turn' (port r j) h = (h.1, h.0)

-- ── following ──

module _ (A : Net) (G : Good combinators A) (P : Pair) (place : ℕ → ℕ) (p q : ℕ) (S : Sides P place p q) where
  abbrev Ends : Spot → Spot → Type 0
  Ends y z = Leads combinators A P place (along y) z

  -- over to the rule's other port of the two cells, and on along its link
  hop : (g h : RulePort) (x y z : Spot) → stand P place g ≡ x → stand P place h ≡ y → Leaving combinators P.rule g → Leaving combinators P.rule h →
      Wired P.rule.wires g h → Ends (A.mate y) z → Ends x z
  hop g h x y z e f lg lh w r = crosses g h (sym e) lg w (goes_on lh (subst (λ s. Ends (A.mate s) z) (sym f) r))

  from_position : (z : Spot) → Ends (A.mate (port q 2)) z → Ends (port p 1) z
  from_position z = hop (S.app 1) (S.abs 2) (port p 1) (port q 2) z (S.at_app 1) (S.at_abs 2)
      (S.leaving 1 (omega arith) (omega arith)).0 (S.leaving 2 (omega arith) (omega arith)).1 S.position_body

  from_body : (z : Spot) → Ends (A.mate (port p 1)) z → Ends (port q 2) z
  from_body z = hop (S.abs 2) (S.app 1) (port q 2) (port p 1) z (S.at_abs 2) (S.at_app 1)
      (S.leaving 2 (omega arith) (omega arith)).1 (S.leaving 1 (omega arith) (omega arith)).0 S.body_position

  from_argument : (z : Spot) → Ends (A.mate (port q 1)) z → Ends (port p 2) z
  from_argument z = hop (S.app 2) (S.abs 1) (port p 2) (port q 1) z (S.at_app 2) (S.at_abs 1)
      (S.leaving 2 (omega arith) (omega arith)).0 (S.leaving 1 (omega arith) (omega arith)).1 S.argument_variable

  from_variable : (z : Spot) → Ends (A.mate (port p 2)) z → Ends (port q 1) z
  from_variable z = hop (S.abs 1) (S.app 2) (port q 1) (port p 2) z (S.at_abs 1) (S.at_app 2)
      (S.leaving 1 (omega arith) (omega arith)).1 (S.leaving 2 (omega arith) (omega arith)).0 S.variable_argument

  -- from a position to a head, and back
  follow : {x y : Spot} → Via A.mate p q x y → Outside P y → Ends (A.mate x) y
  follow (kept {x = x} {y = y} e) o = subst (λ z. Ends z y) (sym e) (stays o)
  follow (body {x = x} {y = y} e v) o = subst (λ z. Ends z y) (sym e) (from_position y (follow v o))
  follow (argument {x = x} {y = y} e v) o = subst (λ z. Ends z y) (sym e) (from_variable y (follow v o))

  mate_back : (x y : Spot) → A.mate x ≡ y → A.mate y ≡ x
  mate_back x y e = ap A.mate (sym e) ∙ G.twice x

  follow_back : {x y : Spot} → Via A.mate p q x y → (z : Spot) → Ends x z → Ends (A.mate y) z
  follow_back (kept {x = x} {y = y} e) z r = subst (λ s. Ends s z) (sym (mate_back x y e)) r
  follow_back (body {x = x} {y = y} e v) z r = follow_back v z (from_body z (subst (λ s. Ends s z) (sym (mate_back x (port p 1) e)) r))
  follow_back (argument {x = x} {y = y} e v) z r = follow_back v z (from_argument z (subst (λ s. Ends s z) (sym (mate_back x (port q 1) e)) r))

-- ── a step ──

module _ (n p q : ℕ) (t u : Term) (l : Linear n t) (s : Beta p q t u) where
  abbrev A : Net
  A = net n t

  abbrev B : Net
  B = net n u

  lu : Linear n u
  lu = beta_linear n l s

  GA : Good combinators A
  GA = good n t l

  GB : Good combinators B
  GB = good n u lu

  apart : p ≢ q
  apart z =
      let a = beta_cells s l.once p in
      let b = one_yes p p refl in
      let c = one_yes p q z in
      let d = l.apart p in
      omega arith

  kin : (r c : ℕ) → B.kind r ≡ Some c → (A.kind r ≡ Some c) × (r ≢ p) × (r ≢ q)
  kin r c e =
      let a = beta_cells s l.once r in
      let b = kind_some n u r c e in
      let h = b.0 in
      let d = l.apart r in
      (kind_yes n t r (omega arith) ∙ ap Some (sym b.1), (λ z. let f = one_yes r p z in omega arith), (λ z. let f = one_yes r q z in omega arith))

  kout : (r c : ℕ) → A.kind r ≡ Some c → r ≢ p → r ≢ q → B.kind r ≡ Some c
  kout r c e i j =
      let a = beta_cells s l.once r in
      let b = kind_some n t r c e in
      let h = b.0 in
      let f = one_no r p i in
      let g = one_no r q j in
      kind_yes n u r (omega arith) ∙ ap Some (sym b.1)

  kind_gone : (r : ℕ) → (r ≡ p) ⊎ (r ≡ q) → B.kind r ≡ None
  kind_gone r h = go (B.kind r) refl
    where
      go : (o : Option ℕ) → B.kind r ≡ o → o ≡ None
      go None e = refl
      go (Some c) e = let k = kin r c e in elim h [ inl z ↦ absurd (k.1 z) | inr z ↦ absurd (k.2 z) ]

  kind_kept : (r : ℕ) → r ≢ p → r ≢ q → B.kind r ≡ A.kind r
  kind_kept r i j = go (A.kind r) (B.kind r) refl refl
    where
      go : (o w : Option ℕ) → A.kind r ≡ o → B.kind r ≡ w → B.kind r ≡ A.kind r
      go (Some c) w e f = kout r c e i j ∙ sym e
      go None None e f = f ∙ sym e
      go None (Some c) e f = f ∙ sym (kin r c f).0

  -- what is linked in the reduct's net is linked in the net, away from the two cells, and the other way round
  was : (x : Spot) → B.mate x ≢ x → (A.mate x ≢ x) × Away p q x
  was x h = go x (GB.there x h)
    where
      go : (x : Spot) → Stands combinators B x → (A.mate x ≢ x) × Away p q x
      go (end e) i = (GA.linked (end e) (subst (λ m. e < m) (ends_are n u ∙ sym (ends_are n t)) i), tt)
      go (port r j) (c, e, i) = let k = kin r c e in (GA.linked (port r j) (c, k.0, i), (k.1, k.2))

  stays_linked : (x : Spot) → A.mate x ≢ x → Away p q x → B.mate x ≢ x
  stays_linked x h o = GB.linked x (go x (GA.there x h) o)
    where
      go : (x : Spot) → Stands combinators A x → Away p q x → Stands combinators B x
      go (end e) i o = subst (λ m. e < m) (ends_are n t ∙ sym (ends_are n u)) i
      go (port r j) (c, e, i) o = (c, kout r c e o.0 o.1, i)

  has : (y z : Spot) → In (links (end 0) u) y z → Via A.mate p q y z
  has = beta_via A.mate p q s (end 0) (λ a b i. (mates n t l a b i).0)

  via : (x : Spot) → B.mate x ≢ x → Via A.mate p q x (B.mate x) ⊎ Via A.mate p q (B.mate x) x
  via x h = go (either_way n u lu x h)
    where
      go : (y : Spot) × (In (links (end 0) u) x y ⊎ In (links (end 0) u) y x) → Via A.mate p q x (B.mate x) ⊎ Via A.mate p q (B.mate x) x
      go (y, inl i) = inl (subst (Via A.mate p q x) (sym (mates n u lu x y i).0) (has x y i))
      go (y, inr i) = inr (subst (λ z. Via A.mate p q z x) (sym (mates n u lu y x i).1) (has y x i))

  -- both ends of a link of the reduct
  both_away : (y z : Spot) → In (links (end 0) u) y z → Away p q y × Away p q z
  both_away y z h =
      let e = mates n u lu y z h in
      ((was y (λ w. e.2 (sym w ∙ e.0))).1, (was z (λ w. e.2 (sym e.1 ∙ w))).1)

  module _ (P : Pair) (place : ℕ → ℕ) (S : Sides P place p q) where
    abbrev Out : Spot → Type 0
    Out x = (z : Spot) × Leads combinators A P place (along x) z

    -- from each leaving port a way ends
    out_position : Out (port p 1)
    out_position =
        let i = beta_root s (end 0) in
        let o = both_away i.0 i.1 i.3 in (
          i.1,
          subst (λ x. Leads combinators A P place (along x) i.1) (mates n t l i.0 (port p 1) i.2).0
              (follow A GA P place p q S (has i.0 i.1 i.3) (S.outside i.1 o.1)),
        )

    out_body : Out (port q 2)
    out_body =
        let i = beta_root s (end 0) in
        let o = both_away i.0 i.1 i.3 in (
          i.0,
          from_body A GA P place p q S i.0
              (subst (λ x. Leads combinators A P place (along x) i.0) (sym (mates n t l i.0 (port p 1) i.2).1) (stays (S.outside i.0 o.0))),
        )

    out_variable : Out (port q 1)
    out_variable =
        let i = beta_arg s l.once (end 0) in
        let o = both_away i.0 i.1 i.3 in (
          i.1,
          from_variable A GA P place p q S i.1
              (subst (λ x. Leads combinators A P place (along x) i.1) (sym (mates n t l (port p 2) i.1 i.2).0) (stays (S.outside i.1 o.1))),
        )

    out_argument : Out (port p 2)
    out_argument =
        let i = beta_arg s l.once (end 0) in
        let o = both_away i.0 i.1 i.3 in (
          i.0,
          subst (λ x. Leads combinators A P place (along x) i.0) (mates n t l (port p 2) i.1 i.2).1
              (follow_back A GA P place p q S (has i.0 i.1 i.3) i.0 (stays (S.outside i.0 o.0))),
        )

    not_closed : (g : RulePort) → Closed combinators A P place g → ⊥
    not_closed g c = go (S.four g c.0)
      where
        at : (h : RulePort) (x : Spot) → g ≡ h → stand P place h ≡ x → Out x → ⊥
        at h x e f o = c.1 o.0 (subst (λ x. Leads combinators A P place (along x) o.0) (sym (ap (stand P place) e ∙ f)) o.1)

        go : ((g ≡ S.app 1) ⊎ (g ≡ S.app 2)) ⊎ ((g ≡ S.abs 1) ⊎ (g ≡ S.abs 2)) → ⊥
        go (inl (inl e)) = at (S.app 1) (port p 1) e (S.at_app 1) out_position
        go (inl (inr e)) = at (S.app 2) (port p 2) e (S.at_app 2) out_argument
        go (inr (inl e)) = at (S.abs 1) (port q 1) e (S.at_abs 1) out_variable
        go (inr (inr e)) = at (S.abs 2) (port q 2) e (S.at_abs 2) out_body

    old_links : (x : Spot) → A.mate x ≢ x → Outside P x → Leads combinators A P place (along (A.mate x)) (B.mate x)
    old_links x h o =
        let k = stays_linked x h (S.away x o) in
        let m = S.outside (B.mate x) (was (B.mate x) (λ z. k (sym z ∙ GB.twice x))).1 in
        elim (via x k) [
          | inl v ↦ follow A GA P place p q S v m
          | inr v ↦ follow_back A GA P place p q S v (B.mate x) (stays m)
        ]

  module _ (a b : ℕ) (place : ℕ → ℕ) (act : Active combinators A (seat a b)) (S : Sides (seat a b) place p q)
      (two : (r : ℕ) → (r ≡ a) ⊎ (r ≡ b) → (r ≡ p) ⊎ (r ≡ q)) (others : (r : ℕ) → r ≢ a → r ≢ b → (r ≢ p) × (r ≢ q)) where
    rewrites : Rewriting combinators A (seat a b) place B
    rewrites = record {
      active = act;
      vacant = λ i k e. absurd (none_some e);
      apart = λ i j k m e f z. absurd (none_some e);
      new = λ i k e. absurd (none_some e);
      gone = λ r h o. kind_gone r (two r h);
      kept = λ r h i o. let k = others r h i in kind_kept r k.0 k.1;
      ends = ends_are n u ∙ sym (ends_are n t);
      old_links = old_links (seat a b) place S;
      new_links = new_links;
      no_more = λ x h. let w = was x h in inl (w.0, S.outside x w.1);
      circuits = [];
      counted = record {
        closed = λ i g e. absurd (none_some e);
        apart = λ i j g h e f z. absurd (none_some e);
        all = λ g c. absurd (not_closed (seat a b) place S g c);
      };
      loops = let e = no_loops n t in let f = no_loops n u in omega arith;
    }
      where
        new_links : (x y : RulePort) → Entering combinators γγ x → Wired γγ.wires x y → Leads combinators A (seat a b) place (across y) (B.mate (stand (seat a b) place x))
        new_links (L j) y h w = absurd h
        new_links (R j) y h w = absurd h
        new_links (N i j) y h w = absurd (none_some h.1)

  -- p and q have cells, and face each other
  p_cell : A.kind p ≡ Some γ
  p_cell = let a = beta_cells s l.once p in let c = one_yes p p refl in kind_yes n t p (omega arith)

  q_cell : A.kind q ≡ Some γ
  q_cell = let a = beta_cells s l.once q in let c = one_yes q q refl in kind_yes n t q (omega arith)

  abbrev Pairs : Pair → Type 0
  Pairs P = Active combinators A P × ((place : ℕ → ℕ) → Rewriting combinators A P place B)

  pub paired : Pairs (facing p q)
  paired = go (cases_lt p q) (cases_lt q p)
    where
      go : (p < q) ⊎ (q ≤ p) → (q < p) ⊎ (p ≤ q) → Pairs (facing p q)
      go (inl h) k =
          let act : Active combinators A (seat p q) = record {
            listed = refl;
            left = p_cell;
            right = q_cell;
            facing = (mates n t l (port p 0) (port q 0) (beta_pair s (end 0))).0;
            first = λ e. h;
          } in
          subst Pairs (sym (facing_low p q h)) (act, λ place. rewrites p q place act (app_left p q place) (λ r i. i) (λ r i j. (i, j)))
      go (inr h) (inl k) =
          let act : Active combinators A (seat q p) = record {
            listed = refl;
            left = q_cell;
            right = p_cell;
            facing = (mates n t l (port p 0) (port q 0) (beta_pair s (end 0))).1;
            first = λ e. k;
          } in
          subst Pairs (sym (facing_high p q k)) (act, λ place. rewrites q p place act (app_right p q place) (λ r i. turned i) (λ r i j. (j, i)))
        where
          turned : {r : ℕ} → (r ≡ q) ⊎ (r ≡ p) → (r ≡ p) ⊎ (r ≡ q)
          turned (inl e) = inr e
          turned (inr e) = inl e
      go (inr h) (inr k) = absurd (apart (omega arith))

pub rewriting_contracts_lem : RewritingContracts
rewriting_contracts_lem n p q t u l s =
    let w = (paired n p q t u l s).1 in
    record {
      linear = beta_linear n l s;
      rewriting = w;
      only = λ place B r. results_once combinators (net n t) B (net n u) (facing p q) place combinators_lawful (good n t l) r (w place);
      no_loop = no_loops n u;
    }

-- ── an active pair is a redex ──

-- the pair is of two γ
γ_pair : (n : ℕ) (t : Term) (P : Pair) → Active combinators (net n t) P → P ≡ seat P.left P.right
γ_pair n t P a =
    let e : P.rule.left ≡ γ = (kind_some n t P.left P.rule.left a.left).1 in
    let f : P.rule.right ≡ γ = (kind_some n t P.right P.rule.right a.right).1 in
    let z : P.position ≡ 0 = combinators_lawful.single P.position 0 P.rule γγ a.listed refl e f in
    let w : Some P.rule ≡ Some γγ = sym a.listed ∙ ap (slice_get combinators.rules) z in
    same_pair P (seat P.left P.right) refl refl z (cc)

module _ (n : ℕ) (t : Term) (l : Linear n t) (P : Pair) (a : Active combinators (net n t) P) where
  abbrev p : ℕ
  p = P.left

  abbrev q : ℕ
  q = P.right

  low_first : p < q
  low_first = a.first ((kind_some n t p P.rule.left a.left).1 ∙ sym (kind_some n t q P.rule.right a.right).1)

  pub a_redex : (p : ℕ) × (q : ℕ) × (u : Term) × Beta p q t u × (P ≡ facing p q)
  a_redex = go (either_way n t l (port p 0) (λ z. end_or z))
    where
      end_or : (net n t).mate (port p 0) ≡ port p 0 → ⊥
      end_or z = let y : q ≡ p = cc a.facing in let h = low_first in omega arith

      go : (y : Spot) × (In (links (end 0) t) (port p 0) y ⊎ In (links (end 0) t) y (port p 0)) → (p : ℕ) × (q : ℕ) × (u : Term) × Beta p q t u × (P ≡ facing p q)
      go (y, inl i) =
          let e : y ≡ port q 0 = sym (mates n t l (port p 0) y i).0 ∙ a.facing in
          elim (pair_beta p q t (end 0) (subst (In (links (end 0) t) (port p 0)) e i)) [
            | inl b ↦ (p, q, b.0, b.1, γ_pair n t P a ∙ sym (facing_low p q low_first))
            | inr b ↦ absurd (end≢port 0 p 0 (sym b.0))
          ]
      go (y, inr i) =
          let e : y ≡ port q 0 = sym (mates n t l y (port p 0) i).1 ∙ a.facing in
          elim (pair_beta q p t (end 0) (subst (λ y. In (links (end 0) t) y (port p 0)) e i)) [
            | inl b ↦ (q, p, b.0, b.1, γ_pair n t P a ∙ sym (facing_high q p low_first))
            | inr b ↦ absurd (end≢port 0 q 0 (sym b.0))
          ]

pub pairs_are_redexes_lem : PairsAreRedexes
pairs_are_redexes_lem n t l = record { active = λ p q u s. (paired n p q t u l s).0; redex = λ P a. a_redex n t l P a }

-- the net of a normal form is at rest
pub at_rest : (n : ℕ) (t : Term) → Linear n t → Normal t → AtRest combinators (net n t)
at_rest n t l h P a = let (p, q, u, s, e) = a_redex n t l P a in h p q u s
