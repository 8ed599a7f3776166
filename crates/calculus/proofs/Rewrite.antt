-- Rewriting one pair by splices: the net that it gives, and that it is good. Assumes nothing.
use Rattle.std.proofs.Common.{◌≡◌, ℕ, ◌+◌, ◌-◌, ◌<◌, ◌≤◌, true, false, ◌||◌, eqb, ◌≢◌, ◌⊎◌, Some, None, Option, sym, refl, ap, ◌∙◌, subst, ap₂, inl, inr, arith}
use Rattle.std.specs.List.{slice_get}
use Rattle.std.proofs.lemmas.Bool.{cases_lt}
use Rattle.calculus.specs.Spots.{Spot, end, port}
use Rattle.calculus.specs.Books.{RulePort, L, R, N, RuleBook, HasPort, RuleLaws, Laws}
use Rattle.calculus.specs.Nets.{Net, Stands, Good, Pair, Active}
use Rattle.calculus.proofs.Wires.{Out, through, closes, run, tally, Ready}
use Rattle.calculus.proofs.Splice.{Mutual, mutual_run, live_run, was_live_run, closes_yes}
use Rattle.calculus.proofs.Beside.{split, beside, Left, Ports, Bounded, side, mutual_beside, live_left, live_right, left_live, right_live, on_left, split_low, split_at}
use Rattle.calculus.proofs.Wiring.{code, ports, port_low, has_port, wiring, Spoken, cell_row, wiring_mutual, wiring_ports, wiring_live, wiring_dead}
use Rattle.calculus.proofs.Plugs.{wires, gates, plugs, out_wires, in_left, in_right, ready_wires, out_append, out_front, out_rear, ready-append, apart_wires, other_place, out_plugs, end_plugs}

-- a good net whose cells stand below n
pub record Sized (K : RuleBook) (n : ℕ) (A : Net) : Type 0 where
  pub good : Good K A
  pub small : (r k : ℕ) → A.kind r ≡ Some k → r < n

-- an active pair, whichever of two cells of one kind is called L
pub record Facing (K : RuleBook) (A : Net) (P : Pair) : Type 0 where
  pub listed : slice_get K.rules P.position ≡ Some P.rule
  pub left : A.kind P.left ≡ Some P.rule.left
  pub right : A.kind P.right ≡ Some P.rule.right
  pub facing : A.mate (port P.left 0) ≡ port P.right 0

pub sized : (K : RuleBook) (A : Net) (G : Good K A) → Sized K G.finite.0 A
sized K A G = record { good = G; small = G.finite.1 }

pub facing : (K : RuleBook) (A : Net) (P : Pair) → Active K A P → Facing K A P
facing K A P a = record { listed = a.listed; left = a.left; right = a.right; facing = a.facing }

unfoldable pub without : ℕ → ℕ → (ℕ → Option ℕ) → ℕ → Option ℕ
without p q k r = elim (eqb r p || eqb r q) [ true ↦ None | false ↦ k r ]

pub without_no : (p q r : ℕ) (k : ℕ → Option ℕ) → r ≢ p → r ≢ q → without p q k r ≡ k r
unfolding without
without_no p q r k n o = grind (arith)

pub without_yes : (p q r : ℕ) (k : ℕ → Option ℕ) → (r ≡ p) ⊎ (r ≡ q) → without p q k r ≡ None
unfolding without
without_yes p q r k (inl e) = grind (arith)
without_yes p q r k (inr e) = grind (arith)

pub without_some : (p q r c : ℕ) (k : ℕ → Option ℕ) → without p q k r ≡ Some c → (r ≢ p) × (r ≢ q) × (k r ≡ Some c)
unfolding without
without_some p q r c k e = ((λ z. grind (arith)), (λ z. grind (arith)), grind (arith))

-- the net with the rule's right side laid beside it
abbrev pub laid : ℕ → Net → Pair → Spot → Spot
laid n A P = beside n A.mate (wiring P.rule)

-- the same without the two principal ports
abbrev pub bench : ℕ → Net → Pair → Spot → Spot
bench n A P = through (port P.left 0) (port P.right 0) (laid n A P)

-- the pair replaced: the principal ports go, each auxiliary port is spliced with its gate; new cell i enters in place n + i
unfoldable pub rewrite : RuleBook → ℕ → Net → Pair → Net
rewrite K n A P = record {
  ends = A.ends;
  kind = without P.left P.right (split n A.kind (slice_get P.rule.cells));
  mate = run (gates K n P) (bench n A P);
  loops = A.loops + tally (gates K n P) (bench n A P);
}

pub bounded : (K : RuleBook) (n : ℕ) (A : Net) → Sized K n A → Bounded n A.mate
bounded K n A G x l = go x (G.good.there x l)
  where
    go : (x : Spot) → Stands K A x → Left n x
    go (end e) h = tt
    go (port r j) h = G.small r h.0 h.1

module _ (K : RuleBook) (laws : Laws K) (n : ℕ) (A : Net) (G : Sized K n A) (P : Pair) (act : Facing K A P) where
  pub rule_laws : RuleLaws K P.rule
  rule_laws = laws.rules P.position P.rule act.listed

  -- the ports of the two cells
  pub left_linked : (j : ℕ) → j ≤ ports K P.rule.left → A.mate (port P.left j) ≢ port P.left j
  left_linked j h = G.good.linked (port P.left j) (P.rule.left, act.left, has_port K P.rule.left j rule_laws.left_kind h)

  pub right_linked : (j : ℕ) → j ≤ ports K P.rule.right → A.mate (port P.right j) ≢ port P.right j
  right_linked j h = G.good.linked (port P.right j) (P.rule.right, act.right, has_port K P.rule.right j rule_laws.right_kind h)

  pub two : P.left ≢ P.right
  two e = left_linked 0 (omega arith) (act.facing ∙ ap (λ r. port r 0) (sym e))

  pub left_small : P.left < n
  left_small = G.small P.left P.rule.left act.left

  pub right_small : P.right < n
  right_small = G.small P.right P.rule.right act.right

  im : Mutual A.mate
  im = G.good.twice

  bm : Bounded n A.mate
  bm = bounded K n A G

  iw : Mutual (wiring P.rule)
  iw = wiring_mutual K P.rule rule_laws

  pw : Ports (wiring P.rule)
  pw = wiring_ports K P.rule rule_laws

  pub laid_mutual : Mutual (laid n A P)
  laid_mutual = mutual_beside n A.mate (wiring P.rule) im bm iw pw

  pub old_live : (x : Spot) → A.mate x ≢ x → laid n A P x ≢ x
  old_live = live_left n A.mate (wiring P.rule) im bm iw pw

  pub new_live : (i j : ℕ) → wiring P.rule (port i j) ≢ port i j → laid n A P (port (n + i) j) ≢ port (n + i) j
  new_live = live_right n A.mate (wiring P.rule) im bm iw pw

  gate_left : (j : ℕ) → 1 ≤ j → j ≤ ports K P.rule.left → wiring P.rule (port 4 j) ≢ port 4 j
  gate_left j h z = wiring_live K P.rule rule_laws (L j) (inl (h, has_port K P.rule.left j rule_laws.left_kind z))

  gate_right : (j : ℕ) → 1 ≤ j → j ≤ ports K P.rule.right → wiring P.rule (port 5 j) ≢ port 5 j
  gate_right j h z = wiring_live K P.rule rule_laws (R j) (inl (h, has_port K P.rule.right j rule_laws.right_kind z))

  pub plugs_ready : Ready (plugs K n P) (laid n A P)
  plugs_ready =
      let p = P.left in
      let q = P.right in
      let a = ports K P.rule.left in
      let b = ports K P.rule.right in
      let hp : p < n = left_small in
      let hq : q < n = right_small in
      let n1 : p ≢ n + 4 = omega arith in
      let n2 : p ≢ n + 5 = omega arith in
      let n3 : q ≢ n + 4 = omega arith in
      let n4 : q ≢ n + 5 = omega arith in
      let n5 : n + 4 ≢ n + 5 = omega arith in
      let n6 : n + 4 ≢ q = omega arith in (
        (λ e. two (cc)),
        old_live (port p 0) (left_linked 0 (omega arith)),
        old_live (port q 0) (right_linked 0 (omega arith)),
        out_append (port p 0) (wires p (n + 4) a) (wires q (n + 5) b)
            (out_wires (port p 0) p (n + 4) a (λ i h z. ((λ e. let y : ◌≡◌ {A = ℕ} 0 i = cc in omega arith), (λ e. n1 (cc)))))
            (other_place p 0 q (n + 5) b two n2),
        out_append (port q 0) (wires p (n + 4) a) (wires q (n + 5) b)
            (other_place q 0 p (n + 4) a (λ z. two (sym z)) n3)
            (out_wires (port q 0) q (n + 5) b (λ i h z. ((λ e. let y : ◌≡◌ {A = ℕ} 0 i = cc in omega arith), (λ e. n4 (cc))))),
        ready-append (laid n A P) (wires p (n + 4) a) (wires q (n + 5) b)
            (ready_wires (laid n A P) p (n + 4) a n1 (λ i h z. (old_live (port p i) (left_linked i z), new_live 4 i (gate_left i h z))))
            (ready_wires (laid n A P) q (n + 5) b n4 (λ i h z. (old_live (port q i) (right_linked i z), new_live 5 i (gate_right i h z))))
            (apart_wires p (n + 4) a (wires q (n + 5) b) (λ i. (other_place p i q (n + 5) b two n2, other_place (n + 4) i q (n + 5) b n6 n5))),
      )

  pub after_mate : (rewrite K n A P).mate ≡ run (plugs K n P) (laid n A P)
  unfolding rewrite
  after_mate = refl

  pub after_kind : (rewrite K n A P).kind ≡ without P.left P.right (split n A.kind (slice_get P.rule.cells))
  unfolding rewrite
  after_kind = refl

  pub after_ends : (rewrite K n A P).ends ≡ A.ends
  unfolding rewrite
  after_ends = refl

  pub after_loops : (rewrite K n A P).loops + 1 ≡ A.loops + tally (plugs K n P) (laid n A P)
  unfolding rewrite
  after_loops =
      let c : closes (port P.left 0) (port P.right 0) (laid n A P) ≡ 1 =
      closes_yes (port P.left 0) (port P.right 0) (laid n A P) (on_left n A.mate (wiring P.rule) (port P.left 0) left_small ∙ act.facing) in
      omega (arith, c)

  -- a cell afterwards is an old one that is neither L nor R, or a new one
  pub cells : (r c : ℕ) → (rewrite K n A P).kind r ≡ Some c →
      ((r ≢ P.left) × (r ≢ P.right) × (r < n) × (A.kind r ≡ Some c)) ⊎ ((i : ℕ) × (r ≡ n + i) × (i < 4) × (slice_get P.rule.cells i ≡ Some c))
  cells r c e = go (cases_lt r n)
    where
      t : (r ≢ P.left) × (r ≢ P.right) × (split n A.kind (slice_get P.rule.cells) r ≡ Some c)
      t = without_some P.left P.right r c (split n A.kind (slice_get P.rule.cells)) (ap (λ f. f r) (sym after_kind) ∙ e)

      go : (r < n) ⊎ (n ≤ r) →
          ((r ≢ P.left) × (r ≢ P.right) × (r < n) × (A.kind r ≡ Some c)) ⊎ ((i : ℕ) × (r ≡ n + i) × (i < 4) × (slice_get P.rule.cells i ≡ Some c))
      go (inl h) = inl (t.0, t.1, h, sym (split_low n A.kind (slice_get P.rule.cells) r h) ∙ t.2)
      go (inr h) =
          let z : r ≡ n + (r - n) = omega arith in
          let y : slice_get P.rule.cells (r - n) ≡ Some c =
          sym (ap (split n A.kind (slice_get P.rule.cells)) z ∙ split_at n A.kind (slice_get P.rule.cells) (r - n)) ∙ t.2 in
          inr (r - n, z, cell_row K P.rule rule_laws (r - n) c y, y)

  pub old_cell : (r c : ℕ) → r ≢ P.left → r ≢ P.right → A.kind r ≡ Some c → (rewrite K n A P).kind r ≡ Some c
  old_cell r c h o e =
      ap (λ f. f r) after_kind ∙ without_no P.left P.right r (split n A.kind (slice_get P.rule.cells)) h o
      ∙ split_low n A.kind (slice_get P.rule.cells) r (G.small r c e) ∙ e

  pub new_cell : (i c : ℕ) → slice_get P.rule.cells i ≡ Some c → (rewrite K n A P).kind (n + i) ≡ Some c
  new_cell i c e =
      let hp : P.left < n = left_small in
      let hq : P.right < n = right_small in
      ap (λ f. f (n + i)) after_kind ∙ without_no P.left P.right (n + i) (split n A.kind (slice_get P.rule.cells)) (omega arith) (omega arith)
      ∙ split_at n A.kind (slice_get P.rule.cells) i ∙ e

  -- what is linked afterwards: an old spot of no leaving cell, or a port of a new cell
  pub old_spot : (x : Spot) → A.mate x ≢ x → Out x (plugs K n P) → (rewrite K n A P).mate x ≢ x
  old_spot x l o = subst (λ f. f x ≢ x) (sym after_mate) (live_run (plugs K n P) (laid n A P) laid_mutual plugs_ready x o (old_live x l))

  pub off_plugs : (r j : ℕ) → r ≢ P.left → r ≢ P.right → r < n → Out (port r j) (plugs K n P)
  off_plugs r j h k l = out_plugs K n P r j h k (omega arith) (omega arith)

  pub new_plugs : (i j : ℕ) → i < 4 → Out (port (n + i) j) (plugs K n P)
  new_plugs i j h =
      let hp : P.left < n = left_small in
      let hq : P.right < n = right_small in
      out_plugs K n P (n + i) j (omega arith) (omega arith) (omega arith) (omega arith)

  -- a port of L or R that is linked is spliced
  pub not_left : (r j : ℕ) → Out (port r j) (plugs K n P) → A.mate (port r j) ≢ port r j → r ≢ P.left
  not_left r j o l e = go (cases_lt 0 j)
    where
      a : ℕ
      a = ports K P.rule.left

      t : Stands K A (port r j)
      t = G.good.there (port r j) l

      hj : j ≤ a
      hj =
          let f = t.1 in
          let g = act.left in
          let c : t.0 ≡ P.rule.left = cc in
          port_low K P.rule.left j (subst (λ k. HasPort K k j) c t.2)

      go : (0 < j) ⊎ (j ≤ 0) → ⊥
      go (inl h) = in_left P.left (n + 4) a j h hj
          (out_front (port P.left j) (wires P.left (n + 4) a) (wires P.right (n + 5) (ports K P.rule.right))
          (subst (λ r. Out (port r j) (gates K n P)) e o.2))
      go (inr h) = let z : j ≡ 0 = omega arith in o.0 (ap₂ port e z)

  pub not_right : (r j : ℕ) → Out (port r j) (plugs K n P) → A.mate (port r j) ≢ port r j → r ≢ P.right
  not_right r j o l e = go (cases_lt 0 j)
    where
      b : ℕ
      b = ports K P.rule.right

      t : Stands K A (port r j)
      t = G.good.there (port r j) l

      hj : j ≤ b
      hj =
          let f = t.1 in
          let g = act.right in
          let c : t.0 ≡ P.rule.right = cc in
          port_low K P.rule.right j (subst (λ k. HasPort K k j) c t.2)

      go : (0 < j) ⊎ (j ≤ 0) → ⊥
      go (inl h) = in_left P.right (n + 5) b j h hj
          (out_rear (port P.right j) (wires P.left (n + 4) (ports K P.rule.left)) (wires P.right (n + 5) b)
          (subst (λ r. Out (port r j) (gates K n P)) e o.2))
      go (inr h) = let z : j ≡ 0 = omega arith in o.1 (ap₂ port e z)

  -- what is linked beside the rule's right side and is not spliced
  pub is_there : (x : Spot) → Out x (plugs K n P) → laid n A P x ≢ x →
      ((A.mate x ≢ x) × Left n x) ⊎ ((i : ℕ) × (j : ℕ) × (k : ℕ) × (x ≡ port (n + i) j) × (slice_get P.rule.cells i ≡ Some k) × HasPort K k j)
  is_there x o l = go (side n x)
    where
      new : (i j : ℕ) → x ≡ port (n + i) j → (g : RulePort) → port i j ≡ code g → Spoken K P.rule g →
          (i : ℕ) × (j : ℕ) × (k : ℕ) × (x ≡ port (n + i) j) × (slice_get P.rule.cells i ≡ Some k) × HasPort K k j
      new i j e (L m) z (inl h) =
          let ei : i ≡ 4 = cc in
          let ej : j ≡ m = cc in
          absurd (in_right P.left (n + 4) (ports K P.rule.left) m h.0 (port_low K P.rule.left m h.1)
          (subst (λ y. Out y (wires P.left (n + 4) (ports K P.rule.left))) (e ∙ ap₂ (λ i j. port (n + i) j) ei ej)
          (out_front x (wires P.left (n + 4) (ports K P.rule.left)) (wires P.right (n + 5) (ports K P.rule.right)) o.2)))
      new i j e (L m) z (inr h) = absurd h
      new i j e (R m) z (inl h) =
          let ei : i ≡ 5 = cc in
          let ej : j ≡ m = cc in
          absurd (in_right P.right (n + 5) (ports K P.rule.right) m h.0 (port_low K P.rule.right m h.1)
          (subst (λ y. Out y (wires P.right (n + 5) (ports K P.rule.right))) (e ∙ ap₂ (λ i j. port (n + i) j) ei ej)
          (out_rear x (wires P.left (n + 4) (ports K P.rule.left)) (wires P.right (n + 5) (ports K P.rule.right)) o.2)))
      new i j e (R m) z (inr h) = absurd h
      new i j e (N k m) z (inl h) = absurd h
      new i j e (N k m) z (inr h) =
          let ei : i ≡ k = cc in
          let ej : j ≡ m = cc in
          (k, m, h.0, e ∙ ap₂ (λ i j. port (n + i) j) ei ej, h.1, h.2)

      go : Left n x ⊎ ((i : ℕ) × (j : ℕ) × (x ≡ port (n + i) j)) →
          ((A.mate x ≢ x) × Left n x) ⊎ ((i : ℕ) × (j : ℕ) × (k : ℕ) × (x ≡ port (n + i) j) × (slice_get P.rule.cells i ≡ Some k) × HasPort K k j)
      go (inl h) = inl (left_live n A.mate (wiring P.rule) im bm iw pw x h l, h)
      go (inr (i, j, e)) =
          let t = wiring_dead K P.rule rule_laws (port i j) (right_live n A.mate (wiring P.rule) im bm iw pw i j (subst (λ y. laid n A P y ≢ y) e l)) in
          inr (new i j e t.0 t.1 t.2)

  pub new_spot : (i j k : ℕ) → slice_get P.rule.cells i ≡ Some k → HasPort K k j → laid n A P (port (n + i) j) ≢ port (n + i) j
  new_spot i j k e h = new_live i j (wiring_live K P.rule rule_laws (N i j) (inr (k, e, h)))

  pub stands_after : (x : Spot) → Stands K (rewrite K n A P) x → (rewrite K n A P).mate x ≢ x
  stands_after (end e) h = old_spot (end e) (G.good.linked (end e) (subst (λ m. e < m) after_ends h)) (end_plugs K n P e)
  stands_after (port r j) (c, h, z) = go (cells r c h)
    where
      go : ((r ≢ P.left) × (r ≢ P.right) × (r < n) × (A.kind r ≡ Some c)) ⊎ ((i : ℕ) × (r ≡ n + i) × (i < 4) × (slice_get P.rule.cells i ≡ Some c)) →
          (rewrite K n A P).mate (port r j) ≢ port r j
      go (inl t) = old_spot (port r j) (G.good.linked (port r j) (c, t.3, z)) (off_plugs r j t.0 t.1 t.2)
      go (inr (i, e, i4, y)) =
          subst (λ r. (rewrite K n A P).mate (port r j) ≢ port r j) (sym e)
          (subst (λ f. f (port (n + i) j) ≢ port (n + i) j) (sym after_mate)
          (live_run (plugs K n P) (laid n A P) laid_mutual plugs_ready (port (n + i) j) (new_plugs i j i4) (new_spot i j c y z)))

  pub was_there : (x : Spot) → (rewrite K n A P).mate x ≢ x → Out x (plugs K n P) × (laid n A P x ≢ x)
  was_there x l = was_live_run (plugs K n P) (laid n A P) laid_mutual plugs_ready x (subst (λ f. f x ≢ x) after_mate l)

  pub there_after : (x : Spot) → (rewrite K n A P).mate x ≢ x → Stands K (rewrite K n A P) x
  there_after x l = let t = was_there x l in go x t.0 (is_there x t.0 t.1)
    where
      old : (x : Spot) → Out x (plugs K n P) → A.mate x ≢ x → Stands K (rewrite K n A P) x
      old (end e) o h = subst (λ m. e < m) (sym after_ends) (G.good.there (end e) h)
      old (port r j) o h =
          let t = G.good.there (port r j) h in
          (t.0, old_cell r t.0 (not_left r j o h) (not_right r j o h) t.1, t.2)

      go : (x : Spot) → Out x (plugs K n P) →
          ((A.mate x ≢ x) × Left n x) ⊎ ((i : ℕ) × (j : ℕ) × (k : ℕ) × (x ≡ port (n + i) j) × (slice_get P.rule.cells i ≡ Some k) × HasPort K k j) → Stands K (rewrite K n A P) x
      go x o (inl h) = old x o h.0
      go x o (inr (i, j, k, e, f, h)) = subst (Stands K (rewrite K n A P)) (sym e) (k, new_cell i k f, h)

  pub small_after : (r k : ℕ) → (rewrite K n A P).kind r ≡ Some k → r < n + 6
  small_after r k e = go (cells r k e)
    where
      go : ((r ≢ P.left) × (r ≢ P.right) × (r < n) × (A.kind r ≡ Some k)) ⊎ ((i : ℕ) × (r ≡ n + i) × (i < 4) × (slice_get P.rule.cells i ≡ Some k)) → r < n + 6
      go (inl h) = omega (arith, h.2)
      go (inr h) = omega (arith, h.1, h.2)

  pub known_after : (r k : ℕ) → (rewrite K n A P).kind r ≡ Some k → HasPort K k 0
  known_after r k e = go (cells r k e)
    where
      go : ((r ≢ P.left) × (r ≢ P.right) × (r < n) × (A.kind r ≡ Some k)) ⊎ ((i : ℕ) × (r ≡ n + i) × (i < 4) × (slice_get P.rule.cells i ≡ Some k)) → HasPort K k 0
      go (inl h) = G.good.known r k h.3
      go (inr h) = rule_laws.cell_kinds h.0 k h.3

  -- a good net again
  pub sized_after : Sized K (n + 6) (rewrite K n A P)
  sized_after = record {
    good = record {
      finite = (n + 6, small_after);
      known = known_after;
      twice = subst Mutual (sym after_mate) (mutual_run (plugs K n P) (laid n A P) laid_mutual plugs_ready);
      linked = stands_after;
      there = there_after;
    };
    small = small_after;
  }
