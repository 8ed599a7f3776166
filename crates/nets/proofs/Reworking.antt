-- The code's steps are the rewriting. Assumes nothing.
use Rattle.std.proofs.Common.{◌≡◌, ℕ, zero, suc, ◌+◌, ◌<◌, ◌≤◌, Bool, true, false, cond, eqb, ◌≢◌, ◌⊎◌, List, [], ◌∷◌, ◌++◌, length, get_or, Some, None, Option, sym, refl, ap, ◌∙◌, subst, ap₂, inl, inr, arith}
use mathlib.Core.Path.{fun_ext}
use Rattle.std.specs.List.{slice_get}
use Rattle.std.specs.Option.{unwrap_or}
use Rattle.std.proofs.lemmas.Bool.{cases_eq}
use Rattle.calculus.specs.Spots.{Spot, end, port, carry}
use Rattle.calculus.specs.Books.{RuleBook, Rule, RuleLaws, Laws, HasPort}
use Rattle.calculus.specs.Nets.{Net, Stands, Good, Pair, Active}
use Rattle.calculus.specs.Alike.{SameLinks}
use Rattle.calculus.specs.Rewriting.{Rewriting}
use Rattle.calculus.specs.Theorems.{Free}
use Rattle.calculus.proofs.Wires.{through, run, tally, Ready}
use Rattle.calculus.proofs.Splice.{spot, at_a, at_b, was_live, keeps_live, Mutual, keeps_mutual, ready_through, mutual_run, closes_yes}
use Rattle.calculus.proofs.Iso.{pairs, same_run, same_through, image_ready}
use Rattle.calculus.proofs.Beside.{Bounded, on_left, beside_through}
use Rattle.calculus.proofs.Plugs.{wires, plugs, ready_front}
use Rattle.calculus.proofs.Wiring.{wiring, ports, wiring_mutual, wiring_ports}
use Rattle.calculus.proofs.Rewrite.{Sized, Facing, facing, rewrite, laid, bounded, rule_laws, two, left_small, right_small, left_linked, right_linked, laid_mutual, plugs_ready, after_mate, after_loops, cells}
use Rattle.calculus.proofs.Rewrite as rewriting
use Rattle.calculus.proofs.Carried.{run-append, tally_append}
use Rattle.calculus.proofs.Places.{nth_some, settled, settled_alike, settled_good, settles_as, to_low, to_new}
use Rattle.calculus.proofs.Places as places
use Rattle.calculus.proofs.Tests.{nth_within}
use Rattle.nets.specs.declared.link.Link.{Link}
use Rattle.nets.specs.Layout.{decode, bit}
use Rattle.nets.specs.Meaning.{Content, mate_of}
use Rattle.nets.specs.ByBook.{seat}
use Rattle.nets.specs.Rewiring.{Shows, renamed, Places, Room, Laid, Strung}
use Rattle.nets.specs.Inner.{there}
use Rattle.nets.proofs.Standing.{either, mate_there, mate_absent, is_there, port_there, there_port, end_there, there_end}
use Rattle.nets.proofs.Slots.{same_live}
use Rattle.nets.proofs.Splicing.{closed}
use Rattle.nets.proofs.Renaming.{swaps, swaps_else, swaps_new, swaps_twice, move_twice, renamed_mutual, renamed_same}
use Rattle.nets.proofs.Altering.{ClearedIf, cleared}
use Rattle.nets.proofs.Besides.{gate, stands}

-- the net of a table with other kinds
abbrev pub net_with : Content → (ℕ → ℕ) → Net
net_with c kd = record { ends = c.ends; kind = λ r. cond (eqb (bit c.occupied r) 1) (Some (kd r)) None; mate = mate_of c; loops = c.loops }

-- links mutual, by spots
pub record Sound (c : Content) : Type 0 where
  pub shown : Shows c.links (mate_of c)
  pub twice : (x : Spot) → mate_of c (mate_of c x) ≡ x
  pub linked : (x : Spot) → there c x ≡ true → mate_of c x ≢ x
  pub low : (r : ℕ) → bit c.occupied r ≡ 1 → r < 1024

-- kinds and arities are the book's
abbrev pub Booked : RuleBook → Content → (ℕ → ℕ) → Type 0
Booked K c kd = (r : ℕ) → bit c.occupied r ≡ 1 → K.arity (kd r) ≡ Some (get_or c.arities r 0)

module _ (c : Content) (kd : ℕ → ℕ) where
  pub kind_is : (r : ℕ) → bit c.occupied r ≡ 1 → (net_with c kd).kind r ≡ Some (kd r)
  kind_is r h = let b : eqb (bit c.occupied r) 1 ≡ true = grind (arith) in ap (λ (t : Bool). cond t (Some (kd r)) None) b

  pub kind_none : (r : ℕ) → bit c.occupied r ≢ 1 → (net_with c kd).kind r ≡ None
  kind_none r h = let b : eqb (bit c.occupied r) 1 ≡ false = grind (arith) in ap (λ (t : Bool). cond t (Some (kd r)) None) b

  pub kind_some : (r k : ℕ) → (net_with c kd).kind r ≡ Some k → (bit c.occupied r ≡ 1) × (kd r ≡ k)
  kind_some r k e = go (cases_eq (bit c.occupied r) 1)
    where
      go : (bit c.occupied r ≡ 1) ⊎ (bit c.occupied r ≢ 1) → (bit c.occupied r ≡ 1) × (kd r ≡ k)
      go (inl h) = let y : Some (kd r) ≡ Some k = sym (kind_is r h) ∙ e in (h, cc)
      go (inr h) = let y : None ≡ Some k = sym (kind_none r h) ∙ e in let x : ◌≡◌ {A = ℕ} 0 1 = cc in absurd (omega arith)

  module _ (K : RuleBook) (B : Booked K c kd) where
    pub stands_there : (x : Spot) → Stands K (net_with c kd) x → there c x ≡ true
    stands_there (end e) h = there_end c e h
    stands_there (port r j) (k, e, (a, f, h)) =
        let t = kind_some r k e in
        let z : Some a ≡ Some (get_or c.arities r 0) = sym f ∙ ap K.arity (sym t.1) ∙ B r t.0 in
        let y : a ≡ get_or c.arities r 0 = cc in
        there_port c r j t.0 (omega arith)

    pub there_stands : (x : Spot) → there c x ≡ true → Stands K (net_with c kd) x
    there_stands (end e) h = end_there c e h
    there_stands (port r j) h = let a = port_there c r j h in (kd r, kind_is r a.0, (get_or c.arities r 0, B r a.0, a.1))

    pub net_good : Sound c → Good K (net_with c kd)
    net_good S = record {
      finite = (1024, λ r k e. S.low r (kind_some r k e).0);
      known = λ r k e. let t = kind_some r k e in (get_or c.arities r 0, ap K.arity (sym t.1) ∙ B r t.0, omega arith);
      twice = S.twice;
      linked = λ x h. S.linked x (stands_there x h);
      there = λ x h. there_stands x (is_there c x h);
    }

ready_rest : (xs ys : List (Spot × Spot)) (m : Spot → Spot) → Mutual m → Ready (xs ++ ys) m → Ready ys (run xs m)
ready_rest [] ys m inv r = r
ready_rest (x ∷ xs) ys m inv r =
    ready_rest xs ys (through x.0 x.1 m) (keeps_mutual x.0 x.1 m inv r.0 r.1 r.2)
    (ready_through x.0 x.1 m inv r.0 r.1 r.2 (xs ++ ys) r.3 r.4 r.5)

pairs_wires : (f : ℕ → ℕ) (p g n : ℕ) → pairs (carry f) (wires p g n) ≡ wires (f p) (f g) n
pairs_wires f p g zero = refl
pairs_wires f p g (suc n) = ap (λ (ss : List (Spot × Spot)). (port (f p) (suc n), port (f g) (suc n)) ∷ ss) (pairs_wires f p g n)

pairs-append : (f : Spot → Spot) (xs ys : List (Spot × Spot)) → pairs f (xs ++ ys) ≡ pairs f xs ++ pairs f ys
pairs-append f [] ys = refl
pairs-append f (x ∷ xs) ys = ap (λ (ss : List (Spot × Spot)). (f x.0, f x.1) ∷ ss) (pairs-append f xs ys)

-- is r the place of a new cell?
pub is_seat : (pl : ℕ → ℕ) (n r : ℕ) → ((i : ℕ) × (i < n) × (r ≡ pl i)) ⊎ ((i : ℕ) → i < n → r ≢ pl i)
is_seat pl zero r = inr (λ i h. absurd (omega arith))
is_seat pl (suc n) r = go (is_seat pl n r) (cases_eq r (pl n))
  where
    go : ((i : ℕ) × (i < n) × (r ≡ pl i)) ⊎ ((i : ℕ) → i < n → r ≢ pl i) → (r ≡ pl n) ⊎ (r ≢ pl n) → ((i : ℕ) × (i < suc n) × (r ≡ pl i)) ⊎ ((i : ℕ) → i < suc n → r ≢ pl i)
    go (inl (i, h, e)) q = inl (i, omega arith, e)
    go (inr k) (inl e) = inl (n, omega arith, e)
    go (inr k) (inr o) = inr (λ i h. at i h (cases_eq i n))
      where
        at : (i : ℕ) → i < suc n → (i ≡ n) ⊎ (i ≢ n) → r ≢ pl i
        at i h (inl e) = λ z. o (z ∙ ap pl e)
        at i h (inr u) = k i (omega arith)

-- the places of n new cells: of the pair p q or vacant; the pair's rows stand at u and v where new cells take their places
pub record GivenSeats (c : Content) (p q n : ℕ) (ps : List ℕ) (u v : ℕ) (bp bq : Bool) : Type 0 where
  pub places : Places (seat ps) n
  pub vacant : (i : ℕ) → i < n → (bit c.occupied (seat ps i) ≢ 1) ⊎ ((seat ps i ≡ p) ⊎ (seat ps i ≡ q))
  pub row_p : swaps (seat ps) n p ≡ cond bp u p
  pub row_q : swaps (seat ps) n q ≡ cond bq v q
  pub high_p : 1024 ≤ u
  pub high_q : 1024 ≤ v
  pub two : u ≢ v

-- what the code did with the links
pub record Relinked (c : Content) (p q n : ℕ) (ws : List (Rattle.calculus.specs.Books.RulePort × Rattle.calculus.specs.Books.RulePort)) (ps : List ℕ) (u v : ℕ) (bp bq : Bool) (zs : List Link) (loops : ℕ) : Type 0 where
  pub us : List Link
  pub vs : List Link
  pub xs : List Link
  pub ys : List Link
  pub top : ℕ
  pub low : ℕ
  pub i : ℕ
  pub j : ℕ
  pub top_clear : ClearedIf c.links p u (get_or c.arities p 0) bp us top
  pub low_clear : ClearedIf us q v (get_or c.arities q 0) bq vs low
  pub laid_in : Laid vs ws ps xs
  pub left : Strung xs top 1028 (get_or c.arities p 0) ys i
  pub right : Strung ys low 1029 (get_or c.arities q 0) zs j
  pub count : loops ≡ c.loops + (i + j)

-- p and q have left c, the new cells stand at their places in d, the others as they were
pub record Peopled (c : Content) (p q n : ℕ) (ars : List ℕ) (ps : List ℕ) (d : Content) : Type 0 where
  pub ends : d.ends ≡ c.ends
  pub new : (i : ℕ) → i < n → (bit d.occupied (seat ps i) ≡ 1) × (get_or d.arities (seat ps i) 0 ≡ get_or ars i 0)
  pub gone : (r : ℕ) → (r ≡ p) ⊎ (r ≡ q) → ((i : ℕ) → i < n → r ≢ seat ps i) → bit d.occupied r ≢ 1
  pub kept : (r : ℕ) → ((i : ℕ) → i < n → r ≢ seat ps i) → get_or d.arities r 0 ≡ get_or c.arities r 0
  pub old : (r : ℕ) → r ≢ p → r ≢ q → ((i : ℕ) → i < n → r ≢ seat ps i) → bit d.occupied r ≡ bit c.occupied r

module _ (K : RuleBook) (laws : Laws K) (c : Content) (S : Sound c) (kd : ℕ → ℕ) (B : Booked K c kd) (P : Pair) (act : Active K (net_with c kd) P)
    (n : ℕ) (count : length P.rule.cells ≡ n) (ars : List ℕ) (ar : (i k : ℕ) → slice_get P.rule.cells i ≡ Some k → K.arity k ≡ Some (get_or ars i 0))
    (ps : List ℕ) (u v : ℕ) (bp bq : Bool) (T : GivenSeats c P.left P.right n ps u v bp bq) (room : Room P.rule.wires ps)
    (d : Content) (W : Relinked c P.left P.right n P.rule.wires ps u v bp bq d.links d.loops)
    (H : Peopled c P.left P.right n ars ps d)
    (kdd : ℕ → ℕ) (new_kind : (i k : ℕ) → slice_get P.rule.cells i ≡ Some k → kdd (seat ps i) ≡ k)
    (old_kind : (r : ℕ) → r ≢ P.left → r ≢ P.right → ((i : ℕ) → i < n → r ≢ seat ps i) → kdd r ≡ kd r) where
  abbrev p : ℕ
  p = P.left

  abbrev q : ℕ
  q = P.right

  abbrev f : ℕ → ℕ
  f = swaps (seat ps) n

  abbrev A : Net
  A = net_with c kd

  G : Sized K 1024 (net_with c kd)
  G = record { good = net_good c kd K B S; small = λ r k e. S.low r (kind_some c kd r k e).0 }

  fc : Facing K (net_with c kd) P
  fc = facing K A P act

  rl : RuleLaws K P.rule
  rl = rule_laws K laws 1024 A G P fc

  at_p : (bit c.occupied P.left ≡ 1) × (kd P.left ≡ P.rule.left)
  at_p = kind_some c kd p P.rule.left act.left

  at_q : (bit c.occupied P.right ≡ 1) × (kd P.right ≡ P.rule.right)
  at_q = kind_some c kd q P.rule.right act.right

  -- the arities that the code reads are the book's
  ea : get_or c.arities P.left 0 ≡ ports K P.rule.left
  ea = sym (ap (λ (o : Option ℕ). unwrap_or o 0) (ap K.arity (sym at_p.1) ∙ B p at_p.0))

  eb : get_or c.arities P.right 0 ≡ ports K P.rule.right
  eb = sym (ap (λ (o : Option ℕ). unwrap_or o 0) (ap K.arity (sym at_q.1) ∙ B q at_q.0))

  abbrev a : ℕ
  a = ports K P.rule.left

  abbrev b : ℕ
  b = ports K P.rule.right

  pq : P.left ≢ P.right
  pq = two K laws 1024 A G P fc

  low_p : P.left < 1024
  low_p = left_small K laws 1024 A G P fc

  low_q : P.right < 1024
  low_q = right_small K laws 1024 A G P fc

  ff : (r : ℕ) → swaps (seat ps) n (swaps (seat ps) n r) ≡ r
  ff r = swaps_twice (seat ps) n r T.places

  apart : (r : ℕ) → bit c.occupied r ≡ 1 → r ≢ P.left → r ≢ P.right → (i : ℕ) → i < n → r ≢ seat ps i
  apart r e np nq i h z = elim (T.vacant i h) [
    | inl o ↦ o (ap (bit c.occupied) (sym z) ∙ e)
    | inr s ↦ elim s [ inl y ↦ np (z ∙ y) | inr y ↦ nq (z ∙ y) ]
  ]

  f_old : (r : ℕ) → bit c.occupied r ≡ 1 → r ≢ P.left → r ≢ P.right → swaps (seat ps) n r ≡ r
  f_old r e np nq = let h = S.low r e in swaps_else (seat ps) n r (λ i j. (apart r e np nq i j, omega arith))

  -- the rule beside the net, and the same under the change of names
  abbrev V : Spot → Spot
  V = laid 1024 (net_with c kd) P

  abbrev m₂ : Spot → Spot
  m₂ = renamed (swaps (seat ps) n) (laid 1024 (net_with c kd) P)

  V_twice : Mutual V
  V_twice = laid_mutual K laws 1024 A G P fc

  V_ready : Ready (plugs K 1024 P) V
  V_ready = plugs_ready K laws 1024 A G P fc

  m₂_twice : Mutual m₂
  m₂_twice = renamed_mutual f ff V V_twice

  same₂ : SameLinks (carry f) (carry f) V m₂
  same₂ = renamed_same f ff V

  abbrev W₁ : List (Spot × Spot)
  W₁ = wires (swaps (seat ps) n P.left) 1028 (ports K P.rule.left)

  abbrev W₂ : List (Spot × Spot)
  W₂ = wires (swaps (seat ps) n P.right) 1029 (ports K P.rule.right)

  -- the splices where the rows stand
  abbrev plug : List (Spot × Spot)
  plug = (port (swaps (seat ps) n P.left) 0, port (swaps (seat ps) n P.right) 0) ∷ (W₁ ++ W₂)

  gates : (i : ℕ) → 4 ≤ i → swaps (seat ps) n (1024 + i) ≡ 1024 + i
  gates = gate K P.rule rl n ps count T.places

  plug_same : pairs (carry f) (plugs K 1024 P) ≡ plug
  plug_same =
      ap (λ (ss : List (Spot × Spot)). (port (f p) 0, port (f q) 0) ∷ ss)
      (pairs-append (carry f) (wires p (1024 + 4) a) (wires q (1024 + 5) b)
      ∙ ap₂ (λ (x y : List (Spot × Spot)). x ++ y)
      (pairs_wires f p (1024 + 4) a ∙ ap (λ (g : ℕ). wires (f p) g a) (gates 4 (omega arith)))
      (pairs_wires f q (1024 + 5) b ∙ ap (λ (g : ℕ). wires (f q) g b) (gates 5 (omega arith))))

  ready₂ : Ready plug m₂
  ready₂ = subst (λ (ss : List (Spot × Spot)). Ready ss m₂) plug_same (image_ready (carry f) (carry f) V m₂ V_twice same₂ (plugs K 1024 P) V_ready)

  V_faces : V (port P.left 0) ≡ port P.right 0
  V_faces = on_left 1024 (mate_of c) (wiring P.rule) (port p 0) low_p ∙ act.facing

  faces : m₂ (port (swaps (seat ps) n P.left) 0) ≡ port (swaps (seat ps) n P.right) 0
  faces = (same₂.there (port p 0) V_ready.1).0 ∙ ap (carry f) V_faces

  abbrev m₃ : Spot → Spot
  m₃ = through (port (swaps (seat ps) n P.left) 0) (port (swaps (seat ps) n P.right) 0) m₂

  m₃_twice : Mutual m₃
  m₃_twice = keeps_mutual (port (f p) 0) (port (f q) 0) m₂ m₂_twice ready₂.0 ready₂.1 ready₂.2

  ready₃ : Ready (W₁ ++ W₂) m₃
  ready₃ = ready_through (port (f p) 0) (port (f q) 0) m₂ m₂_twice ready₂.0 ready₂.1 ready₂.2 (W₁ ++ W₂) ready₂.3 ready₂.4 ready₂.5

  -- the net without the two principal ports
  abbrev m₁ : Spot → Spot
  m₁ = through (port P.left 0) (port P.right 0) (mate_of c)

  p0q0 : port P.left 0 ≢ port P.right 0
  p0q0 e = pq (cc)

  lp : (j : ℕ) → j ≤ ports K P.rule.left → mate_of c (port P.left j) ≢ port P.left j
  lp = left_linked K laws 1024 A G P fc

  lq : (j : ℕ) → j ≤ ports K P.rule.right → mate_of c (port P.right j) ≢ port P.right j
  lq = right_linked K laws 1024 A G P fc

  m₁_twice : Mutual m₁
  m₁_twice = keeps_mutual (port p 0) (port q 0) (mate_of c) S.twice p0q0 (lp 0 (omega arith)) (lq 0 (omega arith))

  m₁_was : (x : Spot) → m₁ x ≢ x → (x ≢ port P.left 0) × (x ≢ port P.right 0) × (mate_of c x ≢ x)
  m₁_was x h = was_live (port p 0) (port q 0) (mate_of c) S.twice p0q0 (lp 0 (omega arith)) (lq 0 (omega arith)) x h

  m₁_low : Bounded 1024 m₁
  m₁_low x h = bounded K 1024 A G x (m₁_was x h).2

  m₁_live : (x : Spot) → x ≢ port P.left 0 → x ≢ port P.right 0 → mate_of c x ≢ x → m₁ x ≢ x
  m₁_live = keeps_live (port p 0) (port q 0) (mate_of c) S.twice p0q0 (lp 0 (omega arith)) (lq 0 (omega arith))

  row_p : (j : ℕ) → mate_of c (port P.left j) ≢ port P.left j → j ≤ ports K P.rule.left
  row_p j h = subst (λ (k : ℕ). j ≤ k) ea (port_there c p j (is_there c (port p j) h)).1

  row_q : (j : ℕ) → mate_of c (port P.right j) ≢ port P.right j → j ≤ ports K P.rule.right
  row_q j h = subst (λ (k : ℕ). j ≤ k) eb (port_there c q j (is_there c (port q j) h)).1

  other : (r j : ℕ) → m₁ (port r j) ≢ port r j → r ≢ P.left → r ≢ P.right → swaps (seat ps) n r ≡ r
  other r j h np nq = f_old r (port_there c r j (is_there c (port r j) (m₁_was (port r j) h).2)).0 np nq

  rows : Shows W.vs (renamed (swaps (seat ps) n) m₁) × (W.top ≡ swaps (seat ps) n P.left) × (W.low ≡ swaps (seat ps) n P.right)
  rows =
      cleared m₁ m₁_twice m₁_low p q a b u v pq low_p low_q T.high_p T.high_q T.two
      (at_a (port p 0) (port q 0) (mate_of c))
      (λ j x y. m₁_live (port p j) (λ e. let z : j ≡ 0 = cc in omega arith) (λ e. pq (cc)) (lp j y))
      (λ j h. row_p j (m₁_was (port p j) h).2)
      (at_b (port p 0) (port q 0) (mate_of c))
      (λ j x y. m₁_live (port q j) (λ e. pq (sym (cc))) (λ e. let z : j ≡ 0 = cc in omega arith) (lq j y))
      (λ j h. row_q j (m₁_was (port q j) h).2)
      f ff bp bq other T.row_p T.row_q c.links W.us W.vs W.top W.low
      (subst (λ (k : ℕ). ClearedIf c.links p u k bp W.us W.top) ea W.top_clear)
      (subst (λ (k : ℕ). ClearedIf W.us q v k bq W.vs W.low) eb W.low_clear)
      (closed c.links (mate_of c) S.twice S.shown (port p 0) (port q 0) p0q0 (lp 0 (omega arith)) (lq 0 (omega arith)) act.facing).0

  T₁ : Strung W.xs (swaps (seat ps) n P.left) 1028 (ports K P.rule.left) W.ys W.i
  T₁ = subst (λ (r : ℕ). Strung W.xs r 1028 a W.ys W.i) rows.1 (subst (λ (k : ℕ). Strung W.xs W.top 1028 k W.ys W.i) ea W.left)

  T₂ : Strung W.ys (swaps (seat ps) n P.right) 1029 (ports K P.rule.right) d.links W.j
  T₂ = subst (λ (r : ℕ). Strung W.ys r 1029 b d.links W.j) rows.2 (subst (λ (k : ℕ). Strung W.ys W.low 1029 k d.links W.j) eb W.right)

  shown₂ : Shows W.xs (renamed (swaps (seat ps) n) (through (port P.left 0) (port P.right 0) V))
  shown₂ =
      subst (λ (m : Spot → Spot). Shows W.xs (renamed f m))
      (beside_through 1024 (mate_of c) (wiring P.rule) S.twice (bounded K 1024 A G) (wiring_mutual K P.rule rl) (wiring_ports K P.rule rl) (port p 0) (port q 0) low_p low_q)
      (stands K P.rule rl n ps count T.places room W.vs W.xs m₁ m₁_twice m₁_low rows.0 W.laid_in)

  shown₃ : Shows W.xs m₃
  shown₃ =
      same_live W.xs (renamed f (through (port p 0) (port q 0) V)) m₃
      (λ y h.
      let t = (same_through (carry f) (carry f) V m₂ V_twice m₂_twice same₂ (port p 0) (port q 0) V_ready.0 V_ready.1 V_ready.2).back y h in
      ap (carry f) t.0 ∙ move_twice f ff (m₃ y))
      shown₂

  first : Shows W.ys (run W₁ m₃) × (W.i ≡ tally W₁ m₃)
  first = T₁.shows m₃ m₃_twice (ready_front m₃ W₁ W₂ ready₃) shown₃

  second : Shows d.links (run W₂ (run W₁ m₃)) × (W.j ≡ tally W₂ (run W₁ m₃))
  second = T₂.shows (run W₁ m₃) (mutual_run W₁ m₃ m₃_twice (ready_front m₃ W₁ W₂ ready₃)) (ready_rest W₁ W₂ m₃ m₃_twice ready₃) first.0

  -- what the links show in the end
  abbrev M : Spot → Spot
  M = run plug m₂

  shown : Shows d.links M
  shown = subst (Shows d.links) (sym (run-append W₁ W₂ m₃)) second.0

  -- the rewritten net, before its new cells take their places
  abbrev A₁ : Net
  A₁ = rewrite K 1024 (net_with c kd) P

  sames : SameLinks (carry f) (carry f) (run (plugs K 1024 P) V) M × (tally (plugs K 1024 P) V ≡ tally plug m₂)
  sames = subst (λ (ss : List (Spot × Spot)). SameLinks (carry f) (carry f) (run (plugs K 1024 P) V) (run ss m₂) × (tally (plugs K 1024 P) V ≡ tally ss m₂)) plug_same
      (same_run (carry f) (carry f) V m₂ V_twice m₂_twice same₂ (plugs K 1024 P) V_ready)

  links : SameLinks (carry f) (carry f) A₁.mate M
  links = subst (λ (m : Spot → Spot). SameLinks (carry f) (carry f) m M) (sym (after_mate K laws 1024 A G P fc)) sames.0

  loops_after : A₁.loops ≡ d.loops
  loops_after =
      let one = closes_yes (port (f p) 0) (port (f q) 0) m₂ faces in
      omega (arith, after_loops K laws 1024 A G P fc, sames.1, one, tally_append W₁ W₂ m₃, first.1, second.1, W.count)

  -- the places are free
  within : (i k : ℕ) → slice_get P.rule.cells i ≡ Some k → i < n
  within i k e = let z = nth_within P.rule.cells i k e in omega arith

  pub free : Free (net_with c kd) P (seat ps)
  free = record {
    vacant = λ i k e. elim (T.vacant i (within i k e)) [ inl o ↦ inl (kind_none c kd (seat ps i) o) | inr s ↦ inr s ];
    apart = λ i j k l e g z. T.places.apart i j (within i k e) (within j l g) z;
  }

  abbrev B₁ : Net
  B₁ = settled K laws 1024 (net_with c kd) G P act (seat ps) free

  as_rewriting : Rewriting K (net_with c kd) P (seat ps) B₁
  as_rewriting = settles_as K laws 1024 A G P act (seat ps) free

  B₁_good : Good K B₁
  B₁_good = settled_good K laws 1024 A G P act (seat ps) free

  abbrev to : ℕ → ℕ
  to = places.to K laws 1024 (net_with c kd) G P act (seat ps) free

  -- the two changes of names agree where something is linked
  agree : (x : Spot) → A₁.mate x ≢ x → carry f x ≡ carry to x
  agree (end e) l = refl
  agree (port r j) l =
      let t = rewriting.there_after K laws 1024 A G P fc (port r j) l in
      elim (cells K laws 1024 A G P fc r t.0 t.1) [
        | inl s ↦ ap (λ (r : ℕ). port r j) (f_old r (kind_some c kd r t.0 s.3).0 s.0 s.1 ∙ sym (to_low K laws 1024 A G P act (seat ps) free r s.2))
        | inr s ↦
            ap (λ (r : ℕ). port r j)
            (ap f s.1 ∙ swaps_new (seat ps) n s.0 T.places (within s.0 t.0 s.3) ∙ sym (ap to s.1 ∙ to_new K laws 1024 A G P act (seat ps) free s.0))
      ]

  -- what is linked in the rewritten net is so in the links
  follows : (y : Spot) → B₁.mate y ≢ y → (M y ≢ y) × (M y ≡ B₁.mate y)
  follows y l =
      let sl = (settled_alike K laws 1024 A G P act (seat ps) free).links in
      let t = sl.back y l in
      let x = carry (places.from K laws 1024 A G P act (seat ps) free) y in
      let lx : A₁.mate x ≢ x = λ e. l (sym (there_back y l) ∙ ap (carry to) (sym t.0 ∙ e) ∙ t.1) in
      let ex : carry f x ≡ y = agree x lx ∙ t.1 in
      let lmx : A₁.mate (A₁.mate x) ≢ A₁.mate x = λ e. lx (sym (sym (A₁_twice x) ∙ e)) in
      let e : M y ≡ B₁.mate y = ap M (sym ex) ∙ (links.there x lx).0 ∙ agree (A₁.mate x) lmx ∙ sym (sl.there x lx).0 ∙ ap B₁.mate t.1 in
      ((λ z. l (sym e ∙ z)), e)
    where
      A₁_twice : (x : Spot) → A₁.mate (A₁.mate x) ≡ x
      A₁_twice = (rewriting.sized_after K laws 1024 A G P fc).good.twice

      there_back : (y : Spot) → B₁.mate y ≢ y → carry to (carry (places.from K laws 1024 A G P act (seat ps) free) (B₁.mate y)) ≡ B₁.mate y
      there_back y l = ((settled_alike K laws 1024 A G P act (seat ps) free).links.back (B₁.mate y) (λ z. l (sym (sym (B₁_good.twice y) ∙ z)))).1

  -- the kinds
  unused : (r : ℕ) → ((i : ℕ) → i < n → r ≢ seat ps i) → (i k : ℕ) → slice_get P.rule.cells i ≡ Some k → seat ps i ≢ r
  unused r o i k e z = o i (within i k e) (sym z)

  new_kind_at : (i : ℕ) → i < n → (k : ℕ) × (slice_get P.rule.cells i ≡ Some k)
  new_kind_at i h = nth_some P.rule.cells i (omega arith)

  kind_at : (r : ℕ) → B₁.kind r ≡ (net_with d kdd).kind r
  kind_at r = go (is_seat (seat ps) n r) (cases_eq r p) (cases_eq r q)
    where
      R : Rewriting K (net_with c kd) P (seat ps) B₁
      R = as_rewriting

      go : ((i : ℕ) × (i < n) × (r ≡ seat ps i)) ⊎ ((i : ℕ) → i < n → r ≢ seat ps i) → (r ≡ P.left) ⊎ (r ≢ P.left) → (r ≡ P.right) ⊎ (r ≢ P.right) → B₁.kind r ≡ (net_with d kdd).kind r
      go (inl (i, h, e)) x y =
          let t = new_kind_at i h in
          ap B₁.kind e ∙ R.new i t.0 t.1 ∙ ap (λ (k : ℕ). Some k) (sym (new_kind i t.0 t.1)) ∙ sym (ap (net_with d kdd).kind e ∙ kind_is d kdd (seat ps i) (H.new i h).0)
      go (inr o) (inl e) y = R.gone r (inl e) (unused r o) ∙ sym (kind_none d kdd r (H.gone r (inl e) o))
      go (inr o) (inr a) (inl e) = R.gone r (inr e) (unused r o) ∙ sym (kind_none d kdd r (H.gone r (inr e) o))
      go (inr o) (inr a) (inr b) =
          R.kept r a b (unused r o)
          ∙ ap₂ (λ (x y : ℕ). cond (eqb x 1) (Some y) None) (sym (H.old r a b o)) (sym (old_kind r a b o))

  pub booked : Booked K d kdd
  booked r h = go (is_seat (seat ps) n r) (cases_eq r p) (cases_eq r q)
    where
      go : ((i : ℕ) × (i < n) × (r ≡ seat ps i)) ⊎ ((i : ℕ) → i < n → r ≢ seat ps i) → (r ≡ P.left) ⊎ (r ≢ P.left) → (r ≡ P.right) ⊎ (r ≢ P.right) → K.arity (kdd r) ≡ Some (get_or d.arities r 0)
      go (inl (i, l, e)) x y =
          let t = new_kind_at i l in
          ap (λ (r : ℕ). K.arity (kdd r)) e ∙ ap K.arity (new_kind i t.0 t.1) ∙ ar i t.0 t.1 ∙ ap (λ (v : ℕ). Some v) (sym (ap (λ (r : ℕ). get_or d.arities r 0) e ∙ (H.new i l).1))
      go (inr o) (inl e) y = absurd (H.gone r (inl e) o h)
      go (inr o) (inr a) (inl e) = absurd (H.gone r (inr e) o h)
      go (inr o) (inr a) (inr b) = ap K.arity (old_kind r a b o) ∙ B r (sym (H.old r a b o) ∙ h) ∙ ap (λ (v : ℕ). Some v) (sym (H.kept r o))

  ends_at : B₁.ends ≡ d.ends
  ends_at = as_rewriting.ends ∙ sym H.ends

  loops_at : B₁.loops ≡ d.loops
  loops_at = settled_alike_loops ∙ loops_after
    where
      settled_alike_loops : B₁.loops ≡ A₁.loops
      settled_alike_loops = sym (settled_alike K laws 1024 A G P act (seat ps) free).loops

  -- what stands
  stands_in : (y : Spot) → there d y ≡ true → Stands K B₁ y
  stands_in (end e) h = subst (λ (k : ℕ). e < k) (sym ends_at) (end_there d e h)
  stands_in (port r j) h = let t = there_stands d kdd K booked (port r j) h in (t.0, kind_at r ∙ t.1, t.2)

  stands_out : (y : Spot) → Stands K B₁ y → there d y ≡ true
  stands_out (end e) h = there_end d e (subst (λ (k : ℕ). e < k) ends_at h)
  stands_out (port r j) (k, e, h) = stands_there d kdd K booked (port r j) (k, sym (kind_at r) ∙ e, h)

  mate_at : (y : Spot) → B₁.mate y ≡ mate_of d y
  mate_at y = go (either (there d y))
    where
      go : (there d y ≡ true) ⊎ (there d y ≡ false) → B₁.mate y ≡ mate_of d y
      go (inl h) =
          let l : B₁.mate y ≢ y = B₁_good.linked y (stands_in y h) in
          let t = follows y l in
          let tw = mutual_run plug m₂ m₂_twice ready₂ in
          let s = shown y t.0 in
          let z = shown (M y) (λ e. t.0 (sym (sym (tw y) ∙ e))) in
          sym (mate_there d y h ∙ ap decode s.1 ∙ z.0.0 ∙ t.1)
      go (inr h) = elim (spot (B₁.mate y) y) [
        | inl e ↦ e ∙ sym (mate_absent d y h)
        | inr l ↦ (let x : true ≡ false = sym (stands_out y (B₁_good.there y l)) ∙ h in let z : ◌≡◌ {A = ℕ} 0 1 = cc in absurd (omega arith))
      ]

  same_net : B₁ ≡ net_with d kdd
  same_net = λ i. record { ends = ends_at i; kind = fun_ext kind_at i; mate = fun_ext mate_at i; loops = loops_at i }

  pub is_rewriting : Rewriting K (net_with c kd) P (seat ps) (net_with d kdd)
  is_rewriting = subst (Rewriting K A P (seat ps)) same_net as_rewriting

  pub twice_after : (x : Spot) → mate_of d (mate_of d x) ≡ x
  twice_after = subst (λ (m : Spot → Spot). (x : Spot) → m (m x) ≡ x) (fun_ext mate_at) B₁_good.twice

  pub linked_after : (x : Spot) → there d x ≡ true → mate_of d x ≢ x
  linked_after x h e = B₁_good.linked x (stands_in x h) (mate_at x ∙ e)
