-- All that the code of one rewrite did, put together. Assumes nothing.
use Rattle.std.proofs.Common.{◌≡◌, ℕ, zero, suc, ◌+◌, ◌-◌, ◌*◌, ◌^◌, ◌<◌, ◌≤◌, Bool, true, false, cond, eqb, ltb, ◌≢◌, ◌⊎◌, List, [], ◌∷◌, map, length, get_or, Some, None, vec_items, Option, sym, refl, ap, ◌∙◌, subst, ap₂, inl, inr, arith}
use Rattle.std.specs.List.{slice_get}
use Rattle.std.proofs.lemmas.Option.{get_or_from_slice_get}
use Rattle.std.proofs.lemmas.Bool.{cases_eq, cases_lt}
use Rattle.calculus.specs.Spots.{Spot, port}
use Rattle.calculus.specs.Books.{RulePort, L, R, N, Rule, RuleBook, RuleLaws, Laws, Wired, Leaving, Entering}
use Rattle.calculus.specs.Nets.{Active}
use Rattle.calculus.specs.Rewriting.{Rewriting}
use Rattle.calculus.proofs.Tests.{nth_within}
use Rattle.calculus.proofs.Places.{nth_some}
use Rattle.books.specs.declared.table.RuleTable.{RuleTable}
use Rattle.books.specs.Tables.{kinds_of, arities_of, wires_of, Depicts}
use Rattle.books.proofs.Depicted.{cells_same}
use Rattle.nets.specs.declared.link.Link.{Link}
use Rattle.nets.specs.declared.table.Table.{Table}
use Rattle.nets.specs.Layout.{code, decode, goal, bit, is_used, NamesStanding, NamesBack, NamesOther}
use Rattle.nets.specs.Meaning.{Content, content, kind_at, arity_at, mate_of, net_of, net, OfBook}
use Rattle.nets.specs.Fitting.{Paired, Fitting, Told}
use Rattle.nets.specs.Rewrites.{Face, ports_at, pair, Seats}
use Rattle.nets.specs.ByBook.{seat}
use Rattle.nets.specs.Rewiring.{Known, row_of, number_of, seat_of, Room, Places, Laid, Strung}
use Rattle.nets.specs.Seating.{Replaceable, Seated, Downwards}
use Rattle.nets.proofs.Places.{bit_low}
use Rattle.nets.proofs.Filling.{Listed}
use Rattle.nets.specs.Inner.{there}
use Rattle.nets.proofs.Standing.{either, at_slot, decode_code, code_decode, code_small, mate_there, is_there, there_port, port_there, some_arity}
use Rattle.nets.proofs.Standing as standing
use Rattle.nets.proofs.Seatings.{turn, vacant, none_above, none_between, lower, given_up, places, new_on, gone_off, others, long, turned, left_row, right_row}
use Rattle.nets.proofs.Makeshift.{arity_of, rule_for, book_for, arity_else, cell_arity, laws_for, listing_long}
use Rattle.nets.proofs.Loops.{two_circuits}
use Rattle.nets.proofs.Altering.{ClearedIf}
use Rattle.nets.proofs.Reworking.{net_with, Sound, Booked, kind_is, kind_some, kind_none, is_seat, GivenSeats, Relinked, Peopled, booked, free, is_rewriting, twice_after, linked_after}

-- a table is sound
pub sound : (t : Table) → Sound (content t)
sound t = record {
  shown = λ x l.
      let h = is_there (content t) x l in
      let d = standing.drawn t x h in
      ((decode_code x d, code_small x d), sym (ap code (mate_there (content t) x h) ∙ code_decode (goal (content t).links (code x))));
  twice = standing.twice t;
  linked = standing.apart t;
  low = λ r e. bit_low t.occupied r t.wide e;
}

-- facing cells
module _ (t : Table) (p q : ℕ) (F : Face (net t) p q) where
  there_p : there (content t) (port p 0) ≡ true
  there_p = is_there (content t) (port p 0) (λ e. F.1 (let z : port p 0 ≡ port q 0 = sym e ∙ F.0 in cc))

  pub p_on : bit t.occupied p ≡ 1
  p_on = (port_there (content t) p 0 there_p).0

  pub q_on : bit t.occupied q ≡ 1
  q_on = (port_there (content t) q 0 (ap (there (content t)) (sym F.0) ∙ standing.mate_stands t (port p 0) there_p)).0

  pub p_low : p < 1024
  p_low = bit_low t.occupied p t.wide p_on

  pub q_low : q < 1024
  q_low = bit_low t.occupied q t.wide q_on

  pub p_named : goal (vec_items t.links.targets) (p * 4) ≡ q * 4
  p_named =
      let e : p * 4 + 0 ≡ p * 4 = omega arith in
      ap (goal (vec_items t.links.targets)) (sym e) ∙ sym (code_decode (goal (vec_items t.links.targets) (p * 4 + 0))) ∙ ap code (sym (mate_there (content t) (port p 0) there_p) ∙ F.0) ∙ (omega arith)

pub face_from : (t : Table) (p q : ℕ) → bit t.occupied p ≡ 1 → q < 1030 → goal (vec_items t.links.targets) (p * 4) ≡ q * 4 → Face (net t) p q
face_from t p q h l e =
    let th = there_port (content t) p 0 h (omega arith) in
    let a : p * 4 + 0 ≡ p * 4 = omega arith in
    let b : q * 4 ≡ q * 4 + 0 = omega arith in
    let m : (net t).mate (port p 0) ≡ port q 0 = mate_there (content t) (port p 0) th ∙ ap decode (ap (goal (vec_items t.links.targets)) a ∙ e ∙ b) ∙ decode_code (port q 0) (l, omega arith) in
    (m, λ z. standing.apart t (port p 0) th (m ∙ ap (λ (r : ℕ). port r 0) (sym z)))

-- the test of the code
pub facing_told : (t : Table) (p q k : ℕ) → bit t.occupied p ≡ 1 → q < 1030 → k ≡ goal (vec_items t.links.targets) (p * 4) → Told (Face (net t) p q) (eqb k (q * 4))
facing_told t p q k h l e = go (cases_eq k (q * 4))
  where
    go : (k ≡ q * 4) ⊎ (k ≢ q * 4) → Told (Face (net t) p q) (eqb k (q * 4))
    go (inl y) = let b : eqb k (q * 4) ≡ true = grind (arith) in subst (Told (Face (net t) p q)) (sym b) (face_from t p q h l (sym e ∙ y))
    go (inr n) = let b : eqb k (q * 4) ≡ false = grind (arith) in subst (Told (Face (net t) p q)) (sym b) (λ F. n (e ∙ p_named t p q F))

-- the rows of the rule have room
pub room_of : (a b : ℕ) (r : RuleTable) → Fitting a b r → a ≤ 2 → b ≤ 2 → (ps : List ℕ) → length ps ≡ length r.cells.now → Places (seat ps) (length r.cells.now) → Room (wires_of r) ps
room_of a b r F ha hb ps long P = record {
  known = λ x y w. known x (F.pairs_only x y w);
  rows = λ x y w. rows x (F.pairs_only x y w);
  apart = λ x y u v w z e. apart x u (F.pairs_only x y w) (F.pairs_only u v z) e;
  with_one = F.with_one;
}
  where
    known : (x : RulePort) → Paired a b r x → Known ps x
    known (L j) h = tt
    known (R j) h = tt
    known (N i j) h = omega (arith, h.0)

    rows : (x : RulePort) → Paired a b r x → (row_of ps x < 1030) × (number_of x < 4)
    rows (L j) h = (omega arith, omega (arith, h.1))
    rows (R j) h = (omega arith, omega (arith, h.1))
    rows (N i j) h = let z = P.low i h.0 in (omega arith, omega (arith, h.1, F.arities i h.0))

    apart : (x u : RulePort) → Paired a b r x → Paired a b r u → seat_of ps x ≡ seat_of ps u → x ≡ u
    apart (L i) (L j) h k e = let z : i ≡ j = omega arith in ap L z
    apart (L i) (R j) h k e = absurd (omega (arith, h.1, k.1))
    apart (L i) (N m j) h k e = let z = P.low m k.0 in absurd (omega (arith, h.1, k.1, F.arities m k.0))
    apart (R i) (L j) h k e = absurd (omega (arith, h.1, k.1))
    apart (R i) (R j) h k e = let z : i ≡ j = omega arith in ap R z
    apart (R i) (N m j) h k e = let z = P.low m k.0 in absurd (omega (arith, h.1, k.1, F.arities m k.0))
    apart (N n i) (L j) h k e = let z = P.low n h.0 in absurd (omega (arith, h.1, k.1, F.arities n h.0))
    apart (N n i) (R j) h k e = let z = P.low n h.0 in absurd (omega (arith, h.1, k.1, F.arities n h.0))
    apart (N n i) (N m j) h k e =
        let s = F.arities n h.0 in
        let t = F.arities m k.0 in
        let z : get_or ps n 0 ≡ get_or ps m 0 = omega (arith, h.1, k.1) in
        let y : i ≡ j = omega (arith, h.1, k.1) in
        ap₂ N (P.apart n m h.0 k.0 z) y

-- what the code did
pub record Did (s : Table) (p q : ℕ) (r : RuleTable) (d : Content) : Type 0 where
  pub ps : List ℕ
  pub seated : Seated p q (length r.cells.now) s.occupied ps d.occupied
  pub relinked : Relinked (content s) p q (length r.cells.now) (wires_of r) ps (1024 + turn p q) (1025 - turn p q) (ltb (turn p q) (length r.cells.now)) (ltb (1 - turn p q) (length r.cells.now)) d.links d.loops
  pub kinds : Listed (content s).kinds (kinds_of r) (length r.cells.now) ps d.kinds
  pub arities : Listed (content s).arities (arities_of r) (length r.cells.now) ps d.arities
  pub ends : d.ends ≡ s.ends

-- the steps on the links, with what the code read in place of what it means
pub relinked_of : (s : Table) (p q : ℕ) (r : RuleTable) (ps : List ℕ) (us vs xs ys zs : List Link) (tn x y top low i j l : ℕ) → tn ≡ turn p q → x ≡ ports_at s p → y ≡ ports_at s q →
    ClearedIf (content s).links p (1024 + tn) x (ltb tn (length r.cells.now)) us top → ClearedIf us q (1025 - tn) y (ltb (1 - tn) (length r.cells.now)) vs low → Laid vs (wires_of r) ps xs →
    Strung xs top 1028 x ys i → Strung ys low 1029 y zs j → l ≡ s.loops + i + j →
    Relinked (content s) p q (length r.cells.now) (wires_of r) ps (1024 + turn p q) (1025 - turn p q) (ltb (turn p q) (length r.cells.now)) (ltb (1 - turn p q) (length r.cells.now)) zs l
relinked_of s p q r ps us vs xs ys zs tn x y top low i j l et ex ey C D A T U e = record {
  us = us;
  vs = vs;
  xs = xs;
  ys = ys;
  top = top;
  low = low;
  i = i;
  j = j;
  top_clear = subst (λ (t : ℕ). ClearedIf (content s).links p (1024 + t) (ports_at s p) (ltb t (length r.cells.now)) us top) et (subst (λ (x : ℕ). ClearedIf (content s).links p (1024 + tn) x (ltb tn (length r.cells.now)) us top) ex C);
  low_clear = subst (λ (t : ℕ). ClearedIf us q (1025 - t) (ports_at s q) (ltb (1 - t) (length r.cells.now)) vs low) et (subst (λ (y : ℕ). ClearedIf us q (1025 - tn) y (ltb (1 - tn) (length r.cells.now)) vs low) ey D);
  laid_in = A;
  left = subst (λ (x : ℕ). Strung xs top 1028 x ys i) ex T;
  right = subst (λ (y : ℕ). Strung ys low 1029 y zs j) ey U;
  count = omega arith;
}

same_test : (x : ℕ) → eqb x x ≡ true
same_test x = grind (arith)

other_test : (x y : ℕ) → x ≢ y → eqb x y ≡ false
other_test x y n = grind (arith)

-- lists
mapped_at : {X Y : Type 0} (f : X → Y) (xs : List X) (i : ℕ) (x : X) → slice_get xs i ≡ Some x → slice_get (map f xs) i ≡ Some (f x)
mapped_at f [] i x e = absurd (let z : ◌≡◌ {A = ℕ} 0 1 = cc in omega arith)
mapped_at f (y ∷ ys) zero x e = let z : y ≡ x = cc in ap (λ (v : _). Some (f v)) z
mapped_at f (y ∷ ys) (suc i) x e = mapped_at f ys i x e

at_mapped : {X Y : Type 0} (f : X → Y) (xs : List X) (i : ℕ) (y : Y) → slice_get (map f xs) i ≡ Some y → (x : X) × (slice_get xs i ≡ Some x) × (f x ≡ y)
at_mapped f [] i y e = absurd (let z : ◌≡◌ {A = ℕ} 0 1 = cc in omega arith)
at_mapped f (x ∷ xs) zero y e = (x, refl, cc)
at_mapped f (x ∷ xs) (suc i) y e = at_mapped f xs i y e

-- the rule that the table shows
module _ (K : RuleBook) (r : RuleTable) (w : Rule) (D : Depicts K r w) where
  cell_kind : (i k : ℕ) → slice_get w.cells i ≡ Some k → get_or (kinds_of r) i 0 ≡ k
  cell_kind i k e = get_or_from_slice_get (kinds_of r) i k 0 (ap (λ (ks : List ℕ). slice_get ks i) D.kinds ∙ e)

  pub cell_arity_of : (i k : ℕ) → slice_get w.cells i ≡ Some k → K.arity k ≡ Some (get_or (arities_of r) i 0)
  cell_arity_of i k e =
      let f = mapped_at K.arity w.cells i k e in
      let t = at_mapped {Y = Option ℕ} Some (arities_of r) i (K.arity k) (ap (λ (os : List (Option ℕ)). slice_get os i) D.arities ∙ f) in
      sym t.2 ∙ ap (λ (v : ℕ). Some v) (sym (get_or_from_slice_get (arities_of r) i t.0 0 t.1))

  -- it fits cells of the rule's kinds
  pub depicted_fits : RuleLaws K w → (a b : ℕ) → K.arity w.left ≡ Some a → K.arity w.right ≡ Some b → ((k x : ℕ) → K.arity k ≡ Some x → x ≤ 2) → Fitting a b r
  depicted_fits rl a b ea eb two = record {
    few = (let f = rl.few in let c = cells_same K r w D in omega arith);
    arities = λ i h. let t = nth_some w.cells i (let c = cells_same K r w D in omega arith) in two t.0 (get_or (arities_of r) i 0) (cell_arity_of i t.0 t.1);
    pairs_all = λ x h. let t = rl.pairs_all x (spoken x h) in (t.0, subst (λ (ws : List (RulePort × RulePort)). Wired ws x t.0) (sym D.wires) t.1);
    pairs_only = λ x y v. paired x (rl.pairs_only x y (subst (λ (ws : List (RulePort × RulePort)). Wired ws x y) D.wires v));
    with_one = λ x y z u v. rl.with_one x y z (subst (λ (ws : List (RulePort × RulePort)). Wired ws x y) D.wires u) (subst (λ (ws : List (RulePort × RulePort)). Wired ws x z) D.wires v);
    with_other = λ x y v. rl.with_other x y (subst (λ (ws : List (RulePort × RulePort)). Wired ws x y) D.wires v);
  }
    where
      spoken : (x : RulePort) → Paired a b r x → Leaving K w x ⊎ Entering K w x
      spoken (L j) h = inl (h.0, (a, ea, h.1))
      spoken (R j) h = inl (h.0, (b, eb, h.1))
      spoken (N i j) h =
          let t = nth_some w.cells i (let c = cells_same K r w D in let l = h.0 in omega arith) in
          inr (t.0, t.1, (get_or (arities_of r) i 0, cell_arity_of i t.0 t.1, h.1))

      paired : (x : RulePort) → Leaving K w x ⊎ Entering K w x → Paired a b r x
      paired (L j) (inl (h, (c, e, l))) = let z : Some c ≡ Some a = sym e ∙ ea in let y : c ≡ a = cc in (h, omega arith)
      paired (L j) (inr h) = absurd h
      paired (R j) (inl (h, (c, e, l))) = let z : Some c ≡ Some b = sym e ∙ eb in let y : c ≡ b = cc in (h, omega arith)
      paired (R j) (inr h) = absurd h
      paired (N i j) (inl h) = absurd h
      paired (N i j) (inr (k, e, (c, f, l))) =
          let z : Some c ≡ Some (get_or (arities_of r) i 0) = sym f ∙ cell_arity_of i k e in
          let y : c ≡ get_or (arities_of r) i 0 = cc in
          let m = nth_within w.cells i k e in
          (let n = cells_same K r w D in omega arith, omega arith)

module _ (s : Table) (p q : ℕ) (r : RuleTable) (Y : Replaceable s p q r) (d : Content) (W : Did s p q r d) where
  abbrev c : Content
  c = content s

  abbrev n : ℕ
  n = length r.cells.now

  abbrev ps : List ℕ
  ps = W.ps

  abbrev a : ℕ
  a = ports_at s p

  abbrev b : ℕ
  b = ports_at s q

  F : Fitting (ports_at s p) (ports_at s q) r
  F = Y.fitting

  pq : p ≢ q
  pq = Y.facing.1

  on_p : bit s.occupied p ≡ 1
  on_p = p_on s p q Y.facing

  on_q : bit s.occupied q ≡ 1
  on_q = q_on s p q Y.facing

  low_p : p < 1024
  low_p = p_low s p q Y.facing

  low_q : q < 1024
  low_q = q_low s p q Y.facing

  PL : Places (seat W.ps) (length r.cells.now)
  PL = places p q n s.occupied ps d.occupied W.seated F.few pq low_p low_q on_p on_q

  seats : GivenSeats (content s) p q (length r.cells.now) W.ps (1024 + turn p q) (1025 - turn p q) (ltb (turn p q) (length r.cells.now)) (ltb (1 - turn p q) (length r.cells.now))
  seats =
      let t = turned p q n s.occupied ps d.occupied W.seated F.few pq low_p low_q on_p on_q in
      record {
        places = PL;
        vacant = λ i h. elim (cases_lt i 2) [
          | inl l ↦ inr (given_up p q n s.occupied ps d.occupied W.seated F.few pq low_p low_q on_p on_q i l h)
          | inr l ↦ inl (let z = vacant p q n s.occupied ps d.occupied W.seated F.few pq low_p low_q on_p on_q i l h in λ e. omega (arith, z.1))
        ];
        row_p = left_row p q n s.occupied ps d.occupied W.seated F.few pq low_p low_q on_p on_q;
        row_q = right_row p q n s.occupied ps d.occupied W.seated F.few pq low_p low_q on_p on_q;
        high_p = omega arith;
        high_q = omega (arith, t.0);
        two = λ e. omega (arith, t.0);
      }

  people : Peopled (content s) p q (length r.cells.now) (arities_of r) W.ps d
  people = record {
    ends = W.ends;
    new = λ i h. (new_on p q n s.occupied ps d.occupied W.seated F.few pq low_p low_q on_p on_q i h, W.arities.new i h);
    gone = gone_off p q n s.occupied ps d.occupied W.seated F.few pq low_p low_q on_p on_q;
    kept = W.arities.other;
    old = others p q n s.occupied ps d.occupied W.seated F.few pq low_p low_q on_p on_q;
  }

  room : Room (wires_of r) W.ps
  room = room_of a b r F (s.ports p) (s.ports q) ps W.seated.number PL

  some_none : (o : Option ℕ) (k : ℕ) → o ≡ Some k → o ≢ None
  some_none o k e f = let z : ◌≡◌ {A = ℕ} 0 1 = cc in omega arith

  pub downwards : Downwards (net s) p q (length r.cells.now) (seat W.ps)
  downwards =
      let kc : ℕ → ℕ = λ x. get_or (content s).kinds x 0 in
      record {
        first = W.seated.first;
        second = W.seated.second;
        vacant = λ i h l.
            let v = vacant p q n s.occupied ps d.occupied W.seated F.few pq low_p low_q on_p on_q i h l in
            (v.0, kind_none c (λ x. get_or (content s).kinds x 0) (seat ps i) (λ e. omega (arith, v.1)));
        down = lower p q n s.occupied ps d.occupied W.seated F.few pq low_p low_q on_p on_q;
        third = λ h x g l. some_none ((net s).kind x) (kc x)
            (kind_is c (λ x. get_or (content s).kinds x 0) x (none_above p q n s.occupied ps d.occupied W.seated F.few pq low_p low_q on_p on_q h x g l));
        fourth = λ h x g l o. some_none ((net s).kind x) (kc x)
            (kind_is c (λ x. get_or (content s).kinds x 0) x (none_between p q n s.occupied ps d.occupied W.seated F.few pq low_p low_q on_p on_q h x g l o));
      }

  -- the book made for the rule
  abbrev kd : ℕ → ℕ
  kd x = cond (eqb x p) 0 (cond (eqb x q) 1 (2 + get_or (content s).arities x 0))

  abbrev kdd : ℕ → ℕ
  kdd x = 2 + get_or d.arities x 0

  kd_p : kd p ≡ 0
  kd_p = let e = same_test p in ap (λ (t : Bool). cond t 0 (cond (eqb p q) 1 (2 + get_or (content s).arities p 0))) e

  kd_q : kd q ≡ 1
  kd_q =
      let e = other_test q p (λ z. pq (sym z)) in
      let f = same_test q in
      ap₂ (λ (t u : Bool). cond t 0 (cond u 1 (2 + get_or (content s).arities q 0))) e f

  kd_else : (x : ℕ) → x ≢ p → x ≢ q → kd x ≡ 2 + get_or (content s).arities x 0
  kd_else x i j =
      let e = other_test x p i in
      let f = other_test x q j in
      ap₂ (λ (t u : Bool). cond t 0 (cond u 1 (2 + get_or (content s).arities x 0))) e f

  B : Booked (book_for (ports_at s p) (ports_at s q) r) (content s) kd
  B x h = go (cases_eq x p) (cases_eq x q)
    where
      go : (x ≡ p) ⊎ (x ≢ p) → (x ≡ q) ⊎ (x ≢ q) → arity_of (ports_at s p) (ports_at s q) (kd x) ≡ Some (get_or (content s).arities x 0)
      go (inl e) y = ap (λ (x : ℕ). arity_of a b (kd x)) e ∙ ap (arity_of a b) kd_p ∙ ap (λ (x : ℕ). Some (get_or (content s).arities x 0)) (sym e)
      go (inr i) (inl e) = ap (λ (x : ℕ). arity_of a b (kd x)) e ∙ ap (arity_of a b) kd_q ∙ ap (λ (x : ℕ). Some (get_or (content s).arities x 0)) (sym e)
      go (inr i) (inr j) = ap (arity_of a b) (kd_else x i j) ∙ arity_else a b (get_or (content s).arities x 0) (s.ports x)

  act : Active (book_for (ports_at s p) (ports_at s q) r) (net_with (content s) kd) (pair p q 0 (rule_for r))
  act = record {
    listed = refl;
    left = kind_is c kd p on_p ∙ ap (λ (v : ℕ). Some v) kd_p;
    right = kind_is c kd q on_q ∙ ap (λ (v : ℕ). Some v) kd_q;
    facing = Y.facing.0;
    first = λ e. absurd (omega arith);
  }

  laws : Laws (book_for (ports_at s p) (ports_at s q) r)
  laws = laws_for a b r F (s.ports p) (s.ports q)

  count : length (rule_for r).cells ≡ length r.cells.now
  count = listing_long (λ i. 2 + get_or (arities_of r) i 0) (length r.cells.now)

  ar : (i k : ℕ) → slice_get (rule_for r).cells i ≡ Some k → arity_of (ports_at s p) (ports_at s q) k ≡ Some (get_or (arities_of r) i 0)
  ar i k e = (cell_arity a b r F (s.ports p) (s.ports q) i k e).2

  new_kind : (i k : ℕ) → slice_get (rule_for r).cells i ≡ Some k → kdd (seat W.ps i) ≡ k
  new_kind i k e =
      let t = cell_arity a b r F (s.ports p) (s.ports q) i k e in
      ap (λ (v : ℕ). 2 + v) (W.arities.new i t.0) ∙ sym t.1

  old_kind : (x : ℕ) → x ≢ p → x ≢ q → ((i : ℕ) → i < length r.cells.now → x ≢ seat W.ps i) → kdd x ≡ kd x
  old_kind x i j o = ap (λ (v : ℕ). 2 + v) (W.arities.other x o) ∙ sym (kd_else x i j)

  makeshift : Rewriting (book_for (ports_at s p) (ports_at s q) r) (net_with (content s) kd) (pair p q 0 (rule_for r)) (seat W.ps) (net_with d kdd)
  makeshift = is_rewriting (book_for a b r) laws c (sound s) kd B (pair p q 0 (rule_for r)) act n count (arities_of r) ar ps (1024 + turn p q) (1025 - turn p q) (ltb (turn p q) n) (ltb (1 - turn p q) n) seats room d W.relinked people kdd new_kind old_kind

  pub few_loops : d.loops < 2 ^ 30
  few_loops =
      let l = makeshift.loops in
      let t = two_circuits (book_for a b r) laws (net_with (content s) kd) (pair p q 0 (rule_for r)) (seat ps) (laws.rules 0 (rule_for r) refl) makeshift.circuits makeshift.counted in
      let f = Y.loops in
      omega arith

  twice : (x : Spot) → mate_of d (mate_of d x) ≡ x
  twice = twice_after (book_for a b r) laws c (sound s) kd B (pair p q 0 (rule_for r)) act n count (arities_of r) ar ps (1024 + turn p q) (1025 - turn p q) (ltb (turn p q) n) (ltb (1 - turn p q) n) seats room d W.relinked people kdd new_kind old_kind

  linked : (x : Spot) → there d x ≡ true → mate_of d x ≢ x
  linked = linked_after (book_for a b r) laws c (sound s) kd B (pair p q 0 (rule_for r)) act n count (arities_of r) ar ps (1024 + turn p q) (1025 - turn p q) (ltb (turn p q) n) (ltb (1 - turn p q) n) seats room d W.relinked people kdd new_kind old_kind

  -- by slots again
  in_use : (k : ℕ) → is_used d.arities d.occupied d.ends k ≡ true → there d (decode k) ≡ true
  in_use k h = at_slot d k ∙ h

  next : (k : ℕ) → is_used d.arities d.occupied d.ends k ≡ true → mate_of d (decode k) ≡ decode (goal d.links k)
  next k h = mate_there d (decode k) (in_use k h) ∙ ap (λ (i : ℕ). decode (goal d.links i)) (code_decode k)

  pub slots_other : NamesOther d.links d.arities d.occupied d.ends
  slots_other k h e = linked (decode k) (in_use k h) (next k h ∙ ap decode e)

  pub slots_standing : NamesStanding d.links d.arities d.occupied d.ends
  slots_standing k h =
      let l : mate_of d (decode k) ≢ decode k = linked (decode k) (in_use k h) in
      let t : there d (mate_of d (decode k)) ≡ true = is_there d (mate_of d (decode k)) (λ z. l (sym (sym (twice (decode k)) ∙ z))) in
      sym (at_slot d (goal d.links k)) ∙ ap (there d) (sym (next k h)) ∙ t

  pub slots_back : NamesBack d.links d.arities d.occupied d.ends
  slots_back k h =
      sym (code_decode (goal d.links (goal d.links k)))
      ∙ ap code (sym (next (goal d.links k) (slots_standing k h)) ∙ ap (mate_of d) (sym (next k h)) ∙ twice (decode k))
      ∙ code_decode k

  pub few_ports : (x : ℕ) → get_or d.arities x 0 ≤ 2
  few_ports x = elim (is_seat (seat ps) n x) [
    | inl t ↦ (let e = ap (λ (x : ℕ). get_or d.arities x 0) t.2 in let f = W.arities.new t.0 t.1 in let g = F.arities t.0 t.1 in omega arith)
    | inr o ↦ (let e = W.arities.other x o in let f = s.ports x in omega arith)
  ]

  pub map_long : length d.occupied ≡ 128
  map_long = long p q n s.occupied ps d.occupied W.seated F.few pq low_p low_q on_p on_q s.wide

  -- the book's rewriting
  module _ (K : RuleBook) (w : Rule) (i : ℕ) (lw : Laws K) (OB : OfBook K s) (D : Depicts K r w) (ac : Active K (net s) (pair p q i w)) where
    abbrev kc : ℕ → ℕ
    kc x = get_or (content s).kinds x 0

    abbrev ke : ℕ → ℕ
    ke x = get_or d.kinds x 0

    BK : Booked K (content s) kc
    BK x h = OB x (kc x) (kind_is c kc x h) ∙ some_arity c x h

    relinked : Relinked (content s) p q (length r.cells.now) w.wires W.ps (1024 + turn p q) (1025 - turn p q) (ltb (turn p q) (length r.cells.now)) (ltb (1 - turn p q) (length r.cells.now)) d.links d.loops
    relinked = subst (λ (ws : List (RulePort × RulePort)). Relinked c p q n ws ps (1024 + turn p q) (1025 - turn p q) (ltb (turn p q) n) (ltb (1 - turn p q) n) d.links d.loops) D.wires W.relinked

    room_K : Room w.wires W.ps
    room_K = subst (λ (ws : List (RulePort × RulePort)). Room ws ps) D.wires room

    within : (j k : ℕ) → slice_get w.cells j ≡ Some k → j < length r.cells.now
    within j k e = let z = nth_within w.cells j k e in let y = cells_same K r w D in omega arith

    new_K : (j k : ℕ) → slice_get w.cells j ≡ Some k → ke (seat W.ps j) ≡ k
    new_K j k e = W.kinds.new j (within j k e) ∙ cell_kind K r w D j k e

    old_K : (x : ℕ) → x ≢ p → x ≢ q → ((j : ℕ) → j < length r.cells.now → x ≢ seat W.ps j) → ke x ≡ kc x
    old_K x _ _ o = W.kinds.other x o

    pub rewriting_K : Rewriting K (net s) (pair p q i w) (seat W.ps) (net_of d)
    rewriting_K = is_rewriting K lw c (sound s) kc BK (pair p q i w) ac n (sym (cells_same K r w D)) (arities_of r) (cell_arity_of K r w D) ps (1024 + turn p q) (1025 - turn p q) (ltb (turn p q) n) (ltb (1 - turn p q) n) seats room_K d relinked people ke new_K old_K

    pub of_book_K : (x k : ℕ) → kind_at d x ≡ Some k → K.arity k ≡ arity_at d x
    of_book_K x k e =
        let t = kind_some d ke x k e in
        let bk = booked K lw c (sound s) kc BK (pair p q i w) ac n (sym (cells_same K r w D)) (arities_of r) (cell_arity_of K r w D) ps (1024 + turn p q) (1025 - turn p q) (ltb (turn p q) n) (ltb (1 - turn p q) n) seats room_K d relinked people ke new_K old_K in
        ap K.arity (sym t.1) ∙ bk x t.0 ∙ sym (some_arity d x t.0)

    pub seats_K : Seats (net s) (pair p q i w) (seat W.ps)
    seats_K = record {
      low = λ j k e. PL.low j (within j k e);
      free = free K lw c (sound s) kc BK (pair p q i w) ac n (sym (cells_same K r w D)) (arities_of r) (cell_arity_of K r w D) ps (1024 + turn p q) (1025 - turn p q) (ltb (turn p q) n) (ltb (1 - turn p q) n) seats room_K d relinked people ke new_K old_K;
    }
