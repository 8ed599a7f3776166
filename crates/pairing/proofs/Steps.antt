-- One step of the pairing after the other. Assumes nothing.
use Rattle.std.proofs.Common.{◌≡◌, ℕ, ◌+◌, ◌*◌, ◌<◌, ◌≤◌, true, false, eqb, ◌≢◌, is_some, Some, None, Option, sym, refl, ap, ◌∙◌, subst, inl, inr, arith}
use Rattle.std.proofs.lemmas.Bool.{cases_lt, true≢false, eqb-true, eqb-false}
use Rattle.pairing.specs.Graph.{Graph, Sound, Iso, Isomorphic}
use Rattle.pairing.proofs.Pairs.{Paired, Listed, Free, Found, Extends, Pairs, Within, Ok, Settled, Sprung, Has, Never, Refutes, Grown, Added, Cut, Met, Bred, Meets, Settles, Tried, Placed, Spread, Covers}
use Rattle.pairing.proofs.Growth.{once, mates, forced, grown, total}

-- a pair added: x and y are one now
pub adds : {m m' : Pairs} {x y : ℕ} → Added m m' x y → Met m m' x y
adds {m} {m'} {x} {y} ad = record {
  grown = record { longer = let e = ad.count in omega arith; same = ad.same };
  new = λ k h t. let e = ad.count in let z : k ≡ m.count = omega arith in (ap m'.ours z ∙ ad.last.0, ap m'.theirs z ∙ ad.last.1);
  pair = (m.count, (let e = ad.count in omega arith), ad.last.0, ad.last.1);
}

pub grown_refl : (m : Pairs) → Grown m m
grown_refl m = record { longer = omega arith; same = λ k h. (refl, refl) }

pub grown_trans : {m n o : Pairs} → Grown m n → Grown n o → Grown m o
grown_trans {m} {n} {o} p q = record {
  longer = let a = p.longer in let b = q.longer in omega arith;
  same = λ k h. let a = p.longer in let u = p.same k h in let v = q.same k (omega arith) in (v.0 ∙ u.0, v.1 ∙ u.1);
}

-- a pair stays a pair
pub paired_grown : {m n : Pairs} → Grown m n → (x y : ℕ) → Paired m.count m.ours m.theirs x y → Paired n.count n.ours n.theirs x y
paired_grown {m} {n} g x y p =
    let u = g.same p.0 p.1 in
    let h : p.0 < m.count = p.1 in
    let t = g.longer in
    (p.0, omega arith, u.0 ∙ p.2, u.1 ∙ p.3)

pub settled_grown : (A B : Graph) {m n : Pairs} → Grown m n → (s : ℕ) → s ≤ 3 * m.count → Settled A B s m → Settled A B s n
settled_grown A B {m} {n} g s le c k j h t =
    let u = g.same k (omega arith) in
    let d = c k j h t in
    let p = paired_grown g _ _ d.1 in (
      ap (λ (z : ℕ). A.slot z j) u.0 ∙ d.0 ∙ ap (λ (z : ℕ). B.slot z j) (sym u.1),
      (p.0, p.1, p.2 ∙ ap (λ (z : ℕ). A.row z j) (sym u.0), p.3 ∙ ap (λ (z : ℕ). B.row z j) (sym u.1)),
    )

-- as the ports of the pair at h are gone through
pub record Turn (A B : Graph) (h j : ℕ) (m₀ m : Pairs) : Type 0 where
  pub grown : Grown m₀ m
  pub bred : Bred A B h m₀ m
  pub closed : Settled A B (3 * h + j) m

module _ (A B : Graph) (h j : ℕ) (m₀ m : Pairs) (ok₀ : Ok A B m₀) (lt : h < m₀.count) (j3 : j < 3) (t : Turn A B h j m₀ m) where
  pub turn_more : (m' : Pairs) → A.slot (m₀.ours h) j ≡ B.slot (m₀.theirs h) j → Met m m' (A.row (m₀.ours h) j) (B.row (m₀.theirs h) j) → Turn A B h (j + 1) m₀ m'
  turn_more m' e q = record {
    grown = gr;
    bred = λ k a b. elim (cases_lt k m.count) [
      | inl c ↦ let u = t.bred k a c in let v = q.grown.same k c in (u.0, u.1, v.0 ∙ u.2, v.1 ∙ u.3)
      | inr c ↦ let u = q.new k c b in (j, j3, u.0, u.1)
    ];
    closed = λ k i a b. elim (cases_lt (3 * k + i) (3 * h + j)) [
      | inl c ↦ settled_grown A B q.grown (3 * h + j) (let z = t.grown.longer in omega arith) t.closed k i a c
      | inr c ↦
          let kh : k ≡ h = omega arith in
          let ij : i ≡ j = omega arith in
          let u = gr.same h lt in
          let w : (A.slot (m'.ours h) j ≡ B.slot (m'.theirs h) j) × Paired m'.count m'.ours m'.theirs (A.row (m'.ours h) j) (B.row (m'.theirs h) j) = (
            ap (λ (z : ℕ). A.slot z j) u.0 ∙ e ∙ ap (λ (z : ℕ). B.slot z j) (sym u.1),
            (q.pair.0, q.pair.1, q.pair.2 ∙ ap (λ (z : ℕ). A.row z j) (sym u.0), q.pair.3 ∙ ap (λ (z : ℕ). B.row z j) (sym u.1)),
          ) in
          subst (λ (z : ℕ). (A.slot (m'.ours z) i ≡ B.slot (m'.theirs z) i) × Paired m'.count m'.ours m'.theirs (A.row (m'.ours z) i) (B.row (m'.theirs z) i)) (sym kh)
          (subst (λ (z : ℕ). (A.slot (m'.ours h) z ≡ B.slot (m'.theirs h) z) × Paired m'.count m'.ours m'.theirs (A.row (m'.ours h) z) (B.row (m'.theirs h) z)) (sym ij) w)
    ];
  }
    where
      gr : Grown m₀ m'
      gr = grown_trans t.grown q.grown

  -- a renumbering with the pairs at the start has the new ones
  pub has_more : (f g : ℕ → ℕ) → Iso A B f g → Has f m₀ → Has f m
  has_more f g i hs k a = elim (cases_lt k m₀.count) [
    | inl c ↦ let u = t.grown.same k c in ap f u.0 ∙ hs k c ∙ sym u.1
    | inr c ↦
        let u = t.bred k c a in
        let v = mates A B m₀.count m₀.ours m₀.theirs m₀.our_seat m₀.their_seat ok₀ f g i h u.0 lt u.1 (hs h lt) in
        ap f u.2 ∙ v.0 ∙ sym u.3
  ]

  pub stuck_slot : (A.slot (m₀.ours h) j ≢ B.slot (m₀.theirs h) j) → Never A B m₀
  stuck_slot ne f g i hs = ne (mates A B m₀.count m₀.ours m₀.theirs m₀.our_seat m₀.their_seat ok₀ f g i h j lt j3 (hs h lt)).1

  pub stuck_meet : Refutes A B m (A.row (m₀.ours h) j) (B.row (m₀.theirs h) j) → Never A B m₀
  stuck_meet re f g i hs = re f g i (has_more f g i hs) (mates A B m₀.count m₀.ours m₀.theirs m₀.our_seat m₀.their_seat ok₀ f g i h j lt j3 (hs h lt)).0

pub turn_none : (A B : Graph) (h : ℕ) (m : Pairs) → Settled A B (3 * h) m → Turn A B h 0 m m
turn_none A B h m s = record { grown = grown_refl m; bred = λ k a b. absurd (omega arith); closed = λ k j a b. s k j a (omega arith) }

pub settles_yes : (A B : Graph) (h j : ℕ) (m₀ m : Pairs) → 3 ≤ j → Turn A B h j m₀ m → Settles A B h m₀ m true
settles_yes A B h j m₀ m le t = record { grown = t.grown; bred = t.bred; yes = λ _ k i a b. t.closed k i a (omega arith); no = λ e. absurd (true≢false e) }

pub settles_no : (A B : Graph) (h j : ℕ) (m₀ m m' : Pairs) → m' ≡ m → Turn A B h j m₀ m → Never A B m₀ → Settles A B h m₀ m' false
settles_no A B h j m₀ m m' e t n = subst (λ (z : Pairs). Settles A B h m₀ z false) (sym e) (record { grown = t.grown; bred = t.bred; yes = λ e. absurd (true≢false (sym e)); no = λ _. n })

abbrev cut : Pairs → ℕ → Pairs
cut m n = record { count = n; ours = m.ours; theirs = m.theirs; our_seat = m.our_seat; their_seat = m.their_seat }

grown_cut : {m n : Pairs} → Grown m n → Grown m (cut n m.count)
grown_cut {m} {n} g = record { longer = omega arith; same = g.same }

-- as the pairs from the one at o on are gone through; m₁ is the pairing with that one just added
pub record Wave (A B : Graph) (o : ℕ) (m₁ : Pairs) (h : ℕ) (m : Pairs) : Type 0 where
  pub grown : Grown m₁ m
  pub sprung : Sprung A B o m
  pub closed : Settled A B (3 * h) m
  pub low : o ≤ h
  pub high : h ≤ m.count

module _ (A B : Graph) (p q : ℕ) (m₀ m₁ : Pairs) (sa : Sound A) (sb : Sound B) (s₀ : Settled A B (3 * m₀.count) m₀) (ad : Added m₀ m₁ p q) where
  met : Met m₀ m₁ p q
  met = adds ad

  pub wave_none : Wave A B m₀.count m₁ m₀.count m₁
  wave_none = record {
    grown = grown_refl m₁;
    sprung = λ k a b. absurd (omega arith);
    closed = settled_grown A B met.grown (3 * m₀.count) (omega arith) s₀;
    low = omega arith;
    high = met.grown.longer;
  }

  module _ (h : ℕ) (m : Pairs) (w : Wave A B m₀.count m₁ h m) where
    whole : Grown m₀ m
    whole = grown_trans met.grown w.grown

    more : m₀.count < m.count
    more = let e = ad.count in let z = w.grown.longer in omega arith

    seed : (m.ours m₀.count ≡ p) × (m.theirs m₀.count ≡ q)
    seed =
        let e = ad.count in
        let v = w.grown.same m₀.count (omega arith) in
        (v.0 ∙ ad.last.0, v.1 ∙ ad.last.1)

    -- a renumbering with the old pairs has them as they stand now
    extends : (f : ℕ → ℕ) → Has f m₀ → Extends f m₀.count m.ours m.theirs
    extends f hs k t = let u = whole.same k t in ap f u.0 ∙ hs k t ∙ sym u.1

    pub wave_more : (m' : Pairs) → h < m.count → Settles A B h m m' true → Wave A B m₀.count m₁ (h + 1) m'
    wave_more m' lt s = record {
      grown = grown_trans w.grown s.grown;
      sprung = λ k a b. elim (cases_lt k m.count) [
        | inl c ↦
            let u = w.sprung k a c in
            let ui : u.0 < k = u.3 in
            let v = s.grown.same k c in
            let x = s.grown.same u.0 (omega arith) in
            (u.0, u.1, u.2, u.3, u.4, v.0 ∙ u.5 ∙ ap (λ (z : ℕ). A.row z u.1) (sym x.0), v.1 ∙ u.6 ∙ ap (λ (z : ℕ). B.row z u.1) (sym x.1))
        | inr c ↦
            let u = s.bred k c b in
            let x = s.grown.same h lt in
            (h, u.0, w.low, omega arith, u.1, u.2 ∙ ap (λ (z : ℕ). A.row z u.0) (sym x.0), u.3 ∙ ap (λ (z : ℕ). B.row z u.0) (sym x.1))
      ];
      closed = λ k j a b. s.yes refl k j a (omega arith);
      low = let z = w.low in omega arith;
      high = let z = s.grown.longer in omega arith;
    }

    pub tried_yes : Ok A B m → m.count ≤ h → Tried A B p q m₀ m true
    tried_yes ok le = record {
      settled = all;
      grown = whole;
      yes = λ _. (
        (λ f g i hs. grown A B m.count m.ours m.theirs m.our_seat m.their_seat ok m₀.count more sa sb
            (settled_grown A B (grown_cut whole) (3 * m₀.count) (omega arith) s₀) all w.sprung f g i (extends f hs)),
        (m₀.count, more, seed.0),
      );
      no = λ e. absurd (true≢false e);
    }
      where
        all : Settled A B (3 * m.count) m
        all k j a b = w.closed k j a (omega arith)

    -- m'' is what was at the start, after pairs that came to nothing
    pub tried_no : (m' m'' : Pairs) → Ok A B m → h < m.count → Settles A B h m m' false → Cut m' m₀.count m'' → Tried A B p q m₀ m'' false
    tried_no m' m'' ok lt s c = record {
      settled = subst (λ (n : ℕ). Settled A B (3 * n) m'') (sym c.count) (settled_grown A B back (3 * m₀.count) (omega arith) s₀);
      grown = back;
      yes = λ e. absurd (true≢false (sym e));
      no = λ _. (
        c.count,
        λ f g i hs d. s.no refl f g i
            (forced A B m.count m.ours m.theirs m.our_seat m.their_seat ok m₀.count f g i w.sprung (extends f hs) (ap f seed.0 ∙ d ∙ sym seed.1)),
      );
    }
      where
        back : Grown m₀ m''
        back = record {
          longer = let e = c.count in omega arith;
          same = λ k l. let u = (grown_trans whole s.grown).same k l in let v = c.same k l in (v.0 ∙ u.0, v.1 ∙ u.1);
        }

-- as the rows below y are tried for p
pub record Sought (A B : Graph) (p : ℕ) (m₀ : Pairs) (y : ℕ) (m : Pairs) : Type 0 where
  pub settled : Settled A B (3 * m.count) m
  pub grown : Grown m₀ m
  pub count : m.count ≡ m₀.count
  pub tried : (x : ℕ) → x < y → Refutes A B m₀ p x

module _ (A B : Graph) (p : ℕ) (m₀ : Pairs) (y : ℕ) (m : Pairs) (s : Sought A B p m₀ y m) where
  has_still : (f : ℕ → ℕ) → Has f m₀ → Has f m
  has_still f hs k t = let e = s.count in let u = s.grown.same k (omega arith) in ap f u.0 ∙ hs k (omega arith) ∙ sym u.1

  pub free_still : Free m₀.count m₀.ours p → Free m.count m.ours p
  free_still fr k t d = let e = s.count in let u = s.grown.same k (omega arith) in fr k (omega arith) (sym u.0 ∙ d)

  pub sought_more : (m' : Pairs) → Settled A B (3 * m'.count) m' → Grown m m' → m'.count ≡ m.count → Refutes A B m p y → Sought A B p m₀ (y + 1) m'
  sought_more m' st gr e re = record {
    settled = st;
    grown = grown_trans s.grown gr;
    count = e ∙ s.count;
    tried = λ x h. elim (cases_lt x y) [
      | inl c ↦ s.tried x c
      | inr c ↦ let z : x ≡ y = omega arith in λ f g i hs d. re f g i (has_still f hs) (d ∙ z)
    ];
  }

  pub placed_yes : (m' : Pairs) → Tried A B p y m m' true → Placed A B p m₀ m' true
  placed_yes m' t = record {
    settled = t.settled;
    grown = grown_trans s.grown t.grown;
    yes = λ _. ((λ f g i hs. (t.yes refl).0 f g i (has_still f hs)), (t.yes refl).1);
    no = λ e. absurd (true≢false e);
  }

pub sought_none : (A B : Graph) (p : ℕ) (m : Pairs) → Settled A B (3 * m.count) m → Sought A B p m 0 m
sought_none A B p m s = record { settled = s; grown = grown_refl m; count = refl; tried = λ x h. absurd (omega arith) }

pub placed_no : (N : ℕ) (A B : Graph) (p : ℕ) (m₀ : Pairs) (y : ℕ) (m : Pairs) → Within N B → A.kind p ≢ 0 → N ≤ y → Sought A B p m₀ y m → Placed A B p m₀ m false
placed_no N A B p m₀ y m wb l le s = record {
  settled = s.settled;
  grown = s.grown;
  yes = λ e. absurd (true≢false (sym e));
  no = λ _ f g i hs.
      let u = i.to p l in
      let z = wb (f p) (λ e. l (sym u.0 ∙ e)) in
      s.tried (f p) (omega arith) f g i hs refl;
}

-- as the rows of A below y are placed
pub record Laid (A B : Graph) (y : ℕ) (m : Pairs) : Type 0 where
  pub settled : Settled A B (3 * m.count) m
  pub placed : (x : ℕ) → x < y → A.kind x ≢ 0 → Listed m.count m.ours x
  pub open' : Isomorphic A B → (f : ℕ → ℕ) × (g : ℕ → ℕ) × Iso A B f g × Has f m

pub laid_none : (A B : Graph) (m : Pairs) → m.count ≡ 0 → Laid A B 0 m
laid_none A B m e = record {
  settled = λ k j a b. absurd (omega arith);
  placed = λ x h. absurd (omega arith);
  open' = λ i. (i.0, i.1, i.2, λ k h. absurd (omega arith));
}

module _ (A B : Graph) (y : ℕ) (m : Pairs) (l : Laid A B y m) where
  pub laid_more : (A.kind y ≢ 0 → Listed m.count m.ours y) → Laid A B (y + 1) m
  laid_more o = record {
    settled = l.settled;
    placed = λ x h k. elim (cases_lt x y) [
      | inl c ↦ l.placed x c k
      | inr c ↦
          let z : y ≡ x = omega arith in
          subst (λ (w : ℕ). Listed m.count m.ours w) z (o (λ e. k (ap A.kind (sym z) ∙ e)))
    ];
    open' = l.open';
  }

  pub laid_placed : (m' : Pairs) → Placed A B y m m' true → Laid A B (y + 1) m'
  laid_placed m' t = record {
    settled = t.settled;
    placed = λ x h k. elim (cases_lt x y) [
      | inl c ↦
          let u = l.placed x c k in
          let un : u.0 < m.count = u.1 in
          let v = t.grown.same u.0 u.1 in
          let g = t.grown.longer in
          (u.0, omega arith, v.0 ∙ u.2)
      | inr c ↦
          let z : y ≡ x = omega arith in
          subst (λ (w : ℕ). Listed m'.count m'.ours w) z (t.yes refl).1
    ];
    open' = λ i. let u = l.open' i in (t.yes refl).0 u.0 u.1 u.2 u.3;
  }

  pub spread_no : (m' : Pairs) → Placed A B y m m' false → Spread A B m' false
  spread_no m' t = record {
    settled = t.settled;
    yes = λ e. absurd (true≢false (sym e));
    no = λ _ i. let u = l.open' i in t.no refl u.0 u.1 u.2 u.3;
  }

pub spread_yes : (N : ℕ) (A B : Graph) (y : ℕ) (m : Pairs) → Within N A → N ≤ y → Laid A B y m → Spread A B m true
spread_yes N A B y m wa le l = record {
  settled = l.settled;
  yes = λ _. ((λ x k. let z = wa x k in l.placed x (omega arith) k), l.open');
  no = λ e. absurd (true≢false e);
}

-- all of both nets are paired: a renumbering
pub alike_yes : (A B : Graph) (m : Pairs) → Ok A B m → Spread A B m true → Covers B m.count m.theirs true → Isomorphic A B
alike_yes A B m ok s c = (
  (λ x. m.theirs (m.our_seat x)),
  (λ y. m.ours (m.their_seat y)),
  total A B m.count m.ours m.theirs m.our_seat m.their_seat ok s.settled (s.yes refl).0 (c.yes refl),
)

-- a row of B is left over: no renumbering
pub alike_no : (A B : Graph) (m : Pairs) → Spread A B m true → Covers B m.count m.theirs false → Isomorphic A B → ⊥
alike_no A B m s c i =
    let q = c.no refl in
    let e = (s.yes refl).1 i in
    let f = e.0 in
    let g = e.1 in
    let w = e.2.fro q.0 q.1.live in
    let k = (s.yes refl).0 (g q.0) (λ z. q.1.live (sym w.0 ∙ z)) in
    q.1.free k.0 k.1 (sym (e.3 k.0 k.1) ∙ ap f k.2 ∙ w.1)

-- the ways of `meet` that add nothing
module _ (A B : Graph) (m : Pairs) (x y : ℕ) (ok : Ok A B m) (l : A.kind x ≢ 0) where
  pub meets_no : Refutes A B m x y → Meets A B m m x y false
  meets_no r = record { yes = λ e. absurd (true≢false (sym e)); no = λ _. (refl, r) }

  -- both are in pairs: then in the same one
  pub meets_at : (i k : ℕ) → (i < m.count) × (m.ours i ≡ x) → (k < m.count) × (m.theirs k ≡ y) → Meets A B m m x y (eqb i k)
  meets_at i k p q = record {
    yes = λ t. record { grown = grown_refl m; new = λ a b c. absurd (omega arith); pair = (i, p.0, p.1, ap m.theirs (eqb-true i k t) ∙ q.1) };
    no = λ t. (
      refl,
      λ f g j hs d. eqb-false i k t (once m.count m.theirs m.their_seat (λ c h. (ok.places c h).1) i k p.0 q.0 (sym (hs i p.0) ∙ ap f p.1 ∙ d ∙ sym q.1)),
    );
  }

  pub refutes_ours : (i : ℕ) → (i < m.count) × (m.ours i ≡ x) → Free m.count m.theirs y → Refutes A B m x y
  refutes_ours i p fr f g j hs d = fr i p.0 (sym (hs i p.0) ∙ ap f p.1 ∙ d)

  pub refutes_theirs : (k : ℕ) → (k < m.count) × (m.theirs k ≡ y) → Free m.count m.ours x → Refutes A B m x y
  refutes_theirs k p fr f g i hs d =
      let u = i.to x l in
      let v = i.to (m.ours k) (ok.kinds k p.0).0 in
      fr k p.0 (sym v.1 ∙ ap g (hs k p.0 ∙ p.1 ∙ sym d) ∙ u.1)

  pub refutes_kind : A.kind x ≢ B.kind y → Refutes A B m x y
  refutes_kind ne f g i hs d = ne (sym (i.to x l).0 ∙ ap B.kind d)

-- what it says that a pair is found
pub found_some : (n : ℕ) (l : ℕ → ℕ) (x : ℕ) (o : Option ℕ) → is_some o ≡ true → Found n l x o → Listed n l x
found_some n l x None e h = absurd (true≢false (sym e))
found_some n l x (Some k) e h = (k, h.0, h.1)
