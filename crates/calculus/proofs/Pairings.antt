-- Two nets side by side: well formed, alike, and rewritten in either part. Assumes nothing.
use Rattle.std.proofs.Common.{◌≡◌, ℕ, ◌+◌, ◌-◌, ◌<◌, ◌≤◌, ◌≢◌, ◌⊎◌, Some, sym, refl, ap, ◌∙◌, subst, inl, inr, arith}
use Rattle.std.proofs.lemmas.Bool.{cases_lt}
use Rattle.calculus.specs.Spots.{Spot, end, port, carry}
use Rattle.calculus.specs.Books.{RuleBook, Laws}
use Rattle.calculus.specs.Nets.{Net, Stands, Good, Pair}
use Rattle.calculus.specs.Alike.{AlikeBy}
use Rattle.calculus.specs.Rewriting.{Rewriting}
use Rattle.calculus.specs.Joining.{behind, pairing, Below, behind_pair}
use Rattle.calculus.proofs.Splice.{spot}
use Rattle.calculus.proofs.Iso.{image_live}
use Rattle.calculus.proofs.Beside.{end≢port, split_low, split_high, split_at, both}
use Rattle.calculus.proofs.Alikes.{by_back}
use Rattle.calculus.proofs.Unique.{stays_good_lem}
use Rattle.calculus.proofs.Parts.{whole}

-- a spot of the first net, cells below n and so many ends
abbrev Front : ℕ → ℕ → Spot → Type 0
Front n k (end e) = e < k
Front n k (port r j) = r < n

-- every spot is the first net's, or stands behind
parts : (n k : ℕ) (x : Spot) → Front n k x ⊎ ((y : Spot) × (x ≡ behind n k y))
parts n k (end e) = elim (cases_lt e k) [ inl h ↦ inl h | inr h ↦ (let z : e ≡ k + (e - k) = omega arith in inr (end (e - k), ap end z)) ]
parts n k (port r j) = elim (cases_lt r n) [ inl h ↦ inl h | inr h ↦ (let z : r ≡ n + (r - n) = omega arith in inr (port (r - n) j, ap (λ r. port r j) z)) ]

not_front : (n k : ℕ) (y : Spot) → Front n k (behind n k y) → ⊥
not_front n k (end e) h = omega arith
not_front n k (port r j) h = omega arith

behind_one : (n k : ℕ) (x y : Spot) → behind n k x ≡ behind n k y → x ≡ y
behind_one n k (end e) (end f) z = let a : k + e ≡ k + f = cc in let b : e ≡ f = omega arith in ap end b
behind_one n k (end e) (port r j) z = absurd (end≢port (k + e) (n + r) j z)
behind_one n k (port r j) (end f) z = absurd (end≢port (k + f) (n + r) j (sym z))
behind_one n k (port r i) (port s j) z =
    let a : n + r ≡ n + s = cc in
    let b : r ≡ s = omega arith in
    let c : i ≡ j = cc in
    (λ k. port (b k) (c k))

module _ (n : ℕ) (A B : Net) where
  pub pair_front : (x : Spot) → Front n A.ends x → (pairing n A B).mate x ≡ A.mate x
  unfolding pairing
  pair_front (end e) h = split_low A.ends (λ e. A.mate (end e)) (λ e. behind n A.ends (B.mate (end e))) e h
  pair_front (port r j) h = split_low n (λ r. A.mate (port r j)) (λ r. behind n A.ends (B.mate (port r j))) r h

  pub pair_behind : (y : Spot) → (pairing n A B).mate (behind n A.ends y) ≡ behind n A.ends (B.mate y)
  unfolding pairing
  pair_behind (end e) = split_at A.ends (λ e. A.mate (end e)) (λ e. behind n A.ends (B.mate (end e))) e
  pair_behind (port r j) = split_at n (λ r. A.mate (port r j)) (λ r. behind n A.ends (B.mate (port r j))) r

  pub pair_ends : (pairing n A B).ends ≡ A.ends + B.ends
  unfolding pairing
  pair_ends = refl

  pub pair_loops : (pairing n A B).loops ≡ A.loops + B.loops
  unfolding pairing
  pair_loops = refl

  pub pair_low : (r : ℕ) → r < n → (pairing n A B).kind r ≡ A.kind r
  unfolding pairing
  pair_low r h = split_low n A.kind B.kind r h

  pub pair_high : (r : ℕ) → n ≤ r → (pairing n A B).kind r ≡ B.kind (r - n)
  unfolding pairing
  pair_high r h = split_high n A.kind B.kind r h

  pub pair_at : (i : ℕ) → (pairing n A B).kind (n + i) ≡ B.kind i
  unfolding pairing
  pair_at i = split_at n A.kind B.kind i

  pair_cell : (r k : ℕ) → (pairing n A B).kind r ≡ Some k → ((r < n) × (A.kind r ≡ Some k)) ⊎ ((i : ℕ) × (r ≡ n + i) × (B.kind i ≡ Some k))
  pair_cell r k e = elim (cases_lt r n) [
    | inl h ↦ inl (h, sym (pair_low r h) ∙ e)
    | inr h ↦ (let z : r ≡ n + (r - n) = omega arith in inr (r - n, z, sym (pair_high r h) ∙ e))
  ]

-- the linked spots of a net whose cells stand below n
front : (K : RuleBook) (n : ℕ) (A : Net) → Good K A → Below n A → (x : Spot) → A.mate x ≢ x → Front n A.ends x
front K n A G b (end e) l = G.there (end e) l
front K n A G b (port r j) l = let t = G.there (port r j) l in b r t.0 t.1

front_mate : (K : RuleBook) (n : ℕ) (A : Net) → Good K A → Below n A → (x : Spot) → Front n A.ends x → Front n A.ends (A.mate x)
front_mate K n A G b x h = elim (spot (A.mate x) x) [
  | inl e ↦ subst (Front n A.ends) (sym e) h
  | inr l ↦ (let i = G.twice in front K n A G b (A.mate x) (λ z. l (sym (sym (i x) ∙ z))))
]

module _ (K : RuleBook) (n : ℕ) (A B : Net) (G : Good K A) (b : Below n A) (G' : Good K B) where
  pair_twice : (x : Spot) → (pairing n A B).mate ((pairing n A B).mate x) ≡ x
  pair_twice x = go (parts n A.ends x)
    where
      i : (x : Spot) → A.mate (A.mate x) ≡ x
      i = G.twice

      j : (x : Spot) → B.mate (B.mate x) ≡ x
      j = G'.twice

      go : Front n A.ends x ⊎ ((y : Spot) × (x ≡ behind n A.ends y)) → (pairing n A B).mate ((pairing n A B).mate x) ≡ x
      go (inl h) = ap (pairing n A B).mate (pair_front n A B x h) ∙ pair_front n A B (A.mate x) (front_mate K n A G b x h) ∙ i x
      go (inr (y, e)) =
          ap (λ x. (pairing n A B).mate ((pairing n A B).mate x)) e ∙ ap (pairing n A B).mate (pair_behind n A B y) ∙ pair_behind n A B (B.mate y)
          ∙ ap (behind n A.ends) (j y) ∙ sym e

  behind_linked : (y : Spot) → B.mate y ≢ y → (pairing n A B).mate (behind n A.ends y) ≢ behind n A.ends y
  behind_linked y l z = l (behind_one n A.ends (B.mate y) y (sym (pair_behind n A B y) ∙ z))

  front_linked : (x : Spot) → Front n A.ends x → A.mate x ≢ x → (pairing n A B).mate x ≢ x
  front_linked x h l z = l (sym (pair_front n A B x h) ∙ z)

  pair_linked : (x : Spot) → Stands K (pairing n A B) x → (pairing n A B).mate x ≢ x
  pair_linked (end e) h = elim (cases_lt e A.ends) [
    | inl l ↦ front_linked (end e) l (G.linked (end e) l)
    | inr l ↦ (
        let s : e < A.ends + B.ends = subst (λ k. e < k) (pair_ends n A B) h in
        let z : e ≡ A.ends + (e - A.ends) = omega arith in
        subst (λ e. (pairing n A B).mate (end e) ≢ end e) (sym z) (behind_linked (end (e - A.ends)) (G'.linked (end (e - A.ends)) (omega arith))))
  ]
  pair_linked (port r j) (k, e, h) = elim (pair_cell n A B r k e) [
    | inl t ↦ front_linked (port r j) t.0 (G.linked (port r j) (k, t.1, h))
    | inr t ↦ subst (λ r. (pairing n A B).mate (port r j) ≢ port r j) (sym t.1) (behind_linked (port t.0 j) (G'.linked (port t.0 j) (k, t.2, h)))
  ]

  behind_stands : (y : Spot) → Stands K B y → Stands K (pairing n A B) (behind n A.ends y)
  behind_stands (end e) h = let z : A.ends + e < A.ends + B.ends = omega arith in subst (λ k. A.ends + e < k) (sym (pair_ends n A B)) z
  behind_stands (port r j) (k, e, h) = (k, pair_at n A B r ∙ e, h)

  front_stands : (x : Spot) → Stands K A x → Stands K (pairing n A B) x
  front_stands (end e) h = let z : e < A.ends + B.ends = omega arith in subst (λ k. e < k) (sym (pair_ends n A B)) z
  front_stands (port r j) (k, e, h) = (k, pair_low n A B r (b r k e) ∙ e, h)

  pair_there : (x : Spot) → (pairing n A B).mate x ≢ x → Stands K (pairing n A B) x
  pair_there x l = elim (parts n A.ends x) [
    | inl h ↦ front_stands x (G.there x (λ z. l (pair_front n A B x h ∙ z)))
    | inr t ↦ (
        let e = t.1 in
        subst (Stands K (pairing n A B)) (sym e)
        (behind_stands t.0 (G'.there t.0 (λ z. l (ap (pairing n A B).mate e ∙ pair_behind n A B t.0 ∙ ap (behind n A.ends) z ∙ sym e)))))
  ]

  pub good_pairing : Good K (pairing n A B)
  good_pairing = record {
    finite = (
      n + G'.finite.0,
      λ r k e. elim (pair_cell n A B r k e) [
        | inl t ↦ (let h = t.0 in omega arith)
        | inr t ↦ (let h = G'.finite.1 t.0 k t.2 in let z = t.1 in omega arith)
      ],
    );
    known = λ r k e. elim (pair_cell n A B r k e) [ inl t ↦ G.known r k t.1 | inr t ↦ G'.known t.0 k t.2 ];
    twice = pair_twice;
    linked = pair_linked;
    there = pair_there;
  }

module _ (K : RuleBook) (n n' : ℕ) (A A' B B' : Net) (a b c d : ℕ → ℕ) (G : Good K A) (G' : Good K A') (H : Good K B) (l : Below n A) (l' : Below n' A')
    (s : AlikeBy a b A A') (t : AlikeBy c d B B') where
  both_front : (x : Spot) → Front n A.ends x → carry (both n n' a c) x ≡ carry a x
  both_front (end e) h = refl
  both_front (port r j) h = ap (λ r. port r j) (split_low n a (λ i. n' + c i) r h)

  both_behind : (y : Spot) → carry (both n n' a c) (behind n A.ends y) ≡ behind n' A'.ends (carry c y)
  both_behind (end e) = ap (λ k. end (k + e)) s.ends
  both_behind (port r j) = ap (λ r. port r j) (split_at n a (λ i. n' + c i) r)

  pair_kinds : (r k : ℕ) → (pairing n A B).kind r ≡ Some k → ((pairing n' A' B').kind (both n n' a c r) ≡ Some k) × (both n' n b d (both n n' a c r) ≡ r)
  pair_kinds r k e = elim (pair_cell n A B r k e) [
    | inl u ↦ (
        let z = split_low n a (λ i. n' + c i) r u.0 in
        let v = s.kinds.there r k u.1 in
        let h = l' (a r) k v.0 in
        (ap (pairing n' A' B').kind z ∙ pair_low n' A' B' (a r) h ∙ v.0, ap (both n' n b d) z ∙ split_low n' b (λ i. n + d i) (a r) h ∙ v.1))
    | inr u ↦ (
        let i = u.0 in
        let z = ap (both n n' a c) u.1 ∙ split_at n a (λ i. n' + c i) i in
        let v = t.kinds.there i k u.2 in (
          ap (pairing n' A' B').kind z ∙ pair_at n' A' B' (c i) ∙ v.0,
          ap (both n' n b d) z ∙ split_at n' b (λ i. n + d i) (c i) ∙ ap (λ i. n + i) v.1 ∙ sym u.1,
        ))
  ]

module _ (K : RuleBook) (n n' : ℕ) (A A' B B' : Net) (a b c d : ℕ → ℕ) (G : Good K A) (G' : Good K A') (H : Good K B) (H' : Good K B') (l : Below n A) (l' : Below n' A')
    (s : AlikeBy a b A A') (t : AlikeBy c d B B') where
  pair_links : (x : Spot) → (pairing n A B).mate x ≢ x →
      ((pairing n' A' B').mate (carry (both n n' a c) x) ≡ carry (both n n' a c) ((pairing n A B).mate x)) × (carry (both n' n b d) (carry (both n n' a c) x) ≡ x)
  pair_links x live = elim (parts n A.ends x) [
    | inl h ↦ (
        let m = λ (z : A.mate x ≡ x). live (pair_front n A B x h ∙ z) in
        let u = s.links.there x m in
        let f = both_front K n n' A A' B B' a b c d G G' H l l' s t in
        let g = both_front K n' n A' A B' B b a d c G' G H' l' l (by_back s) (by_back t) in
        let h' : Front n' A'.ends (carry a x) =
        front K n' A' G' l' (carry a x) (image_live (carry a) (carry b) A.mate A'.mate G.twice s.links x m) in (
          ap (pairing n' A' B').mate (f x h) ∙ pair_front n' A' B' (carry a x) h' ∙ u.0 ∙ sym (f (A.mate x) (front_mate K n A G l x h))
              ∙ ap (carry (both n n' a c)) (sym (pair_front n A B x h)),
          ap (carry (both n' n b d)) (f x h) ∙ g (carry a x) h' ∙ u.1,
        ))
    | inr p ↦ (
        let y = p.0 in
        let e = p.1 in
        let m = λ (z : B.mate y ≡ y). live (ap (pairing n A B).mate e ∙ pair_behind n A B y ∙ ap (behind n A.ends) z ∙ sym e) in
        let u = t.links.there y m in
        let f = both_behind K n n' A A' B B' a b c d G G' H l l' s t in
        let g = both_behind K n' n A' A B' B b a d c G' G H' l' l (by_back s) (by_back t) in (
          ap (λ x. (pairing n' A' B').mate (carry (both n n' a c) x)) e ∙ ap (pairing n' A' B').mate (f y) ∙ pair_behind n' A' B' (carry c y) ∙ ap (behind n' A'.ends) u.0
              ∙ sym (f (B.mate y)) ∙ ap (carry (both n n' a c)) (sym (pair_behind n A B y) ∙ ap (pairing n A B).mate (sym e)),
          ap (λ x. carry (both n' n b d) (carry (both n n' a c) x)) e ∙ ap (carry (both n' n b d)) (f y) ∙ g (carry c y) ∙ ap (behind n A.ends) u.1 ∙ sym e,
        ))
  ]

module _ (K : RuleBook) (n n' : ℕ) (A A' B B' : Net) (a b c d : ℕ → ℕ) (G : Good K A) (G' : Good K A') (H : Good K B) (H' : Good K B') (l : Below n A) (l' : Below n' A')
    (s : AlikeBy a b A A') (t : AlikeBy c d B B') where
  pub pairing_alike : AlikeBy (both n n' a c) (both n' n b d) (pairing n A B) (pairing n' A' B')
  pairing_alike = record {
    ends = let e = s.ends in let f = t.ends in omega (arith, pair_ends n A B, pair_ends n' A' B');
    loops = let e = s.loops in let f = t.loops in omega (arith, pair_loops n A B, pair_loops n' A' B');
    kinds = record {
      there = pair_kinds K n n' A A' B B' a b c d G G' H l l' s t;
      back = pair_kinds K n' n A' A B' B b a d c G' G H' l' l (by_back s) (by_back t);
    };
    links = record {
      there = pair_links K n n' A A' B B' a b c d G G' H H' l l' s t;
      back = pair_links K n' n A' A B' B b a d c G' G H' H l' l (by_back s) (by_back t);
    };
  }

-- a pair of the first net, with the second beside it
pub rewriting_first : (K : RuleBook) (n : ℕ) (A A' B : Net) (P : Pair) (place : ℕ → ℕ) → Laws K → Good K A → Below n A → Below n A' → Rewriting K A P place A' →
    Rewriting K (pairing n A B) P place (pairing n A' B)
rewriting_first K n A A' B P place laws G b b' w =
    whole (λ r. r) (λ x. x) (λ r. r < n) (Front n A.ends) K laws A A' X X' P place G w
    (record {
      on_port = λ r j. refl;
      on_end = λ e. (e, refl);
      one_spot = λ x y z. z;
      one_place = λ r s z. z;
      rises = λ r s h. h;
      near = λ r j h. h;
    })
    (record { cells = b; kinds = pair_low n A B; spots = front K n A G b; mates = pair_front n A B })
    (record {
      cells = b';
      kinds = pair_low n A' B;
      spots = λ x l. subst (λ k. Front n k x) w.ends (front K n A' (stays_good_lem K A A' P place laws G w) b' x l);
      mates = λ x h. pair_front n A' B x (subst (λ k. Front n k x) (sym w.ends) h);
    })
    (record {
      places = λ r. elim (cases_lt r n) [ inl h ↦ inl (r, h, refl) | inr h ↦ inr (pair_high n A' B r h ∙ sym (pair_high n A B r h)) ];
      links = λ x. elim (parts n A.ends x) [ inl h ↦ inl (x, h, refl) | inr t ↦ inr (back_same x t.0 t.1) ];
    })
    (pair_ends n A' B ∙ ap (λ k. k + B.ends) w.ends ∙ sym (pair_ends n A B)) B.loops (pair_loops n A B) (pair_loops n A' B)
  where
    X : Net
    X = pairing n A B

    X' : Net
    X' = pairing n A' B

    far : (y : Spot) (s j : ℕ) → s < n → behind n A.ends y ≢ port s j
    far y s j h z = not_front n A.ends y (subst (Front n A.ends) (sym z) h)

    back_same : (x y : Spot) → x ≡ behind n A.ends y →
        (X'.mate x ≡ X.mate x) × ((s j : ℕ) → s < n → x ≢ port s j) × ((s j : ℕ) → s < n → X.mate x ≢ port s j)
    back_same x y e =
        let a : X.mate x ≡ behind n A.ends (B.mate y) = ap X.mate e ∙ pair_behind n A B y in
        let a' : X'.mate x ≡ behind n A.ends (B.mate y) =
        ap X'.mate (e ∙ ap (λ k. behind n k y) (sym w.ends)) ∙ pair_behind n A' B y ∙ ap (λ k. behind n k (B.mate y)) w.ends in
        (a' ∙ sym a, (λ s j h z. far y s j h (sym e ∙ z)), (λ s j h z. far (B.mate y) s j h (sym a ∙ z)))

-- a pair of the second net, with the first before it
pub rewriting_second : (K : RuleBook) (n : ℕ) (A B B' : Net) (P : Pair) (place : ℕ → ℕ) → Laws K → Good K A → Below n A → Good K B → Rewriting K B P place B' →
    Rewriting K (pairing n A B) (behind_pair n P) (λ i. n + place i) (pairing n A B')
rewriting_second K n A B B' P place laws G b G' w =
    whole (λ r. n + r) (behind n A.ends) (λ r. Unit {0}) (λ x. Unit {0}) K laws B B' X X' P place G' w
    (record {
      on_port = λ r j. refl;
      on_end = λ e. (A.ends + e, refl);
      one_spot = behind_one n A.ends;
      one_place = λ r s z. omega arith;
      rises = λ r s h. omega arith;
      near = λ r j h. tt;
    })
    (record { cells = λ r k e. tt; kinds = λ r h. pair_at n A B r; spots = λ x l. tt; mates = λ x h. pair_behind n A B x })
    (record { cells = λ r k e. tt; kinds = λ r h. pair_at n A B' r; spots = λ x l. tt; mates = λ x h. pair_behind n A B' x })
    (record {
      places = λ r. elim (cases_lt r n) [
        | inl h ↦ inr (pair_low n A B' r h ∙ sym (pair_low n A B r h))
        | inr h ↦ (let z : r ≡ n + (r - n) = omega arith in inl (r - n, tt, z))
      ];
      links = λ x. elim (parts n A.ends x) [ inl h ↦ inr (front_same x h) | inr t ↦ inl (t.0, tt, t.1) ];
    })
    (pair_ends n A B' ∙ ap (λ k. A.ends + k) w.ends ∙ sym (pair_ends n A B)) A.loops
    (let e = pair_loops n A B in omega arith) (let e = pair_loops n A B' in omega arith)
  where
    X : Net
    X = pairing n A B

    X' : Net
    X' = pairing n A B'

    far : (x : Spot) → Front n A.ends x → (s j : ℕ) → Unit {0} → x ≢ port (n + s) j
    far x h s j u z = not_front n A.ends (port s j) (subst (Front n A.ends) z h)

    front_same : (x : Spot) → Front n A.ends x →
        (X'.mate x ≡ X.mate x) × ((s j : ℕ) → Unit {0} → x ≢ port (n + s) j) × ((s j : ℕ) → Unit {0} → X.mate x ≢ port (n + s) j)
    front_same x h =
        let a = pair_front n A B x h in
        (pair_front n A B' x h ∙ sym a, far x h, far (X.mate x) (subst (Front n A.ends) (sym a) (front_mate K n A G b x h)))
