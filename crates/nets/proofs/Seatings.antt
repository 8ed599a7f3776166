-- The places that the new cells take. Assumes nothing.
use mir.Val.{bool_byte}
use Rattle.std.proofs.Common.{◌≡◌, ℕ, ◌+◌, ◌-◌, ◌<◌, ◌≤◌, min, max, Bool, true, false, cond, ltb, ◌≢◌, ◌⊎◌, List, length, sym, ap, ◌∙◌, subst, inl, inr, arith}
use Rattle.std.proofs.lemmas.Bool.{cases_eq, cases_lt}
use Rattle.nets.specs.Layout.{bit}
use Rattle.nets.specs.ByBook.{seat}
use Rattle.nets.specs.Rewiring.{Places}
use Rattle.nets.specs.Seating.{Taken, Seated}
use Rattle.nets.proofs.Counting.{not_flipped, is_flipped, not_taken, is_taken}
use Rattle.nets.proofs.Renaming.{swaps, swaps_else, swaps_old}

-- the number of the new cell that takes place p: 0 if that is the lower of the two, else 1
abbrev pub turn : ℕ → ℕ → ℕ
turn p q = cond (ltb q p) 1 0

pub turn_is : (p q : ℕ) → bool_byte (ltb q p) ≡ turn p q
turn_is p q = elim (cases_lt q p) [
  | inl h ↦ (let b : ltb q p ≡ true = grind (arith) in ap bool_byte b ∙ sym (ap (λ (t : Bool). cond t 1 0) b))
  | inr h ↦ (let b : ltb q p ≡ false = grind (arith) in ap bool_byte b ∙ sym (ap (λ (t : Bool). cond t 1 0) b))
]

pub turn_small : (p q : ℕ) → turn p q ≤ 1
turn_small p q = grind (arith)

module _ (p q n : ℕ) (ms ps ns : List ℕ) (Q : Seated p q n ms ps ns) (few : n ≤ 4) (pq : p ≢ q) (hp : p < 1024) (hq : q < 1024)
    (op : bit ms p ≡ 1) (oq : bit ms q ≡ 1) where
  abbrev lo : ℕ
  lo = min p q

  abbrev hi : ℕ
  hi = max p q

  lohi : min p q ≢ max p q
  lohi e = pq (omega arith)

  either_way : ((p ≡ min p q) × (q ≡ max p q)) ⊎ ((p ≡ max p q) × (q ≡ min p q))
  either_way = elim (cases_lt p q) [ inl h ↦ inl (omega arith, omega arith) | inr h ↦ inr (omega arith, omega arith) ]

  on_lo : bit ms (min p q) ≡ 1
  on_lo = elim either_way [ inl e ↦ ap (bit ms) (sym e.0) ∙ op | inr e ↦ ap (bit ms) (sym e.1) ∙ oq ]

  on_hi : bit ms (max p q) ≡ 1
  on_hi = elim either_way [ inl e ↦ ap (bit ms) (sym e.1) ∙ oq | inr e ↦ ap (bit ms) (sym e.0) ∙ op ]

  more_than : (k : ℕ) → k < n → ltb k n ≡ true
  more_than k h = grind (arith)

  no_more : (k : ℕ) → n ≤ k → ltb k n ≡ false
  no_more k h = grind (arith)

  less : (k : ℕ) → n < k → ltb n k ≡ true
  less k h = grind (arith)

  no_less : (k : ℕ) → k ≤ n → ltb n k ≡ false
  no_less k h = grind (arith)

  -- the maps between
  m₁ : 1 ≤ n → Q.lefts ≡ ms
  m₁ h = not_flipped (ltb n 1) ms Q.lefts lo (no_less 1 h) Q.low

  m₂ : 2 ≤ n → Q.rights ≡ ms
  m₂ h = not_flipped (ltb n 2) Q.lefts Q.rights hi (no_less 2 h) Q.high ∙ m₁ (omega arith)

  m₃ : n ≤ 2 → Q.thirds ≡ Q.rights
  m₃ h = not_taken (ltb 2 n) Q.rights Q.thirds (seat ps 2) (no_more 2 h) Q.third

  m₄ : n ≤ 3 → ns ≡ Q.thirds
  m₄ h = not_taken (ltb 3 n) Q.thirds ns (seat ps 3) (no_more 3 h) Q.fourth

  third : 2 < n → Taken true Q.rights (seat ps 2) Q.thirds
  third h = is_taken (ltb 2 n) Q.rights Q.thirds (seat ps 2) (more_than 2 h) Q.third

  fourth : 3 < n → Taken true Q.thirds (seat ps 3) ns
  fourth h = is_taken (ltb 3 n) Q.thirds ns (seat ps 3) (more_than 3 h) Q.fourth

  -- vacant before
  third_free : 2 < n → bit ms (seat ps 2) ≡ 0
  third_free h = ap (λ (m : List ℕ). bit m (seat ps 2)) (sym (m₂ (omega arith))) ∙ (third h).0.1

  third_on : 2 < n → bit Q.thirds (seat ps 2) ≡ 1
  third_on h = let t = third h in omega (arith, t.1.here, t.0.1)

  pub three_four : 3 < n → seat ps 2 ≢ seat ps 3
  three_four h e = let a = third_on (omega arith) in let t = fourth h in let b = t.0.1 in let c = ap (bit Q.thirds) e in omega arith

  fourth_free : 3 < n → bit ms (seat ps 3) ≡ 0
  fourth_free h =
      let t = third (omega arith) in
      sym (t.1.other (seat ps 3) (λ e. three_four h (sym e)) ∙ ap (λ (m : List ℕ). bit m (seat ps 3)) (m₂ (omega arith))) ∙ (fourth h).0.1

  pub vacant : (i : ℕ) → 2 ≤ i → i < n → (seat ps i < 1024) × (bit ms (seat ps i) ≡ 0)
  vacant i h l = go (cases_eq i 2)
    where
      go : (i ≡ 2) ⊎ (i ≢ 2) → (seat ps i < 1024) × (bit ms (seat ps i) ≡ 0)
      go (inl e) = subst (λ (i : ℕ). (seat ps i < 1024) × (bit ms (seat ps i) ≡ 0)) (sym e) ((third (omega arith)).0.0, third_free (omega arith))
      go (inr o) =
          let e : i ≡ 3 = omega arith in
          subst (λ (i : ℕ). (seat ps i < 1024) × (bit ms (seat ps i) ≡ 0)) (sym e) ((fourth (omega arith)).0.0, fourth_free (omega arith))

  -- and none above them
  pub none_above : 2 < n → (k : ℕ) → seat ps 2 < k → k < 1024 → bit ms k ≡ 1
  none_above h k a b = ap (λ (m : List ℕ). bit m k) (sym (m₂ (omega arith))) ∙ (third h).0.2 k a b

  pub none_between : 3 < n → (k : ℕ) → seat ps 3 < k → k < 1024 → k ≢ seat ps 2 → bit ms k ≡ 1
  none_between h k a b o =
      let t = third (omega arith) in
      sym (t.1.other k o ∙ ap (λ (m : List ℕ). bit m k) (m₂ (omega arith))) ∙ (fourth h).0.2 k a b

  pub lower : 3 < n → seat ps 3 < seat ps 2
  lower h = elim (cases_lt (seat ps 3) (seat ps 2)) [
    | inl l ↦ l
    | inr l ↦
        (let o = three_four h in
        let a = none_above (omega arith) (seat ps 3) (omega arith) (fourth h).0.0 in
        let b = fourth_free h in
        absurd (omega arith))
  ]

  -- the first two are the pair's
  pub given_up : (i : ℕ) → i < 2 → i < n → (seat ps i ≡ p) ⊎ (seat ps i ≡ q)
  given_up i h l = go (cases_eq i 0) either_way
    where
      go : (i ≡ 0) ⊎ (i ≢ 0) → ((p ≡ min p q) × (q ≡ max p q)) ⊎ ((p ≡ max p q) × (q ≡ min p q)) → (seat ps i ≡ p) ⊎ (seat ps i ≡ q)
      go (inl e) (inl w) = inl (ap (seat ps) e ∙ Q.first (omega arith) ∙ sym w.0)
      go (inl e) (inr w) = inr (ap (seat ps) e ∙ Q.first (omega arith) ∙ sym w.1)
      go (inr n) (inl w) = let e : i ≡ 1 = omega arith in inr (ap (seat ps) e ∙ Q.second (omega arith) ∙ sym w.1)
      go (inr n) (inr w) = let e : i ≡ 1 = omega arith in inl (ap (seat ps) e ∙ Q.second (omega arith) ∙ sym w.0)

  on_pair : (i : ℕ) → i < 2 → i < n → (seat ps i < 1024) × (bit ms (seat ps i) ≡ 1)
  on_pair i h l = elim (given_up i h l) [
    | inl e ↦ subst (λ (r : ℕ). (r < 1024) × (bit ms r ≡ 1)) (sym e) (hp, op)
    | inr e ↦ subst (λ (r : ℕ). (r < 1024) × (bit ms r ≡ 1)) (sym e) (hq, oq)
  ]

  pub places : Places (seat ps) n
  places = record {
    low = λ i h. elim (cases_lt i 2) [ inl l ↦ (on_pair i l h).0 | inr l ↦ (vacant i l h).0 ];
    apart = λ i j h k e. go i j h k e (cases_lt i 2) (cases_lt j 2) (cases_eq i j);
  }
    where
      first_two : 1 < n → seat ps 0 ≢ seat ps 1
      first_two h e = lohi (sym (Q.first (omega arith)) ∙ e ∙ Q.second h)

      go : (i j : ℕ) → i < n → j < n → seat ps i ≡ seat ps j → (i < 2) ⊎ (2 ≤ i) → (j < 2) ⊎ (2 ≤ j) → (i ≡ j) ⊎ (i ≢ j) → i ≡ j
      go i j h k e x y (inl z) = z
      go i j h k e (inl x) (inl y) (inr z) = absurd (elim (cases_eq i 0) [
        | inl w ↦ (let v : j ≡ 1 = omega arith in first_two (omega arith) (ap (seat ps) (sym w) ∙ e ∙ ap (seat ps) v))
        | inr w ↦ (let u : i ≡ 1 = omega arith in let v : j ≡ 0 = omega arith in first_two (omega arith) (ap (seat ps) (sym v) ∙ sym e ∙ ap (seat ps) u))
      ])
      go i j h k e (inl x) (inr y) (inr z) = let a = (on_pair i x h).1 in let b = (vacant j y k).1 in let c = ap (bit ms) e in absurd (omega arith)
      go i j h k e (inr x) (inl y) (inr z) = let a = (on_pair j y k).1 in let b = (vacant i x h).1 in let c = ap (bit ms) e in absurd (omega arith)
      go i j h k e (inr x) (inr y) (inr z) = absurd (elim (cases_eq i 2) [
        | inl w ↦ (let v : j ≡ 3 = omega arith in three_four (omega arith) (ap (seat ps) (sym w) ∙ e ∙ ap (seat ps) v))
        | inr w ↦ (let u : i ≡ 3 = omega arith in let v : j ≡ 2 = omega arith in three_four (omega arith) (ap (seat ps) (sym v) ∙ sym e ∙ ap (seat ps) u))
      ])

  -- an occupied place stays so
  stays_on : (r : ℕ) → bit Q.rights r ≡ 1 → bit ns r ≡ 1
  stays_on r h = last (first (cases_lt 2 n))
    where
      first : (2 < n) ⊎ (n ≤ 2) → bit Q.thirds r ≡ 1
      first (inl k) = let t = third k in t.1.other r (λ e. let a = ap (bit Q.rights) e in let b = t.0.1 in omega arith) ∙ h
      first (inr k) = ap (λ (m : List ℕ). bit m r) (m₃ k) ∙ h

      last : bit Q.thirds r ≡ 1 → bit ns r ≡ 1
      last g = elim (cases_lt 3 n) [
        | inl k ↦ (let t = fourth k in t.1.other r (λ e. let a = ap (bit Q.thirds) e in let b = t.0.1 in omega arith) ∙ g)
        | inr k ↦ ap (λ (m : List ℕ). bit m r) (m₄ k) ∙ g
      ]

  lo_on : 1 ≤ n → bit Q.rights (min p q) ≡ 1
  lo_on h = elim (cases_lt n 2) [
    | inl k ↦ (is_flipped (ltb n 2) Q.lefts Q.rights hi (less 2 k) Q.high).other lo lohi ∙ ap (λ (m : List ℕ). bit m lo) (m₁ h) ∙ on_lo
    | inr k ↦ ap (λ (m : List ℕ). bit m lo) (m₂ k) ∙ on_lo
  ]

  pub new_on : (i : ℕ) → i < n → bit ns (seat ps i) ≡ 1
  new_on i h = go (cases_eq i 0) (cases_eq i 1) (cases_eq i 2)
    where
      go : (i ≡ 0) ⊎ (i ≢ 0) → (i ≡ 1) ⊎ (i ≢ 1) → (i ≡ 2) ⊎ (i ≢ 2) → bit ns (seat ps i) ≡ 1
      go (inl e) y z = ap (λ (i : ℕ). bit ns (seat ps i)) e ∙ ap (bit ns) (Q.first (omega arith)) ∙ stays_on lo (lo_on (omega arith))
      go (inr a) (inl e) z = ap (λ (i : ℕ). bit ns (seat ps i)) e ∙ ap (bit ns) (Q.second (omega arith)) ∙ stays_on hi (ap (λ (m : List ℕ). bit m hi) (m₂ (omega arith)) ∙ on_hi)
      go (inr a) (inr b) (inl e) = ap (λ (i : ℕ). bit ns (seat ps i)) e ∙ later (third_on (omega arith))
        where
          later : bit Q.thirds (seat ps 2) ≡ 1 → bit ns (seat ps 2) ≡ 1
          later g = elim (cases_lt 3 n) [
            | inl k ↦ (fourth k).1.other (seat ps 2) (three_four k) ∙ g
            | inr k ↦ ap (λ (m : List ℕ). bit m (seat ps 2)) (m₄ k) ∙ g
          ]
      go (inr a) (inr b) (inr c) =
          let e : i ≡ 3 = omega arith in
          let t = fourth (omega arith) in
          ap (λ (i : ℕ). bit ns (seat ps i)) e ∙ (omega (arith, t.1.here, t.0.1))

  lo_off : ((i : ℕ) → i < n → min p q ≢ seat ps i) → bit ns (min p q) ≢ 1
  lo_off o =
      let z : n ≡ 0 = elim (cases_lt 0 n) [ inl h ↦ absurd (o 0 h (sym (Q.first h))) | inr h ↦ omega arith ] in
      let a = (is_flipped (ltb n 1) ms Q.lefts lo (less 1 (omega arith)) Q.low).here in
      let b = (is_flipped (ltb n 2) Q.lefts Q.rights hi (less 2 (omega arith)) Q.high).other lo lohi in
      let c = ap (λ (m : List ℕ). bit m lo) (m₄ (omega arith) ∙ m₃ (omega arith)) in
      let d = on_lo in
      λ e. omega arith

  hi_off : ((i : ℕ) → i < n → max p q ≢ seat ps i) → bit ns (max p q) ≢ 1
  hi_off o =
      let z : n < 2 = elim (cases_lt 1 n) [ inl h ↦ absurd (o 1 h (sym (Q.second h))) | inr h ↦ omega arith ] in
      let a = (is_flipped (ltb n 2) Q.lefts Q.rights hi (less 2 z) Q.high).here in
      let b : bit Q.lefts hi ≡ bit ms hi = elim (cases_lt n 1) [
        | inl h ↦ (is_flipped (ltb n 1) ms Q.lefts lo (less 1 h) Q.low).other hi (λ e. lohi (sym e))
        | inr h ↦ ap (λ (m : List ℕ). bit m hi) (m₁ h)
      ] in
      let c = ap (λ (m : List ℕ). bit m hi) (m₄ (omega arith) ∙ m₃ (omega arith)) in
      let d = on_hi in
      λ e. omega arith

  pub gone_off : (r : ℕ) → (r ≡ p) ⊎ (r ≡ q) → ((i : ℕ) → i < n → r ≢ seat ps i) → bit ns r ≢ 1
  gone_off r w o = elim (which w either_way) [
    | inl e ↦ (λ h. lo_off (λ i k z. o i k (e ∙ z)) (ap (bit ns) (sym e) ∙ h))
    | inr e ↦ (λ h. hi_off (λ i k z. o i k (e ∙ z)) (ap (bit ns) (sym e) ∙ h))
  ]
    where
      which : (r ≡ p) ⊎ (r ≡ q) → ((p ≡ min p q) × (q ≡ max p q)) ⊎ ((p ≡ max p q) × (q ≡ min p q)) → (r ≡ min p q) ⊎ (r ≡ max p q)
      which (inl e) (inl f) = inl (e ∙ f.0)
      which (inl e) (inr f) = inr (e ∙ f.0)
      which (inr e) (inl f) = inr (e ∙ f.1)
      which (inr e) (inr f) = inl (e ∙ f.1)

  pub others : (r : ℕ) → r ≢ p → r ≢ q → ((i : ℕ) → i < n → r ≢ seat ps i) → bit ns r ≡ bit ms r
  others r np nq o = d ∙ c ∙ b ∙ a
    where
      rlo : r ≢ min p q
      rlo e = elim either_way [ inl f ↦ np (e ∙ sym f.0) | inr f ↦ nq (e ∙ sym f.1) ]

      rhi : r ≢ max p q
      rhi e = elim either_way [ inl f ↦ nq (e ∙ sym f.1) | inr f ↦ np (e ∙ sym f.0) ]

      a : bit Q.lefts r ≡ bit ms r
      a = elim (cases_lt n 1) [
        | inl h ↦ (is_flipped (ltb n 1) ms Q.lefts lo (less 1 h) Q.low).other r rlo
        | inr h ↦ ap (λ (m : List ℕ). bit m r) (m₁ h)
      ]

      b : bit Q.rights r ≡ bit Q.lefts r
      b = elim (cases_lt n 2) [
        | inl h ↦ (is_flipped (ltb n 2) Q.lefts Q.rights hi (less 2 h) Q.high).other r rhi
        | inr h ↦ ap (λ (m : List ℕ). bit m r) (not_flipped (ltb n 2) Q.lefts Q.rights hi (no_less 2 h) Q.high)
      ]

      c : bit Q.thirds r ≡ bit Q.rights r
      c = elim (cases_lt 2 n) [
        | inl h ↦ (third h).1.other r (o 2 h)
        | inr h ↦ ap (λ (m : List ℕ). bit m r) (m₃ h)
      ]

      d : bit ns r ≡ bit Q.thirds r
      d = elim (cases_lt 3 n) [
        | inl h ↦ (fourth h).1.other r (o 3 h)
        | inr h ↦ ap (λ (m : List ℕ). bit m r) (m₄ h)
      ]

  pub long : length ms ≡ 128 → length ns ≡ 128
  long l = d ∙ c ∙ b ∙ a ∙ l
    where
      a : length Q.lefts ≡ length ms
      a = elim (cases_lt n 1) [
        | inl h ↦ (is_flipped (ltb n 1) ms Q.lefts lo (less 1 h) Q.low).long
        | inr h ↦ ap length (m₁ h)
      ]

      b : length Q.rights ≡ length Q.lefts
      b = elim (cases_lt n 2) [
        | inl h ↦ (is_flipped (ltb n 2) Q.lefts Q.rights hi (less 2 h) Q.high).long
        | inr h ↦ ap length (not_flipped (ltb n 2) Q.lefts Q.rights hi (no_less 2 h) Q.high)
      ]

      c : length Q.thirds ≡ length Q.rights
      c = elim (cases_lt 2 n) [ inl h ↦ (third h).1.long | inr h ↦ ap length (m₃ h) ]

      d : length ns ≡ length Q.thirds
      d = elim (cases_lt 3 n) [ inl h ↦ (fourth h).1.long | inr h ↦ ap length (m₄ h) ]

  -- where the pair's rows stand while the new cells take their places
  turn_low : p < q → turn p q ≡ 0
  turn_low h = let b : ltb q p ≡ false = grind (arith) in ap (λ (t : Bool). cond t 1 0) b

  turn_high : q < p → turn p q ≡ 1
  turn_high h = let b : ltb q p ≡ true = grind (arith) in ap (λ (t : Bool). cond t 1 0) b

  pub turned : (turn p q ≤ 1) × (turn p q < n → seat ps (turn p q) ≡ p) × (1 - turn p q < n → seat ps (1 - turn p q) ≡ q)
  turned = elim (cases_lt p q) [
    | inl h ↦
        (let e = turn_low h in
        (omega arith, λ l. ap (seat ps) e ∙ Q.first (omega arith) ∙ (omega arith), λ l. ap (λ (t : ℕ). seat ps (1 - t)) e ∙ Q.second (omega arith) ∙ (omega arith)))
    | inr h ↦
        (let e = turn_high (omega arith) in
        (omega arith, λ l. ap (seat ps) e ∙ Q.second (omega arith) ∙ (omega arith), λ l. ap (λ (t : ℕ). seat ps (1 - t)) e ∙ Q.first (omega arith) ∙ (omega arith)))
  ]

  seated_row : (s i o : ℕ) → i ≤ 1 → (i < n → seat ps i ≡ s) → (1 - i < n → seat ps (1 - i) ≡ o) → s ≢ o → s < 1024 → swaps (seat ps) n s ≡ cond (ltb i n) (1024 + i) s
  seated_row s i o hi e f so hs = elim (cases_lt i n) [
    | inl h ↦ ap (swaps (seat ps) n) (sym (e h)) ∙ swaps_old (seat ps) n i places h ∙ sym (ap (λ (t : Bool). cond t (1024 + i) s) (more_than i h))
    | inr h ↦
        swaps_else (seat ps) n s (λ j k. ((λ z. let u : j ≡ 1 - i = omega arith in so (z ∙ ap (seat ps) u ∙ f (omega arith))), (λ z. omega arith)))
        ∙ sym (ap (λ (t : Bool). cond t (1024 + i) s) (no_more i h))
  ]

  pub left_row : swaps (seat ps) n p ≡ cond (ltb (turn p q) n) (1024 + turn p q) p
  left_row = let t = turned in seated_row p (turn p q) q t.0 t.1 t.2 pq hp

  pub right_row : swaps (seat ps) n q ≡ cond (ltb (1 - turn p q) n) (1025 - turn p q) q
  right_row =
      let t = turned in
      let u : 1024 + (1 - turn p q) ≡ 1025 - turn p q = omega (arith, t.0) in
      let v : 1 - (1 - turn p q) ≡ turn p q = omega (arith, t.0) in
      seated_row q (1 - turn p q) p (omega arith) t.2 (λ l. ap (seat ps) v ∙ t.1 (omega arith)) (λ e. pq (sym e)) hq
      ∙ ap (λ (x : ℕ). cond (ltb (1 - turn p q) n) x q) u
