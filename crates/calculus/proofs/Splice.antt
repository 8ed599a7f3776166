-- The splice: what it gives at each spot, and that two splices commute. Assumes nothing.
use Rattle.std.proofs.Common.{◌≡◌, ◌+◌, Bool, true, false, eqb, ◌≢◌, ◌⊎◌, List, [], ◌∷◌, sym, refl, ap, ◌∙◌, subst, ap₂, inl, inr, arith}
use mathlib.Core.Path.{fun_ext}
use Rattle.std.proofs.lemmas.Bool.{and_parts, and_from, both_ways, eqb-true, eq-eqb}
use Rattle.calculus.proofs.Wires.{Out, Ready, same, through, closes, run, tally}
use Rattle.calculus.specs.Spots.{Spot, end, port}
use Rattle.calculus.specs.Nets.{Net}
use Rattle.calculus.specs.Splicing.{splice, splices}

pub same_true : (x y : Spot) → same x y ≡ true → x ≡ y
same_true (end e) (end f) t = ap end (eqb-true e f t)
same_true (end e) (port q j) t = absurd (both_ways false refl t)
same_true (port p i) (end f) t = absurd (both_ways false refl t)
same_true (port p i) (port q j) t =
    let u = and_parts (eqb p q) (eqb i j) t in
    ap₂ port (eqb-true p q u.0) (eqb-true i j u.1)

same_self : (x : Spot) → same x x ≡ true
same_self (end e) = eq-eqb e e refl
same_self (port p i) = and_from (eqb p p) (eqb i i) (eq-eqb p p refl) (eq-eqb i i refl)

pub same_yes : (x y : Spot) → x ≡ y → same x y ≡ true
same_yes x y e = subst (λ z. same x z ≡ true) e (same_self x)

-- two spots are one, or are not
pub spot : (x y : Spot) → (x ≡ y) ⊎ (x ≢ y)
spot x y = go (same x y) refl
  where
    go : (b : Bool) → same x y ≡ b → (x ≡ y) ⊎ (x ≢ y)
    go true e = inl (same_true x y e)
    go false e = inr (λ p. both_ways (same x y) e (same_yes x y p))

pub same_no : (x y : Spot) → x ≢ y → same x y ≡ false
same_no x y n = go (same x y) refl
  where
    go : (b : Bool) → same x y ≡ b → b ≡ false
    go true e = absurd (n (same_true x y e))
    go false e = refl

-- what a splice gives at each spot
module _ (a b : Spot) (m : Spot → Spot) where
  pub at_a : through a b m a ≡ a
  unfolding through
  at_a = rw (same_yes a a refl, through)

  pub at_b : through a b m b ≡ b
  unfolding through
  at_b = grind (arith, same_yes, same_no)

  pub to_a : (x : Spot) → x ≢ a → x ≢ b → m x ≡ a → through a b m x ≡ m b
  unfolding through
  to_a x h k e = grind (arith, same_yes, same_no)

  pub to_b : (x : Spot) → x ≢ a → x ≢ b → a ≢ b → m x ≡ b → through a b m x ≡ m a
  unfolding through
  to_b x h k n e = grind (arith, same_yes, same_no)

  pub past : (x : Spot) → x ≢ a → x ≢ b → m x ≢ a → m x ≢ b → through a b m x ≡ m x
  unfolding through
  past x h k n o = grind (arith, same_yes, same_no)

-- two mates of one spot are one spot
pub one_mate : (m : Spot → Spot) → ((x : Spot) → m (m x) ≡ x) → (x y : Spot) → m x ≡ m y → x ≡ y
one_mate m inv x y e = sym (inv x) ∙ ap m e ∙ inv y

abbrev pub Mutual : (Spot → Spot) → Type 0
Mutual m = (x : Spot) → m (m x) ≡ x

pub mirror : (a b : Spot) (m : Spot → Spot) → a ≢ b → through a b m ≡ through b a m
unfolding through
mirror a b m n = fun_ext go
  where
    go : (x : Spot) → through a b m x ≡ through b a m x
    go x = grind (arith, same_yes, same_no)

-- splicing leaves a mutual wiring
module _ (a b : Spot) (m : Spot → Spot) (inv : Mutual m) (ab : a ≢ b) (la : m a ≢ a) (lb : m b ≢ b) where
  pub keeps_mutual : Mutual (through a b m)
  keeps_mutual x = go (spot x a) (spot x b) (spot (m x) a) (spot (m x) b)
    where
      go : (x ≡ a) ⊎ (x ≢ a) → (x ≡ b) ⊎ (x ≢ b) → (m x ≡ a) ⊎ (m x ≢ a) → (m x ≡ b) ⊎ (m x ≢ b) → through a b m (through a b m x) ≡ x
      go (inl e) q r s = grind (arith, at_a, at_b)
      go (inr n) (inl e) r s = grind (arith, at_a, at_b)
      go (inr n) (inr k) (inl e) s =
          let f : m (m b) ≡ b = inv b in
          let g : m a ≡ x = ap m (sym e) ∙ inv x in
          let h : m b ≢ a = λ z. k (one_mate m inv x b (e ∙ sym z)) in
          grind (arith, to_a, to_b, past)
      go (inr n) (inr k) (inr o) (inl e) =
          let f : m (m a) ≡ a = inv a in
          let g : m b ≡ x = ap m (sym e) ∙ inv x in
          let h : m a ≢ b = λ z. n (one_mate m inv x a (e ∙ sym z)) in
          grind (arith, to_a, to_b, past)
      go (inr n) (inr k) (inr o) (inr l) =
          let f : m (m x) ≡ x = inv x in
          grind (arith, to_a, to_b, past)

  pub keeps_live : (x : Spot) → x ≢ a → x ≢ b → m x ≢ x → through a b m x ≢ x
  keeps_live x n k l z = go (spot (m x) a) (spot (m x) b)
    where
      go : (m x ≡ a) ⊎ (m x ≢ a) → (m x ≡ b) ⊎ (m x ≢ b) → ⊥
      go (inl e) s = ab (sym e ∙ ap m (sym (sym (to_a a b m x n k e) ∙ z)) ∙ inv b)
      go (inr o) (inl e) = ab (sym (inv a) ∙ ap m (sym (to_b a b m x n k ab e) ∙ z) ∙ e)
      go (inr o) (inr l2) = l (sym (past a b m x n k o l2) ∙ z)

  -- what is live afterwards was live before, and is none of the two
  pub was_live : (x : Spot) → through a b m x ≢ x → (x ≢ a) × (x ≢ b) × (m x ≢ x)
  was_live x l =
      let n : x ≢ a = λ e. l (ap (through a b m) e ∙ at_a a b m ∙ sym e) in
      let k : x ≢ b = λ e. l (ap (through a b m) e ∙ at_b a b m ∙ sym e) in
      (n, k, λ e. l (past a b m x n k (λ f. n (sym e ∙ f)) (λ f. k (sym e ∙ f)) ∙ e))

module _ (m : Spot → Spot) (inv : Mutual m) (a b c d : Spot)
    (ab : a ≢ b) (ac : a ≢ c) (ad : a ≢ d) (bc : b ≢ c) (bd : b ≢ d) (cd : c ≢ d)
    (lb : m b ≢ b) (x : Spot) (xa : x ≢ a) (xb : x ≢ b) (xc : x ≢ c) (xd : x ≢ d) (e : m x ≡ a) where
  case_a : through c d (through a b m) x ≡ through a b (through c d m) x
  case_a = go (spot (m b) c) (spot (m b) d)
    where
      ba : m b ≢ a
      ba h = xb (one_mate m inv x b (e ∙ sym h))

      da : m d ≢ a
      da g = xd (one_mate m inv x d (e ∙ sym g))

      ca : m c ≢ a
      ca g = xc (one_mate m inv x c (e ∙ sym g))

      go : (m b ≡ c) ⊎ (m b ≢ c) → (m b ≡ d) ⊎ (m b ≢ d) → through c d (through a b m) x ≡ through a b (through c d m) x
      go (inl f) q =
          let db : m d ≢ b = λ g. cd (sym f ∙ ap m (sym g) ∙ inv d) in
          let h1 = da in
          grind (arith, to_a, past)
      go (inr n) (inl f) =
          let cb : m c ≢ b = λ g. cd (sym (inv c) ∙ ap m g ∙ f) in
          let h1 = ca in
          grind (arith, to_a, to_b, past)
      go (inr n) (inr k) = let h1 = ba in grind (arith, to_a, past)

module _ (m : Spot → Spot) (inv : Mutual m) (a b c d : Spot)
    (ab : a ≢ b) (ac : a ≢ c) (ad : a ≢ d) (bc : b ≢ c) (bd : b ≢ d) (cd : c ≢ d)
    (la : m a ≢ a) (lb : m b ≢ b) (lc : m c ≢ c) (ld : m d ≢ d) where
  pub commute_at : (x : Spot) → through c d (through a b m) x ≡ through a b (through c d m) x
  commute_at x = go (spot x a) (spot x b) (spot x c) (spot x d) (spot (m x) a) (spot (m x) b) (spot (m x) c) (spot (m x) d)
    where
      Goal : Type 0
      Goal = through c d (through a b m) x ≡ through a b (through c d m) x

      m₁ : through a b m ≡ through b a m
      m₁ = mirror a b m ab

      go : (x ≡ a) ⊎ (x ≢ a) → (x ≡ b) ⊎ (x ≢ b) → (x ≡ c) ⊎ (x ≢ c) → (x ≡ d) ⊎ (x ≢ d) → (m x ≡ a) ⊎ (m x ≢ a) → (m x ≡ b) ⊎ (m x ≢ b) → (m x ≡ c) ⊎ (m x ≢ c) → (m x ≡ d) ⊎ (m x ≢ d) → Goal
      go (inl e) q r s t u v w = grind (arith, at_a, at_b, past)
      go (inr xa) (inl e) r s t u v w = grind (arith, at_a, at_b, past)
      go (inr xa) (inr xb) (inl e) s t u v w = grind (arith, at_a, at_b, past)
      go (inr xa) (inr xb) (inr xc) (inl e) t u v w = grind (arith, at_a, at_b, past)
      go (inr xa) (inr xb) (inr xc) (inr xd) (inl e) u v w = case_a m inv a b c d ab ac ad bc bd cd lb x xa xb xc xd e
      go (inr xa) (inr xb) (inr xc) (inr xd) (inr n1) (inl e) v w =
          ap (λ f. through c d f x) (mirror a b m ab)
          ∙ case_a m inv b a c d (λ z. ab (sym z)) bc bd ac ad cd la x xb xa xc xd e
          ∙ ap (λ f. f x) (sym (mirror a b (through c d m) ab))
      go (inr xa) (inr xb) (inr xc) (inr xd) (inr n1) (inr n2) (inl e) w =
          sym (case_a m inv c d a b cd (λ z. ac (sym z)) (λ z. bc (sym z)) (λ z. ad (sym z)) (λ z. bd (sym z)) ab ld x xc xd xa xb e)
      go (inr xa) (inr xb) (inr xc) (inr xd) (inr n1) (inr n2) (inr n3) (inl e) =
          ap (λ f. f x) (mirror c d (through a b m) cd)
          ∙ sym (case_a m inv d c a b (λ z. cd (sym z)) (λ z. ad (sym z)) (λ z. bd (sym z)) (λ z. ac (sym z)) (λ z. bc (sym z)) ab lc x xd xc xa xb e)
          ∙ ap (λ f. through a b f x) (sym (mirror c d m cd))
      go (inr xa) (inr xb) (inr xc) (inr xd) (inr n1) (inr n2) (inr n3) (inr n4) = grind (arith, past)

  pub commute : through c d (through a b m) ≡ through a b (through c d m)
  commute = fun_ext commute_at

  -- the circuits that the two close, in either order
  closing : (m a ≢ b) → (m c ≢ d) → through a b m c ≡ d → through c d m a ≡ b
  closing n k e = go (spot (m c) a) (spot (m c) b)
    where
      go : (m c ≡ a) ⊎ (m c ≢ a) → (m c ≡ b) ⊎ (m c ≢ b) → through c d m a ≡ b
      go (inl f) q =
          let g : m a ≡ c = ap m (sym f) ∙ inv c in
          let h : m b ≡ d = sym (to_a a b m c (λ z. ac (sym z)) (λ z. bc (sym z)) f) ∙ e in
          to_a c d m a ac ad g ∙ ap m (sym h) ∙ inv b
      go (inr p) (inl f) =
          let h : m a ≡ d = sym (to_b a b m c (λ z. ac (sym z)) (λ z. bc (sym z)) ab f) ∙ e in
          to_b c d m a ac ad cd h ∙ f
      go (inr p) (inr q) = absurd (k (sym (past a b m c (λ z. ac (sym z)) (λ z. bc (sym z)) p q) ∙ e))

pub closes_yes : (a b : Spot) (m : Spot → Spot) → m a ≡ b → closes a b m ≡ 1
unfolding closes
closes_yes a b m e = grind (arith, same_yes)

pub closes_no : (a b : Spot) (m : Spot → Spot) → m a ≢ b → closes a b m ≡ 0
unfolding closes
closes_no a b m e = grind (arith, same_no)

-- one count for two tests that say the same
pub closes_iff : (a b : Spot) (m : Spot → Spot) (c d : Spot) (n : Spot → Spot) → (m a ≡ b → n c ≡ d) → (n c ≡ d → m a ≡ b) → closes a b m ≡ closes c d n
closes_iff a b m c d n f g = go (spot (m a) b)
  where
    go : (m a ≡ b) ⊎ (m a ≢ b) → closes a b m ≡ closes c d n
    go (inl e) = closes_yes a b m e ∙ sym (closes_yes c d n (f e))
    go (inr k) = closes_no a b m k ∙ sym (closes_no c d n (λ e. k (g e)))

-- a splice that closes a circuit touches no other spot
pub closed_past : (a b : Spot) (m : Spot → Spot) → Mutual m → m a ≡ b → (c : Spot) → c ≢ a → c ≢ b → through a b m c ≡ m c
closed_past a b m inv e c n k =
    past a b m c n k (λ f. k (sym (inv c) ∙ ap m f ∙ e)) (λ f. n (one_mate m inv c a (f ∙ sym e)))

module _ (m : Spot → Spot) (inv : Mutual m) (a b c d : Spot)
    (ab : a ≢ b) (ac : a ≢ c) (ad : a ≢ d) (bc : b ≢ c) (bd : b ≢ d) (cd : c ≢ d)
    (la : m a ≢ a) (lb : m b ≢ b) (lc : m c ≢ c) (ld : m d ≢ d) where
  pub count : closes a b m + closes c d (through a b m) ≡ closes c d m + closes a b (through c d m)
  count = go (spot (m a) b) (spot (m c) d)
    where
      go : (m a ≡ b) ⊎ (m a ≢ b) → (m c ≡ d) ⊎ (m c ≢ d) → closes a b m + closes c d (through a b m) ≡ closes c d m + closes a b (through c d m)
      go (inl e) q =
          let f : through a b m c ≡ m c = closed_past a b m inv e c (λ z. ac (sym z)) (λ z. bc (sym z)) in
          let g : through c d m a ≡ b = past c d m a ac ad (λ z. bc (sym e ∙ z)) (λ z. bd (sym e ∙ z)) ∙ e in
          let h = closes_iff c d (through a b m) c d m (λ z. sym f ∙ z) (λ z. f ∙ z) in
          omega (arith, h, closes_yes a b m e, closes_yes a b (through c d m) g)
      go (inr n) (inl e) =
          let f : through c d m a ≡ m a = closed_past c d m inv e a ac ad in
          let g : through a b m c ≡ d = past a b m c (λ z. ac (sym z)) (λ z. bc (sym z)) (λ z. ad (sym (sym e ∙ z))) (λ z. bd (sym (sym e ∙ z))) ∙ e in
          let h = closes_iff a b (through c d m) a b m (λ z. sym f ∙ z) (λ z. f ∙ z) in
          omega (arith, h, closes_yes c d m e, closes_yes c d (through a b m) g)
      go (inr n) (inr k) =
          let h = closes_iff c d (through a b m) a b (through c d m)
          (closing m inv a b c d ab ac ad bc bd cd la lb lc ld n k)
          (closing m inv c d a b cd (λ z. ac (sym z)) (λ z. bc (sym z)) (λ z. ad (sym z)) (λ z. bd (sym z)) ab lc ld la lb k n) in
          omega (arith, h, closes_no a b m n, closes_no c d m k)

-- no spot of the one is a spot of the other
abbrev pub Apart : List (Spot × Spot) → List (Spot × Spot) → Type 0
Apart [] ys = Unit {0}
Apart (s ∷ ss) ys = Out s.0 ys × Out s.1 ys × Apart ss ys

pub ready_through : (a b : Spot) (m : Spot → Spot) → Mutual m → a ≢ b → m a ≢ a → m b ≢ b → (ss : List (Spot × Spot)) → Out a ss → Out b ss → Ready ss m → Ready ss (through a b m)
ready_through a b m inv ab la lb [] oa ob r = tt
ready_through a b m inv ab la lb (s ∷ ss) oa ob r = (
  r.0,
  keeps_live a b m inv ab la lb s.0 (λ z. oa.0 (sym z)) (λ z. ob.0 (sym z)) r.1,
  keeps_live a b m inv ab la lb s.1 (λ z. oa.1 (sym z)) (λ z. ob.1 (sym z)) r.2,
  r.3,
  r.4,
  ready_through a b m inv ab la lb ss oa.2 ob.2 r.5,
)

pub mutual_run : (ss : List (Spot × Spot)) (m : Spot → Spot) → Mutual m → Ready ss m → Mutual (run ss m)
mutual_run [] m inv r = inv
mutual_run (s ∷ ss) m inv r =
    mutual_run ss (through s.0 s.1 m) (keeps_mutual s.0 s.1 m inv r.0 r.1 r.2)
    (ready_through s.0 s.1 m inv r.0 r.1 r.2 ss r.3 r.4 r.5)

pub live_run : (ss : List (Spot × Spot)) (m : Spot → Spot) → Mutual m → Ready ss m → (x : Spot) → Out x ss → m x ≢ x → run ss m x ≢ x
live_run [] m inv r x o l = l
live_run (s ∷ ss) m inv r x o l =
    live_run ss (through s.0 s.1 m) (keeps_mutual s.0 s.1 m inv r.0 r.1 r.2)
    (ready_through s.0 s.1 m inv r.0 r.1 r.2 ss r.3 r.4 r.5)
    x o.2 (keeps_live s.0 s.1 m inv r.0 r.1 r.2 x o.0 o.1 l)

pub was_live_run : (ss : List (Spot × Spot)) (m : Spot → Spot) → Mutual m → Ready ss m → (x : Spot) → run ss m x ≢ x → Out x ss × (m x ≢ x)
was_live_run [] m inv r x l = (tt, l)
was_live_run (s ∷ ss) m inv r x l =
    let h = was_live_run ss (through s.0 s.1 m) (keeps_mutual s.0 s.1 m inv r.0 r.1 r.2)
    (ready_through s.0 s.1 m inv r.0 r.1 r.2 ss r.3 r.4 r.5) x l in
    let w = was_live s.0 s.1 m inv r.0 r.1 r.2 x h.1 in
    ((w.0, w.1, h.0), w.2)

pub out_run : (a b : Spot) (m : Spot → Spot) → Mutual m → a ≢ b → m a ≢ a → m b ≢ b → (ss : List (Spot × Spot)) → Out a ss → Out b ss → Ready ss m →
    (run ss (through a b m) ≡ through a b (run ss m)) × (closes a b m + tally ss (through a b m) ≡ tally ss m + closes a b (run ss m))
out_run a b m inv ab la lb [] oa ob r = (refl, omega arith)
out_run a b m inv ab la lb (s ∷ ss) oa ob r =
    let c = s.0 in
    let d = s.1 in
    let m₁ = through c d m in
    let inv₁ = keeps_mutual c d m inv r.0 r.1 r.2 in
    let la₁ = keeps_live c d m inv r.0 r.1 r.2 a oa.0 oa.1 la in
    let lb₁ = keeps_live c d m inv r.0 r.1 r.2 b ob.0 ob.1 lb in
    let r₁ = ready_through c d m inv r.0 r.1 r.2 ss r.3 r.4 r.5 in
    let ih = out_run a b m₁ inv₁ ab la₁ lb₁ ss oa.2 ob.2 r₁ in
    let sw = commute m inv a b c d ab oa.0 oa.1 ob.0 ob.1 r.0 la lb r.1 r.2 in
    let ct = count m inv a b c d ab oa.0 oa.1 ob.0 ob.1 r.0 la lb r.1 r.2 in
    let tw : tally ss (through c d (through a b m)) ≡ tally ss (through a b m₁) = ap (tally ss) sw in
    (ap (run ss) sw ∙ ih.0, omega (arith, ih.1, ct, tw))

-- two lists of splices commute, loop number included
pub exchange : (xs ys : List (Spot × Spot)) (m : Spot → Spot) → Mutual m → Ready xs m → Ready ys m → Apart xs ys →
    (run ys (run xs m) ≡ run xs (run ys m)) × (tally xs m + tally ys (run xs m) ≡ tally ys m + tally xs (run ys m))
exchange [] ys m inv rx ry ap = (refl, omega arith)
exchange (s ∷ xs) ys m inv rx ry sep =
    let a = s.0 in
    let b = s.1 in
    let m₁ = through a b m in
    let inv₁ = keeps_mutual a b m inv rx.0 rx.1 rx.2 in
    let rx₁ = ready_through a b m inv rx.0 rx.1 rx.2 xs rx.3 rx.4 rx.5 in
    let ry₁ = ready_through a b m inv rx.0 rx.1 rx.2 ys sep.0 sep.1 ry in
    let ih = exchange xs ys m₁ inv₁ rx₁ ry₁ sep.2 in
    let bub = out_run a b m inv rx.0 rx.1 rx.2 ys sep.0 sep.1 ry in
    let tw : tally xs (run ys m₁) ≡ tally xs (through a b (run ys m)) = ap (tally xs) bub.0 in
    (ih.0 ∙ ap (run xs) bub.0, omega (arith, ih.1, bub.1, tw))

-- a list of splices of a net
pub spliced_mate : (ss : List (Spot × Spot)) (A : Net) → (splices ss A).mate ≡ run ss A.mate
spliced_mate [] A = refl
spliced_mate (s ∷ ss) A = spliced_mate ss (splice s.0 s.1 A)

pub spliced_loops : (ss : List (Spot × Spot)) (A : Net) → (splices ss A).loops ≡ A.loops + tally ss A.mate
spliced_loops [] A = omega arith
spliced_loops (s ∷ ss) A = let h = spliced_loops ss (splice s.0 s.1 A) in omega arith

pub spliced_kind : (ss : List (Spot × Spot)) (A : Net) → (splices ss A).kind ≡ A.kind
spliced_kind [] A = refl
spliced_kind (s ∷ ss) A = spliced_kind ss (splice s.0 s.1 A)

pub spliced_ends : (ss : List (Spot × Spot)) (A : Net) → (splices ss A).ends ≡ A.ends
spliced_ends [] A = refl
spliced_ends (s ∷ ss) A = spliced_ends ss (splice s.0 s.1 A)
