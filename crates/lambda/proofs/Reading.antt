-- Reading a net gives one term, if any. Assumes nothing.
use Rattle.std.proofs.Common.{◌≡◌, ℕ, zero, suc, ◌+◌, ◌≤◌, Bool, true, false, ◌||◌, eqb, List, [], ◌∷◌, Some, None, Option, sym, refl, ap, ◌∙◌, subst, ap₂, inl, inr, arith}
use Rattle.calculus.specs.Spots.{Spot, end, port, carry}
use Rattle.calculus.specs.Nets.{Net}
use Rattle.calculus.specs.Alike.{AlikeBy}
use Rattle.lambda.specs.Terms.{Term, var, item, lam, app, size, binds, cells, Linear}
use Rattle.lambda.specs.TermNets.{head, links, net}
use Rattle.lambda.specs.Reading.{Among, Reads, an_item, an_abstraction, a_variable, an_application}
use Rattle.lambda.proofs.Counts.{number, none_some, one_yes}
use Rattle.lambda.proofs.Wirings.{in_either}
use Rattle.lambda.proofs.Good.{kind_yes}
use Rattle.lambda.proofs.Reducts.{Has}
use Rattle.lambda.proofs.Contracting.{mates}
use Rattle.lambda.proofs.Parts.{Scoped, Part, part_all, part_body, part_fun, part_arg}
use Rattle.lambda.proofs.Relabels.{relabel}

-- ── a list of places ──

abbrev pub among? : ℕ → List ℕ → Bool
among? p [] = false
among? p (e ∷ es) = eqb p e || among? p es

among_yes : (p : ℕ) (es : List ℕ) → Among p es → among? p es ≡ true
among_yes p [] h = absurd h
among_yes p (e ∷ es) (inl h) = elim (number p e) [ inl i ↦ ap (λ b. b || among? p es) i.1 | inr i ↦ absurd (i.0 h) ]
among_yes p (e ∷ es) (inr h) = let ih = among_yes p es h in go (eqb p e) (among? p es) ih
  where
    go : (a b : Bool) → b ≡ true → a || b ≡ true
    go true b z = refl
    go false b z = z

among_true : (p : ℕ) (es : List ℕ) → among? p es ≡ true → Among p es
among_true p [] h = let z : ◌≡◌ {A = ℕ} 0 1 = cc in absurd (let y : ⊥ = omega arith in y)
among_true p (e ∷ es) h = elim (number p e) [
  | inl i ↦ inl i.0
  | inr i ↦ inr (among_true p es (ap (λ b. b || among? p es) (sym i.1) ∙ h))
]

among_no : (p : ℕ) (es : List ℕ) → (Among p es → ⊥) → among? p es ≡ false
among_no p es h = go (among? p es) refl
  where
    go : (b : Bool) → among? p es ≡ b → among? p es ≡ false
    go true e = absurd (h (among_true p es e))
    go false e = e

among_false : (p : ℕ) (es : List ℕ) → among? p es ≡ false → Among p es → ⊥
among_false p es e h = let f = among_yes p es h in let z : ◌≡◌ {A = ℕ} 0 1 = cc in omega arith

abbrev pub names : (ℕ → ℕ) → List ℕ → List ℕ
names f [] = []
names f (e ∷ es) = f e ∷ names f es

names_in : (f : ℕ → ℕ) (p : ℕ) (es : List ℕ) → Among p es → Among (f p) (names f es)
names_in f p [] h = h
names_in f p (e ∷ es) (inl h) = inl (ap f h)
names_in f p (e ∷ es) (inr h) = inr (names_in f p es h)

names_from : (f : ℕ → ℕ) (r : ℕ) (es : List ℕ) → Among r (names f es) → (p : ℕ) × Among p es × (r ≡ f p)
names_from f r [] h = absurd h
names_from f r (e ∷ es) (inl h) = (e, inl refl, h)
names_from f r (e ∷ es) (inr h) = let i = names_from f r es h in (i.0, inr i.1, i.2)

-- ── reading as a function, at most d deep ──

abbrev map₁ : (Term → Term) → Option Term → Option Term
map₁ f None = None
map₁ f (Some t) = Some (f t)

abbrev map₂ : (Term → Term → Term) → Option Term → Option Term → Option Term
map₂ f None b = None
map₂ f (Some t) None = None
map₂ f (Some t) (Some u) = Some (f t u)

abbrev read_cell : (List ℕ → Spot → Option Term) → List ℕ → ℕ → Bool → Option Term
read_cell rest es p true = Some (var p)
read_cell rest es p false = map₂ (app p) (rest es (port p 0)) (rest es (port p 2))

abbrev enter : (List ℕ → Spot → Option Term) → List ℕ → Spot → Option Term
enter rest es (end k) = Some (item k)
enter rest es (port p zero) = map₁ (lam p) (rest (p ∷ es) (port p 2))
enter rest es (port p (suc zero)) = read_cell rest es p (among? p es)
enter rest es (port p (suc (suc i))) = None

abbrev pub read : (Spot → Spot) → ℕ → List ℕ → Spot → Option Term
read m zero es x = None
read m (suc d) es x = enter (read m d) es (m x)

-- how many symbols
abbrev pub symbols : Term → ℕ
symbols (var p) = 1
symbols (item k) = 1
symbols (lam p b) = suc (symbols b)
symbols (app p f a) = suc (symbols f + symbols a)

pub symbols_size : (v : Term) → symbols v ≤ size v + size v + 1
symbols_size (var p) = omega arith
symbols_size (item k) = omega arith
symbols_size (lam p b) = let i = symbols_size b in omega arith
symbols_size (app p f b) = let i = symbols_size f in let j = symbols_size b in omega arith

pub some_same : (t u : Term) → Some t ≡ Some u → t ≡ u
some_same t u e = cc

module _ (m : Spot → Spot) where
  -- what is read is found by the function
  pub computed : {es : List ℕ} {x : Spot} {t : Term} → Reads m es x t → (d : ℕ) → symbols t ≤ d → read m d es x ≡ Some t
  computed (an_item e) zero h = absurd (let z : ⊥ = omega arith in z)
  computed (an_item {es = es} e) (suc d) h = ap (enter (read m d) es) e
  computed (an_abstraction e r) zero h = absurd (let z : ⊥ = omega arith in z)
  computed (an_abstraction {es = es} {p = p} e r) (suc d) h = ap (enter (read m d) es) e ∙ ap (map₁ (lam p)) (computed r d (omega arith))
  computed (a_variable e i) zero h = absurd (let z : ⊥ = omega arith in z)
  computed (a_variable {es = es} {p = p} e i) (suc d) h = ap (enter (read m d) es) e ∙ ap (read_cell (read m d) es p) (among_yes p es i)
  computed (an_application e i r s) zero h = absurd (let z : ⊥ = omega arith in z)
  computed (an_application {es = es} {p = p} e i r s) (suc d) h =
      ap (enter (read m d) es) e ∙ ap (read_cell (read m d) es p) (among_no p es i)
      ∙ ap₂ (map₂ (app p)) (computed r d (omega arith)) (computed s d (omega arith))

  -- what the function finds is read
  abbrev Sound : (List ℕ → Spot → Option Term) → Type 0
  Sound rest = (es : List ℕ) (x : Spot) (v : Term) → rest es x ≡ Some v → Reads m es x v

  sound_enter : (rest : List ℕ → Spot → Option Term) → Sound rest → (es : List ℕ) (x y : Spot) (v : Term) → m x ≡ y → enter rest es y ≡ Some v → Reads m es x v
  sound_enter rest F es x (end k) v e h = subst (Reads m es x) (some_same (item k) v h) (an_item e)
  sound_enter rest F es x (port p zero) v e h = go (rest (p ∷ es) (port p 2)) refl h
    where
      go : (o : Option Term) → rest (p ∷ es) (port p 2) ≡ o → map₁ (lam p) o ≡ Some v → Reads m es x v
      go None z h = absurd (none_some h)
      go (Some b) z h = subst (Reads m es x) (some_same (lam p b) v h) (an_abstraction e (F (p ∷ es) (port p 2) b z))
  sound_enter rest F es x (port p (suc zero)) v e h = go (among? p es) refl h
    where
      two : (Among p es → ⊥) → (a b : Option Term) → rest es (port p 0) ≡ a → rest es (port p 2) ≡ b → map₂ (app p) a b ≡ Some v → Reads m es x v
      two n None b y z h = absurd (none_some h)
      two n (Some a) None y z h = absurd (none_some h)
      two n (Some a) (Some b) y z h = subst (Reads m es x) (some_same (app p a b) v h) (an_application e n (F es (port p 0) a y) (F es (port p 2) b z))

      go : (b : Bool) → among? p es ≡ b → read_cell rest es p b ≡ Some v → Reads m es x v
      go true z h = subst (Reads m es x) (some_same (var p) v h) (a_variable e (among_true p es z))
      go false z h = two (among_false p es z) (rest es (port p 0)) (rest es (port p 2)) refl refl h
  sound_enter rest F es x (port p (suc (suc i))) v e h = absurd (none_some h)

  pub sound : (d : ℕ) → Sound (read m d)
  sound zero es x v h = absurd (none_some h)
  sound (suc d) es x v h = sound_enter (read m d) (sound d) es x (m x) v refl h

  -- one term is read
  pub one_reading : (es : List ℕ) (x : Spot) (t u : Term) → Reads m es x t → Reads m es x u → t ≡ u
  one_reading es x t u r s =
      let d = symbols t + symbols u in
      some_same t u (sym (computed r d (omega arith)) ∙ computed s d (omega arith))

  -- what is read is scoped, and its links are there
  pub reads_scoped : {es : List ℕ} {x : Spot} {t : Term} → Reads m es x t → Scoped es t
  reads_scoped (an_item e) = tt
  reads_scoped (an_abstraction e r) = reads_scoped r
  reads_scoped (a_variable e i) = i
  reads_scoped (an_application e i r s) = (reads_scoped r, reads_scoped s)

  at_head : (x h : Spot) → m x ≡ h → (u v : Spot) → (u ≡ x) × (v ≡ h) → m u ≡ v
  at_head x h e u v i = ap m i.0 ∙ e ∙ sym i.1

  pub reads_has : {es : List ℕ} {x : Spot} {t : Term} → Reads m es x t → Has m (links x t)
  reads_has (an_item {x = x} {k = k} e) u v (inl i) = at_head x (end k) e u v i
  reads_has (an_item e) u v (inr i) = absurd i
  reads_has (an_abstraction {x = x} {p = p} e r) u v (inl i) = at_head x (port p 0) e u v i
  reads_has (an_abstraction e r) u v (inr i) = reads_has r u v i
  reads_has (a_variable {x = x} {p = p} e _) u v (inl i) = at_head x (port p 1) e u v i
  reads_has (a_variable e _) u v (inr i) = absurd i
  reads_has (an_application {x = x} {p = p} e _ r s) u v (inl i) = at_head x (port p 1) e u v i
  reads_has (an_application {p = p} {f = f} {a = a} e _ r s) u v (inr i) =
      elim (in_either (links (port p 0) f) (links (port p 2) a) u v i) [ inl j ↦ reads_has r u v j | inr j ↦ reads_has s u v j ]

-- ── a net that is alike to that of a linear term reads back as that term, with the places of the net ──

module _ (n : ℕ) (t : Term) (l : Linear n t) (A : Net) (f g : ℕ → ℕ) (al : AlikeBy f g (net n t) A) where
  pub cell_back : (p : ℕ) → 1 ≤ cells p t → g (f p) ≡ p
  cell_back p h = (al.kinds.there p 0 (kind_yes n t p h)).1

  goes : (es : List ℕ) (x : Spot) (v : Term) → Part t es x v → A.mate (carry f x) ≡ carry f (head v)
  goes es x v P =
      let h = mates n t l x (head v) (P.inside x (head v) (inl (refl, refl))) in
      (al.links.there x (λ z. h.2 (sym z ∙ h.0))).0 ∙ ap (carry f) h.0

  abbrev Around : List ℕ → Type 0
  Around es = (p : ℕ) → Among p es → 1 ≤ binds p t

  reads_part : (v : Term) (es : List ℕ) (x : Spot) → Part t es x v → Around es → Reads A.mate (names f es) (carry f x) (relabel f v)
  reads_part (var p) es x P B = a_variable (goes es x (var p) P) (names_in f p es P.scoped)
  reads_part (item k) es x P B = an_item (goes es x (item k) P)
  reads_part (lam p b) es x P B = an_abstraction (goes es x (lam p b) P) (reads_part b (p ∷ es) (port p 2) (part_body t es x p b P) around)
    where
      around : Around (p ∷ es)
      around r (inl e) = let i = P.abss r in let j = one_yes r p e in omega arith
      around r (inr m) = B r m
  reads_part (app p a b) es x P B =
      an_application (goes es x (app p a b) P) fresh (reads_part a es (port p 0) (part_fun t es x p a b P) B) (reads_part b es (port p 2) (part_arg t es x p a b P) B)
    where
      fresh : Among (f p) (names f es) → ⊥
      fresh m =
          let i = names_from f (f p) es m in
          let r = i.0 in
          let c = P.apps p in
          let o = one_yes p p refl in
          let k = B r i.1 in
          let e : p ≡ r = sym (cell_back p (omega arith)) ∙ ap g i.2 ∙ cell_back r (omega arith) in
          let k' : 1 ≤ binds p t = subst (λ s. 1 ≤ binds s t) (sym e) k in
          let q = l.apart p in
          omega arith

  pub reads : Reads A.mate [] (end 0) (relabel f t)
  reads = reads_part t [] (end 0) (part_all n t l) (λ p m. absurd m)
