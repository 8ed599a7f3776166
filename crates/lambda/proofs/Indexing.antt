-- Terms with indices: alike nets are nets of one term, up to bound names. Assumes nothing.
use Rattle.std.proofs.Common.{◌≡◌, ℕ, suc, ◌+◌, ◌≤◌, true, false, eqb, ◌≢◌, ◌⊎◌, List, [], ◌∷◌, ◌++◌, length, get_or, sym, refl, ap, ◌∙◌, subst, ap₂, inl, inr, arith, length-append}
use Rattle.calculus.specs.Spots.{Spot, end, port}
use Rattle.calculus.specs.Alike.{AlikeBy, Alike}
use Rattle.calculus.specs.Combinators.{combinators}
use Rattle.calculus.proofs.Alikes.{by_id, alike_sym, alike_trans}
use Rattle.lambda.specs.Terms.{Term, var, item, lam, app, size, places, cells, Linear}
use Rattle.lambda.specs.TermNets.{net}
use Rattle.lambda.specs.Indices.{index, abs, apply, before, indexed, Same, many, placed, in_order, upto}
use Rattle.lambda.specs.Reading.{Among}
use Rattle.lambda.specs.Theorems.{OneTerm, TextOrder}
use Rattle.lambda.proofs.Counts.{number, one_yes}
use Rattle.lambda.proofs.Good.{good}
use Rattle.lambda.proofs.Parts.{among, among_is, Scoped, Part, part_all, part_body, part_fun, part_arg}
use Rattle.lambda.proofs.Relabels.{relabel, relabel_linear, relabel_alike}
use Rattle.lambda.proofs.Reading.{names, cell_back, reads, one_reading}

pub relabel_id : (t : Term) → relabel (λ i. i) t ≡ t
relabel_id (var p) = refl
relabel_id (item k) = refl
relabel_id (lam p b) = ap (lam p) (relabel_id b)
relabel_id (app p f a) = ap₂ (app p) (relabel_id f) (relabel_id a)

-- two linear terms with alike nets differ in their places alone
pub unique : (n : ℕ) (t u : Term) → Linear n t → Linear n u → (f g : ℕ → ℕ) → AlikeBy f g (net n t) (net n u) → relabel f t ≡ u
unique n t u lt lu f g al =
    one_reading (net n u).mate [] (end 0) (relabel f t) (relabel (λ i. i) u) (reads n t lt (net n u) f g al) (reads n u lu (net n u) (λ i. i) (λ i. i) (by_id (net n u)))
    ∙ relabel_id u

pub is_among : (p : ℕ) (es : List ℕ) → Among p es → 1 ≤ among p es
is_among p [] h = absurd h
is_among p (e ∷ es) (inl h) = let o = one_yes p e h in omega arith
is_among p (e ∷ es) (inr h) = let i = is_among p es h in omega arith

among_append : (p : ℕ) (xs ys : List ℕ) → among p (xs ++ ys) ≡ among p xs + among p ys
among_append p [] ys = omega arith
among_append p (x ∷ xs) ys = let i = among_append p xs ys in omega arith

order_cells : (p : ℕ) (v : Term) → among p (places v) ≡ cells p v
order_cells p (var r) = refl
order_cells p (item k) = refl
order_cells p (lam r b) = let i = order_cells p b in omega arith
order_cells p (app r f a) = let i = order_cells p f in let j = order_cells p a in let k = among_append p (places f) (places a) in omega arith

pub before_here : (p e : ℕ) (es : List ℕ) → p ≡ e → before p (e ∷ es) ≡ 0
before_here p e es h = elim (number p e) [ inl i ↦ ap (λ b. elim b [ true ↦ 0 | false ↦ suc (before p es) ]) i.1 | inr i ↦ absurd (i.0 h) ]

pub before_later : (p e : ℕ) (es : List ℕ) → p ≢ e → before p (e ∷ es) ≡ suc (before p es)
before_later p e es h = elim (number p e) [ inl i ↦ absurd (h i.0) | inr i ↦ ap (λ b. elim b [ true ↦ 0 | false ↦ suc (before p es) ]) i.1 ]

get_d_before : (f : ℕ → ℕ) (p : ℕ) (es : List ℕ) → Among p es → get_or (names f es) (before p es) 0 ≡ f p
get_d_before f p [] h = absurd h
get_d_before f p (e ∷ es) h = go (number p e) h (get_d_before f p es)
  where
    go : ((p ≡ e) × (eqb p e ≡ true)) ⊎ ((p ≢ e) × (eqb p e ≡ false)) → (p ≡ e) ⊎ Among p es → (Among p es → get_or (names f es) (before p es) 0 ≡ f p) →
        get_or (f e ∷ names f es) (before p (e ∷ es)) 0 ≡ f p
    go (inl i) h ih = ap (λ k. get_or (f e ∷ names f es) k 0) (before_here p e es i.0) ∙ ap f (sym i.0)
    go (inr i) (inl h) ih = absurd (i.0 h)
    go (inr i) (inr h) ih = ap (λ k. get_or (f e ∷ names f es) k 0) (before_later p e es i.0) ∙ ih h

names_id : (es : List ℕ) → names (λ i. i) es ≡ es
names_id [] = refl
names_id (e ∷ es) = ap (λ r. e ∷ r) (names_id es)

-- f numbers the list from c on
abbrev Counts : (ℕ → ℕ) → ℕ → List ℕ → Type 0
Counts f c [] = Unit {0}
Counts f c (p ∷ ps) = (f p ≡ c) × Counts f (suc c) ps

counts_cong : (f g : ℕ → ℕ) (c : ℕ) (ps : List ℕ) → ((p : ℕ) → Among p ps → f p ≡ g p) → Counts f c ps → Counts g c ps
counts_cong f g c [] h k = tt
counts_cong f g c (p ∷ ps) h k = (sym (h p (inl refl)) ∙ k.0, counts_cong f g (suc c) ps (λ r m. h r (inr m)) k.1)

counts_before : (c : ℕ) (ps : List ℕ) → ((p : ℕ) → among p ps ≤ 1) → Counts (λ p. c + before p ps) c ps
counts_before c [] h = tt
counts_before c (q ∷ qs) h = (
  (let e = before_here q q qs refl in omega arith),
  counts_cong (λ p. suc c + before p qs) (λ p. c + before p (q ∷ qs)) (suc c) qs
      (λ p m.
      let n : p ≢ q = λ z. let i = is_among p qs m in let j = h p in let o = one_yes p q z in omega arith in
      let e = before_later p q qs n in
      omega arith)
      (counts_before (suc c) qs (λ p. let i = h p in omega arith)),
)

counts_left : (f : ℕ → ℕ) (c : ℕ) (xs ys : List ℕ) → Counts f c (xs ++ ys) → Counts f c xs
counts_left f c [] ys h = tt
counts_left f c (x ∷ xs) ys h = (h.0, counts_left f (suc c) xs ys h.1)

counts_right : (f : ℕ → ℕ) (c : ℕ) (xs ys : List ℕ) → Counts f c (xs ++ ys) → Counts f (c + length xs) ys
counts_right f c [] ys h = let e : c ≡ c + 0 = omega arith in subst (λ c. Counts f c ys) e h
counts_right f c (x ∷ xs) ys h =
    let e : suc c + length xs ≡ c + suc (length xs) = omega arith in
    subst (λ c. Counts f c ys) e (counts_right f (suc c) xs ys h.1)

many_places : (es : List ℕ) (v : Term) → many (indexed es v) ≡ length (places v)
many_places es (var p) = refl
many_places es (item k) = refl
many_places es (lam p b) = ap suc (many_places (p ∷ es) b)
many_places es (app p f a) =
    let i = many_places es f in
    let j = many_places es a in
    let k = length-append (places f) (places a) in
    ap suc (omega arith)

placed_relabel : (f : ℕ → ℕ) (v : Term) (es : List ℕ) (c : ℕ) → Scoped es v → Counts f c (places v) → placed c (names f es) (indexed es v) ≡ relabel f v
placed_relabel f (var p) es c s k = ap var (get_d_before f p es s)
placed_relabel f (item k) es c s _ = refl
placed_relabel f (lam p b) es c s k =
    ap (λ z. lam z (placed (suc c) (z ∷ names f es) (indexed (p ∷ es) b))) (sym k.0) ∙ ap (lam (f p)) (placed_relabel f b (p ∷ es) (suc c) s k.1)
placed_relabel f (app p a b) es c s k =
    let e : suc c + length (places a) ≡ suc (c + many (indexed es a)) = let i = many_places es a in omega arith in
    ap (λ z. app z (placed (suc c) (names f es) (indexed es a)) (placed (suc (c + many (indexed es a))) (names f es) (indexed es b))) (sym k.0)
    ∙ ap₂ (app (f p)) (placed_relabel f a es (suc c) s.0 (counts_left f (suc c) (places a) (places b) k.1))
    (placed_relabel f b es (suc (c + many (indexed es a))) s.1 (subst (λ c. Counts f c (places b)) e (counts_right f (suc c) (places a) (places b) k.1)))

order_relabel : (f : ℕ → ℕ) (v : Term) → places (relabel f v) ≡ names f (places v)
order_relabel f (var p) = refl
order_relabel f (item k) = refl
order_relabel f (lam p b) = ap (λ r. f p ∷ r) (order_relabel f b)
order_relabel f (app p a b) = ap (λ r. f p ∷ r) (ap₂ ◌++◌ (order_relabel f a) (order_relabel f b) ∙ sym (names_append (places a) (places b)))
  where
    names_append : (xs ys : List ℕ) → names f (xs ++ ys) ≡ names f xs ++ names f ys
    names_append [] ys = refl
    names_append (x ∷ xs) ys = ap (λ r. f x ∷ r) (names_append xs ys)

counts_upto : (f : ℕ → ℕ) (c : ℕ) (ps : List ℕ) → Counts f c ps → names f ps ≡ upto c (length ps)
counts_upto f c [] h = refl
counts_upto f c (p ∷ ps) h = ap₂ (λ x r. x ∷ r) h.0 (counts_upto f (suc c) ps h.1)

module _ (n : ℕ) (t : Term) (l : Linear n t) where
  abbrev f : ℕ → ℕ
  f p = 0 + before p (places t)

  abbrev g : ℕ → ℕ
  g i = get_or (places t) i 0

  counted : Counts f 0 (places t)
  counted = counts_before 0 (places t) (λ p. let a = l.apart p in let b = order_cells p t in omega arith)

  fg : (p : ℕ) → 1 ≤ cells p t → g (f p) ≡ p
  fg p h =
      let m = among_is p (places t) (let b = order_cells p t in omega arith) in
      let e : f p ≡ before p (places t) = omega arith in
      ap g e ∙ ap (λ es. get_or es (before p (places t)) 0) (sym (names_id (places t))) ∙ get_d_before (λ i. i) p (places t) m

  numbered : relabel f t ≡ placed 0 [] (indexed [] t)
  numbered = sym (placed_relabel f t [] 0 (part_all n t l).scoped counted)

  pub linear_placed : Linear n (placed 0 [] (indexed [] t))
  linear_placed = subst (Linear n) numbered (relabel_linear n t l f g fg)

  pub order_placed : places (placed 0 [] (indexed [] t)) ≡ upto 0 (length (places t))
  order_placed = ap places (sym numbered) ∙ order_relabel f t ∙ counts_upto f 0 (places t) counted

  pub alike_placed : Alike (net n t) (net n (placed 0 [] (indexed [] t)))
  alike_placed = subst (λ u. Alike (net n t) (net n u)) numbered (f, g, relabel_alike n t l f g fg)

before_names : (f g : ℕ → ℕ) (p : ℕ) (es : List ℕ) → g (f p) ≡ p → ((e : ℕ) → Among e es → g (f e) ≡ e) → before (f p) (names f es) ≡ before p es
before_names f g p [] h k = refl
before_names f g p (e ∷ es) h k = elim (number p e) [
  | inl i ↦ before_here (f p) (f e) (names f es) (ap f i.0) ∙ sym (before_here p e es i.0)
  | inr i ↦ before_later (f p) (f e) (names f es) (λ z. i.0 (sym h ∙ ap g z ∙ k e (inl refl))) ∙ ap suc (before_names f g p es h (λ e m. k e (inr m))) ∙ sym (before_later p e es i.0)
]

module _ (t : Term) (f g : ℕ → ℕ) (back : (p : ℕ) → 1 ≤ cells p t → g (f p) ≡ p) where
  indexed_relabel : (v : Term) (es : List ℕ) (x : Spot) → Part t es x v → ((e : ℕ) → Among e es → g (f e) ≡ e) → indexed (names f es) (relabel f v) ≡ indexed es v
  indexed_relabel (var p) es x P h = ap index (before_names f g p es (h p P.scoped) h)
  indexed_relabel (item k) es x P h = refl
  indexed_relabel (lam p b) es x P h = ap abs (indexed_relabel b (p ∷ es) (port p 2) (part_body t es x p b P) around)
    where
      around : (e : ℕ) → Among e (p ∷ es) → g (f e) ≡ e
      around e (inl z) = back e (let i = P.abss e in let o = one_yes e p z in omega arith)
      around e (inr m) = h e m
  indexed_relabel (app p a b) es x P h =
      ap₂ apply (indexed_relabel a es (port p 0) (part_fun t es x p a b P) h) (indexed_relabel b es (port p 2) (part_arg t es x p a b P) h)

pub same_of : (n : ℕ) (t u : Term) → Linear n t → Linear n u → Alike (net n t) (net n u) → Same t u
same_of n t u lt lu (f, g, al) =
    sym (indexed_relabel t f g (cell_back n t lt (net n u) f g al) t [] (end 0) (part_all n t lt) (λ e m. absurd m)) ∙ ap (indexed []) (unique n t u lt lu f g al)

-- a relabelled term is the same term
pub same_relabel : (n : ℕ) (t : Term) → Linear n t → (f g : ℕ → ℕ) → ((p : ℕ) → 1 ≤ cells p t → g (f p) ≡ p) → Same t (relabel f t)
same_relabel n t l f g back = sym (indexed_relabel t f g back t [] (end 0) (part_all n t l) (λ e m. absurd m))

pub alike_of : (n : ℕ) (t u : Term) → Linear n t → Linear n u → Same t u → Alike (net n t) (net n u)
alike_of n t u lt lu e =
    alike_trans combinators (net n t) (net n (in_order t)) (net n u) (good n t lt) (good n u lu) (alike_placed n t lt)
    (subst (λ b. Alike (net n (placed 0 [] b)) (net n u)) (sym e) (alike_sym (net n u) (net n (in_order u)) (alike_placed n u lu)))

pub one_term_lem : OneTerm
one_term_lem n t u lt lu = record { alike = alike_of n t u lt lu; same = same_of n t u lt lu }

places_size : (t : Term) → size t ≡ length (places t)
places_size (var p) = refl
places_size (item k) = refl
places_size (lam p b) = ap suc (places_size b)
places_size (app p f a) = let i = places_size f in let j = places_size a in let k = length-append (places f) (places a) in ap suc (omega arith)

pub text_order_lem : TextOrder
text_order_lem n t l = record {
  linear = linear_placed n t l;
  order = order_placed n t l ∙ ap (upto 0) (sym (places_size t));
  same = same_of n t (in_order t) l (linear_placed n t l) (alike_placed n t l);
  alike = alike_placed n t l;
}
