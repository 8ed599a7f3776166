-- Rewriting, active pairs and rest respect alikeness; different pairs commute. Assumes nothing.
use Rattle.std.proofs.Common.{◌≡◌, ℕ, ◌+◌, ◌<◌, ◌≤◌, ◌≢◌, ◌⊎◌, sym, refl, ap, ◌∙◌, subst, inl, inr, arith}
use Rattle.std.proofs.lemmas.Bool.{cases_lt}
use Rattle.calculus.specs.Spots.{port}
use Rattle.calculus.specs.Books.{RuleBook, RuleLaws, Laws}
use Rattle.calculus.specs.Nets.{Net, Good, Pair, Active}
use Rattle.calculus.specs.Alike.{AlikeBy, Alike}
use Rattle.calculus.specs.Rewriting.{Rewriting}
use Rattle.calculus.specs.Theorems.{AlikeEquivalence, ActiveAlike, RestAlike, RewritingAlike, Disjoint, PairsApart, OthersStay, EitherOrder}
use Rattle.calculus.proofs.Wiring.{number}
use Rattle.calculus.proofs.Rewrite.{Sized, Facing, sized, facing, rewrite, two, left_small, right_small, sized_after}
use Rattle.calculus.proofs.Places.{to, from, settled, settled_alike, settles_as, to_low}
use Rattle.calculus.proofs.Unique.{free_of, one_result_lem, stays_good_lem}
use Rattle.calculus.proofs.Alikes.{by_back, alike_refl, alike_sym, alike_trans}
use Rattle.calculus.proofs.Carried.{seat, image, image_alike, sides, sides_alike}
use Rattle.calculus.proofs.Cross.{disjoint_back, stays_facing, cross}

pub equivalence : AlikeEquivalence
equivalence = record { itself = alike_refl; back = alike_sym; on = alike_trans }

-- a result of rewriting is the spliced net, renumbered; what stood in A and stays keeps its place
pub canonical : (K : RuleBook) (A B : Net) (P : Pair) (place : ℕ → ℕ) (n : ℕ) → Laws K → Sized K n A → Rewriting K A P place B →
    (f : ℕ → ℕ) × (g : ℕ → ℕ) × AlikeBy f g (rewrite K n A P) B × ((r : ℕ) → r < n → f r ≡ r)
canonical K A B P place n laws G w =
    let free = free_of K A B P place w in
    let e = one_result_lem K laws A G.good P w.active place (settled K laws n A G P w.active place free) B (settles_as K laws n A G P w.active place free) w in (
      to K laws n A G P w.active place free,
      from K laws n A G P w.active place free,
      subst (AlikeBy (to K laws n A G P w.active place free) (from K laws n A G P w.active place free) (rewrite K n A P)) e (settled_alike K laws n A G P w.active place free),
      to_low K laws n A G P w.active place free,
    )

pub spliced : (K : RuleBook) (A B : Net) (P : Pair) (place : ℕ → ℕ) (n : ℕ) → Laws K → Sized K n A → Rewriting K A P place B → Alike (rewrite K n A P) B
spliced K A B P place n laws G w = let t = canonical K A B P place n laws G w in (t.0, t.1, t.2)

-- a pair that faces, in the order that makes it active
pub ordered : (K : RuleBook) (A : Net) (P : Pair) (n : ℕ) → Laws K → Sized K n A → Facing K A P →
    (Q : Pair) × Active K A Q × (Q.position ≡ P.position) × (Q.rule ≡ P.rule)
    × (((Q.left ≡ P.left) × (Q.right ≡ P.right)) ⊎ ((P.rule.left ≡ P.rule.right) × (Q.left ≡ P.right) × (Q.right ≡ P.left)))
ordered K A P n laws G act = go (number P.rule.left P.rule.right) (cases_lt P.left P.right)
  where
    straight : (P.rule.left ≡ P.rule.right → P.left < P.right) →
        (Q : Pair) × Active K A Q × (Q.position ≡ P.position) × (Q.rule ≡ P.rule)
        × (((Q.left ≡ P.left) × (Q.right ≡ P.right)) ⊎ ((P.rule.left ≡ P.rule.right) × (Q.left ≡ P.right) × (Q.right ≡ P.left)))
    straight f = (P, record { listed = act.listed; left = act.left; right = act.right; facing = act.facing; first = f }, refl, refl, inl (refl, refl))

    go : (P.rule.left ≡ P.rule.right) ⊎ (P.rule.left ≢ P.rule.right) → (P.left < P.right) ⊎ (P.right ≤ P.left) →
        (Q : Pair) × Active K A Q × (Q.position ≡ P.position) × (Q.rule ≡ P.rule)
        × (((Q.left ≡ P.left) × (Q.right ≡ P.right)) ⊎ ((P.rule.left ≡ P.rule.right) × (Q.left ≡ P.right) × (Q.right ≡ P.left)))
    go (inr n) h = straight (λ e. absurd (n e))
    go (inl e) (inl h) = straight (λ z. h)
    go (inl e) (inr h) =
        let t = sides K laws n A G P act e in
        let o = two K laws n A G P act in (
          seat P P.right P.left,
          record { listed = t.listed; left = t.left; right = t.right; facing = t.facing; first = λ z. omega arith },
          refl,
          refl,
          inr (e, refl, refl),
        )

pub active_alike_lem : ActiveAlike
active_alike_lem K A A' f g P laws G G' al act =
    let n = G.finite.0 in
    let t = ordered K A' (seat P (f P.left) (f P.right)) G'.finite.0 laws (sized K A' G') (image K laws n G'.finite.0 A A' (sized K A G) (sized K A' G') P (facing K A P act) f g al) in
    (t.0, record { position = t.2; rule = t.3; cells = t.4 }, t.1)

pub rest_alike_lem : RestAlike
rest_alike_lem K A A' laws G G' (f, g, al) rest Q act = let t = active_alike_lem K A' A g f Q laws G' G (by_back al) act in rest t.0 t.2

-- pairs with the same parts are the same
pub same_pair : (P Q : Pair) → P.left ≡ Q.left → P.right ≡ Q.right → P.position ≡ Q.position → P.rule ≡ Q.rule → P ≡ Q
same_pair P Q a b c d = λ i. record { left = a i; right = b i; position = c i; rule = d i }

pub rewriting_alike_lem : RewritingAlike
rewriting_alike_lem K A A' B B' f g P Q place place' laws G G' al cp w w' = go cp.cells
  where
    n : ℕ
    n = G.finite.0

    n' : ℕ
    n' = G'.finite.0

    S : Sized K n A
    S = sized K A G

    S' : Sized K n' A'
    S' = sized K A' G'

    act : Facing K A P
    act = facing K A P w.active

    P' : Pair
    P' = seat P (f P.left) (f P.right)

    im : Facing K A' P'
    im = image K laws n n' A A' S S' P act f g al

    GB : Good K B
    GB = stays_good_lem K A B P place laws G w

    GB' : Good K B'
    GB' = stays_good_lem K A' B' Q place' laws G' w'

    -- the image of P rewritten is B
    first : Alike B (rewrite K n' A' P')
    first = alike_trans K B (rewrite K n A P) (rewrite K n' A' P') GB (sized_after K laws n' A' S' P' im).good
        (alike_sym (rewrite K n A P) B (spliced K A B P place n laws S w)) (image_alike K laws n n' A A' S S' P act f g al)

    last : Alike (rewrite K n' A' Q) B'
    last = spliced K A' B' Q place' n' laws S' w'

    done : Alike (rewrite K n' A' P') (rewrite K n' A' Q) → Alike B B'
    done m = alike_trans K B (rewrite K n' A' P') B' GB GB' first
        (alike_trans K (rewrite K n' A' P') (rewrite K n' A' Q) B' (sized_after K laws n' A' S' P' im).good GB' m last)

    go : ((Q.left ≡ f P.left) × (Q.right ≡ f P.right)) ⊎ ((P.rule.left ≡ P.rule.right) × (Q.left ≡ f P.right) × (Q.right ≡ f P.left)) → Alike B B'
    go (inl (a, b)) =
        let e : P' ≡ Q = same_pair P' Q (sym a) (sym b) (sym cp.position) (sym cp.rule) in
        done (subst (λ Q. Alike (rewrite K n' A' P') (rewrite K n' A' Q)) e (alike_refl (rewrite K n' A' P')))
    go (inr (s, a, b)) =
        let e : seat P (f P.right) (f P.left) ≡ Q = same_pair (seat P (f P.right) (f P.left)) Q (sym a) (sym b) (sym cp.position) (sym cp.rule) in
        done (subst (λ Q. Alike (rewrite K n' A' P') (rewrite K n' A' Q)) e (sides_alike K laws n' A' S' P' im s))

pub pairs_apart_lem : PairsApart
pairs_apart_lem K A P Q laws G a b = go (number P.left Q.left) (number P.left Q.right)
  where
    r_p : RuleLaws K P.rule
    r_p = laws.rules P.position P.rule a.listed

    r_q : RuleLaws K Q.rule
    r_q = laws.rules Q.position Q.rule b.listed

    f_p : A.mate (port P.right 0) ≡ port P.left 0
    f_p = let i = G.twice in ap A.mate (sym a.facing) ∙ i (port P.left 0)

    f_q : A.mate (port Q.right 0) ≡ port Q.left 0
    f_q = let i = G.twice in ap A.mate (sym b.facing) ∙ i (port Q.left 0)

    one : P.left ≡ Q.left → P ≡ Q
    one e =
        let f₁ = a.facing in
        let f₂ = b.facing in
        let er : P.right ≡ Q.right = cc in
        let k₁ = a.left in
        let k₂ = b.left in
        let k₃ = a.right in
        let k₄ = b.right in
        let el : P.rule.left ≡ Q.rule.left = cc in
        let eq : P.rule.right ≡ Q.rule.right = cc in
        let ep = laws.single P.position Q.position P.rule Q.rule a.listed b.listed el eq in
        let n₁ = a.listed in
        let n₂ = b.listed in
        let ew : P.rule ≡ Q.rule = cc in
        same_pair P Q e er ep ew

    never : P.left ≡ Q.right → ⊥
    never e =
        let f₁ = a.facing in
        let f₂ = f_q in
        let er : P.right ≡ Q.left = cc in
        let k₁ = a.left in
        let k₂ = b.left in
        let k₃ = a.right in
        let k₄ = b.right in
        let el : P.rule.left ≡ Q.rule.right = cc in
        let eq : P.rule.right ≡ Q.rule.left = cc in
        let o₁ = r_p.order in
        let o₂ = r_q.order in
        let s₁ = a.first (omega arith) in
        let s₂ = b.first (omega arith) in
        omega arith

    go : (P.left ≡ Q.left) ⊎ (P.left ≢ Q.left) → (P.left ≡ Q.right) ⊎ (P.left ≢ Q.right) → (P ≡ Q) ⊎ Disjoint P Q
    go (inl e) s = inl (one e)
    go (inr n) (inl e) = absurd (never e)
    go (inr n) (inr m) =
        let f₁ = a.facing in
        let f₂ = b.facing in
        let f₃ = f_p in
        let f₄ = f_q in
        inr (record { left_left = n; left_right = m; right_left = λ z. m (cc); right_right = λ z. n (cc) })

-- different active pairs share no cell
pub disjoint : (K : RuleBook) (A : Net) (P Q : Pair) → Laws K → Good K A → Active K A P → Active K A Q → P ≢ Q → Disjoint P Q
disjoint K A P Q laws G a b n = elim (pairs_apart_lem K A P Q laws G a b) [ inl e ↦ absurd (n e) | inr d ↦ d ]

-- the pair Q of A, in a result of rewriting P
module _ (K : RuleBook) (A B : Net) (P Q : Pair) (place : ℕ → ℕ) (n : ℕ) (laws : Laws K) (G : Sized K n A) (d : Disjoint P Q)
    (w : Rewriting K A P place B) (act : Facing K A Q) where
  c : (f : ℕ → ℕ) × (g : ℕ → ℕ) × AlikeBy f g (rewrite K n A P) B × ((r : ℕ) → r < n → f r ≡ r)
  c = canonical K A B P place n laws G w

  fp : Facing K A P
  fp = facing K A P w.active

  S₁ : Sized K (n + 6) (rewrite K n A P)
  S₁ = sized_after K laws n A G P fp

  GB : Good K B
  GB = stays_good_lem K A B P place laws G.good w

  there : Facing K (rewrite K n A P) Q
  there = stays_facing K laws n A G P Q fp act (disjoint_back P Q d)

  home : seat Q (c.0 Q.left) (c.0 Q.right) ≡ Q
  home = same_pair (seat Q (c.0 Q.left) (c.0 Q.right)) Q (c.3 Q.left (left_small K laws n A G Q act)) (c.3 Q.right (right_small K laws n A G Q act)) refl refl

  pub still_facing : Facing K B Q
  still_facing = subst (Facing K B) home (image K laws (n + 6) GB.finite.0 (rewrite K n A P) B S₁ (sized K B GB) Q there c.0 c.1 c.2)

  pub still_alike : (m : ℕ) → Sized K m B → Alike (rewrite K (n + 6) (rewrite K n A P) Q) (rewrite K m B Q)
  still_alike m S =
      subst (λ R. Alike (rewrite K (n + 6) (rewrite K n A P) Q) (rewrite K m B R)) home
      (image_alike K laws (n + 6) m (rewrite K n A P) B S₁ S Q there c.0 c.1 c.2)

pub others_stay_lem : OthersStay
others_stay_lem K A B P Q place laws G n w act =
    let d = disjoint K A P Q laws G w.active act n in
    let f = still_facing K A B P Q place G.finite.0 laws (sized K A G) d w (facing K A Q act) in
    record { listed = f.listed; left = f.left; right = f.right; facing = f.facing; first = act.first }

-- one rewriting after another, as splices
two_steps : (K : RuleBook) (A B D : Net) (P Q : Pair) (p q : ℕ → ℕ) (n : ℕ) → Laws K → Sized K n A → Disjoint P Q → Active K A Q →
    Rewriting K A P p B → Rewriting K B Q q D → Alike (rewrite K (n + 6) (rewrite K n A P) Q) D
two_steps K A B D P Q p q n laws G d act w v =
    let GB = stays_good_lem K A B P p laws G.good w in
    let GD = stays_good_lem K B D Q q laws GB v in
    let S = sized K B GB in
    let m = GB.finite.0 in
    let fp = facing K A P w.active in
    let fq = facing K A Q act in
    alike_trans K (rewrite K (n + 6) (rewrite K n A P) Q) (rewrite K m B Q) D
    (sized_after K laws (n + 6) (rewrite K n A P) (sized_after K laws n A G P fp) Q (stays_facing K laws n A G P Q fp fq (disjoint_back P Q d))).good GD
    (still_alike K A B P Q p n laws G d w fq m S) (spliced K B D Q q m laws S v)

pub either_order : EitherOrder
either_order K A B C D E P Q p q p' q' laws G n w v w' v' =
    let S = sized K A G in
    let m = G.finite.0 in
    let d = disjoint K A P Q laws G w.active w'.active n in
    let d' = disjoint_back P Q d in
    let fp = facing K A P w.active in
    let fq = facing K A Q w'.active in
    let GD = stays_good_lem K B D Q q laws (stays_good_lem K A B P p laws G w) v in
    let GE = stays_good_lem K C E P p' laws (stays_good_lem K A C Q q' laws G w') v' in
    let X = rewrite K (m + 6) (rewrite K m A P) Q in
    let Y = rewrite K (m + 6) (rewrite K m A Q) P in
    let GX = (sized_after K laws (m + 6) (rewrite K m A P) (sized_after K laws m A S P fp) Q (stays_facing K laws m A S P Q fp fq d')).good in
    alike_trans K D X E GD GE (alike_sym X D (two_steps K A B D P Q p q m laws S d w'.active w v))
    (alike_trans K X Y E GX GE (cross K laws m A S P Q fp fq d') (two_steps K A C E Q P q' p' m laws S d' w.active w' v'))
