-- The diamond of one step, the grid, and confluence. Assumes nothing.
use Rattle.std.proofs.Common.{◌≡◌, ℕ, ◌+◌, ◌≤◌, ◌≢◌, ◌⊎◌, List, [], ◌∷◌, ◌++◌, length, sym, refl, ap, ◌∙◌, subst, subst₂, inl, inr, arith}
use Rattle.std.specs.List.Sorted.{IsPermutation}
use Rattle.std.proofs.lemmas.List.{append-nil, append_assoc, length-append}
use Rattle.std.proofs.lemmas.List.Sorted.{IsPermutation-refl, IsPermutation-trans, IsPermutation-cons, length_permutation}
use Rattle.calculus.specs.Books.{RuleBook, Laws}
use Rattle.calculus.specs.Nets.{Net, Good, Pair, Active, AtRest}
use Rattle.calculus.specs.Alike.{Alike}
use Rattle.calculus.specs.Rewriting.{Rewriting}
use Rattle.calculus.specs.Reaching.{Step, Reaches, none, step}
use Rattle.calculus.specs.Theorems.{Counterpart, Disjoint, Meeting, Confluent, RestFinal}
use Rattle.calculus.proofs.Rewrite.{sized, rewrite}
use Rattle.calculus.proofs.Leads.{fresh}
use Rattle.calculus.proofs.Places.{at_fresh}
use Rattle.calculus.proofs.Unique.{stays_good_lem}
use Rattle.calculus.proofs.Alikes.{alike_refl, alike_sym, alike_trans}
use Rattle.calculus.proofs.Respects.{active_alike_lem, rest_alike_lem, rewriting_alike_lem, pairs_apart_lem, others_stay_lem, either_order}
use Rattle.calculus.proofs.Shuffles.{first_two, before}

module _ (K : RuleBook) (laws : Laws K) where
  -- one step by rule i
  pub record Goes (i : ℕ) (A B : Net) : Type 0 where
    pub pair : Pair
    pub place : ℕ → ℕ
    pub rewriting : Rewriting K A pair place B
    pub rule : pair.position ≡ i

  good_step : (i : ℕ) (A B : Net) → Good K A → Goes i A B → Good K B
  good_step i A B G s = stays_good_lem K A B s.pair s.place laws G s.rewriting

  put_first : {i : ℕ} {is : List ℕ} {A B C : Net} → Goes i A B → Reaches K is B C → Reaches K (i ∷ is) A C
  put_first {is = is} {A = A} {C = C} s r =
      subst (λ i. Reaches K (i ∷ is) A C) s.rule (step (record { pair = s.pair; place = s.place; rewriting = s.rewriting }) r)

  goes : {A B : Net} (s : Step K A B) → Goes s.pair.position A B
  goes s = record { pair = s.pair; place = s.place; rewriting = s.rewriting; rule = refl }

  -- an active pair rewritten, its new cells in fresh places
  rewritten : (A : Net) (P : Pair) → Good K A → Active K A P → (B : Net) × (place : ℕ → ℕ) × Rewriting K A P place B
  rewritten A P G act = (rewrite K G.finite.0 A P, fresh G.finite.0, at_fresh K laws G.finite.0 A (sized K A G) P act)

  -- a step in an alike net
  carry_step : (i : ℕ) (A A' B : Net) → Good K A → Good K A' → Alike A A' → Goes i A B → (B' : Net) × Goes i A' B' × Alike B B'
  carry_step i A A' B G G' (f, g, al) s =
      let q = active_alike_lem K A A' f g s.pair laws G G' al s.rewriting.active in
      let t = rewritten A' q.0 G' q.2 in (
        t.0,
        record { pair = q.0; place = t.1; rewriting = t.2; rule = q.1.position ∙ s.rule },
        rewriting_alike_lem K A A' B t.0 f g s.pair q.0 s.place t.1 laws G G' al q.1 s.rewriting t.2,
      )

  pub good_reaches : {is : List ℕ} {A B : Net} → Reaches K is A B → Good K A → Good K B
  good_reaches none G = G
  good_reaches (step {A = A} {B = B} s r) G = good_reaches r (stays_good_lem K A B s.pair s.place laws G s.rewriting)

  pub carry_reaches : {is : List ℕ} {A B : Net} → Reaches K is A B → (A' : Net) → Good K A → Good K A' → Alike A A' → (B' : Net) × Reaches K is A' B' × Alike B B'
  carry_reaches none A' G G' al = (A', none, al)
  carry_reaches (step {A = A} {B = B} s r) A' G G' al =
      let t = carry_step s.pair.position A A' B G G' al (goes s) in
      let u = carry_reaches r t.0 (good_step s.pair.position A B G (goes s)) (good_step s.pair.position A' t.0 G' t.1) t.2 in
      (u.0, put_first t.1 u.1, u.2)

  -- one step here and one step there
  abbrev Diamond : ℕ → ℕ → Net → Net → Type 0
  Diamond i j B C = ((i ≡ j) × Alike B C) ⊎ ((D : Net) × (E : Net) × Goes j B D × Goes i C E × Alike D E)

  diamond : (i j : ℕ) (A A' B C : Net) → Good K A → Good K A' → Alike A A' → Goes i A B → Goes j A' C → Diamond i j B C
  diamond i j A A' B C G G' (f, g, al) s t = go (pairs_apart_lem K A' q.0 t.pair laws G' q.2 t.rewriting.active)
    where
      q : (Q : Pair) × Counterpart f s.pair Q × Active K A' Q
      q = active_alike_lem K A A' f g s.pair laws G G' al s.rewriting.active

      GC : Good K C
      GC = good_step j A' C G' t

      GB : Good K B
      GB = good_step i A B G s

      go : (q.0 ≡ t.pair) ⊎ Disjoint q.0 t.pair → Diamond i j B C
      go (inl e) = inl (
        sym s.rule ∙ sym q.1.position ∙ ap (λ P. P.position) e ∙ t.rule,
        rewriting_alike_lem K A A' B C f g s.pair t.pair s.place t.place laws G G' al
            (subst (Counterpart f s.pair) e q.1) s.rewriting t.rewriting,
      )
      go (inr d) =
          let differ : q.0 ≢ t.pair = λ e. d.left_left (ap (λ P. P.left) e) in
          let x = rewritten A' q.0 G' q.2 in
          let X = x.0 in
          let GX = stays_good_lem K A' X q.0 x.1 laws G' x.2 in
          let BX = rewriting_alike_lem K A A' B X f g s.pair q.0 s.place x.1 laws G G' al q.1 s.rewriting x.2 in
          let x₂ = rewritten X t.pair GX (others_stay_lem K A' X q.0 t.pair x.1 laws G' differ x.2 t.rewriting.active) in
          let X₂ = x₂.0 in
          let GX₂ = stays_good_lem K X X₂ t.pair x₂.1 laws GX x₂.2 in
          let e = rewritten C q.0 GC (others_stay_lem K A' C t.pair q.0 t.place laws G' (λ z. differ (sym z)) t.rewriting q.2) in
          let E = e.0 in
          let GE = stays_good_lem K C E q.0 e.1 laws GC e.2 in
          let X₂E = either_order K A' X C X₂ E q.0 t.pair x.1 x₂.1 e.1 t.place laws G' differ x.2 x₂.2 t.rewriting e.2 in
          let m = carry_step j X B X₂ GX GB (alike_sym B X BX) (record { pair = t.pair; place = x₂.1; rewriting = x₂.2; rule = t.rule }) in
          let GD = good_step j B m.0 GB m.1 in
          inr (
            m.0,
            E,
            m.1,
            record { pair = q.0; place = e.1; rewriting = e.2; rule = q.1.position ∙ s.rule },
            alike_trans K m.0 X₂ E GD GE (alike_sym X₂ m.0 m.2) X₂E,
          )

  totals : (is ks js ls : List ℕ) → IsPermutation (is ++ ks) (js ++ ls) → length is + length ks ≡ length js + length ls
  totals is ks js ls h =
      let a = length-append is ks in
      let b = length-append js ls in
      let c = length_permutation (is ++ ks) (js ++ ls) h in
      omega arith

  meeting : (is js : List ℕ) (B B' C C' : Net) (ks ls : List ℕ) → Reaches K ks B C → Reaches K ls B' C' → Alike C C' →
      length ks ≤ length js → length ls ≤ length is → IsPermutation (is ++ ks) (js ++ ls) → Meeting K is js B B'
  meeting is js B B' C C' ks ls r r' al a b h = record {
    goal = C;
    goal' = C';
    more = ks;
    more' = ls;
    reached = r;
    reached' = r';
    alike = al;
    at_most = a;
    at_most' = b;
    totals = totals is ks js ls h;
    same_rules = h;
  }

  -- one step on the one side
  strip : {js : List ℕ} {A' B' : Net} → Reaches K js A' B' → (i : ℕ) (A B : Net) → Good K A → Good K A' → Alike A A' → Goes i A B → Meeting K (i ∷ []) js B B'
  strip (none {A = A'}) i A B G G' al s =
      let t = carry_step i A A' B G G' al s in
      meeting (i ∷ []) [] B A' B t.0 [] (i ∷ []) none (put_first t.1 none) t.2 (omega arith) (omega arith) (IsPermutation-refl (i ∷ []))
  strip (step {A = A'} {B = A''} {C = B'} {is = js} s' r) i A B G G' al s =
      let j = s'.pair.position in
      let GB = good_step i A B G s in
      let GA = good_step j A' A'' G' (goes s') in
      let u : ((k : ℕ) (A₀ B₀ : Net) → Good K A₀ → Good K A'' → Alike A₀ A'' → Goes k A₀ B₀ → Meeting K (k ∷ []) js B₀ B') = strip r in
      elim (diamond i j A A' B A'' G G' al s (goes s')) [
        | inl d ↦ (
            let v = carry_reaches r B GA GB (alike_sym B A'' d.1) in
            meeting (i ∷ []) (j ∷ js) B B' v.0 B' js [] v.1 none (alike_sym B' v.0 v.2) (omega arith) (omega arith)
            (subst (λ k. IsPermutation (i ∷ js) (k ∷ (js ++ []))) d.0 (subst (λ t. IsPermutation (i ∷ js) (i ∷ t)) (sym (append-nil js)) (IsPermutation-refl (i ∷ js)))))
        | inr d ↦ (
            let GD = good_step j B d.0 GB d.2 in
            let GE = good_step i A'' d.1 GA d.3 in
            let m = u i A'' d.1 GA GA (alike_refl A'') d.3 in
            let v = carry_reaches m.reached d.0 GE GD (alike_sym d.0 d.1 d.4) in
            let GV = good_reaches v.1 GD in
            let GM = good_reaches m.reached' (good_reaches r GA) in
            let h = m.same_rules in
            let l = m.at_most in
            meeting (i ∷ []) (j ∷ js) B B' v.0 m.goal' (j ∷ m.more) m.more' (put_first d.2 v.1) m.reached'
            (alike_trans K v.0 m.goal m.goal' GV GM (alike_sym m.goal v.0 v.2) m.alike)
            (omega arith) m.at_most'
            (IsPermutation-trans (i ∷ j ∷ m.more) (j ∷ i ∷ m.more) (j ∷ (js ++ m.more')) (first_two i j m.more) (IsPermutation-cons j (i ∷ m.more) (js ++ m.more') h)))
      ]

  append : {is js : List ℕ} {A B C : Net} → Reaches K is A B → Reaches K js B C → Reaches K (is ++ js) A C
  append none r = r
  append (step s q) r = step s (append q r)

  grid : {is : List ℕ} {A B : Net} → Reaches K is A B → (A' B' : Net) (js : List ℕ) → Good K A → Good K A' → Alike A A' → Reaches K js A' B' → Meeting K is js B B'
  grid (none {A = A}) A' B' js G G' al r =
      let v = carry_reaches r A G' G (alike_sym A A' al) in
      meeting [] js A B' v.0 B' js [] v.1 none (alike_sym B' v.0 v.2) (omega arith) (omega arith)
      (subst (IsPermutation js) (sym (append-nil js)) (IsPermutation-refl js))
  grid (step {A = A} {B = A₁} {C = B} {is = is} s q) A' B' js G G' al r =
      let i = s.pair.position in
      let GA = good_step i A A₁ G (goes s) in
      let m = strip r i A A₁ G G' al (goes s) in
      let n = grid q A₁ m.goal m.more GA GA (alike_refl A₁) m.reached in
      let GB' = good_reaches r G' in
      let GC = good_reaches m.reached GA in
      let GC' = good_reaches m.reached' GB' in
      let v = carry_reaches n.reached' m.goal' GC GC' m.alike in
      let GN = good_reaches n.reached (good_reaches q GA) in
      let GV = good_reaches v.1 GC' in
      let a = m.at_most in
      let b = n.at_most in
      let c = m.at_most' in
      let d = n.at_most' in
      let e = length-append m.more' n.more' in
      let h : IsPermutation (i ∷ (is ++ n.more)) ((i ∷ m.more) ++ n.more') = IsPermutation-cons i (is ++ n.more) (m.more ++ n.more') n.same_rules in
      let k : IsPermutation ((i ∷ m.more) ++ n.more') ((js ++ m.more') ++ n.more') = before n.more' (i ∷ m.more) (js ++ m.more') m.same_rules in
      let o : (js ++ m.more') ++ n.more' ≡ js ++ (m.more' ++ n.more') = append_assoc js m.more' n.more' in
      meeting (i ∷ is) js B B' n.goal v.0 n.more (m.more' ++ n.more') n.reached (append m.reached' v.1)
      (alike_trans K n.goal n.goal' v.0 GN GV n.alike v.2)
      (omega arith) (omega arith)
      (subst (IsPermutation (i ∷ (is ++ n.more))) o (IsPermutation-trans (i ∷ (is ++ n.more)) ((i ∷ m.more) ++ n.more') ((js ++ m.more') ++ n.more') h k))

  -- nothing is reached from a net at rest but itself
  rests : {ks : List ℕ} {B C : Net} → Reaches K ks B C → AtRest K B → (ks ≡ []) × (B ≡ C)
  rests none h = (refl, refl)
  rests (step s r) h = absurd (h s.pair s.rewriting.active)

  no_steps : {ks : List ℕ} {B C : Net} → Reaches K ks B C → length ks ≡ 0 → (ks ≡ []) × (B ≡ C)
  no_steps none e = (refl, refl)
  no_steps (step s r) e = absurd (let z : ⊥ = omega arith in z)

pub confluent : Confluent
confluent K A A' B B' is js laws G G' al r r' = grid K laws r A' B' js G G' al r'

pub rest_final_lem : RestFinal
rest_final_lem K A A' B B' is js laws G G' al r r' rest = record {
  no_longer = let t = m.totals in let n = nothing in omega arith;
  then_rests = λ e. rest_alike_lem K B B' laws GB GB' (now (still e)) rest;
  rests_then = λ h. let t = m.totals in let n = nothing in let l : length m.more' ≡ 0 = ap length (rests K laws m.reached' h).0 in omega arith;
  alike = λ h. now (rests K laws m.reached' h);
  same_rules = λ h. rules (rests K laws m.reached' h).0;
}
  where
    m : Meeting K is js B B'
    m = confluent K A A' B B' is js laws G G' al r r'

    GB : Good K B
    GB = good_reaches K laws r G

    GB' : Good K B'
    GB' = good_reaches K laws r' G'

    done : (m.more ≡ []) × (B ≡ m.goal)
    done = rests K laws m.reached rest

    nothing : length m.more ≡ 0
    nothing = ap length done.0

    still : length js ≡ length is → (m.more' ≡ []) × (B' ≡ m.goal')
    still e = let t = m.totals in let n = nothing in no_steps K laws m.reached' (omega arith)

    now : (m.more' ≡ []) × (B' ≡ m.goal') → Alike B B'
    now t = subst₂ Alike (sym done.1) (sym t.1) m.alike

    rules : m.more' ≡ [] → IsPermutation is js
    rules e = subst₂ IsPermutation (ap (λ t. is ++ t) done.0 ∙ append-nil is) (ap (λ t. js ++ t) e ∙ append-nil js) m.same_rules
