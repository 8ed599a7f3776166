-- What a walk that has come to the end tells of a text.
use Rattle.std.proofs.Common.{◌≡◌, ℕ, ◌+◌, ◌<◌, ◌≤◌, true, false, ◌⊎◌, List, [], ◌∷◌, ◌++◌, length, get_or, Some, None, Decides, sym, refl, ap, ◌∙◌, subst, inl, inr, arith}
use Rattle.std.specs.List.{ContainsAt as Has}
use Rattle.std.proofs.lemmas.List.{append-nil, length-append}
use Rattle.std.proofs.lemmas.Bool.{both_ways}
use Rattle.refusals.specs.declared.faults.TextFault.{TextFault}
use Rattle.terms.specs.Named.{Named, bound, item, lam, app, written, Spelt, cells, items}
use Rattle.terms.specs.Bindings.{Around, uses, binders, IsUnused, LinearNamed}
use Rattle.terms.specs.Texts.{IsMisused, Reads, Due}
use Rattle.terms.specs.Tallying.{Uses, FaultOf, WrongAs, things, Sums}
use Rattle.terms.specs.Unused.{UnusedFound}
use Rattle.terms.specs.Walking.{between, Walk}
use Rattle.terms.specs.declared.walker.Walker.{Walker}
use Rattle.terms.proofs.Single.{has_append, has_one}
use Rattle.terms.proofs.Wrongs.{name_no_thing}

things-append : (us vs : Uses) → things (us ++ vs) ≡ things us + things vs
things-append [] vs = omega arith
things-append (u ∷ us) vs = let e = things-append us vs in omega arith

things_uses : (t : Named) (es : Around) (p : ℕ) → things (uses es p t) ≡ length (items t)
things_uses (bound w) es p = let e = name_no_thing w es in omega arith
things_uses (item w) es p = refl
things_uses (lam w b) es p = things_uses b _ _
things_uses (app f a) es p =
    let m = things-append (uses es (p + 1) f) (uses es (p + (length (written f) + 2)) a) in
    let x = things_uses f es (p + 1) in
    let y = things_uses a es (p + (length (written f) + 2)) in
    let n = length-append (items f) (items a) in
    omega arith

-- the names of abstractions stand in the text
pub binder_inside : (t : Named) (p q : ℕ) → Has (binders p t) q → (p < q) × (q < p + length (written t))
binder_inside (bound w) p q h = absurd (omega (arith, h.1))
binder_inside (item w) p q h = absurd (omega (arith, h.1))
binder_inside (lam w b) p q h =
    let n = length-append w (46 ∷ written b) in
    elim (has_append ((p + 1) ∷ []) (binders (p + (length w + 2)) b) q h) [
      | inl i ↦ (let e = has_one (p + 1) q i in (omega arith, omega arith))
      | inr i ↦ (let e = binder_inside b (p + (length w + 2)) q i in (omega arith, omega arith))
    ]
binder_inside (app f a) p q h =
    let n = length-append (written f) (32 ∷ (written a ++ 41 ∷ [])) in
    let k = length-append (written a) (41 ∷ []) in
    elim (has_append _ _ _ h) [
      | inl i ↦ (let e = binder_inside f (p + 1) q i in (omega arith, omega arith))
      | inr i ↦ (let e = binder_inside a (p + (length (written f) + 2)) q i in (omega arith, omega arith))
    ]

module _ (text : List ℕ) (T : Named) (spelt : Spelt T) (is : written T ≡ text) (short : length text ≤ 8192) (w : Walker)
    (h : Walk text T (length text) w.around.items w.saved.items w.binders w.cells w.tally (between [])) where
  sums : Sums text (uses [] 0 T) w.tally.used w.tally.items.items w.tally.fault
  sums = subst (λ (u : Uses). Sums text u w.tally.used w.tally.items.items w.tally.fault) (sym (append-nil h.us) ∙ h.all_uses) h.tallied

  flagged : (q : ℕ) → q < 8192 → Decides (get_or w.binders q false) (Has (binders 0 T) q)
  flagged = subst (λ (b : List ℕ). (q : ℕ) → q < 8192 → Decides (get_or w.binders q false) (Has b q)) (sym (append-nil h.bs) ∙ h.all_binders) h.flagged

  pub cells_all : w.cells ≡ cells T
  cells_all = let e = h.all_cells in omega arith

  pub items_all : length w.tally.items.items ≡ length (items T)
  items_all = sums.counted ∙ things_uses T [] 0

  due_as : (f : TextFault) → WrongAs (uses [] 0 T) f → Due text f
  due_as TextFault.TooLong k = absurd k
  due_as (TextFault.Grammar p) k = absurd k
  due_as (TextFault.Unbound p) k = (short, (T, spelt, is, k))
  due_as (TextFault.UsedTwice p) k = (short, (T, spelt, is, k))
  due_as (TextFault.Unused p) k = absurd k
  due_as TextFault.TooLarge k = absurd k

  -- the first wrong use
  pub due_wrong : (f : TextFault) → w.tally.fault ≡ Some f → Due text f
  due_wrong f e = due_as f (subst (FaultOf (uses [] 0 T)) e sums.wrong)

  pub none_wrong : w.tally.fault ≡ None → (q : ℕ) → IsMisused T q → ⊥
  none_wrong e = subst (FaultOf (uses [] 0 T)) e sums.wrong

  used_there : (p : ℕ) → p < 8192 → (Has (binders 0 T) p → get_or w.binders p false ≡ true → get_or w.tally.used p false ≡ true) → IsUnused T p → ⊥
  used_there p l f u =
      let s = (sums.flags p l).0 (f u.0 ((flagged p l).1 u.0)) in
      u.1 s.0 s.1

  -- the first unused variable
  pub due_unused : w.tally.fault ≡ None → (p : ℕ) → UnusedFound w.binders w.tally.used (Some p) → Due text (TextFault.Unused p)
  due_unused e p f = (
    short,
    (
      T,
      spelt,
      is,
      (
        none_wrong e,
        (
          ((flagged p f.0).0 f.1, λ q u. both_ways _ f.2 ((sums.flags p f.0).1 (q, u))),
          λ v l u. let b = f.0 in used_there v (omega arith) (λ _ g. f.3 v l g) u,
        ),
      ),
    ),
  )

  -- a linear term
  pub linear : w.tally.fault ≡ None → UnusedFound w.binders w.tally.used None → LinearNamed T
  linear e f = record {
    closed = λ q u. none_wrong e q (inl u);
    once = λ q u. none_wrong e q (inr u);
    used = λ q u.
        let i = binder_inside T 0 q u.0 in
        let n : length (written T) ≡ length text = ap length is in
        let l : q < 8192 = omega arith in
        used_there q l (λ _ g. f q l g) u;
  }

  pub due_large : LinearNamed T → (63 < length w.tally.items.items) ⊎ (1024 < w.cells) → Due text TextFault.TooLarge
  due_large l m =
      let c = cells_all in
      let i = items_all in
      (short, (T, spelt, is, (l, elim m [ inl x ↦ inl (omega arith) | inr x ↦ inr (omega arith) ])))

  pub reads_all : LinearNamed T → length w.tally.items.items ≤ 63 → w.cells ≤ 1024 → Reads text T
  reads_all l m n =
      let c = cells_all in
      let i = items_all in
      record { short = short; spelt = spelt; written = is; linear = l; small = λ g. elim g [ inl x ↦ omega arith | inr x ↦ omega arith ] }
