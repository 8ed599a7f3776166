-- The first wrong use, as uses are added.
use Rattle.std.proofs.Common.{◌≡◌, ℕ, ◌+◌, ◌<◌, ◌≤◌, ◌≢◌, ◌⊎◌, List, [], ◌∷◌, ◌++◌, Some, None, Option, refl, sym, ap, subst, inl, inr, arith}
use Rattle.std.specs.List.{ContainsAt as Has}
use Rattle.std.specs.Option.{option_or}
use Rattle.std.proofs.ByRecursion.{has_push_cases, has_append_left, has_push}
use Rattle.std.specs.Str.{bytes_eq}
use Rattle.std.proofs.lemmas.Bool.{cases_lt, cond_both}
use Rattle.refusals.specs.declared.faults.TextFault.{TextFault}
use Rattle.terms.specs.Bindings.{Meaning, variable, nothing, Around, meaning}
use Rattle.terms.specs.Texts.{First}
use Rattle.terms.specs.Tallying.{Uses, AgainIn, WrongIn, WrongAs, FaultOf, Before, things, one_thing}

module _ (us : Uses) (m : Meaning) (q : ℕ) (before : Before us q) where
  abbrev more : Uses
  more = us ++ (m, q) ∷ []

  -- a use of the longer list is the new one, or stands before it
  pub old_or_new : (n : Meaning) (p : ℕ) → Has more (n, p) → Has us (n, p) ⊎ ((m ≡ n) × (q ≡ p))
  old_or_new n p h = elim (has_push_cases us (m, q) (n, p) h) [ inl i ↦ inl i | inr e ↦ inr (ap (λ r. r.0) e, ap (λ r. r.1) e) ]

  old_one : (n : Meaning) (p : ℕ) → p < q → Has more (n, p) → Has us (n, p)
  old_one n p l h = elim (old_or_new n p h) [ inl i ↦ i | inr e ↦ (let z = e.1 in absurd (omega arith)) ]

  wrong_before : (v : ℕ) → v < q → WrongIn more v → WrongIn us v
  wrong_before v l (inl h) = inl (old_one nothing v l h)
  wrong_before v l (inr a) = inr (a.0, a.1, a.2, old_one a.0 a.1 (omega (arith, a.4)) a.3, a.4, old_one a.0 v l a.5)

  wrong_kept : (v : ℕ) → WrongIn us v → WrongIn more v
  wrong_kept v (inl h) = inl (has_append_left us _ _ h)
  wrong_kept v (inr a) = inr (a.0, a.1, a.2, has_append_left us _ _ a.3, a.4, has_append_left us _ _ a.5)

  wrong_place : (v : ℕ) → WrongIn us v → v < q
  wrong_place v (inl h) = before nothing v h
  wrong_place v (inr a) = before a.0 v a.5

  first_kept : (v : ℕ) → First (WrongIn us) v → First (WrongIn more) v
  first_kept v h = let l = wrong_place v h.0 in (wrong_kept v h.0, λ p s w. h.1 p s (wrong_before p (omega arith) w))

  -- a fault stays the first one
  pub fault_kept : (f : TextFault) → WrongAs us f → WrongAs more f
  fault_kept TextFault.TooLong h = h
  fault_kept (TextFault.Grammar p) h = h
  fault_kept (TextFault.Unbound p) h = (first_kept p h.0, has_append_left us _ _ h.1)
  fault_kept (TextFault.UsedTwice p) h =
      let a = h.1 in
      (first_kept p h.0, (a.0, a.1, a.2, has_append_left us _ _ a.3, a.4, has_append_left us _ _ a.5))
  fault_kept (TextFault.Unused p) h = h
  fault_kept TextFault.TooLarge h = h

  first_new : ((v : ℕ) → WrongIn us v → ⊥) → WrongIn more q → First (WrongIn more) q
  first_new none w = (w, λ p l v. none p (wrong_before p l v))

  -- the first use of a variable or an item is not wrong
  none_same : m ≢ nothing → ((p : ℕ) → Has us (m, p) → ⊥) → ((v : ℕ) → WrongIn us v → ⊥) → (v : ℕ) → WrongIn more v → ⊥
  none_same n new h v w = elim (cases_lt v q) [ inl l ↦ h v (wrong_before v l w) | inr l ↦ late l w ]
    where
      late : q ≤ v → WrongIn more v → ⊥
      late l (inl k) = elim (old_or_new nothing v k) [ inl i ↦ h v (inl i) | inr e ↦ n e.0 ]
      late l (inr a) =
          elim (old_or_new a.0 v a.5) [
            | inl i ↦ (let b = before a.0 v i in omega arith)
            | inr e ↦
                (let s = e.1 in
                new a.1 (subst (λ x. Has us (x, a.1)) (sym e.0) (old_one a.0 a.1 (omega (arith, a.4)) a.3)))
          ]

  pub fault_same : (f : Option TextFault) → m ≢ nothing → ((p : ℕ) → Has us (m, p) → ⊥) → FaultOf us f → FaultOf more f
  fault_same (Some f) n new h = fault_kept f h
  fault_same None n new h = none_same n new h

  -- a further use is
  pub fault_again : (f : Option TextFault) → m ≢ nothing → (p : ℕ) → Has us (m, p) → FaultOf us f → FaultOf more (option_or f (Some (TextFault.UsedTwice q)))
  fault_again (Some f) n p u h = fault_kept f h
  fault_again None n p u h =
      let a : AgainIn more q = (m, p, n, has_append_left us _ _ u, before m p u, has_push us (m, q)) in
      (first_new h (inr a), a)

-- and so is a name without an abstraction
pub fault_nothing : (us : Uses) (q : ℕ) → Before us q → (f : Option TextFault) → FaultOf us f → FaultOf (us ++ (nothing, q) ∷ []) (option_or f (Some (TextFault.Unbound q)))
fault_nothing us q before (Some f) h = fault_kept us nothing q before f h
fault_nothing us q before None h =
    let u = has_push us (nothing, q) in
    (first_new us nothing q before h (inl u), u)

pub things_push : (us : Uses) (u : Meaning × ℕ) → things (us ++ u ∷ []) ≡ things us + things (u ∷ [])
things_push [] u = omega arith
things_push (v ∷ us) u = let e = things_push us u in omega arith

-- a name means no item
pub name_no_thing : (w : List ℕ) (es : Around) → one_thing (meaning w es) ≡ 0
name_no_thing w [] = refl
name_no_thing w (e ∷ es) = cond_both (bytes_eq w e.0) (variable e.1) (meaning w es) (λ m. one_thing m ≡ 0) (λ _. refl) (λ _. name_no_thing w es)
