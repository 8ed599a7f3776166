-- What the flags of a scanner say of the open applications.
use Rattle.std.proofs.Common.{◌≡◌, ℕ, ◌+◌, ◌-◌, ◌<◌, ◌≤◌, Bool, true, false, not, eqb, ltb, ◌&&◌, List, [], ◌∷◌, ◌++◌, length, get_or, take, drop, slice_set, Some, None, Option, IsSome, is_some, sym, refl, ap, ◌∙◌, inl, inr, arith}
use Rattle.std.specs.List.{slice_get, refill}
use Rattle.std.proofs.lemmas.List.{append-nil, append_cancel_right, get_or_at, length_push, length-set, take_all, take_at, take_more}
use Rattle.std.proofs.lemmas.Grind.{take-set_at}
use Rattle.std.proofs.lemmas.Option.{slice_get_cases}
use Rattle.std.proofs.lemmas.Bool.{both_ways, cond_both}
use Rattle.std.specs.Option.{option_eq, option_to_list}
use mathlib.Core.Bool.{beq}
use Rattle.terms.specs.Letters.{letter, small, capital}
use Rattle.terms.specs.Named.{Named, bound, item, lam, app}
use Rattle.terms.specs.Scanning.{Frame, function, argument, body, State, want, binder, name, thing, done, stuck, spaced, closed, ended, followed, step, run, opened, flags}

no_end : (ys : List Bool) (v : Bool) → [] ≡ ys ++ v ∷ [] → ⊥
no_end ys v e = let l : 0 ≡ length (ys ++ v ∷ []) = ap length e in let m = length_push ys v in omega arith

same_end : (xs ys : List Bool) (u v : Bool) → xs ++ u ∷ [] ≡ ys ++ v ∷ [] → u ≡ v
same_end xs ys u v e =
    let l : length (xs ++ u ∷ []) ≡ length (ys ++ v ∷ []) = ap length e in
    let long : length ys ≡ length xs = omega (arith, length_push xs u, length_push ys v) in
    sym (get_or_at xs u [] false (length xs) refl) ∙ ap (λ (r : List Bool). get_or r (length xs) false) e ∙ get_or_at ys v [] false (length xs) long

pub not_true : (b : Bool) → not b ≡ true → b ≡ false
not_true true e = sym e
not_true false e = refl

pub not_false : (b : Bool) → not b ≡ false → b ≡ true
not_false true e = refl
not_false false e = sym e

-- what is taken from the end of a list of flags, and what is not
pub popped : (xs ys : List Bool) (r : Option Bool) (v : Bool) → xs ≡ ys ++ option_to_list r → option_eq beq r (Some v) ≡ true → xs ≡ ys ++ v ∷ []
popped xs ys None v e h = absurd (both_ways _ refl h)
popped xs ys (Some true) true e h = e
popped xs ys (Some true) false e h = absurd (both_ways _ refl h)
popped xs ys (Some false) true e h = absurd (both_ways _ refl h)
popped xs ys (Some false) false e h = e

pub not_popped : (xs ys zs : List Bool) (r : Option Bool) (v : Bool) → (0 < length xs → IsSome r) → xs ≡ ys ++ option_to_list r → option_eq beq r (Some v) ≡ false → xs ≡ zs ++ v ∷ [] → ⊥
not_popped xs ys zs None v some e h z =
    let l : length xs ≡ length (zs ++ v ∷ []) = ap length z in
    both_ways false refl (some (omega (arith, length_push zs v)))
not_popped xs ys zs (Some true) true some e h z = both_ways true h refl
not_popped xs ys zs (Some true) false some e h z = both_ways true (same_end ys zs true false (sym e ∙ z)) refl
not_popped xs ys zs (Some false) true some e h z = both_ways false refl (same_end ys zs false true (sym e ∙ z))
not_popped xs ys zs (Some false) false some e h z = both_ways true h refl

-- what stands in the last place of a list of flags, and what is left when that is written
pub last_place : (xs : List Bool) (r : Option Bool) → r ≡ slice_get xs (length xs - 1) → (xs ≡ take (length xs - 1) xs ++ option_to_list r) × (0 < length xs → IsSome r)
last_place xs r e =
    elim (slice_get_cases xs (length xs - 1)).1 [
      | inl h ↦
          let is : r ≡ Some h.0 = e ∙ h.2 in
          let all : take (length xs - 1 + 1) xs ≡ xs = take_all (length xs - 1 + 1) xs (omega arith) in
          let parts : xs ≡ take (length xs - 1) xs ++ h.0 ∷ [] = sym all ∙ take_more xs (length xs - 1) h.0 h.1 ∙ ap (λ (b : Bool). take (length xs - 1) xs ++ b ∷ []) h.3 in
          (parts ∙ ap (λ (o : Option Bool). take (length xs - 1) xs ++ option_to_list o) (sym is), (λ _. ap is_some is))
      | inr h ↦
          let is : r ≡ None = e ∙ h.1 in
          let all : take (length xs - 1) xs ≡ xs = take_all (length xs - 1) xs h.0 in
          (sym (append-nil xs) ∙ ap (λ (ys : List Bool). ys ++ []) (sym all) ∙ ap (λ (o : Option Bool). take (length xs - 1) xs ++ option_to_list o) (sym is), (λ l. absurd (omega arith)))
    ]

pub last_set : (xs ds : List Bool) (m : ℕ) (v : Bool) → ds ≡ xs → m ≡ length xs - 1 → 0 < length xs → refill (length xs) xs (slice_set ds m v) ≡ take (length xs - 1) xs ++ v ∷ []
last_set xs ds m v e i l =
    let ws : List Bool = slice_set xs (length xs - 1) v in
    let long : length ws ≡ length xs = length-set xs (length xs - 1) v in
    let same : slice_set ds m v ≡ ws = cc in
    ap (refill (length xs) xs) same ∙ take_at ws (drop (length ws) xs) (length xs) long ∙ sym (take_all (length xs) ws (omega arith)) ∙ take-set_at xs (length xs - 1) (length xs) v (omega arith) (omega arith)

-- where the innermost open application has no function read, a space goes on to its argument
pub spaced_goes : (t : Named) (ks : List Frame) (ys : List Bool) → flags ks ≡ ys ++ false ∷ [] → (u : Named) × (js : List Frame) × (spaced t ks ≡ want (argument u ∷ js)) × (ys ≡ flags js)
spaced_goes t [] ys e = absurd (no_end ys false e)
spaced_goes t (function ∷ ks) ys e = (t, ks, refl, sym (append_cancel_right (flags ks) ys (false ∷ []) e))
spaced_goes t (argument f ∷ ks) ys e = absurd (both_ways true (same_end (flags ks) ys true false e) refl)
spaced_goes t (body w ∷ ks) ys e = spaced_goes (lam w t) ks ys e

pub spaced_stuck : (t : Named) (ks : List Frame) → ((ys : List Bool) → flags ks ≡ ys ++ false ∷ [] → ⊥) → spaced t ks ≡ stuck
spaced_stuck t [] n = refl
spaced_stuck t (function ∷ ks) n = absurd (n (flags ks) refl)
spaced_stuck t (argument f ∷ ks) n = refl
spaced_stuck t (body w ∷ ks) n = spaced_stuck (lam w t) ks n

-- where it has its function read, a bracket closes it
pub closed_goes : (t : Named) (ks : List Frame) (ys : List Bool) → flags ks ≡ ys ++ true ∷ [] → (u : Named) × (js : List Frame) × (closed t ks ≡ done u js) × (ys ≡ flags js)
closed_goes t [] ys e = absurd (no_end ys true e)
closed_goes t (function ∷ ks) ys e = absurd (both_ways false refl (same_end (flags ks) ys false true e))
closed_goes t (argument f ∷ ks) ys e = (app f t, ks, refl, sym (append_cancel_right (flags ks) ys (true ∷ []) e))
closed_goes t (body w ∷ ks) ys e = closed_goes (lam w t) ks ys e

pub closed_stuck : (t : Named) (ks : List Frame) → ((ys : List Bool) → flags ks ≡ ys ++ true ∷ [] → ⊥) → closed t ks ≡ stuck
closed_stuck t [] n = refl
closed_stuck t (function ∷ ks) n = refl
closed_stuck t (argument f ∷ ks) n = absurd (n (flags ks) refl)
closed_stuck t (body w ∷ ks) n = closed_stuck (lam w t) ks n

-- where no application is open, the text may end
pub ended_some : (t : Named) (ks : List Frame) → length (flags ks) ≡ 0 → (u : Named) × (ended t ks ≡ Some u)
ended_some t [] z = (t, refl)
ended_some t (function ∷ ks) z = absurd (omega (arith, length_push (flags ks) false))
ended_some t (argument f ∷ ks) z = absurd (omega (arith, length_push (flags ks) true))
ended_some t (body w ∷ ks) z = ended_some (lam w t) ks z

pub ended_none : (t : Named) (ks : List Frame) → (length (flags ks) ≡ 0 → ⊥) → ended t ks ≡ None
ended_none t [] z = absurd (z refl)
ended_none t (function ∷ ks) z = refl
ended_none t (argument f ∷ ks) z = refl
ended_none t (body w ∷ ks) z = ended_none (lam w t) ks z

-- ── each byte opens at most one application ──

abbrev depth : State → ℕ
depth s = length (flags (opened s))

depth_spaced : (t : Named) (ks : List Frame) → depth (spaced t ks) ≤ length (flags ks)
depth_spaced t [] = omega arith
depth_spaced t (function ∷ ks) = omega (arith, length_push (flags ks) false, length_push (flags ks) true)
depth_spaced t (argument f ∷ ks) = omega arith
depth_spaced t (body w ∷ ks) = depth_spaced (lam w t) ks

depth_closed : (t : Named) (ks : List Frame) → depth (closed t ks) ≤ length (flags ks)
depth_closed t [] = omega arith
depth_closed t (function ∷ ks) = omega arith
depth_closed t (argument f ∷ ks) = omega (arith, length_push (flags ks) true)
depth_closed t (body w ∷ ks) = depth_closed (lam w t) ks

depth_followed : (t : Named) (ks : List Frame) (b : ℕ) → depth (followed t ks b) ≤ length (flags ks) + 1
depth_followed t ks b =
    let P : State → Type 0 = λ s. depth s ≤ length (flags ks) + 1 in
    let one = depth_spaced t ks in
    let two = depth_closed t ks in
    cond_both (eqb b 32) _ _ P (λ _. omega arith) (λ _. cond_both (eqb b 41) _ _ P (λ _. omega arith) (λ _. omega arith))

depth_step : (s : State) (b : ℕ) → depth (step s b) ≤ depth s + 1
depth_step (want ks) b =
    let P : State → Type 0 = λ s. depth s ≤ length (flags ks) + 1 in
    let more = length_push (flags ks) false in
    cond_both (eqb b 92) _ _ P (λ _. omega arith)
    (λ _.
    cond_both (eqb b 40) _ _ P (λ _. omega arith)
    (λ _. cond_both (letter small b) _ _ P (λ _. omega arith) (λ _. cond_both (letter capital b) _ _ P (λ _. omega arith) (λ _. omega arith))))
depth_step (binder w ks) b =
    let P : State → Type 0 = λ s. depth s ≤ length (flags ks) + 1 in
    cond_both (letter small b) _ _ P
    (λ _. cond_both (ltb (length w) 8) _ _ P (λ _. omega arith) (λ _. omega arith))
    (λ _. cond_both (eqb b 46 && ltb 0 (length w)) _ _ P (λ _. omega arith) (λ _. omega arith))
depth_step (name w ks) b =
    let P : State → Type 0 = λ s. depth s ≤ length (flags ks) + 1 in
    cond_both (letter small b) _ _ P (λ _. cond_both (ltb (length w) 8) _ _ P (λ _. omega arith) (λ _. omega arith)) (λ _. depth_followed (bound w) ks b)
depth_step (thing w ks) b =
    let P : State → Type 0 = λ s. depth s ≤ length (flags ks) + 1 in
    cond_both (letter capital b) _ _ P (λ _. cond_both (ltb (length w) 8) _ _ P (λ _. omega arith) (λ _. omega arith)) (λ _. depth_followed (item w) ks b)
depth_step (done t ks) b = depth_followed t ks b
depth_step stuck b = omega arith

depth_run : (xs : List ℕ) (s : State) → depth (run s xs) ≤ depth s + length xs
depth_run [] s = omega arith
depth_run (x ∷ xs) s = let one = depth_step s x in let more = depth_run xs (step s x) in omega arith

pub open_most : (xs : List ℕ) → length (flags (opened (run (want []) xs))) ≤ length xs
open_most xs = let all = depth_run xs (want []) in omega arith
