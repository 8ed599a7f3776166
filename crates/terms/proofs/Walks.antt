-- The steps of a walk over the text of a term.
use Rattle.std.proofs.Common.{◌≡◌, ℕ, ◌+◌, ◌-◌, ◌<◌, ◌≤◌, Bool, true, false, ◌≢◌, List, [], ◌∷◌, ◌++◌, length, get_or, set, take, Decides, sym, ap, ◌∙◌, subst, inl, inr, append_assoc, arith, get_or-set_other, get_or-set_same}
use Rattle.std.specs.List.{ContainsAt as Has}
use Rattle.std.proofs.lemmas.List.{length-append, length-take, length_push}
use Rattle.std.proofs.ByRecursion.{has_append_left, has_push, has_push_cases}
use Rattle.std.proofs.lemmas.Bool.{cases_eq}
use Rattle.terms.specs.Named.{Named, bound, item, lam, app, written}
use Rattle.terms.specs.Bindings.{Meaning, listed, Around, meaning, uses, binders}
use Rattle.terms.specs.Tallying.{Uses, Before, Noted}
use Rattle.terms.specs.Walking.{Later, due, shut, rest, later_uses, later_binders, coming_uses, reading, between, Walk}
use Rattle.terms.specs.declared.tally.Tally.{Tally}
use Rattle.terms.proofs.Fronts.{left, name_at, bound_at, item_at, stands_body, stands_function, stands_argument, stands_close, stands_name, stands_item}
use Rattle.terms.proofs.Wrongs.{name_no_thing}
use Rattle.terms.proofs.Scopes.{held_body, held_function, held_argument, held_close}

before_on : (us : Uses) (p q : ℕ) → p ≤ q → Before us p → Before us q
before_on us p q l b m r h = let k = b m r h in omega arith

before_push : (us : Uses) (m : Meaning) (p q : ℕ) → p < q → Before us p → Before (us ++ (m, p) ∷ []) q
before_push us m p q l b n r h =
    elim (has_push_cases us (m, p) (n, r) h) [
      | inl i ↦ (let k = b n r i in omega arith)
      | inr e ↦ (let s : p ≡ r = ap (λ x. x.1) e in omega arith)
    ]

flag_push : (flags : List Bool) (bs : List ℕ) (p : ℕ) → p < length flags → ((q : ℕ) → q < 8192 → Decides (get_or flags q false) (Has bs q)) →
    (q : ℕ) → q < 8192 → Decides (get_or (set flags p true) q false) (Has (bs ++ p ∷ []) q)
flag_push flags bs p l h q s =
    elim (cases_eq q p) [
      | inl e ↦
          (let t : get_or (set flags p true) q false ≡ true = rw e (rw get_or-set_same) in
          ((λ _. subst (Has (bs ++ p ∷ [])) (sym e) (has_push bs p)), λ _. t))
      | inr d ↦
          (let ne : q ≢ p = d in
          let t : get_or (set flags p true) q false ≡ get_or flags q false = rw get_or-set_other in (
            (λ e. has_append_left bs _ _ ((h q s).0 (sym t ∙ e))),
            λ i. t ∙ elim (has_push_cases bs p q i) [ inl j ↦ (h q s).1 j | inr e ↦ absurd (d (sym e)) ],
          ))
    ]

-- ── the uses to come ──

pub uses_body : (p : ℕ) (es : Around) (n : List ℕ) (b : Named) (zs : List Later) → coming_uses (p + (length n + 2)) (reading ((n, p + 1) ∷ es) b zs) ≡ coming_uses p (reading es (lam n b) zs)
uses_body p es n b zs =
    let a = length-append n (46 ∷ written b) in
    let place : p + (length n + 2) + length (written b) ≡ p + length (written (lam n b)) = omega arith in
    ap (λ x. uses ((n, p + 1) ∷ es) (p + (length n + 2)) b ++ later_uses x zs) place

pub uses_function : (p : ℕ) (es : Around) (f a : Named) (zs : List Later) → coming_uses (p + 1) (reading es f (due es a ∷ zs)) ≡ coming_uses p (reading es (app f a) zs)
uses_function p es f a zs =
    let l₁ = length-append (written f) (32 ∷ (written a ++ 41 ∷ [])) in
    let l₂ = length-append (written a) (41 ∷ []) in
    let here : p + (length (written f) + 2) ≡ p + 1 + length (written f) + 1 = omega arith in
    let after : p + length (written (app f a)) ≡ p + 1 + length (written f) + (length (written a) + 2) = omega arith in
    sym (append_assoc (uses es (p + 1) f) (uses es (p + (length (written f) + 2)) a) (later_uses (p + length (written (app f a))) zs)
    ∙ ap (λ x. uses es (p + 1) f ++ (uses es x a ++ later_uses (p + length (written (app f a))) zs)) here
    ∙ ap (λ x. uses es (p + 1) f ++ (uses es (p + 1 + length (written f) + 1) a ++ later_uses x zs)) after)

pub uses_argument : (p : ℕ) (es : Around) (a : Named) (zs : List Later) → coming_uses (p + 1) (reading es a (shut es ∷ zs)) ≡ coming_uses p (between (due es a ∷ zs))
uses_argument p es a zs =
    let after : p + 1 + length (written a) + 1 ≡ p + (length (written a) + 2) = omega arith in
    ap (λ x. uses es (p + 1) a ++ later_uses x zs) after

module _ (text : List ℕ) (T : Named) (p : ℕ) (around saved : List ℕ) (flags : List Bool) (count : ℕ) (tally : Tally) where
  pub walk_body : (es : Around) (n : List ℕ) (b : Named) (zs : List Later) → p + 1 < length flags →
      Walk text T p around saved flags count tally (reading es (lam n b) zs) →
      Walk text T (p + (length n + 2)) (around ++ (p + 1) ∷ []) saved (set flags (p + 1) true) (count + 1) tally (reading ((n, p + 1) ∷ es) b zs)
  walk_body es n b zs room w =
      let k = left text p (reading es (lam n b) zs) w.stands in
      let a = length-append n (46 ∷ written b) in
      let c = length-append (92 ∷ (n ++ 46 ∷ written b)) (rest zs) in
      let place : p + length (written (lam n b)) ≡ p + (length n + 2) + length (written b) = omega arith in
      let lows = w.low in
      let long = length_push around (p + 1) in
      record {
        us = w.us;
        bs = w.bs ++ (p + 1) ∷ [];
        stands = stands_body text p es ((n, p + 1) ∷ es) n b zs w.stands;
        all_uses = ap (λ x. w.us ++ x) (uses_body p es n b zs) ∙ w.all_uses;
        all_binders =
            append_assoc w.bs ((p + 1) ∷ []) (binders (p + (length n + 2)) b ++ later_binders (p + (length n + 2) + length (written b)) zs)
            ∙ ap (λ x. w.bs ++ ((p + 1) ∷ (binders (p + (length n + 2)) b ++ later_binders x zs))) (sym place) ∙ w.all_binders;
        all_cells = omega (arith, w.all_cells);
        before = before_on w.us p _ (omega arith) w.before;
        tallied = w.tallied;
        flagged = flag_push flags w.bs (p + 1) room w.flagged;
        held = held_body text around saved es n (p + 1) b zs (name_at text p es n b zs w.stands) w.held;
        low = (omega arith, omega arith, omega arith, omega arith);
      }

  pub walk_function : (es : Around) (f a : Named) (zs : List Later) →
      Walk text T p around saved flags count tally (reading es (app f a) zs) →
      Walk text T (p + 1) around (saved ++ length around ∷ []) flags (count + 1) tally (reading es f (due es a ∷ zs))
  walk_function es f a zs w =
      let k = left text p (reading es (app f a) zs) w.stands in
      let lows = w.low in
      let l₁ = length-append (written f) (32 ∷ (written a ++ 41 ∷ [])) in
      let l₂ = length-append (written a) (41 ∷ []) in
      let l₃ = length-append (40 ∷ (written f ++ 32 ∷ (written a ++ 41 ∷ []))) (rest zs) in
      let here : p + (length (written f) + 2) ≡ p + 1 + length (written f) + 1 = omega arith in
      let after : p + length (written (app f a)) ≡ p + 1 + length (written f) + (length (written a) + 2) = omega arith in
      let long = length_push saved (length around) in
      record {
        us = w.us;
        bs = w.bs;
        stands = stands_function text p es f a zs w.stands;
        all_uses = ap (λ x. w.us ++ x) (uses_function p es f a zs) ∙ w.all_uses;
        all_binders =
            sym (ap (λ x. w.bs ++ x) (append_assoc (binders (p + 1) f) (binders (p + (length (written f) + 2)) a) (later_binders (p + length (written (app f a))) zs)
            ∙ ap (λ x. binders (p + 1) f ++ (binders x a ++ later_binders (p + length (written (app f a))) zs)) here
            ∙ ap (λ x. binders (p + 1) f ++ (binders (p + 1 + length (written f) + 1) a ++ later_binders x zs)) after)) ∙ w.all_binders;
        all_cells = omega (arith, w.all_cells);
        before = before_on w.us p _ (omega arith) w.before;
        tallied = w.tallied;
        flagged = w.flagged;
        held = held_function text around saved es f a zs w.held;
        low = (omega arith, omega arith, omega arith, omega arith);
      }

  pub walk_argument : (es : Around) (a : Named) (zs : List Later) (m : ℕ) → m ≡ get_or saved (length saved - 1) 0 →
      Walk text T p around saved flags count tally (between (due es a ∷ zs)) →
      Walk text T (p + 1) (take m around) saved flags count tally (reading es a (shut es ∷ zs))
  walk_argument es a zs m last w =
      let k = left text p (between (due es a ∷ zs)) w.stands in
      let lows = w.low in
      let h = w.held in
      let l₁ = length-append (written a) (41 ∷ rest zs) in
      let long = length-take m around in
      let after : p + (length (written a) + 2) ≡ p + 1 + length (written a) + 1 = omega arith in
      record {
        us = w.us;
        bs = w.bs;
        stands = stands_argument text p es a zs w.stands;
        all_uses = ap (λ x. w.us ++ x) (uses_argument p es a zs) ∙ w.all_uses;
        all_binders = ap (λ x. w.bs ++ (binders (p + 1) a ++ later_binders x zs)) (sym after) ∙ w.all_binders;
        all_cells = w.all_cells;
        before = before_on w.us p _ (omega arith) w.before;
        tallied = w.tallied;
        flagged = w.flagged;
        held = held_argument text around saved es a zs m last h;
        low = (omega arith, omega arith, omega arith, omega arith);
      }

  pub walk_close : (es : Around) (zs : List Later) →
      Walk text T p around saved flags count tally (between (shut es ∷ zs)) →
      Walk text T (p + 1) around (take (length saved - 1) saved) flags count tally (between zs)
  walk_close es zs w =
      let k = left text p (between (shut es ∷ zs)) w.stands in
      let lows = w.low in
      let h = w.held in
      let long = length-take (length saved - 1) saved in
      record {
        us = w.us;
        bs = w.bs;
        stands = stands_close text p es zs w.stands;
        all_uses = w.all_uses;
        all_binders = w.all_binders;
        all_cells = w.all_cells;
        before = before_on w.us p _ (omega arith) w.before;
        tallied = w.tallied;
        flagged = w.flagged;
        held = held_close text around saved es zs h;
        low = (omega arith, omega arith, omega arith, omega arith);
      }

  pub walk_name : (es : Around) (n : List ℕ) (zs : List Later) (new : Tally) → Noted text (meaning n es) p tally new →
      Walk text T p around saved flags count tally (reading es (bound n) zs) →
      Walk text T (p + length n) around saved flags count new (between zs)
  walk_name es n zs new noted w =
      let at = bound_at text p es n zs w.stands in
      let lows = w.low in
      let some = at.word.some in
      let more = noted.counted in
      let none = name_no_thing n es in
      record {
        us = w.us ++ (meaning n es, p) ∷ [];
        bs = w.bs;
        stands = stands_name text p es n zs w.stands;
        all_uses = append_assoc w.us ((meaning n es, p) ∷ []) (later_uses (p + length n) zs) ∙ w.all_uses;
        all_binders = w.all_binders;
        all_cells = omega (arith, w.all_cells);
        before = before_push w.us (meaning n es) p (p + length n) (omega arith) w.before;
        tallied = noted.tallied w.us w.tallied w.before;
        flagged = w.flagged;
        held = w.held.1;
        low = (omega arith, omega arith, omega arith, omega arith);
      }

  pub walk_item : (es : Around) (n : List ℕ) (zs : List Later) (new : Tally) → Noted text (listed n) p tally new →
      Walk text T p around saved flags count tally (reading es (item n) zs) →
      Walk text T (p + length n) around saved flags count new (between zs)
  walk_item es n zs new noted w =
      let at = item_at text p es n zs w.stands in
      let lows = w.low in
      let some = at.word.some in
      let more = noted.counted in
      record {
        us = w.us ++ (listed n, p) ∷ [];
        bs = w.bs;
        stands = stands_item text p es n zs w.stands;
        all_uses = append_assoc w.us ((listed n, p) ∷ []) (later_uses (p + length n) zs) ∙ w.all_uses;
        all_binders = w.all_binders;
        all_cells = omega (arith, w.all_cells);
        before = before_push w.us (listed n) p (p + length n) (omega arith) w.before;
        tallied = noted.tallied w.us w.tallied w.before;
        flagged = w.flagged;
        held = w.held.1;
        low = (omega arith, omega arith, omega arith, omega arith);
      }
