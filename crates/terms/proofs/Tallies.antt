-- What one use more makes of a tally.
use Rattle.std.proofs.Common.{◌≡◌, ℕ, ◌<◌, Bool, true, false, ◌≢◌, List, [], ◌∷◌, ◌++◌, length, get_or, set, Decides, Some, Option, sym, refl, ◌∙◌, subst, inl, inr, arith, get_or-set_other, get_or-set_same}
use Rattle.std.specs.List.{ContainsAt as Has, Any}
use Rattle.std.specs.Option.{option_or}
use Rattle.std.proofs.ByRecursion.{has_append_left, has_push}
use Rattle.std.proofs.lemmas.List.{get_or_at, get_or_append_left, get_or_default, length_push}
use Rattle.std.proofs.lemmas.Bool.{cases_eq, both_ways}
use Rattle.refusals.specs.declared.faults.TextFault.{TextFault}
use Rattle.terms.specs.Letters.{WordAt, ReadAt, capital}
use Rattle.terms.specs.Bindings.{Meaning, variable, listed, nothing}
use Rattle.terms.specs.Tallying.{Uses, FaultOf, Before, Sums, Tallied}
use Rattle.terms.specs.declared.tally.Tally.{Tally}
use Rattle.terms.proofs.Words.{one_reading, word_read}
use Rattle.terms.proofs.Wrongs.{old_or_new, fault_same, fault_again, fault_nothing, things_push}

no : {X : Type 0} → ◌≡◌ {A = ℕ} 0 1 → X
no z = absurd (omega arith)

variable_listed : (p : ℕ) (w : List ℕ) → variable p ≡ listed w → ⊥
variable_listed p w e = let z : ◌≡◌ {A = ℕ} 0 1 = cc in omega arith

variable_nothing : (p : ℕ) → variable p ≡ nothing → ⊥
variable_nothing p e = let z : ◌≡◌ {A = ℕ} 0 1 = cc in omega arith

listed_nothing : (w : List ℕ) → listed w ≡ nothing → ⊥
listed_nothing w e = let z : ◌≡◌ {A = ℕ} 0 1 = cc in omega arith

same_variable : (p r : ℕ) → variable p ≡ variable r → p ≡ r
same_variable p r e = cc

same_listed : (v w : List ℕ) → listed v ≡ listed w → v ≡ w
same_listed v w e = cc

-- the item w stands among the uses
abbrev InUses : Uses → Meaning → Type 0
InUses us m = (q : ℕ) × Has us (m, q)

module _ (us : Uses) (m : Meaning) (q : ℕ) (before : Before us q) where
  in_kept : (n : Meaning) → InUses us n → InUses (us ++ (m, q) ∷ []) n
  in_kept n h = (h.0, has_append_left us _ _ h.1)

  in_old : (n : Meaning) → m ≢ n → InUses (us ++ (m, q) ∷ []) n → InUses us n
  in_old n d h = elim (old_or_new us m q before n h.0 h.1) [ inl i ↦ (h.0, i) | inr e ↦ absurd (d e.0) ]

  flag_kept : (b : Bool) (n : Meaning) → m ≢ n → Decides b (InUses us n) → Decides b (InUses (us ++ (m, q) ∷ []) n)
  flag_kept b n d h = ((λ e. in_kept n (h.0 e)), λ i. h.1 (in_old n d i))

-- what a tally is said to come to, by what it is
pub tallied_by : (text : List ℕ) (us : Uses) (t : Tally) (used : List Bool) (items : List ℕ) (f : Option TextFault) → t.used ≡ used → t.items.items ≡ items → t.fault ≡ f → Sums text us used items f → Tallied text us t
tallied_by text us t used items f u i w h =
    subst (λ x. Sums text us x t.items.items t.fault) (sym u) (subst (λ x. Sums text us used x t.fault) (sym i) (subst (λ x. Sums text us used items x) (sym w) h))

-- a name without an abstraction
pub sums_nothing : (text : List ℕ) (us : Uses) (used : List Bool) (items : List ℕ) (f : Option TextFault) (q : ℕ) → Before us q →
    Sums text us used items f → Sums text (us ++ (nothing, q) ∷ []) used items (option_or f (Some (TextFault.Unbound q)))
sums_nothing text us used items f q before h = record {
  flags = λ p l. flag_kept us nothing q before _ (variable p) (λ e. variable_nothing p (sym e)) (h.flags p l);
  stand = λ k l. let s = h.stand k l in (s.0, has_append_left us _ _ s.1, s.2);
  found = λ w v i. elim (old_or_new us nothing q before (listed w) v i) [ inl j ↦ h.found w v j | inr e ↦ absurd (listed_nothing w (sym e.0)) ];
  counted = let e = things_push us (nothing, q) in omega (arith, h.counted);
  wrong = fault_nothing us q before f h.wrong;
}

module _ (text : List ℕ) (us : Uses) (used : List Bool) (items : List ℕ) (f : Option TextFault) (q : ℕ) (before : Before us q) (h : Sums text us used items f) where
  -- a variable: its flag is set
  sums_variable : (b : ℕ) → b < length used → (g : Option TextFault) → FaultOf (us ++ (variable b, q) ∷ []) g → Sums text (us ++ (variable b, q) ∷ []) (set used b true) items g
  sums_variable b inside g fault = record {
    flags = λ p l. elim (cases_eq p b) [
      | inl e ↦
          (let s : get_or (set used b true) p false ≡ true = rw e (rw get_or-set_same) in
          ((λ _. (q, subst (λ x. Has (us ++ (variable b, q) ∷ []) (variable x, q)) (sym e) (has_push us (variable b, q)))), λ _. s))
      | inr d ↦
          (let ne : p ≢ b = d in
          rw get_or-set_other (flag_kept us (variable b) q before _ (variable p) (λ e. d (sym (same_variable b p e))) (h.flags p l)))
    ];
    stand = λ k l. let s = h.stand k l in (s.0, has_append_left us _ _ s.1, s.2);
    found = λ w v i. elim (old_or_new us (variable b) q before (listed w) v i) [ inl j ↦ h.found w v j | inr e ↦ absurd (variable_listed b w e.0) ];
    counted = let e = things_push us (variable b, q) in omega (arith, h.counted);
    wrong = fault;
  }

  pub sums_variable_new : (b : ℕ) → b < length used → b < 8192 → get_or used b false ≡ false → Sums text (us ++ (variable b, q) ∷ []) (set used b true) items f
  sums_variable_new b inside small new =
      sums_variable b inside f (fault_same us (variable b) q before f (variable_nothing b) (λ p i. both_ways _ new ((h.flags b small).1 (p, i))) h.wrong)

  pub sums_variable_again : (b : ℕ) → b < length used → b < 8192 → get_or used b false ≡ true → Sums text (us ++ (variable b, q) ∷ []) (set used b true) items (option_or f (Some (TextFault.UsedTwice q)))
  sums_variable_again b inside small old =
      let i = (h.flags b small).0 old in
      sums_variable b inside (option_or f (Some (TextFault.UsedTwice q))) (fault_again us (variable b) q before f (variable_nothing b) i.0 i.1 h.wrong)

  -- an item: its place is listed
  sums_item : (w : List ℕ) → WordAt text q capital w → (g : Option TextFault) → FaultOf (us ++ (listed w, q) ∷ []) g → Sums text (us ++ (listed w, q) ∷ []) used (items ++ q ∷ []) g
  sums_item w here g fault = record {
    flags = λ p l. flag_kept us (listed w) q before _ (variable p) (λ e. variable_listed p w (sym e)) (h.flags p l);
    stand = λ k l. elim (cases_eq k (length items)) [
      | inl e ↦
          (let s : get_or (items ++ q ∷ []) k 0 ≡ q = get_or_at items q [] 0 k (sym e) in
          (w, subst (λ x. Has (us ++ (listed w, q) ∷ []) (listed w, x)) (sym s) (has_push us (listed w, q)), subst (λ x. WordAt text x capital w) (sym s) here))
      | inr d ↦
          (let inside : k < length items = omega (arith, length_push items q) in
          let t = h.stand k inside in
          let s : get_or (items ++ q ∷ []) k 0 ≡ get_or items k 0 = get_or_append_left items (q ∷ []) 0 k inside in
          (t.0, subst (λ x. Has (us ++ (listed w, q) ∷ []) (listed t.0, x)) (sym s) (has_append_left us _ _ t.1), subst (λ x. WordAt text x capital t.0) (sym s) t.2))
    ];
    found = λ v p i. elim (old_or_new us (listed w) q before (listed v) p i) [
      | inl j ↦ (let t = h.found v p j in (t.0, omega (arith, t.1, length_push items q), get_or_append_left items (q ∷ []) 0 t.0 t.1 ∙ t.2, t.3))
      | inr e ↦
          (let s : get_or (items ++ q ∷ []) (length items) 0 ≡ q = get_or_at items q [] 0 (length items) refl in
          (length items, omega (arith, length_push items q), s ∙ e.1, subst (λ x. WordAt text x capital v) e.1 (subst (WordAt text q capital) (same_listed w v e.0) here)))
    ];
    counted = let e = things_push us (listed w, q) in omega (arith, h.counted, length_push items q);
    wrong = fault;
  }

  pub sums_item_new : (w : List ℕ) → WordAt text q capital w → (Any (λ p. ReadAt text p capital w) items → ⊥) → Sums text (us ++ (listed w, q) ∷ []) used (items ++ q ∷ []) f
  sums_item_new w here none =
      sums_item w here f
      (fault_same us (listed w) q before f (listed_nothing w)
      (λ p i.
      let t = h.found w p i in
      none (t.0, p, t.1, get_or_default items t.0 p 0 t.1 ∙ t.2, word_read text p capital w t.3)) h.wrong)

  pub sums_item_again : (w : List ℕ) → WordAt text q capital w → Any (λ p. ReadAt text p capital w) items → Sums text (us ++ (listed w, q) ∷ []) used (items ++ q ∷ []) (option_or f (Some (TextFault.UsedTwice q)))
  sums_item_again w here (k, p, l, at, read) =
      let t = h.stand k l in
      let place : get_or items k 0 ≡ p = get_or_default items k 0 p l ∙ at in
      let same : t.0 ≡ w = one_reading text p capital t.0 w (word_read text p capital t.0 (subst (λ x. WordAt text x capital t.0) place t.2)) read in
      sums_item w here (option_or f (Some (TextFault.UsedTwice q)))
      (fault_again us (listed w) q before f (listed_nothing w) (get_or items k 0) (subst (λ x. Has us (listed x, get_or items k 0)) same t.1) h.wrong)
