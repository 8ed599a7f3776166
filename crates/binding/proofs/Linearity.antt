-- A linear term with names stands for a linear term without names. Assumes nothing.
use Rattle.std.proofs.Common.{◌≡◌, ℕ, zero, suc, ◌+◌, ◌<◌, ◌≤◌, Bool, true, false, cond, ◌≢◌, ◌⊎◌, List, [], ◌∷◌, ◌++◌, length, get_or, sym, refl, ap, ◌∙◌, subst, inl, inr, arith}
use Rattle.std.specs.List.{ContainsAt as Has}
use Rattle.std.specs.Str.{bytes_eq}
use Rattle.std.proofs.ByRecursion.{has_append_left, has_append_right, has_get_or}
use Rattle.std.proofs.lemmas.List.{length-append}
use Rattle.std.proofs.lemmas.Slice.Eq.{bytes_eq-Decides}
use Rattle.std.proofs.lemmas.Bool.{cases_lt, cases_Bool, cases_order, cond-true, cond-false, both_ways}
use Rattle.lambda.specs.Terms.{one, stands, binds, Once}
use Rattle.lambda.specs.Terms.{uses as uses_of}
use Rattle.lambda.proofs.Counts.{number, one_yes, one_no}
use Rattle.terms.specs.Named.{Named, bound, item, lam, app, written, cells, items}
use Rattle.terms.specs.Bindings.{Meaning, variable, Around, meaning, uses, binders, place_of, rank_of, placed_under, term_under}
use Rattle.terms.proofs.Outcomes.{binder_inside}
use Rattle.binding.specs.Theorems.{LinearTerms, OwnItems}
use Rattle.binding.proofs.Counting.{has_cons, has_first, has_later, total, total_append, of_variable, of_item, of_nothing, same_yes, variable_once, item_once, all_bound}
use Rattle.binding.proofs.Places.{placed_outside, placed_inside}

-- ── variables ──

-- the variable q of one numbering of the abstractions around is the variable r of another one
abbrev Agree : Around → Around → ℕ → ℕ → Type 0
Agree es fs q r = (w : List ℕ) → of_nothing (meaning w es) ≡ 0 → of_variable q (meaning w es) ≡ one r (place_of w fs)

-- the numbers of the abstractions around are low
abbrev Low : Around → Around → ℕ → ℕ → Type 0
Low es fs p c = (w : List ℕ) → of_nothing (meaning w es) ≡ 0 → ((q : ℕ) → p < q → of_variable q (meaning w es) ≡ 0) × (place_of w fs < c)

low_on : (es fs : Around) (p c s d : ℕ) → p ≤ s → c ≤ d → Low es fs p c → Low es fs s d
low_on es fs p c s d l m h w n = let k = h w n in ((λ q i. k.0 q (omega arith)), omega (arith, k.1))

low_under : (es fs : Around) (p c : ℕ) (v : List ℕ) → Low es fs p c → Low ((v, p + 1) ∷ es) ((v, c) ∷ fs) (p + (length v + 2)) (suc c)
low_under es fs p c v h w = go (bytes_eq w v) (meaning w es) (place_of w fs) (h w)
  where
    go : (b : Bool) (m : Meaning) (k : ℕ) → (of_nothing m ≡ 0 → ((q : ℕ) → p < q → of_variable q m ≡ 0) × (k < c)) → of_nothing (cond b (variable (p + 1)) m) ≡ 0 →
        ((q : ℕ) → p + (length v + 2) < q → of_variable q (cond b (variable (p + 1)) m) ≡ 0) × (cond b c k < suc c)
    go true m k i n = ((λ q l. one_no q (p + 1) (λ e. omega arith)), omega arith)
    go false m k i n = let j = i n in ((λ q l. j.0 q (omega arith)), omega (arith, j.1))

agree_under : (es fs : Around) (p c q r : ℕ) (v : List ℕ) → q ≤ p → r < c → Agree es fs q r → Agree ((v, p + 1) ∷ es) ((v, c) ∷ fs) q r
agree_under es fs p c q r v l less h w = go (bytes_eq w v) (meaning w es) (place_of w fs) (h w)
  where
    go : (b : Bool) (m : Meaning) (k : ℕ) → (of_nothing m ≡ 0 → of_variable q m ≡ one r k) → of_nothing (cond b (variable (p + 1)) m) ≡ 0 → of_variable q (cond b (variable (p + 1)) m) ≡ one r (cond b c k)
    go true m k i n = one_no q (p + 1) (λ e. omega arith) ∙ sym (one_no r c (λ e. omega arith))
    go false m k i n = i n

agree_here : (es fs : Around) (p c : ℕ) (v : List ℕ) → Low es fs p c → Agree ((v, p + 1) ∷ es) ((v, c) ∷ fs) (p + 1) c
agree_here es fs p c v h w = go (bytes_eq w v) (meaning w es) (place_of w fs) (h w)
  where
    go : (b : Bool) (m : Meaning) (k : ℕ) → (of_nothing m ≡ 0 → ((q : ℕ) → p < q → of_variable q m ≡ 0) × (k < c)) → of_nothing (cond b (variable (p + 1)) m) ≡ 0 →
        of_variable (p + 1) (cond b (variable (p + 1)) m) ≡ one c (cond b c k)
    go true m k i n = one_yes (p + 1) (p + 1) refl ∙ sym (one_yes c c refl)
    go false m k i n = let j = i n in j.0 (p + 1) (omega arith) ∙ sym (one_no c k (λ e. omega (arith, j.1)))

-- a variable that no name around means, and whose abstraction is not in the term, is not used in it
absent : (t : Named) (es : Around) (p q : ℕ) → ((w : List ℕ) → of_nothing (meaning w es) ≡ 0 → of_variable q (meaning w es) ≡ 0) → (q ≤ p) ⊎ (p + length (written t) ≤ q) →
    total of_nothing (uses es p t) ≡ 0 → total (of_variable q) (uses es p t) ≡ 0
absent (bound w) es p q h s n = let k = h w (omega arith) in omega arith
absent (item w) es p q h s n = refl
absent (lam v b) es p q h s n =
    absent b ((v, p + 1) ∷ es) (p + (length v + 2)) q (λ w. go (bytes_eq w v) (meaning w es) (h w)) (later s) n
  where
    off : q ≢ p + 1
    off e = let m = length-append v (46 ∷ written b) in elim s [ inl l ↦ omega arith | inr l ↦ omega arith ]

    go : (c : Bool) (m : Meaning) → (of_nothing m ≡ 0 → of_variable q m ≡ 0) → of_nothing (cond c (variable (p + 1)) m) ≡ 0 → of_variable q (cond c (variable (p + 1)) m) ≡ 0
    go true m i k = one_no q (p + 1) off
    go false m i k = i k

    later : (q ≤ p) ⊎ (p + length (written (lam v b)) ≤ q) → (q ≤ p + (length v + 2)) ⊎ (p + (length v + 2) + length (written b) ≤ q)
    later (inl l) = inl (omega arith)
    later (inr l) = let m = length-append v (46 ∷ written b) in inr (omega arith)
absent (app f a) es p q h s n =
    let m = total_append of_nothing (uses es (p + 1) f) (uses es (p + (length (written f) + 2)) a) in
    let k = total_append (of_variable q) (uses es (p + 1) f) (uses es (p + (length (written f) + 2)) a) in
    let x = absent f es (p + 1) q h (first s) (omega arith) in
    let y = absent a es (p + (length (written f) + 2)) q h (second s) (omega arith) in
    omega arith
  where
    first : (q ≤ p) ⊎ (p + length (written (app f a)) ≤ q) → (q ≤ p + 1) ⊎ (p + 1 + length (written f) ≤ q)
    first (inl l) = inl (omega arith)
    first (inr l) = let m = length-append (written f) (32 ∷ (written a ++ 41 ∷ [])) in inr (omega arith)

    second : (q ≤ p) ⊎ (p + length (written (app f a)) ≤ q) → (q ≤ p + (length (written f) + 2)) ⊎ (p + (length (written f) + 2) + length (written a) ≤ q)
    second (inl l) = inl (omega arith)
    second (inr l) = let m = length-append (written f) (32 ∷ (written a ++ 41 ∷ [])) in let k = length-append (written a) (41 ∷ []) in inr (omega arith)

module _ (is : List (List ℕ)) where
  -- a variable is used as often as its name is
  counted : (t : Named) (es fs : Around) (p c q r : ℕ) → Agree es fs q r → q ≤ p → r < c → total of_nothing (uses es p t) ≡ 0 →
      total (of_variable q) (uses es p t) ≡ uses_of r (placed_under is c fs t)
  counted (bound w) es fs p c q r h l m n = let k = h w (omega arith) in omega arith
  counted (item w) es fs p c q r h l m n = refl
  counted (lam v b) es fs p c q r h l m n =
      counted b ((v, p + 1) ∷ es) ((v, c) ∷ fs) (p + (length v + 2)) (suc c) q r (agree_under es fs p c q r v l m h) (omega arith) (omega arith) n
  counted (app f a) es fs p c q r h l m n =
      let i = total_append of_nothing (uses es (p + 1) f) (uses es (p + (length (written f) + 2)) a) in
      let k = total_append (of_variable q) (uses es (p + 1) f) (uses es (p + (length (written f) + 2)) a) in
      let x = counted f es fs (p + 1) (suc c) q r h (omega arith) (omega arith) (omega arith) in
      let y = counted a es fs (p + (length (written f) + 2)) (suc (c + cells f)) q r h (omega arith) (omega arith) (omega arith) in
      omega arith

  once : (t : Named) (es fs : Around) (p c : ℕ) → Low es fs p c → total of_nothing (uses es p t) ≡ 0 → ((q : ℕ) → Has (binders p t) q → total (of_variable q) (uses es p t) ≡ 1) → Once (placed_under is c fs t)
  once (bound w) es fs p c l n h = tt
  once (item w) es fs p c l n h = tt
  once (lam v b) es fs p c l n h = (
    sym (counted b ((v, p + 1) ∷ es) ((v, c) ∷ fs) (p + (length v + 2)) (suc c) (p + 1) c (agree_here es fs p c v l) (omega arith) (omega arith) n)
        ∙ h (p + 1) (has_first (p + 1) (binders (p + (length v + 2)) b)),
    once b ((v, p + 1) ∷ es) ((v, c) ∷ fs) (p + (length v + 2)) (suc c) (low_under es fs p c v l) n (λ q i. h q (has_later (p + 1) _ q i)),
  )
  once (app f a) es fs p c l n h = (
    once f es fs (p + 1) (suc c) (low_on es fs p c _ _ (omega arith) (omega arith) l) (omega (arith, bound_parts)) in_function,
    once a es fs (p + (length (written f) + 2)) (suc (c + cells f)) (low_on es fs p c _ _ (omega arith) (omega arith) l) (omega (arith, bound_parts)) in_argument,
  )
    where
      pa : ℕ
      pa = p + (length (written f) + 2)

      bound_parts : total of_nothing (uses es (p + 1) f ++ uses es (p + (length (written f) + 2)) a) ≡ total of_nothing (uses es (p + 1) f) + total of_nothing (uses es (p + (length (written f) + 2)) a)
      bound_parts = total_append of_nothing (uses es (p + 1) f) (uses es (p + (length (written f) + 2)) a)

      free : (q : ℕ) → p < q → (w : List ℕ) → of_nothing (meaning w es) ≡ 0 → of_variable q (meaning w es) ≡ 0
      free q m w k = (l w k).0 q m

      in_function : (q : ℕ) → Has (binders (p + 1) f) q → total (of_variable q) (uses es (p + 1) f) ≡ 1
      in_function q i =
          let b = binder_inside f (p + 1) q i in
          let k = total_append (of_variable q) (uses es (p + 1) f) (uses es (p + (length (written f) + 2)) a) in
          let x = h q (has_append_left (binders (p + 1) f) (binders (p + (length (written f) + 2)) a) q i) in
          let y = absent a es (p + (length (written f) + 2)) q (free q (omega arith)) (inl (omega arith)) (omega (arith, bound_parts)) in
          omega arith

      in_argument : (q : ℕ) → Has (binders (p + (length (written f) + 2)) a) q → total (of_variable q) (uses es (p + (length (written f) + 2)) a) ≡ 1
      in_argument q i =
          let b = binder_inside a (p + (length (written f) + 2)) q i in
          let k = total_append (of_variable q) (uses es (p + 1) f) (uses es (p + (length (written f) + 2)) a) in
          let x = h q (has_append_right (binders (p + 1) f) (binders (p + (length (written f) + 2)) a) q i) in
          let y = absent f es (p + 1) q (free q (omega arith)) (inr (omega arith)) (omega (arith, bound_parts)) in
          omega arith

  -- a variable is used as often as it is bound, unless it is that of an abstraction around
  closed : (t : Named) (es fs : Around) (p c r : ℕ) → ((w : List ℕ) → of_nothing (meaning w es) ≡ 0 → place_of w fs ≢ r) → total of_nothing (uses es p t) ≡ 0 →
      Once (placed_under is c fs t) → uses_of r (placed_under is c fs t) ≡ binds r (placed_under is c fs t)
  closed (bound w) es fs p c r h n o = one_no r (place_of w fs) (λ e. h w (omega arith) (sym e))
  closed (item w) es fs p c r h n o = refl
  closed (lam v b) es fs p c r h n o = elim (number r c) [
    | inl e ↦ (
        let z = e.0 in
        let y = one_yes r c e.0 in
        let x = subst (λ k. uses_of k (placed_under is (suc c) ((v, c) ∷ fs) b) ≡ 1) (sym e.0) o.0 in
        let i = placed_outside is b (suc c) ((v, c) ∷ fs) r (inl (omega arith)) in
        omega arith)
    | inr e ↦ (
        let y = one_no r c e.0 in
        let i = closed b ((v, p + 1) ∷ es) ((v, c) ∷ fs) (p + (length v + 2)) (suc c) r (λ w. go e.0 (bytes_eq w v) (meaning w es) (place_of w fs) (h w)) n o.1 in
        omega arith)
  ]
    where
      go : r ≢ c → (d : Bool) (m : Meaning) (k : ℕ) → (of_nothing m ≡ 0 → k ≢ r) → of_nothing (cond d (variable (p + 1)) m) ≡ 0 → cond d c k ≢ r
      go ne true m k i j e = ne (sym e)
      go ne false m k i j e = i j e
  closed (app f a) es fs p c r h n o =
      let i = total_append of_nothing (uses es (p + 1) f) (uses es (p + (length (written f) + 2)) a) in
      let x = closed f es fs (p + 1) (suc c) r h (omega arith) o.0 in
      let y = closed a es fs (p + (length (written f) + 2)) (suc (c + cells f)) r h (omega arith) o.1 in
      omega arith

-- ── items ──

-- how often an item stands in a list, and how often one that has number k
abbrev pub copies : List ℕ → List (List ℕ) → ℕ
copies w [] = 0
copies w (v ∷ ws) = cond (bytes_eq w v) 1 0 + copies w ws

abbrev numbered : List (List ℕ) → ℕ → List (List ℕ) → ℕ
numbered is k [] = 0
numbered is k (v ∷ ws) = one k (suc (rank_of v is)) + numbered is k ws

copies_append : (w : List ℕ) (xs ys : List (List ℕ)) → copies w (xs ++ ys) ≡ copies w xs + copies w ys
copies_append w [] ys = omega arith
copies_append w (x ∷ xs) ys = let h = copies_append w xs ys in omega arith

numbered_append : (is : List (List ℕ)) (k : ℕ) (xs ys : List (List ℕ)) → numbered is k (xs ++ ys) ≡ numbered is k xs + numbered is k ys
numbered_append is k [] ys = omega arith
numbered_append is k (x ∷ xs) ys = let h = numbered_append is k xs ys in omega arith

name_no_item : (w v : List ℕ) (es : Around) → of_item w (meaning v es) ≡ 0
name_no_item w v [] = refl
name_no_item w v (e ∷ es) = go (bytes_eq v e.0) (meaning v es) (name_no_item w v es)
  where
    go : (b : Bool) (m : Meaning) → of_item w m ≡ 0 → of_item w (cond b (variable e.1) m) ≡ 0
    go true m h = refl
    go false m h = h

item_uses : (w : List ℕ) (t : Named) (es : Around) (p : ℕ) → total (of_item w) (uses es p t) ≡ copies w (items t)
item_uses w (bound v) es p = let h = name_no_item w v es in omega arith
item_uses w (item v) es p = refl
item_uses w (lam v b) es p = item_uses w b ((v, p + 1) ∷ es) (p + (length v + 2))
item_uses w (app f a) es p =
    let h = total_append (of_item w) (uses es (p + 1) f) (uses es (p + (length (written f) + 2)) a) in
    let k = copies_append w (items f) (items a) in
    let x = item_uses w f es (p + 1) in
    let y = item_uses w a es (p + (length (written f) + 2)) in
    omega arith

stands_items : (is : List (List ℕ)) (k : ℕ) (t : Named) (c : ℕ) (fs : Around) → stands k (placed_under is c fs t) ≡ numbered is k (items t)
stands_items is k (bound w) c fs = refl
stands_items is k (item w) c fs = omega arith
stands_items is k (lam w b) c fs = stands_items is k b (suc c) ((w, c) ∷ fs)
stands_items is k (app f a) c fs =
    let h = numbered_append is k (items f) (items a) in
    let x = stands_items is k f (suc c) fs in
    let y = stands_items is k a (suc (c + cells f)) fs in
    omega arith

copies_has : (w : List ℕ) (ws : List (List ℕ)) → Has ws w → 1 ≤ copies w ws
copies_has w [] h = absurd (omega (arith, h.1))
copies_has w (v ∷ ws) h = elim (has_cons v ws w h) [
  | inl e ↦ (let z : cond {A = ℕ} (bytes_eq w v) 1 0 ≡ 1 = cond-true (bytes_eq w v) 1 0 (subst (λ x. bytes_eq w x ≡ true) (sym e) (same_yes w)) in omega arith)
  | inr i ↦ (let k = copies_has w ws i in omega arith)
]

copies_two : (ws : List (List ℕ)) (i j : ℕ) → i < j → j < length ws → get_or ws i [] ≡ get_or ws j [] → 2 ≤ copies (get_or ws i []) ws
copies_two [] i j l h e = absurd (omega arith)
copies_two (w ∷ ws) i zero l h e = absurd (omega arith)
copies_two (w ∷ ws) zero (suc j) l h e =
    let z = cond-true {A = ℕ} (bytes_eq w w) 1 0 (same_yes w) in
    let k = copies_has w ws (subst (Has ws) (sym e) (has_get_or ws j [] (omega arith))) in
    omega arith
copies_two (w ∷ ws) (suc i) (suc j) l h e = let k = copies_two ws i j (omega arith) (omega arith) e in omega arith

-- the item that has a rank stands there
pub rank_there : (w : List ℕ) (is : List (List ℕ)) → Has is w → (rank_of w is < length is) × (get_or is (rank_of w is) [] ≡ w)
rank_there w [] h = absurd (omega (arith, h.1))
rank_there w (v ∷ is) h = go (bytes_eq w v) refl (rank_there w is)
  where
    go : (b : Bool) → bytes_eq w v ≡ b → (Has is w → (rank_of w is < length is) × (get_or is (rank_of w is) [] ≡ w)) →
        (cond b 0 (suc (rank_of w is)) < suc (length is)) × (get_or (v ∷ is) (cond b 0 (suc (rank_of w is))) [] ≡ w)
    go true e k = (omega arith, sym ((bytes_eq-Decides w v).0 e))
    go false e k = elim (has_cons v is w h) [
      | inl s ↦ absurd (both_ways (bytes_eq w w) (subst (λ x. bytes_eq w x ≡ false) s e) (same_yes w))
      | inr i ↦ (omega (arith, (k i).0), (k i).1)
    ]

-- an item's rank in a list that has it once
pub rank_is : (is : List (List ℕ)) → ((i j : ℕ) → i < j → j < length is → get_or is i [] ≡ get_or is j [] → ⊥) → (i : ℕ) → i < length is → rank_of (get_or is i []) is ≡ i
rank_is is once i l =
    let r = rank_there (get_or is i []) is (has_get_or is i [] l) in
    elim (cases_order (rank_of (get_or is i []) is) i) [
      | inl e ↦ e
      | inr (inl k) ↦ absurd (once _ i k l r.1)
      | inr (inr k) ↦ absurd (once i _ k r.0 (sym r.1))
    ]

module _ (is : List (List ℕ)) (once : (i j : ℕ) → i < j → j < length is → get_or is i [] ≡ get_or is j [] → ⊥) (i : ℕ) (l : i < length is) where
  -- item i of the list, counted from 0, has the number i + 1
  numbered_copies : (ws : List (List ℕ)) → ((w : List ℕ) → Has ws w → Has is w) → numbered is (suc i) ws ≡ copies (get_or is i []) ws
  numbered_copies [] h = refl
  numbered_copies (v ∷ ws) h =
      let k = numbered_copies ws (λ w m. h w (has_later v ws w m)) in
      let r = rank_there v is (h v (has_first v ws)) in
      elim (cases_Bool (bytes_eq (get_or is i []) v)) [
        | inl e ↦ (
            let s : get_or is i [] ≡ v = (bytes_eq-Decides (get_or is i []) v).0 e in
            let n : rank_of v is ≡ i = ap (λ x. rank_of x is) (sym s) ∙ rank_is is once i l in
            let y = one_yes (suc i) (suc (rank_of v is)) (ap suc (sym n)) in
            let z = cond-true {A = ℕ} (bytes_eq (get_or is i []) v) 1 0 e in
            omega arith)
        | inr e ↦ (
            let y = one_no (suc i) (suc (rank_of v is)) (λ s. let n : i ≡ rank_of v is = omega arith in let d = (bytes_eq-Decides (get_or is i []) v).1 (ap (λ x. get_or is x []) n ∙ r.1) in let x : ◌≡◌ {A = ℕ} 0 1 = cc in omega arith) in
            let z = cond-false {A = ℕ} (bytes_eq (get_or is i []) v) 1 0 e in
            omega arith)
      ]

numbered_some : (is : List (List ℕ)) (k : ℕ) (ws : List (List ℕ)) → 1 ≤ numbered is k ws → (v : List ℕ) × Has ws v × (k ≡ suc (rank_of v is))
numbered_some is k [] h = absurd (omega arith)
numbered_some is k (v ∷ ws) h = elim (number k (suc (rank_of v is))) [
  | inl e ↦ (v, has_first v ws, e.0)
  | inr e ↦ (let z = one_no k (suc (rank_of v is)) e.0 in let i = numbered_some is k ws (omega arith) in (i.0, has_later v ws i.0 i.1, i.2))
]

-- ── both together ──

pub linear_terms_lem : LinearTerms
linear_terms_lem is t l li = record {
  once = all_once;
  closed = λ r. closed is t [] [] 0 0 r (λ w n. absurd (omega arith)) (all_bound t l) all_once;
  apart = λ r. elim (cases_lt r (0 + cells t)) [
    | inl h ↦ (let e = placed_inside is t 0 [] r (omega arith) h in omega arith)
    | inr h ↦ (let e = placed_outside is t 0 [] r (inr h) in omega arith)
  ];
  listed = λ k h m. at k h m;
  only = λ k h.
      let s = stands_items is k t 0 [] in
      let v = numbered_some is k (items t) (omega arith) in
      let r = rank_there v.0 is (li.all v.0 v.1) in
      let e = v.2 in
      (omega arith, omega (arith, r.0));
}
  where
    all_once : Once (term_under is t)
    all_once = once is t [] [] 0 0 (λ w n. absurd (omega arith)) (all_bound t l) (variable_once t l)

    at : (k : ℕ) → 1 ≤ k → k ≤ length is → stands k (term_under is t) ≡ 1
    at zero h m = absurd (omega arith)
    at (suc i) h m =
        let w : List ℕ = get_or is i [] in
        let s = stands_items is (suc i) t 0 [] in
        let n = numbered_copies is li.once i (omega arith) (items t) li.all in
        let u = item_uses (get_or is i []) t [] 0 in
        let a = item_once t l (get_or is i []) in
        let b = copies_has (get_or is i []) (items t) (li.only (get_or is i []) (has_get_or is i [] (omega arith))) in
        omega arith

pub own_items_lem : OwnItems
own_items_lem t l = record {
  all = λ w h. h;
  only = λ w h. h;
  once = λ i j h m e.
      let c = copies_two (items t) i j h m e in
      let u = item_uses (get_or (items t) i []) t [] 0 in
      let a = item_once t l (get_or (items t) i []) in
      omega arith;
}
