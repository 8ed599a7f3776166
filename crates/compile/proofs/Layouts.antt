-- The links that are to come, from one step of a walk to the next.
use Rattle.std.proofs.Common.{◌≡◌, ℕ, zero, suc, ◌+◌, ◌-◌, ◌<◌, ◌≤◌, Bool, true, false, cond, List, [], ◌∷◌, ◌++◌, map, length, get_or, take, Some, slice_get, sym, refl, ap, ◌∙◌, ap₂, subst, append_assoc, arith}
use Rattle.std.specs.List.{SameBelow}
use Rattle.std.specs.Str.{bytes_eq}
use Rattle.std.proofs.lemmas.List.{get_or_at, get_or_append_left, get_or-take, length-take-le, length_push, length-map, map-append, take-map}
use Rattle.calculus.specs.Spots.{Spot, end, port}
use Rattle.lambda.specs.TermNets.{links}
use Rattle.terms.specs.Named.{Named, bound, item, lam, app, cells}
use Rattle.terms.specs.Bindings.{Meaning, variable, Around, meaning, place_of, rank_of, placed_under}
use Rattle.terms.specs.Scopes.{Surrounding, renumbered}
use Rattle.terms.specs.Walking.{Later, due, shut, Todo, reading, between, Saved, Held}
use Rattle.terms.proofs.Scopes.{held_function, held_close}
use Rattle.compile.specs.declared.builder.Open.{Open}
use Rattle.compile.specs.Building.{Scope, saved, cells_of, later_links, outer_links, coming_links}

-- a name that means an abstraction has its number
pub place_meant : (w : List ℕ) (fs : Around) (q : ℕ) → meaning w fs ≡ variable q → place_of w fs ≡ q
place_meant w [] q e = let z : ◌≡◌ {A = ℕ} 0 1 = cc in absurd (omega arith)
place_meant w (f ∷ fs) q e = go (bytes_eq w f.0) (meaning w fs) (place_of w fs) (place_meant w fs q) e
  where
    go : (b : Bool) (m : Meaning) (k : ℕ) → (m ≡ variable q → k ≡ q) → cond b (variable f.1) m ≡ variable q → cond b f.1 k ≡ q
    go true m k h e = cc
    go false m k h e = h e

-- ── lists that agree on what is in use ──

same_all : (xs : List ℕ) (n : ℕ) → SameBelow xs xs n
same_all xs n k d l = refl

pub same_push : (xs : List ℕ) (v n : ℕ) → n ≤ length xs → SameBelow xs (xs ++ v ∷ []) n
same_push xs v n le k d l = get_or_append_left xs (v ∷ []) d k (omega arith)

pub same_take : (xs : List ℕ) (n m : ℕ) → m ≤ n → SameBelow xs (take n xs) m
same_take xs n m le k d l = get_or-take n xs k d (omega arith)

renumbered_kept : (text xs bs cs : List ℕ) (es : Around) (n : ℕ) → SameBelow bs cs n → Surrounding text xs n es → renumbered cs n es ≡ renumbered bs n es
renumbered_kept text xs bs cs [] n same h = refl
renumbered_kept text xs bs cs (f ∷ es) n same h =
    ap₂ (λ k r. (f.0, k) ∷ r) (same (n - 1) 0 (omega (arith, h.0))) (renumbered_kept text xs bs cs es (n - 1) (λ k d l. same k d (omega arith)) h.3)

later_kept : (is : List (List ℕ)) (text xs bs cs ss ts us vs : List ℕ) (zs : List Later) (most d c : ℕ) → SameBelow bs cs most → SameBelow ss ts d → SameBelow us vs d → Saved text xs ss most d zs →
    later_links is cs ts vs d c zs ≡ later_links is bs ss us d c zs
later_kept is text xs bs cs ss ts us vs [] most d c p q r h = refl
later_kept is text xs bs cs ss ts us vs (due es a ∷ zs) most d c p q r h =
    let low = h.1 in
    let last : d - 1 < d = omega (arith, h.0) in
    let same : SameBelow bs cs (get_or ss (d - 1) 0) = λ k e l. p k e (omega arith) in
    let fs : renumbered cs (get_or ts (d - 1) 0) es ≡ renumbered bs (get_or ss (d - 1) 0) es =
    ap (λ k. renumbered cs k es) (q (d - 1) 0 last) ∙ renumbered_kept text xs bs cs es (get_or ss (d - 1) 0) same h.2 in
    ap₂ (λ k gs. links (port k 2) (placed_under is c gs a) ++ later_links is cs ts vs (d - 1) (c + cells a) zs) (r (d - 1) 0 last) fs
    ∙ ap (λ ls. links (port (get_or us (d - 1) 0) 2) (placed_under is c (renumbered bs (get_or ss (d - 1) 0) es) a) ++ ls)
    (later_kept is text xs bs cs ss ts us vs zs _ (d - 1) (c + cells a) same (λ k e l. q k e (omega arith)) (λ k e l. r k e (omega arith)) h.3)
later_kept is text xs bs cs ss ts us vs (shut es ∷ zs) most d c p q r h =
    let low = h.1 in
    later_kept is text xs bs cs ss ts us vs zs (get_or ss (d - 1) 0) (d - 1) c (λ k e l. p k e (omega arith)) (λ k e l. q k e (omega arith)) (λ k e l. r k e (omega arith)) h.3

-- the numbers of the open applications, with one more and with one less
module _ (f : Open → ℕ) (os : List Open) where
  pub pushed_before : (o : Open) (n : ℕ) → n ≤ length os → SameBelow (map f os) (map f (os ++ o ∷ [])) n
  pushed_before o n le = subst (λ xs. SameBelow (map f os) xs n) (sym (map-append f os (o ∷ []))) (same_push (map f os) (f o) n (omega (arith, length-map os f)))

  pub pushed_last : (o : Open) (n : ℕ) → length os ≡ n → get_or (map f (os ++ o ∷ [])) n 0 ≡ f o
  pushed_last o n e = ap (λ xs. get_or xs n 0) (map-append f os (o ∷ [])) ∙ get_or_at (map f os) (f o) [] 0 n (length-map os f ∙ e)

  pub taken_before : (n : ℕ) → SameBelow (map f os) (map f (take n os)) n
  taken_before n = subst (λ xs. SameBelow (map f os) xs n) (take-map f n os) (same_take (map f os) n n (omega arith))

pub number_at : (f : Open → ℕ) (os : List Open) (n : ℕ) (o : Open) → slice_get os n ≡ Some o → get_or (map f os) n 0 ≡ f o
number_at f [] n o h = let z : ◌≡◌ {A = ℕ} 0 1 = cc in absurd (omega arith)
number_at f (p ∷ ps) zero o h = cc
number_at f (p ∷ ps) (suc n) o h = number_at f ps n o h

-- ── one step ──

-- an abstraction more, whose name stands at q and whose cell is c
abbrev pub in_body : Scope → ℕ → ℕ → Scope
in_body s q c = record { around = s.around ++ q ∷ []; binders = s.binders ++ c ∷ []; opened = s.opened }

-- an open application more, with n abstractions around it, whose cell is c
abbrev pub newest : ℕ → ℕ → Open
newest n c = record { around = n; cell = c }

abbrev pub in_function : Scope → ℕ → Scope
in_function s c = record { around = s.around; binders = s.binders; opened = s.opened ++ newest (length s.around) c ∷ [] }

-- on to the argument of the innermost open application
abbrev pub around_last : Scope → ℕ
around_last s = get_or (saved s.opened) (length (saved s.opened) - 1) 0

abbrev pub cell_last : Scope → ℕ
cell_last s = get_or (cells_of s.opened) (length (saved s.opened) - 1) 0

abbrev pub in_argument : Scope → Scope
in_argument s = record { around = take (around_last s) s.around; binders = take (around_last s) s.binders; opened = s.opened }

-- the innermost open application closed
abbrev pub closed : Scope → Scope
closed s = record { around = s.around; binders = s.binders; opened = take (length s.opened - 1) s.opened }

abbrev pub HeldIn : List ℕ → Scope → Todo → Type 0
HeldIn text s = Held text s.around (length s.around) (saved s.opened) (length (saved s.opened))

module _ (text : List ℕ) (s : Scope) where
  pub saved_pushed : (c : ℕ) → saved (in_function s c).opened ≡ saved s.opened ++ length s.around ∷ []
  saved_pushed c = map-append (λ o. o.around) s.opened (newest (length s.around) c ∷ [])

  pub saved_closed : saved (closed s).opened ≡ take (length (saved s.opened) - 1) (saved s.opened)
  saved_closed = sym (ap (λ n. take (n - 1) (saved s.opened)) (length-map s.opened (λ o. o.around)) ∙ take-map (λ o. o.around) (length s.opened - 1) s.opened)

  pub held_pushed : (es : Around) (f a : Named) (zs : List Later) (c : ℕ) → HeldIn text s (reading es (app f a) zs) → HeldIn text (in_function s c) (reading es f (due es a ∷ zs))
  held_pushed es f a zs c h = subst (λ ss. Held text s.around (length s.around) ss (length ss) (reading es f (due es a ∷ zs))) (sym (saved_pushed c)) (held_function text s.around (saved s.opened) es f a zs h)

  pub held_closed : (es : Around) (zs : List Later) → HeldIn text s (between (shut es ∷ zs)) → HeldIn text (closed s) (between zs)
  held_closed es zs h = subst (λ ss. Held text s.around (length s.around) ss (length ss) (between zs)) (sym saved_closed) (held_close text s.around (saved s.opened) es zs h)

  module _ (is : List (List ℕ)) (x : Spot) (c : ℕ) where
    pub links_body : (es : Around) (n : List ℕ) (q : ℕ) (b : Named) (zs : List Later) → length s.binders ≡ length s.around → HeldIn text s (reading es (lam n b) zs) →
        coming_links is s x c (reading es (lam n b) zs) ≡ (x, port c 0) ∷ coming_links is (in_body s q c) (port c 2) (c + 1) (reading ((n, q) ∷ es) b zs)
    links_body es n q b zs paired h =
        let one : suc c ≡ c + 1 = omega arith in
        let long = length_push s.around q in
        let back : length (s.around ++ q ∷ []) - 1 ≡ length s.around = omega arith in
        let same : SameBelow s.binders (s.binders ++ c ∷ []) (length s.around) = same_push s.binders c _ (omega arith) in
        let top : c ≡ get_or (s.binders ++ c ∷ []) (length (s.around ++ q ∷ []) - 1) 0 = sym (get_or_at s.binders c [] 0 _ (omega arith)) in
        let under : renumbered s.binders (length s.around) es ≡ renumbered (s.binders ++ c ∷ []) (length (s.around ++ q ∷ []) - 1) es =
        sym (ap (λ m. renumbered (s.binders ++ c ∷ []) m es) back ∙ renumbered_kept text s.around s.binders _ es (length s.around) same h.0) in
        let fs : (n, c) ∷ renumbered s.binders (length s.around) es ≡ renumbered (s.binders ++ c ∷ []) (length (s.around ++ q ∷ [])) ((n, q) ∷ es) = ap₂ (λ m r. (n, m) ∷ r) top under in
        let after : c + suc (cells b) ≡ c + 1 + cells b = omega arith in
        ap (λ ls. (x, port c 0) ∷ ls) (ap₂ (λ m gs. links (port c 2) (placed_under is m gs b) ++ outer_links is s (c + suc (cells b)) zs) one fs
        ∙ ap (λ ls. links (port c 2) (placed_under is (c + 1) (renumbered (s.binders ++ c ∷ []) (length (s.around ++ q ∷ [])) ((n, q) ∷ es)) b) ++ ls)
        (ap (λ m. outer_links is s m zs) after ∙ sym (later_kept is text s.around s.binders _ (saved s.opened) _ (cells_of s.opened) _ zs (length s.around) (length (saved s.opened)) (c + 1 + cells b) same (same_all _ _) (same_all _ _) h.1)))

    pub links_function : (es : Around) (f a : Named) (zs : List Later) → HeldIn text s (reading es (app f a) zs) →
        coming_links is s x c (reading es (app f a) zs) ≡ (x, port c 1) ∷ coming_links is (in_function s c) (port c 0) (c + 1) (reading es f (due es a ∷ zs))
    links_function es f a zs h =
        let o : Open = newest (length s.around) c in
        let one : suc c ≡ c + 1 = omega arith in
        let here : suc (c + cells f) ≡ c + 1 + cells f = omega arith in
        let after : c + suc (cells f + cells a) ≡ c + 1 + cells f + cells a = omega arith in
        let long = length_push s.opened o in
        let size = length-map s.opened (λ p. p.around) in
        let size' = length-map (s.opened ++ o ∷ []) (λ p. p.around) in
        let last : ℕ = length (saved (s.opened ++ o ∷ [])) - 1 in
        let back : last ≡ length (saved s.opened) = omega arith in
        let top = sym (pushed_last (λ p. p.cell) s.opened o last (omega arith)) in
        let kept = sym (pushed_last (λ p. p.around) s.opened o last (omega arith)) in
        ap (λ ls. (x, port c 1) ∷ ls)
        (append_assoc (links (port c 0) (placed_under is (suc c) (renumbered s.binders (length s.around) es) f)) (links (port c 2) (placed_under is (suc (c + cells f)) (renumbered s.binders (length s.around) es) a)) _
        ∙ ap₂ (λ m r. links (port c 0) (placed_under is m (renumbered s.binders (length s.around) es) f) ++ r) one
        (ap₂ (λ m k. links (port k 2) (placed_under is m (renumbered s.binders (length s.around) es) a) ++ outer_links is s (c + suc (cells f + cells a)) zs) here top
        ∙ ap₂ (λ i ls. links (port (get_or (cells_of (s.opened ++ o ∷ [])) last 0) 2) (placed_under is (c + 1 + cells f) (renumbered s.binders i es) a) ++ ls) kept
        (ap (λ m. outer_links is s m zs) after
        ∙ sym (later_kept is text s.around s.binders s.binders (saved s.opened) (saved (s.opened ++ o ∷ [])) (cells_of s.opened) (cells_of (s.opened ++ o ∷ [])) zs (length s.around) (length (saved s.opened)) (c + 1 + cells f + cells a) (same_all _ _)
        (pushed_before (λ p. p.around) s.opened o _ (omega arith)) (pushed_before (λ p. p.cell) s.opened o _ (omega arith)) h.1)
        ∙ ap (λ d. later_links is s.binders (saved (s.opened ++ o ∷ [])) (cells_of (s.opened ++ o ∷ [])) d (c + 1 + cells f + cells a) zs) (sym back))))

    pub links_argument : (es : Around) (a : Named) (zs : List Later) → HeldIn text s (between (due es a ∷ zs)) →
        coming_links is s x c (between (due es a ∷ zs)) ≡ coming_links is (in_argument s) (port (cell_last s) 2) c (reading es a (shut es ∷ zs))
    links_argument es a zs h =
        let long : length (take (around_last s) s.around) ≡ around_last s = length-take-le (around_last s) s.around h.1 in
        let same : SameBelow s.binders (take (around_last s) s.binders) (around_last s) = same_take s.binders _ _ (omega arith) in
        sym (ap₂ (λ fs ls. links (port (cell_last s) 2) (placed_under is c fs a) ++ ls)
        (ap (λ m. renumbered (take (around_last s) s.binders) m es) long ∙ renumbered_kept text s.around s.binders _ es (around_last s) same h.2)
        (later_kept is text s.around s.binders _ (saved s.opened) _ (cells_of s.opened) _ zs (around_last s) (length (saved s.opened) - 1) (c + cells a) same (same_all _ _) (same_all _ _) h.3))

    pub links_close : (es : Around) (zs : List Later) → HeldIn text s (between (shut es ∷ zs)) → coming_links is s x c (between (shut es ∷ zs)) ≡ coming_links is (closed s) x c (between zs)
    links_close es zs h =
        let size = length-map s.opened (λ p. p.around) in
        let size' = length-map (closed s).opened (λ p. p.around) in
        let long : length (closed s).opened ≡ length s.opened - 1 = length-take-le _ s.opened (omega arith) in
        let here : length (saved (closed s).opened) ≡ length (saved s.opened) - 1 = omega arith in
        let fewer : length (saved s.opened) - 1 ≤ length s.opened - 1 = omega arith in
        sym (ap (λ d. later_links is s.binders (saved (closed s).opened) (cells_of (closed s).opened) d c zs) here
        ∙ later_kept is text s.around s.binders s.binders (saved s.opened) _ (cells_of s.opened) _ zs (around_last s) (length (saved s.opened) - 1) c (same_all _ _) (λ k d l. taken_before (λ p. p.around) s.opened _ k d (omega arith)) (λ k d l. taken_before (λ p. p.cell) s.opened _ k d (omega arith)) h.3)

    pub links_name : (es : Around) (n : List ℕ) (zs : List Later) (q : ℕ) → place_of n (renumbered s.binders (length s.around) es) ≡ q →
        coming_links is s x c (reading es (bound n) zs) ≡ (x, port q 1) ∷ coming_links is s x c (between zs)
    links_name es n zs q e =
        let none : c + 0 ≡ c = omega arith in
        ap₂ (λ k m. (x, port k 1) ∷ outer_links is s m zs) e none

    pub links_item : (es : Around) (n : List ℕ) (zs : List Later) (k : ℕ) → suc (rank_of n is) ≡ k → coming_links is s x c (reading es (item n) zs) ≡ (x, end k) ∷ coming_links is s x c (between zs)
    links_item es n zs k e =
        let none : c + 0 ≡ c = omega arith in
        ap₂ (λ k m. (x, end k) ∷ outer_links is s m zs) e none
