-- The steps of a walk that fills a draft.
use Rattle.std.proofs.Common.{◌≡◌, ℕ, suc, ◌+◌, ◌-◌, ◌<◌, ◌≤◌, true, ◌≢◌, List, [], ◌∷◌, ◌++◌, length, get_or, take, Some, None, Ok, Err, Option, Result, IsOk, IsSome, sym, refl, ap, ◌∙◌, subst, inl, inr, append_assoc, arith}
use Rattle.std.specs.List.{ContainsAt as Has, AllByRecursion}
use Rattle.std.proofs.lemmas.List.{append-nil, length-append, length_push, length-map, length-take-le, map-append, get_or_at, get_or_append_left, get_or-take}
use Rattle.std.proofs.lemmas.Bool.{cases_eq, cases_lt, lt-ltb}
use Rattle.refusals.specs.declared.faults.TextFault.{TextFault}
use Rattle.calculus.specs.Spots.{Spot, end, port}
use Rattle.lambda.specs.Terms.{Linear}
use Rattle.lambda.specs.TermNets.{links}
use Rattle.lambda.proofs.Wirings.{Distinct}
use Rattle.lambda.proofs.Good.{distinct_links}
use Rattle.nets.specs.Drafts.{Plan, plan, planned, Begun}
use Rattle.nets.specs.Views.{at}
use Rattle.nets.specs.declared.draft.Draft.{Draft}
use Rattle.terms.specs.Named.{Named, bound, item, lam, app, written, cells, items}
use Rattle.terms.specs.Bindings.{nothing, Around, meaning, uses, rank_of, term_under}
use Rattle.terms.specs.Texts.{Reads}
use Rattle.terms.specs.Listing.{listed, Added}
use Rattle.terms.specs.Scopes.{Surrounding, Found, renumbered}
use Rattle.terms.specs.Walking.{Later, due, shut, Todo, Stands, Due, reading, between, coming_uses, Anything}
use Rattle.terms.specs.declared.items.Items.{Items}
use Rattle.terms.proofs.Fronts.{name_at, stands_body, stands_function, stands_argument, stands_close, stands_name, stands_item}
use Rattle.terms.proofs.Scopes.{renumbered_same, held_body, held_argument}
use Rattle.terms.proofs.Walks.{uses_body, uses_function, uses_argument}
use Rattle.binding.proofs.Counting.{has_first, has_later}
use Rattle.binding.proofs.Linearity.{linear_terms_lem, own_items_lem, rank_is}
use Rattle.compile.specs.declared.builder.Builder.{Builder}
use Rattle.compile.specs.Linking.{Linked, Placed, Drafted}
use Rattle.compile.specs.Building.{Scope, saved, cells_of, coming_links, later_items, Builds, scope, Reading, Begins, Built}
use Rattle.compile.proofs.Links.{Off, distinct_front, drafted_cell, drafted_link, drafted_port, drafted_end, planned_added}
use Rattle.compile.proofs.Layouts.{place_meant, taken_before, newest, around_last, cell_last, in_body, in_function, in_argument, closed, held_pushed, held_closed, links_body, links_function, links_argument, links_close, links_name, links_item}

-- one number more at the end
below_push : (xs : List ℕ) (n v c : ℕ) → length xs ≡ n → v < c → ((k : ℕ) → k < n → get_or xs k 0 < c) → (k : ℕ) → k < n + 1 → get_or (xs ++ v ∷ []) k 0 < c
below_push xs n v c same l h k m = elim (cases_eq k n) [
  | inl e ↦ (let s : get_or (xs ++ v ∷ []) k 0 ≡ v = get_or_at xs v [] 0 k (omega arith) in omega arith)
  | inr e ↦ (let ne : k ≢ n = e in let s : get_or (xs ++ v ∷ []) k 0 ≡ get_or xs k 0 = get_or_append_left xs (v ∷ []) 0 k (omega arith) in let b = h k (omega arith) in omega arith)
]

-- what is built, under other names for the byte, the items, the spot and the scope
pub renamed : {text : List ℕ} {T : Named} {q r c : ℕ} {p : Plan} {is js : List (List ℕ)} {x y : Spot} {s t : Scope} {z : Todo} → Builds text T q p c is x s z → r ≡ q → js ≡ is → y ≡ x →
    t.around ≡ s.around → t.binders ≡ s.binders → t.opened ≡ s.opened → Builds text T r p c js y t z
renamed {text} {T} {q} {r} {c} {p} {is} {js} {x} {y} {s} {t} {z} w here items spot around binders opened =
    let scopes : s ≡ t = λ i. record { around = sym around i; binders = sym binders i; opened = sym opened i } in
    subst (λ u. Builds text T r p c js y u z) scopes (subst (λ v. Builds text T r p c js v s z) (sym spot) (subst (λ ls. Builds text T r p c ls x s z) (sym items) (subst (λ k. Builds text T k p c is x s z) (sym here) w)))

-- what is to be read stands in the text
pub stands_there : (b : Builder) (z : Todo) → Reading b z → Stands b.text.now b.at z
stands_there b z r = r.2.stands

module _ {text : List ℕ} {T : Named} (reads : Reads text T) where
  pub linear : Linear (length (items T)) (term_under (items T) T)
  linear = linear_terms_lem (items T) T reads.linear (own_items_lem T reads.linear)

  pub few_items : length (items T) ≤ 63
  few_items = elim (cases_lt 63 (length (items T))) [ inl h ↦ absurd (reads.small (inl h)) | inr h ↦ h ]

  pub few_cells : cells T ≤ 1024
  few_cells = elim (cases_lt 1024 (cells T)) [ inl h ↦ absurd (reads.small (inr h)) | inr h ↦ h ]

  -- a link to come shares no spot with those that are drafted, and links two different spots
  next_link : (done rest : List (Spot × Spot)) (x y : Spot) → done ++ (x, y) ∷ rest ≡ links (end 0) (term_under (items T) T) → AllByRecursion (Off (x, y)) done × (x ≢ y)
  next_link done rest x y e = distinct_front done (x, y) rest (subst Distinct (sym e) (distinct_links (length (items T)) (term_under (items T) T) linear))

  -- a new cell, linked with the spot
  placed_link : {p p' : Plan} {c j : ℕ} {x : Spot} (done rest : List (Spot × Spot)) → j ≤ 2 → planned p x ≡ true → Drafted (length (items T)) c done p → done ++ (x, port c j) ∷ rest ≡ links (end 0) (term_under (items T) T) →
      Placed p x c j p' → Drafted (length (items T)) (c + 1) (done ++ (x, port c j) ∷ []) p'
  placed_link {p} {p'} {c} {j} {x} done rest l there d e (m, added, linked) =
      drafted_link (length (items T)) (c + 1) done m p' x (port c j) (drafted_cell (length (items T)) c done p m d added) (planned_added p m 0 2 added x there)
      (drafted_port (length (items T)) (c + 1) done m (drafted_cell (length (items T)) c done p m d added) c j (omega arith) l) (next_link done rest x (port c j) e).0 linked

  module _ {q : ℕ} {p : Plan} {c : ℕ} {is : List (List ℕ)} {x : Spot} {s : Scope} where
    pub builds_body : {es : Around} {n : List ℕ} {b : Named} {zs : List Later} {p' : Plan} → Builds text T q p c is x s (reading es (lam n b) zs) →
        Placed p x c 0 p' → Builds text T (q + (length n + 2)) p' (c + 1) is (port c 2) (in_body s (q + 1) c) (reading ((n, q + 1) ∷ es) b zs)
    builds_body {es} {n} {b} {zs} {p'} w placed =
        let sum = w.all_cells in
        let low = w.low in
        let same = w.paired in
        let long = length_push s.around (q + 1) in
        let more = length_push s.binders c in
        let next = links_body text s (items T) x c es n (q + 1) b zs w.paired w.held in
        let drafted = placed_link w.done _ (omega arith) w.ready w.drafted (ap (λ ls. w.done ++ ls) (sym next) ∙ w.all_links) placed in
        record {
          done = w.done ++ (x, port c 0) ∷ [];
          stands = stands_body text q es ((n, q + 1) ∷ es) n b zs w.stands;
          held = held_body text s.around (saved s.opened) es n (q + 1) b zs (name_at text q es n b zs w.stands) w.held;
          bound = subst (λ us. (r : ℕ) → Has us (nothing, r) → ⊥) (sym (uses_body q es n b zs)) w.bound;
          drafted = drafted;
          all_links = append_assoc w.done ((x, port c 0) ∷ []) _ ∙ ap (λ ls. w.done ++ ls) (sym next) ∙ w.all_links;
          all_items = w.all_items;
          all_cells = omega arith;
          ready = drafted_port (length (items T)) (c + 1) _ p' drafted c 2 (omega arith) (omega arith);
          paired = omega arith;
          abstractions = λ k l. below_push s.binders (length s.around) c (c + 1) same (omega arith) (λ j m. let h = w.abstractions j m in omega arith) k (omega arith);
          applications = λ k l. let h = w.applications k l in omega arith;
          low = (omega arith, omega arith);
        }

    pub builds_function : {es : Around} {f a : Named} {zs : List Later} {p' : Plan} → Builds text T q p c is x s (reading es (app f a) zs) →
        Placed p x c 1 p' → Builds text T (q + 1) p' (c + 1) is (port c 0) (in_function s c) (reading es f (due es a ∷ zs))
    builds_function {es} {f} {a} {zs} {p'} w placed =
        let sum = w.all_cells in
        let low = w.low in
        let long = length_push s.opened (newest (length s.around) c) in
        let same = length-map s.opened (λ o. o.cell) in
        let next = links_function text s (items T) x c es f a zs w.held in
        let drafted = placed_link w.done _ (omega arith) w.ready w.drafted (ap (λ ls. w.done ++ ls) (sym next) ∙ w.all_links) placed in
        record {
          done = w.done ++ (x, port c 1) ∷ [];
          stands = stands_function text q es f a zs w.stands;
          held = held_pushed text s es f a zs c w.held;
          bound = subst (λ us. (r : ℕ) → Has us (nothing, r) → ⊥) (sym (uses_function q es f a zs)) w.bound;
          drafted = drafted;
          all_links = append_assoc w.done ((x, port c 1) ∷ []) _ ∙ ap (λ ls. w.done ++ ls) (sym next) ∙ w.all_links;
          all_items = ap (λ ls. is ++ ls) (sym (append_assoc (items f) (items a) (later_items zs))) ∙ w.all_items;
          all_cells = omega arith;
          ready = drafted_port (length (items T)) (c + 1) _ p' drafted c 0 (omega arith) (omega arith);
          paired = w.paired;
          abstractions = λ k l. let h = w.abstractions k l in omega arith;
          applications = λ k l. subst (λ xs. get_or xs k 0 < c + 1) (sym (map-append (λ o. o.cell) s.opened (newest (length s.around) c ∷ [])))
              (below_push (cells_of s.opened) (length s.opened) c (c + 1) same (omega arith) (λ j m. let h = w.applications j m in omega arith) k (omega arith));
          low = (omega arith, omega arith);
        }

    pub builds_argument : {es : Around} {a : Named} {zs : List Later} → Builds text T q p c is x s (between (due es a ∷ zs)) →
        Builds text T (q + 1) p c is (port (cell_last s) 2) (in_argument s) (reading es a (shut es ∷ zs))
    builds_argument {es} {a} {zs} w =
        let low = w.low in
        let h = w.held in
        let some = h.0 in
        let less = h.1 in
        let size = length-map s.opened (λ p. p.around) in
        let same = w.paired in
        let long : length (take (around_last s) s.around) ≡ around_last s = length-take-le (around_last s) s.around less in
        let more : length (take (around_last s) s.binders) ≡ around_last s = length-take-le (around_last s) s.binders (omega arith) in
        record {
          done = w.done;
          stands = stands_argument text q es a zs w.stands;
          held = held_argument text s.around (saved s.opened) es a zs (around_last s) refl h;
          bound = subst (λ us. (r : ℕ) → Has us (nothing, r) → ⊥) (sym (uses_argument q es a zs)) w.bound;
          drafted = w.drafted;
          all_links = ap (λ ls. w.done ++ ls) (sym (links_argument text s (items T) x c es a zs h)) ∙ w.all_links;
          all_items = w.all_items;
          all_cells = w.all_cells;
          ready = drafted_port (length (items T)) c w.done p w.drafted _ 2 (w.applications (length (saved s.opened) - 1) (omega arith)) (omega arith);
          paired = omega arith;
          abstractions = λ k l.
              let e = get_or-take (around_last s) s.binders k 0 (omega arith) in
              let b = w.abstractions k (omega arith) in
              omega arith;
          applications = w.applications;
          low = (omega arith, omega arith);
        }

    pub builds_close : {es : Around} {zs : List Later} → Builds text T q p c is x s (between (shut es ∷ zs)) → Builds text T (q + 1) p c is x (closed s) (between zs)
    builds_close {es} {zs} w =
        let low = w.low in
        let some = w.held.0 in
        let size = length-map s.opened (λ p. p.around) in
        let long : length (take (length s.opened - 1) s.opened) ≡ length s.opened - 1 = length-take-le _ s.opened (omega arith) in
        record {
          done = w.done;
          stands = stands_close text q es zs w.stands;
          held = held_closed text s es zs w.held;
          bound = w.bound;
          drafted = w.drafted;
          all_links = ap (λ ls. w.done ++ ls) (sym (links_close text s (items T) x c es zs w.held)) ∙ w.all_links;
          all_items = w.all_items;
          all_cells = w.all_cells;
          ready = tt;
          paired = w.paired;
          abstractions = w.abstractions;
          applications = λ k l.
              let e = taken_before (λ o. o.cell) s.opened (length s.opened - 1) k 0 (omega arith) in
              let b = w.applications k (omega arith) in
              omega arith;
          low = (omega arith, omega arith);
        }

    -- ── a bound name ──

    module _ {es : Around} {n : List ℕ} {zs : List Later} (w : Builds text T q p c is x s (reading es (bound n) zs)) where
      -- it has an abstraction
      name_bound : Found n (length s.around) es None → ⊥
      name_bound found =
          let means : meaning n es ≡ nothing = ap (meaning n) (sym (renumbered_same text s.around es (length s.around) w.held.0)) ∙ found s.around in
          w.bound q (subst (λ m. Has ((m, q) ∷ coming_uses (q + length n) (between zs)) (nothing, q)) (sym means) (has_first (nothing, q) _))

      -- what is found among the places around
      pub name_found : {m xs : List ℕ} (r : Option ℕ) → m ≡ n → xs ≡ s.around → ((fs : Around) → Surrounding text xs (length xs) fs → Found m (length xs) fs r) → Found n (length s.around) es r
      name_found {m} {xs} r word same find =
          subst (λ v. Found v (length s.around) es r) word (subst (λ ys. (fs : Around) → Surrounding text ys (length ys) fs → Found m (length ys) fs r) same find es w.held.0)

      pub name_some : (r : Option ℕ) → Found n (length s.around) es r → IsSome r
      name_some None found = absurd (name_bound found)
      name_some (Some i) found = refl

      module _ {i : ℕ} (found : Found n (length s.around) es (Some i)) where
        abbrev binder : ℕ
        binder = get_or s.binders i 0

        name_links_lem : w.done ++ (x, port binder 1) ∷ coming_links (items T) s x c (between zs) ≡ links (end 0) (term_under (items T) T)
        name_links_lem =
            ap (λ ls. w.done ++ ls) (sym (links_name text s (items T) x c es n zs binder (place_meant n (renumbered s.binders (length s.around) es) binder (found.1 s.binders)))) ∙ w.all_links

        pub name_there : planned p (port binder 1) ≡ true
        name_there = drafted_port (length (items T)) c w.done p w.drafted binder 1 (w.abstractions i found.0) (omega arith)

        pub name_apart : x ≢ port binder 1
        name_apart = (next_link w.done _ x (port binder 1) name_links_lem).1

        pub builds_name : {p' : Plan} → Linked p x (port binder 1) p' → Builds text T (q + length n) p' c is x s (between zs)
        builds_name {p'} linked = record {
          done = w.done ++ (x, port binder 1) ∷ [];
          stands = stands_name text q es n zs w.stands;
          held = w.held.1;
          bound = λ r h. w.bound r (has_later (meaning n es, q) _ (nothing, r) h);
          drafted = drafted_link (length (items T)) c w.done p p' x (port binder 1) w.drafted w.ready name_there (next_link w.done _ x (port binder 1) name_links_lem).0 linked;
          all_links = append_assoc w.done ((x, port binder 1) ∷ []) _ ∙ name_links_lem;
          all_items = w.all_items;
          all_cells = omega (arith, w.all_cells);
          ready = tt;
          paired = w.paired;
          abstractions = w.abstractions;
          applications = w.applications;
          low = w.low;
        }

    -- ── an item ──

    module _ {es : Around} {n : List ℕ} {zs : List Later} (w : Builds text T q p c is x s (reading es (item n) zs)) where
      pub item_room : length is + 1 ≤ length (items T)
      item_room =
          let size : length (items T) ≡ length is + suc (length (later_items zs)) = ap length (sym w.all_items) ∙ length-append is (n ∷ later_items zs) in
          omega arith

      item_here : get_or (items T) (length is) [] ≡ n
      item_here = ap (λ ls. get_or ls (length is) []) (sym w.all_items) ∙ get_or_at is n (later_items zs) [] (length is) refl

      item_rank : suc (rank_of n (items T)) ≡ length is + 1
      item_rank =
          let room = item_room in
          let rank : rank_of n (items T) ≡ length is = ap (λ v. rank_of v (items T)) (sym item_here) ∙ rank_is (items T) (own_items_lem T reads.linear).once (length is) (omega arith) in
          omega arith

      item_links : w.done ++ (x, end (length is + 1)) ∷ coming_links (items T) s x c (between zs) ≡ links (end 0) (term_under (items T) T)
      item_links = ap (λ ls. w.done ++ ls) (sym (links_item text s (items T) x c es n zs (length is + 1) item_rank)) ∙ w.all_links

      pub item_there : planned p (end (length is + 1)) ≡ true
      item_there = drafted_end (length (items T)) c w.done p w.drafted (length is + 1) item_room

      pub item_apart : x ≢ end (length is + 1)
      item_apart = (next_link w.done _ x (end (length is + 1)) item_links).1

      -- it is listed
      pub item_added : (old new : Items) (r : Result (Unit {0}) TextFault) → listed old ≡ is → Added old n r new → IsOk r × (listed new ≡ is ++ n ∷ [])
      item_added old new (Ok _) e a = (refl, a.3 ∙ ap (λ ls. ls ++ n ∷ []) e)
      item_added old new (Err TextFault.TooLong) e a = absurd a.0
      item_added old new (Err (TextFault.Grammar at)) e a = absurd (a.0.wrong w.stands.spelt.0)
      item_added old new (Err (TextFault.Unbound at)) e a = absurd a.0
      item_added old new (Err (TextFault.UsedTwice at)) e a =
          let (k, l, is-n) = subst (λ ls. Has ls n) e a.0.1 in
          let room = item_room in
          let there : get_or (items T) k [] ≡ n = ap (λ ls. get_or ls k []) (sym w.all_items) ∙ get_or_append_left is (n ∷ later_items zs) [] k l ∙ is-n [] in
          absurd ((own_items_lem T reads.linear).once k (length is) l (omega arith) (there ∙ sym item_here))
      item_added old new (Err (TextFault.Unused at)) e a = absurd a.0
      item_added old new (Err TextFault.TooLarge) e a =
          let room = item_room in
          let few = few_items in
          let full : length is ≡ 63 = ap length (sym e) ∙ a.0.2 in
          absurd (omega arith)

      pub builds_item : {p' : Plan} → Linked p x (end (length is + 1)) p' → Builds text T (q + length n) p' c (is ++ n ∷ []) x s (between zs)
      builds_item {p'} linked = record {
        done = w.done ++ (x, end (length is + 1)) ∷ [];
        stands = stands_item text q es n zs w.stands;
        held = w.held.1;
        bound = λ r h. w.bound r (has_later _ _ (nothing, r) h);
        drafted = drafted_link (length (items T)) c w.done p p' x (end (length is + 1)) w.drafted w.ready item_there (next_link w.done _ x (end (length is + 1)) item_links).0 linked;
        all_links = append_assoc w.done ((x, end (length is + 1)) ∷ []) _ ∙ item_links;
        all_items = append_assoc is (n ∷ []) (later_items zs) ∙ w.all_items;
        all_cells = omega (arith, w.all_cells);
        ready = tt;
        paired = w.paired;
        abstractions = w.abstractions;
        applications = w.applications;
        low = w.low;
      }

  -- ── the whole text ──

  -- at the end everything is drafted
  pub builds_all : (b : Builder) → Builds text T b.at (plan b.draft) b.cells (listed b.items) (at b.spot) (scope b) (between []) → Built text b
  builds_all b w =
      let all : w.done ≡ links (end 0) (term_under (items T) T) = sym (append-nil w.done) ∙ w.all_links in
      let sum : b.cells ≡ cells T = omega (arith, w.all_cells) in (
        T,
        reads,
        subst (λ c. Drafted (length (items T)) c (links (end 0) (term_under (items T) T)) (plan b.draft)) sum (subst (λ ls. Drafted (length (items T)) b.cells ls (plan b.draft)) all w.drafted),
        sym (append-nil (listed b.items)) ∙ w.all_items,
      )

  -- at the beginning everything is to come
  abbrev nowhere : Scope
  nowhere = record { around = []; binders = []; opened = [] }

  builds_first : (p : Plan) → Begun (length (items T) + 1) 0 p → Builds text T 0 p 0 [] (end 0) nowhere (reading [] T [])
  builds_first p begun =
      let few = few_items in
      let ends : p.ends ≡ suc (length (items T)) = omega (arith, begun.ends) in
      record {
        done = [];
        stands = record { inside = omega arith; front = sym reads.written ∙ sym (append-nil (written T)); spelt = (reads.spelt, tt) };
        held = (refl, refl);
        bound = λ r h. reads.linear.closed r (subst (λ us. Has us (nothing, r)) (append-nil (uses [] 0 T)) h);
        drafted = record { ends = ends; loops = omega (arith, begun.loops); cells = begun.cells; kinds = λ r l. absurd (omega arith); arities = λ r l. absurd (omega arith); named = tt };
        all_links = append-nil (links (end 0) (term_under (items T) T));
        all_items = append-nil (items T);
        all_cells = omega arith;
        ready = lt-ltb 0 p.ends (omega arith);
        paired = refl;
        abstractions = λ k l. absurd (omega arith);
        applications = λ k l. absurd (omega arith);
        low = (omega arith, omega arith);
      }

  pub builds_none : (d : Draft) (is : Items) (b : Builder) → Begun (length (items T) + 1) 0 (plan d) → listed is ≡ [] → Begins text d is b → Due (Reading b) Anything
  builds_none d is b begun none begins =
      let place : scope b ≡ nowhere = λ i. record { around = begins.around i; binders = begins.binders i; opened = begins.opened i } in
      let first = builds_first (plan d) begun in
      let at_first = subst (λ e. Builds text T 0 (plan e) 0 [] (end 0) nowhere (reading [] T [])) (sym begins.draft) first in
      let here = subst (λ q. Builds text T q (plan b.draft) 0 [] (end 0) nowhere (reading [] T [])) (sym begins.start) at_first in
      let counted = subst (λ c. Builds text T b.at (plan b.draft) c [] (end 0) nowhere (reading [] T [])) (sym begins.cells) here in
      let named = subst (λ ls. Builds text T b.at (plan b.draft) b.cells ls (end 0) nowhere (reading [] T [])) (sym (ap listed begins.items ∙ none)) counted in
      let placed = subst (λ x. Builds text T b.at (plan b.draft) b.cells (listed b.items) x nowhere (reading [] T [])) (sym begins.spot) named in
      let scoped = subst (λ s. Builds text T b.at (plan b.draft) b.cells (listed b.items) (at b.spot) s (reading [] T [])) (sym place) placed in
      (reading [] T [], tt, subst (λ bs. (U : Named) × Reads bs U × Builds bs U b.at (plan b.draft) b.cells (listed b.items) (at b.spot) (scope b) (reading [] T [])) (sym begins.here) (T, reads, scoped))
