-- What stands at a place of the text of a term.
use Rattle.std.proofs.Common.{◌≡◌, ℕ, suc, ◌+◌, ◌<◌, ◌≤◌, true, false, List, [], ◌∷◌, ◌++◌, length, get_or, take, drop, Some, None, leb, inl, inr, sym, refl, ap, ◌∙◌, subst, append_assoc, arith}
use Rattle.std.specs.List.{slice_get}
use Rattle.std.proofs.lemmas.List.{length-append, length-drop, drop-drop, drop_at, take_at, get_or-drop, get_or-append-add}
use Rattle.std.proofs.lemmas.Option.{get_or_from_slice_get, slice_get_within, slice_get_cases}
use Rattle.std.proofs.lemmas.Bool.{both_ways, leb-true, and_parts, cases_Bool}
use Rattle.terms.specs.Letters.{letter, small, capital, Word, WordAt}
use Rattle.terms.specs.Named.{Named, bound, item, lam, app, written}
use Rattle.terms.specs.Bindings.{Around}
use Rattle.terms.specs.Walking.{Later, due, shut, rest, Todo, reading, between, remaining, Stands, Abstraction, Application, BoundName, AnItem, Argument, Closing, Due, Anything}
use Rattle.terms.proofs.Machine.{capital_sign}

-- what stands after some bytes
pub drop_more : (text : List ℕ) (p : ℕ) (xs ys : List ℕ) (n : ℕ) → length xs ≡ n → drop p text ≡ xs ++ ys → drop (p + n) text ≡ ys
drop_more text p xs ys n l e = sym (drop-drop n p text) ∙ ap (drop n) e ∙ drop_at xs ys n l

-- the letters do not go on
abbrev Stops : ℕ → List ℕ → Type 0
Stops first [] = Unit {0}
Stops first (b ∷ ys) = letter first b ≡ false

pub word_front : (text : List ℕ) (p first : ℕ) (w ys : List ℕ) → p ≤ length text → drop p text ≡ w ++ ys → Word first w → Stops first ys → WordAt text p first w
word_front text p first w ys l e h s =
    let n = length-drop p text in
    let m : length (drop p text) ≡ length w + length ys = ap length e ∙ length-append w ys in
    record {
      word = h;
      inside = omega arith;
      here = ap (take (length w)) e ∙ take_at w ys (length w) refl;
      ends = λ i. stop ys s e (omega arith);
    }
  where
    at : (zs : List ℕ) → drop p text ≡ w ++ zs → get_or text (p + length w) 0 ≡ get_or zs 0 0
    at zs f =
        let z : length w + 0 ≡ length w = omega arith in
        sym (get_or-drop p text (length w) 0) ∙ ap (λ (r : List ℕ). get_or r (length w) 0) f ∙ ap (λ k. get_or (w ++ zs) k 0) (sym z) ∙ get_or-append-add w zs 0 0

    stop : (zs : List ℕ) → Stops first zs → drop p text ≡ w ++ zs → 0 < length ys → letter first (get_or text (p + length w) 0) ≡ false
    stop [] t f i = let k : length (drop p text) ≡ length w + 0 = ap length f ∙ length-append w [] in let m : length (drop p text) ≡ length w + length ys = ap length e ∙ length-append w ys in absurd (omega arith)
    stop (b ∷ zs) t f i = subst (λ x. letter first x ≡ false) (sym (at (b ∷ zs) f)) t

rest_stops_small : (zs : List Later) → Stops small (rest zs)
rest_stops_small [] = tt
rest_stops_small (due es a ∷ zs) = refl
rest_stops_small (shut es ∷ zs) = refl

rest_stops_capital : (zs : List Later) → Stops capital (rest zs)
rest_stops_capital [] = tt
rest_stops_capital (due es a ∷ zs) = refl
rest_stops_capital (shut es ∷ zs) = refl

-- the first byte of what is to be read tells its kind
pub data Which (b : ℕ) (z : Todo) : Type 0 where
  abstraction : b ≡ 92 → Abstraction z → Which b z
  application : b ≡ 40 → Application z → Which b z
  bound_name : letter small b ≡ true → BoundName z → Which b z
  an_item : letter capital b ≡ true → AnItem z → Which b z
  an_argument : b ≡ 32 → Argument z → Which b z
  closing : b ≡ 41 → Closing z → Which b z

module _ (text : List ℕ) (p : ℕ) where
  -- how much text is left
  pub left : (z : Todo) → Stands text p z → length text ≡ p + length (remaining z)
  left z w = let n = length-drop p text in let m : length (drop p text) ≡ length (remaining z) = ap length w.front in let i = w.inside in omega arith

  pub name_at : (es : Around) (n : List ℕ) (b : Named) (zs : List Later) → Stands text p (reading es (lam n b) zs) → WordAt text (p + 1) small n
  name_at es n b zs w =
      let k = left (reading es (lam n b) zs) w in
      let f : drop (p + 1) text ≡ n ++ (46 ∷ written b ++ rest zs) = drop_more text p (92 ∷ []) (n ++ (46 ∷ written b ++ rest zs)) 1 refl (w.front ∙ ap (λ r. 92 ∷ r) (append_assoc n (46 ∷ written b) (rest zs))) in
      word_front text (p + 1) small n _ (omega arith) f w.spelt.0.0 refl

  pub bound_at : (es : Around) (n : List ℕ) (zs : List Later) → Stands text p (reading es (bound n) zs) → WordAt text p small n
  bound_at es n zs w = word_front text p small n (rest zs) w.inside w.front w.spelt.0 (rest_stops_small zs)

  pub item_at : (es : Around) (n : List ℕ) (zs : List Later) → Stands text p (reading es (item n) zs) → WordAt text p capital n
  item_at es n zs w = word_front text p capital n (rest zs) w.inside w.front w.spelt.0 (rest_stops_capital zs)

  pub stands_body : (es fs : Around) (n : List ℕ) (b : Named) (zs : List Later) → Stands text p (reading es (lam n b) zs) → Stands text (p + (length n + 2)) (reading fs b zs)
  stands_body es fs n b zs w =
      let k = left (reading es (lam n b) zs) w in
      let a = length-append n (46 ∷ written b) in
      let c = length-append (92 ∷ (n ++ 46 ∷ written b)) (rest zs) in
      let e : length (92 ∷ (n ++ 46 ∷ [])) ≡ length n + 2 = ap suc (length-append n (46 ∷ [])) ∙ omega arith in
      let f : drop p text ≡ (92 ∷ (n ++ 46 ∷ [])) ++ (written b ++ rest zs) =
      w.front ∙ ap (λ r. 92 ∷ r) (append_assoc n (46 ∷ written b) (rest zs) ∙ sym (append_assoc n (46 ∷ []) (written b ++ rest zs))) in
      record {
        inside = omega arith;
        front = drop_more text p (92 ∷ (n ++ 46 ∷ [])) (written b ++ rest zs) (length n + 2) e f;
        spelt = (w.spelt.0.1, w.spelt.1);
      }

  pub stands_function : (es : Around) (f a : Named) (zs : List Later) → Stands text p (reading es (app f a) zs) → Stands text (p + 1) (reading es f (due es a ∷ zs))
  stands_function es f a zs w =
      let k = left (reading es (app f a) zs) w in
      let e : drop p text ≡ (40 ∷ []) ++ (written f ++ 32 ∷ (written a ++ 41 ∷ rest zs)) =
      w.front ∙ ap (λ r. 40 ∷ r) (append_assoc (written f) (32 ∷ (written a ++ 41 ∷ [])) (rest zs) ∙ ap (λ r. written f ++ 32 ∷ r) (append_assoc (written a) (41 ∷ []) (rest zs))) in
      record { inside = omega arith; front = drop_more text p (40 ∷ []) _ 1 refl e; spelt = (w.spelt.0.0, (w.spelt.0.1, w.spelt.1)) }

  pub stands_argument : (es : Around) (a : Named) (zs : List Later) → Stands text p (between (due es a ∷ zs)) → Stands text (p + 1) (reading es a (shut es ∷ zs))
  stands_argument es a zs w =
      let k = left (between (due es a ∷ zs)) w in
      record { inside = omega arith; front = drop_more text p (32 ∷ []) _ 1 refl w.front; spelt = w.spelt }

  pub stands_close : (es : Around) (zs : List Later) → Stands text p (between (shut es ∷ zs)) → Stands text (p + 1) (between zs)
  stands_close es zs w =
      let k = left (between (shut es ∷ zs)) w in
      record { inside = omega arith; front = drop_more text p (41 ∷ []) _ 1 refl w.front; spelt = w.spelt }

  pub stands_name : (es : Around) (n : List ℕ) (zs : List Later) → Stands text p (reading es (bound n) zs) → Stands text (p + length n) (between zs)
  stands_name es n zs w = record { inside = (bound_at es n zs w).inside; front = drop_more text p n (rest zs) (length n) refl w.front; spelt = w.spelt.1 }

  pub stands_item : (es : Around) (n : List ℕ) (zs : List Later) → Stands text p (reading es (item n) zs) → Stands text (p + length n) (between zs)
  stands_item es n zs w = record { inside = (item_at es n zs w).inside; front = drop_more text p n (rest zs) (length n) refl w.front; spelt = w.spelt.1 }

  first_is : (z : Todo) → Stands text p z → (b : ℕ) (r : List ℕ) → remaining z ≡ b ∷ r → get_or text p 0 ≡ b
  first_is z w b r e =
      let q : p + 0 ≡ p = omega arith in
      ap (λ k. get_or text k 0) (sym q) ∙ sym (get_or-drop p text 0 0) ∙ ap (λ (x : List ℕ). get_or x 0 0) (w.front ∙ e)

  pub which : (z : Todo) → p < length text → Stands text p z → Which (get_or text p 0) z
  which (reading es (bound []) zs) l w = absurd (omega (arith, w.spelt.0.some))
  which (reading es (bound (c ∷ n)) zs) l w =
      bound_name (subst (λ b. letter small b ≡ true) (sym (first_is (reading es (bound (c ∷ n)) zs) w c (n ++ rest zs) refl)) (w.spelt.0.letters 0 (omega arith))) (es, c ∷ n, zs, refl)
  which (reading es (item []) zs) l w = absurd (omega (arith, w.spelt.0.some))
  which (reading es (item (c ∷ n)) zs) l w =
      an_item (subst (λ b. letter capital b ≡ true) (sym (first_is (reading es (item (c ∷ n)) zs) w c (n ++ rest zs) refl)) (w.spelt.0.letters 0 (omega arith))) (es, c ∷ n, zs, refl)
  which (reading es (lam n b) zs) l w = abstraction (first_is (reading es (lam n b) zs) w 92 _ refl) (es, n, b, zs, refl)
  which (reading es (app f a) zs) l w = application (first_is (reading es (app f a) zs) w 40 _ refl) (es, f, a, zs, refl)
  which (between []) l w = let k = left (between []) w in absurd (omega arith)
  which (between (due es a ∷ zs)) l w = an_argument (first_is (between (due es a ∷ zs)) w 32 _ refl) (es, a, zs, refl)
  which (between (shut es ∷ zs)) l w = closing (first_is (between (shut es ∷ zs)) w 41 _ refl) (es, zs, refl)

  -- at the end of the text nothing is to be read
  pub at_end : (z : Todo) → length text ≤ p → Stands text p z → z ≡ between []
  at_end (reading es (bound n) zs) l w =
      let k = left (reading es (bound n) zs) w in let m = length-append n (rest zs) in let s = w.spelt.0.some in absurd (omega arith)
  at_end (reading es (item n) zs) l w =
      let k = left (reading es (item n) zs) w in let m = length-append n (rest zs) in let s = w.spelt.0.some in absurd (omega arith)
  at_end (reading es (lam n b) zs) l w = let k = left (reading es (lam n b) zs) w in absurd (omega arith)
  at_end (reading es (app f a) zs) l w = let k = left (reading es (app f a) zs) w in absurd (omega arith)
  at_end (between []) l w = refl
  at_end (between (due es a ∷ zs)) l w = let k = left (between (due es a ∷ zs)) w in absurd (omega arith)
  at_end (between (shut es ∷ zs)) l w = let k = left (between (shut es ∷ zs)) w in absurd (omega arith)

pub as_abstraction : (b : ℕ) (z : Todo) → b ≡ 92 → Which b z → Abstraction z
as_abstraction b z e (abstraction f k) = k
as_abstraction b z e (application f k) = absurd (omega arith)
as_abstraction b z e (bound_name f k) = absurd (both_ways (letter small 92) refl (subst (λ x. letter small x ≡ true) e f))
as_abstraction b z e (an_item f k) = absurd (both_ways (letter capital 92) refl (subst (λ x. letter capital x ≡ true) e f))
as_abstraction b z e (an_argument f k) = absurd (omega arith)
as_abstraction b z e (closing f k) = absurd (omega arith)

pub as_application : (b : ℕ) (z : Todo) → b ≡ 40 → Which b z → Application z
as_application b z e (abstraction f k) = absurd (omega arith)
as_application b z e (application f k) = k
as_application b z e (bound_name f k) = absurd (both_ways (letter small 40) refl (subst (λ x. letter small x ≡ true) e f))
as_application b z e (an_item f k) = absurd (both_ways (letter capital 40) refl (subst (λ x. letter capital x ≡ true) e f))
as_application b z e (an_argument f k) = absurd (omega arith)
as_application b z e (closing f k) = absurd (omega arith)

pub as_an_argument : (b : ℕ) (z : Todo) → b ≡ 32 → Which b z → Argument z
as_an_argument b z e (abstraction f k) = absurd (omega arith)
as_an_argument b z e (application f k) = absurd (omega arith)
as_an_argument b z e (bound_name f k) = absurd (both_ways (letter small 32) refl (subst (λ x. letter small x ≡ true) e f))
as_an_argument b z e (an_item f k) = absurd (both_ways (letter capital 32) refl (subst (λ x. letter capital x ≡ true) e f))
as_an_argument b z e (an_argument f k) = k
as_an_argument b z e (closing f k) = absurd (omega arith)

pub as_closing : (b : ℕ) (z : Todo) → b ≡ 41 → Which b z → Closing z
as_closing b z e (abstraction f k) = absurd (omega arith)
as_closing b z e (application f k) = absurd (omega arith)
as_closing b z e (bound_name f k) = absurd (both_ways (letter small 41) refl (subst (λ x. letter small x ≡ true) e f))
as_closing b z e (an_item f k) = absurd (both_ways (letter capital 41) refl (subst (λ x. letter capital x ≡ true) e f))
as_closing b z e (an_argument f k) = absurd (omega arith)
as_closing b z e (closing f k) = k

pub as_name : (b : ℕ) (z : Todo) → letter small b ≡ true → Which b z → BoundName z
as_name b z e (abstraction f k) = absurd (both_ways (letter small 92) refl (subst (λ x. letter small x ≡ true) f e))
as_name b z e (application f k) = absurd (both_ways (letter small 40) refl (subst (λ x. letter small x ≡ true) f e))
as_name b z e (bound_name f k) = k
as_name b z e (an_item f k) = absurd (both_ways _ (capital_sign b f).2 e)
as_name b z e (an_argument f k) = absurd (both_ways (letter small 32) refl (subst (λ x. letter small x ≡ true) f e))
as_name b z e (closing f k) = absurd (both_ways (letter small 41) refl (subst (λ x. letter small x ≡ true) f e))

pub as_item : (b : ℕ) (z : Todo) → (b ≡ 92 → ⊥) → (b ≡ 40 → ⊥) → (b ≡ 32 → ⊥) → (b ≡ 41 → ⊥) → letter small b ≡ false → Which b z → AnItem z
as_item b z e₁ e₂ e₃ e₄ e₅ (abstraction f k) = absurd (e₁ f)
as_item b z e₁ e₂ e₃ e₄ e₅ (application f k) = absurd (e₂ f)
as_item b z e₁ e₂ e₃ e₄ e₅ (bound_name f k) = absurd (both_ways _ e₅ f)
as_item b z e₁ e₂ e₃ e₄ e₅ (an_item f k) = k
as_item b z e₁ e₂ e₃ e₄ e₅ (an_argument f k) = absurd (e₃ f)
as_item b z e₁ e₂ e₃ e₄ e₅ (closing f k) = absurd (e₄ f)

pub no_letter : (b : ℕ) → (97 ≤ b → b ≤ 122 → ⊥) → letter small b ≡ false
no_letter b h = elim (cases_Bool (letter small b)) [ inl e ↦ (let (low, high) = and_parts (leb 97 b) (leb b 122) e in absurd (h (leb-true 97 b low) (leb-true b 122 high))) | inr e ↦ e ]

-- what the byte says of what is to be read
pub told : {R K : Todo → Type 0} (text : List ℕ) (at b : ℕ) → slice_get text at ≡ Some b → ((z : Todo) → R z → Stands text at z) → Due R Anything → ((z : Todo) → Which b z → K z) → Due R K
told {R} {K} text at b here stands (z, _, r) tells =
    (z, tells z (subst (λ k. Which k z) (get_or_from_slice_get text at b 0 here) (which text at z (slice_get_within text at b here) (stands z r))), r)

-- past the end of the text there is no byte
pub past : (text : List ℕ) (at : ℕ) → slice_get text at ≡ None → length text ≤ at
past text at none = elim (slice_get_cases text at).1 [ inl (b, _, some, _) ↦ (let z : ◌≡◌ {A = ℕ} 0 1 = cc in absurd (omega arith)) | inr (end, _) ↦ end ]
