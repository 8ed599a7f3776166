-- Bytes that spell a word, and where they stop to.
use Rattle.std.proofs.Common.{◌≡◌, ℕ, zero, suc, ◌+◌, ◌-◌, ◌<◌, ◌≤◌, min, true, false, ◌⊎◌, List, [], ◌∷◌, ◌++◌, length, get_or, take, drop, sym, refl, ap, ◌∙◌, subst, inl, inr, zero-add, arith}
use Rattle.std.proofs.lemmas.List.{length-take, length-drop, length-append, get_or-take, get_or_append_left, append-nil, take_all, get_or-drop}
use Rattle.std.specs.List.{prefix_len}
use Rattle.std.proofs.lemmas.List.Sums.{prefix_len-le-length, prefix_len_passes, prefix_len_stops}
use Rattle.std.proofs.lemmas.List.Folds.{length-prefix_len}
use Rattle.std.proofs.lemmas.Bool.{both_ways, cases_order, cases_lt, and_from, le-leb}
use Rattle.terms.specs.Letters.{letter, Word, Outside, Run, WordAt, ReadAt}

-- the first letter is a letter
pub first_letter : (first : ℕ) → letter first first ≡ true
first_letter first = and_from _ _ (le-leb first first (omega arith)) (le-leb first (first + 25) (omega arith))

-- one letter is a word
pub one_letter : (first : ℕ) → Word first (first ∷ [])
one_letter first = record {
  some = omega arith;
  few = omega arith;
  letters = go;
}
  where
    go : (k : ℕ) → k < 1 → letter first (get_or (first ∷ []) k 0) ≡ true
    go zero h = first_letter first
    go (suc k) h = absurd (omega arith)

-- letters that stand at the front of some bytes are a word
pub front_word : (first : ℕ) (w : List ℕ) (n : ℕ) → 1 ≤ n → n ≤ 8 → n ≤ length w → ((k : ℕ) → k < n → letter first (get_or w k 0) ≡ true) → Word first (take n w)
front_word first w n some few inside letters =
    let e : length (take n w) ≡ n = length-take n w ∙ omega arith in
    record {
      some = omega arith;
      few = omega arith;
      letters = λ k h. let l : k < n = omega arith in rw get_or-take (letters k l);
    }

-- a run of letters that stops before the end of the bytes, or before it begins, shows where they leave words
pub outside_word : (first : ℕ) (w : List ℕ) (n : ℕ) → Run w 0 first n → (n ≡ 0) ⊎ (n < length w) → Outside (Word first) w n
outside_word first w n r h = record {
  wrong = wrong;
  inside = omega (arith, r.inside);
  begun = begun;
  longest = longest;
}
  where
    letters : (k : ℕ) → k < n → letter first (get_or w k 0) ≡ true
    letters k l = rw zero-add at (r.letters k l)

    stops : n < 8 → n < length w → letter first (get_or w n 0) ≡ false
    stops l i = let e : 0 + n ≡ n = zero-add n in subst (λ m. letter first (get_or w m 0) ≡ false) e (r.ends l (omega arith))

    wrong : Word first w → ⊥
    wrong g =
        let i : n < length w = ⊎_lt h g.some in
        both_ways _ (stops (omega (arith, g.few)) i) (g.letters n i)
      where
        ⊎_lt : (n ≡ 0) ⊎ (n < length w) → 1 ≤ length w → n < length w
        ⊎_lt (inl e) l = omega arith
        ⊎_lt (inr l) _ = l

    begun : (v : List ℕ) × Word first (take n w ++ v)
    begun = go n refl
      where
        go : (m : ℕ) → n ≡ m → (v : List ℕ) × Word first (take n w ++ v)
        go zero e = (first ∷ [], subst (λ m. Word first (take m w ++ first ∷ [])) (sym e) (one_letter first))
        go (suc m) e = ([], rw append-nil (front_word first w n (omega arith) r.few (omega (arith, r.inside)) letters))

    longest : (q : ℕ) → n < q → q ≤ length w → (v : List ℕ) → Word first (take q w ++ v) → ⊥
    longest q l i v g =
        let e : length (take q w) ≡ q = length-take q w ∙ omega arith in
        let a = length-append (take q w) v in
        let at : get_or (take q w ++ v) n 0 ≡ get_or w n 0 = get_or_append_left (take q w) v 0 n (omega arith) ∙ get_or-take q w n 0 l in
        both_ways _ (stops (omega (arith, g.few)) (omega arith)) (subst (λ b. letter first b ≡ true) at (g.letters n (omega arith)))

-- a run of letters that is all of the bytes is a word
pub whole_word : (first : ℕ) (w : List ℕ) (n : ℕ) → Run w 0 first n → 1 ≤ n → length w ≤ n → Word first w
whole_word first w n r some all =
    subst (Word first) (take_all n w all) (front_word first w n some r.few (omega (arith, r.inside)) (λ k l. rw zero-add at (r.letters k l)))

-- there is one run of letters at a place
pub one_run : (text : List ℕ) (p first n m : ℕ) → Run text p first n → Run text p first m → n ≡ m
one_run text p first n m r q =
    elim (cases_order n m) [
      | inl e ↦ e
      | inr (inl l) ↦ absurd (both_ways _ (r.ends (omega (arith, q.few)) (omega (arith, q.inside))) (q.letters n l))
      | inr (inr l) ↦ absurd (both_ways _ (q.ends (omega (arith, r.few)) (omega (arith, r.inside))) (r.letters m l))
    ]

-- so one word is read there
pub one_reading : (text : List ℕ) (p first : ℕ) (w v : List ℕ) → ReadAt text p first w → ReadAt text p first v → w ≡ v
one_reading text p first w v r q =
    elim (cases_lt (length text) p) [
      | inl l ↦ r.past l ∙ sym (q.past l)
      | inr h ↦ r.here h ∙ ap (λ (n : ℕ). take n (drop p text)) (one_run text p first (length w) (length v) (r.run h) (q.run h)) ∙ sym (q.here h)
    ]

-- the letters that a run has are what is read there
pub run_read : (text : List ℕ) (p first n : ℕ) → Run text p first n → ReadAt text p first (take n (drop p text))
run_read text p first n r =
    let long : length (take n (drop p text)) ≡ n = simp (length-take, length-drop) (let i = r.inside in omega arith) in
    record {
      past = λ l. absurd (omega (arith, r.inside));
      run = λ h. subst (Run text p first) (sym long) r;
      here = λ h. ap (λ (k : ℕ). take k (drop p text)) (sym long);
    }

-- the run of letters at a word is that word
pub run_word : (text : List ℕ) (p first n : ℕ) (w : List ℕ) → Run text p first n → WordAt text p first w → n ≡ length w
run_word text p first n w r h =
    elim (cases_order n (length w)) [
      | inl e ↦ e
      | inr (inl l) ↦
          let e : get_or w n 0 ≡ get_or text (p + n) 0 = sym (ap (λ (x : List ℕ). get_or x n 0) h.here) ∙ get_or-take (length w) (drop p text) n 0 l ∙ get_or-drop p text n 0 in
          absurd (both_ways _ (r.ends (omega (arith, h.word.few)) (omega (arith, h.inside))) (subst (λ b. letter first b ≡ true) e (h.word.letters n l)))
      | inr (inr l) ↦ absurd (both_ways _ (h.ends (omega (arith, r.inside))) (r.letters (length w) l))
    ]

-- the letters at the front of the eight bytes from a place on are the run there
pub front_run : (text : List ℕ) (p first : ℕ) → p ≤ length text → Run text p first (length (take (prefix_len (letter first) (take 8 (drop p text))) (take 8 (drop p text))))
front_run text p first inside =
    let front : List ℕ = take 8 (drop p text) in
    let long : length front ≡ min 8 (length text - p) = simp (length-take, length-drop) in
    let n : ℕ = prefix_len (letter first) front in
    let fits : n ≤ length front = prefix_len-le-length (letter first) front in
    let same : length (take n front) ≡ n = length-prefix_len (letter first) front in
    let at : (k : ℕ) → k < length front → get_or front k 0 ≡ get_or text (p + k) 0 = λ k l. get_or-take 8 (drop p text) k 0 (omega arith) ∙ get_or-drop p text k 0 in
    subst (Run text p first) (sym same) (record {
      few = omega arith;
      inside = omega arith;
      letters = λ k l. subst (λ b. letter first b ≡ true) (at k (omega arith)) (prefix_len_passes (letter first) front k 0 l);
      ends = λ l i. subst (λ b. letter first b ≡ false) (at n (omega arith)) (prefix_len_stops (letter first) front 0 (omega arith));
    })

-- a word that stands at a place is what is read there
pub word_read : (text : List ℕ) (p first : ℕ) (w : List ℕ) → WordAt text p first w → ReadAt text p first w
word_read text p first w h = record {
  past = λ l. absurd (omega (arith, h.inside));
  run = λ _. record {
    few = h.word.few;
    inside = h.inside;
    letters = λ k l.
        let e : get_or w k 0 ≡ get_or text (p + k) 0 = sym (ap (λ (x : List ℕ). get_or x k 0) h.here) ∙ get_or-take (length w) (drop p text) k 0 l ∙ get_or-drop p text k 0 in
        subst (λ b. letter first b ≡ true) e (h.word.letters k l);
    ends = λ _ i. h.ends i;
  };
  here = λ _. sym h.here;
}
