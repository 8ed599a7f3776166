-- The new numbers of the ends that are left, and back. Assumes nothing.
use Rattle.std.proofs.Common.{◌≡◌, ℕ, zero, suc, ◌<◌, ◌≤◌, Bool, true, false, ◌||◌, eqb, ◌≢◌, ◌⊎◌, List, [], ◌∷◌, sym, refl, ap, ◌∙◌, subst, inl, inr, arith}
use Rattle.std.proofs.lemmas.Bool.{cases_lt, both_ways, eqb-true, eq-eqb, or_left, or_right}
use Rattle.calculus.specs.Spots.{end}
use Rattle.calculus.specs.Splicing.{Out}
use Rattle.calculus.specs.Joining.{bonds, listed, rank, old_end}
use Rattle.calculus.proofs.Wiring.{number}

pub yes_or_no : (b : Bool) → (b ≡ true) ⊎ (b ≡ false)
yes_or_no true = inl refl
yes_or_no false = inr refl

eqb_no : (a b : ℕ) → a ≢ b → eqb a b ≡ false
eqb_no a b n = elim (yes_or_no (eqb a b)) [ inl e ↦ absurd (n (eqb-true a b e)) | inr e ↦ e ]

-- an end that is not listed is not spliced
pub left_out : (ss : List (ℕ × ℕ)) (e : ℕ) → listed e ss ≡ false → Out (end e) (bonds ss)
left_out [] e h = tt
left_out (s ∷ ss) e h = (
  (λ z. let y : e ≡ s.0 = cc in both_ways (listed e (s ∷ ss)) h (or_left (eqb e s.0) (eqb e s.1 || listed e ss) (eq-eqb e s.0 y))),
  (λ z. let y : e ≡ s.1 = cc in
      both_ways (listed e (s ∷ ss)) h (or_right (eqb e s.0) (eqb e s.1 || listed e ss) (or_left (eqb e s.1) (listed e ss) (eq-eqb e s.1 y)))),
  left_out ss e (elim (yes_or_no (listed e ss)) [
    | inl t ↦ absurd (both_ways (listed e (s ∷ ss)) h (or_right (eqb e s.0) (eqb e s.1 || listed e ss) (or_right (eqb e s.1) (listed e ss) t)))
    | inr f ↦ f
  ]),
)

pub out_left : (ss : List (ℕ × ℕ)) (e : ℕ) → Out (end e) (bonds ss) → listed e ss ≡ false
out_left [] e o = refl
out_left (s ∷ ss) e o =
    let a = eqb_no e s.0 (λ z. o.0 (ap end z)) in
    let b = eqb_no e s.1 (λ z. o.1 (ap end z)) in
    let c = out_left ss e o.2 in
    cc

module _ (ss : List (ℕ × ℕ)) where
  rank_listed : (e : ℕ) → listed e ss ≡ true → rank ss (suc e) ≡ rank ss e
  rank_listed e h = cc

  rank_left : (e : ℕ) → listed e ss ≡ false → rank ss (suc e) ≡ suc (rank ss e)
  rank_left e h = cc

  old_hit : (e i : ℕ) → listed e ss ≡ false → rank ss e ≡ i → old_end ss (suc e) i ≡ e
  old_hit e i h z = let f = eq-eqb (rank ss e) i z in cc

  old_listed : (e i : ℕ) → listed e ss ≡ true → old_end ss (suc e) i ≡ old_end ss e i
  old_listed e i h = cc

  old_miss : (e i : ℕ) → listed e ss ≡ false → rank ss e ≢ i → old_end ss (suc e) i ≡ old_end ss e i
  old_miss e i h n = let f = eqb_no (rank ss e) i n in cc

  rank_rises : (n : ℕ) → rank ss n ≤ rank ss (suc n)
  rank_rises n = elim (yes_or_no (listed n ss)) [ inl t ↦ (let e = rank_listed n t in omega arith) | inr f ↦ (let e = rank_left n f in omega arith) ]

  rank_more : (n e : ℕ) → e ≤ n → rank ss e ≤ rank ss n
  rank_more zero e h = let z : e ≡ 0 = omega arith in let y : rank ss e ≡ rank ss 0 = ap (rank ss) z in omega arith
  rank_more (suc n) e h = elim (cases_lt e (suc n)) [
    | inl k ↦ (let i = rank_more n e (omega arith) in let j = rank_rises n in omega arith)
    | inr k ↦ (let z : e ≡ suc n = omega arith in let y : rank ss e ≡ rank ss (suc n) = ap (rank ss) z in omega arith)
  ]

  -- an end that is left has a number below the number of those left
  pub rank_below : (n e : ℕ) → e < n → listed e ss ≡ false → rank ss e < rank ss n
  rank_below n e h f = let a = rank_left e f in let b = rank_more n (suc e) h in omega arith

  pub old_rank : (n e : ℕ) → e < n → listed e ss ≡ false → old_end ss n (rank ss e) ≡ e
  old_rank zero e h f = absurd (let z : ⊥ = omega arith in z)
  old_rank (suc n) e h f = elim (cases_lt e n) [
    | inl k ↦ elim (yes_or_no (listed n ss)) [
      | inl t ↦ old_listed n (rank ss e) t ∙ old_rank n e k f
      | inr g ↦ (let b = rank_below n e k f in old_miss n (rank ss e) g (omega arith) ∙ old_rank n e k f)
    ]
    | inr k ↦ (let z : e ≡ n = omega arith in old_hit n (rank ss e) (subst (λ e. listed e ss ≡ false) z f) (ap (rank ss) (sym z)) ∙ sym z)
  ]

  -- the end of a number below that of those left
  pub record Old (n i : ℕ) : Type 0 where
    pub below : old_end ss n i < n
    pub left : listed (old_end ss n i) ss ≡ false
    pub number : rank ss (old_end ss n i) ≡ i

  old_step : (n i : ℕ) → old_end ss (suc n) i ≡ old_end ss n i → Old n i → Old (suc n) i
  old_step n i e o =
      let b = o.below in
      let l = o.left in
      let m = o.number in
      record {
        below = omega arith;
        left = ap (λ e. listed e ss) e ∙ l;
        number = ap (rank ss) e ∙ m;
      }

  pub rank_old : (n i : ℕ) → i < rank ss n → Old n i
  rank_old zero i h = absurd (let z : ⊥ = omega arith in z)
  rank_old (suc n) i h = elim (yes_or_no (listed n ss)) [
    | inl t ↦ (let a = rank_listed n t in old_step n i (old_listed n i t) (rank_old n i (omega arith)))
    | inr f ↦ elim (number (rank ss n) i) [
      | inl e ↦ (
          let z = old_hit n i f e in
          record { below = omega arith; left = ap (λ e. listed e ss) z ∙ f; number = ap (rank ss) z ∙ e })
      | inr k ↦ (let a = rank_left n f in old_step n i (old_miss n i f k) (rank_old n i (omega arith)))
    ]
  ]
