-- The spots of a file, numbered in the order of their words.
use Rattle.std.proofs.Common.{◌≡◌, ℕ, ◌+◌, ◌-◌, ◌*◌, ◌/◌, ◌%◌, ◌<◌, ◌≤◌, ◌⊎◌, List, ◌∙◌, subst, inl, inr, arith}
use Rattle.std.proofs.lemmas.Bool.{lt-ltb, le-ltb, cond-true, cond-false, cases_lt}
use Rattle.calculus.specs.Spots.{Spot, end, port}
use Rattle.calculus.specs.Books.{RuleBook, Laws}
use Rattle.nets.specs.Drafts.{Before}
use Rattle.netfile.specs.Faults.{Nameable, LinkDue}
use Rattle.netfile.specs.Passes.{nth_spot}

-- the number of a spot, where there are e ends
abbrev pub number : ℕ → Spot → ℕ
number e (end x) = x
number e (port i j) = e + (3 * i + j)

pub is_end : (e i : ℕ) → i < e → nth_spot e i ≡ end i
is_end e i h = cond-true _ _ _ (lt-ltb i e h)

pub is_port : (e i : ℕ) → e ≤ i → nth_spot e i ≡ port ((i - e) / 3) ((i - e) % 3)
is_port e i h = cond-false _ _ _ (le-ltb i e h)

module _ (e c : ℕ) where
  pub nth_number : (x : Spot) → Nameable e c x → nth_spot e (number e x) ≡ x
  nth_number (end x) h = is_end e x h
  nth_number (port i j) h =
      let row : (e + (3 * i + j) - e) / 3 ≡ i = omega (arith, h.1) in
      let at : (e + (3 * i + j) - e) % 3 ≡ j = omega (arith, h.1) in
      is_port e (e + (3 * i + j)) (omega arith) ∙ cc

  pub number_below : (x : Spot) → Nameable e c x → number e x < e + 3 * c
  number_below (end x) h = omega (arith, h)
  number_below (port i j) h = omega (arith, h.0, h.1)

  -- what comes before spot i has a number below i
  pub number_before : (i : ℕ) (y : Spot) → Nameable e c y → Before y (nth_spot e i) → number e y < i
  number_before i y h b =
      elim (cases_lt i e) [
        | inl low ↦ by_end y (subst (Before y) (is_end e i low) b)
        | inr far ↦ by_port far y h (subst (Before y) (is_port e i far) b)
      ]
    where
      by_end : (y : Spot) → Before y (end i) → number e y < i
      by_end (end k) b = b
      by_end (port r j) b = absurd b

      by_port : e ≤ i → (y : Spot) → Nameable e c y → Before y (port ((i - e) / 3) ((i - e) % 3)) → number e y < i
      by_port far (end k) h b = omega (arith, h)
      by_port far (port r j) h (inl b) = omega (arith, h.1, b)
      by_port far (port r j) h (inr b) = omega (arith, h.1, b.0, b.1)

  pub cases_nameable : (x : Spot) → Nameable e c x ⊎ (Nameable e c x → ⊥)
  cases_nameable (end x) = elim (cases_lt x e) [ inl low ↦ inl low | inr far ↦ inr (λ h. omega (arith, h)) ]
  cases_nameable (port i j) =
      elim (cases_lt i c) [
        | inl low ↦ elim (cases_lt j 3) [ inl small ↦ inl (low, small) | inr far ↦ inr (λ h. omega (arith, h.1)) ]
        | inr far ↦ inr (λ h. omega (arith, h.0))
      ]

-- no cell has a port past 2
pub due_nameable : (K : RuleBook) → Laws K → (bs : List ℕ) (e c : ℕ) (x : Spot) (w : ℕ) → LinkDue K bs e c x w → Nameable e c x
due_nameable K laws bs e c (end x) w due = due.0
due_nameable K laws bs e c (port i j) w due = (due.3, omega (arith, (laws.kinds due.4.1.0 due.1 due.4.1.2).1, due.5))
