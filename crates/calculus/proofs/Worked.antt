-- The worked nets, computed. Assumes nothing.
use Rattle.std.proofs.Common.{◌≡◌, ℕ, suc, ◌+◌, ◌-◌, true, [], ◌∷◌, length, get_or, refl, ap, ◌∙◌, arith}
use Rattle.calculus.specs.Spots.{end, port}
use Rattle.calculus.specs.Books.{Rule, RuleBook, Laws}
use Rattle.calculus.specs.Nets.{Net, Good, Pair, Active}
use Rattle.calculus.specs.Reaching.{none, step}
use Rattle.calculus.specs.Splicing.{through, closes}
use Rattle.calculus.specs.Drawn.{Drawing, drawn}
use Rattle.calculus.specs.Combinators.{γ, δ, γγ, δδ, εε, γδ, γε, combinators}
use Rattle.calculus.specs.Counts.{Z, S, A, ZA, SA, counts}
use Rattle.calculus.specs.Worked.{ComesTo, AlwaysSo, erasers, own, across, erased, doubled, twice, two_and_three, five, loops_only, WorkedNets, BooksLawful, Growing}
use Rattle.calculus.proofs.Tests.{pass?, nth_within}
use Rattle.calculus.proofs.Lawful.{combinators_lawful, counts_lawful}
use Rattle.calculus.proofs.Beside.{split, beside}
use Rattle.calculus.proofs.Wiring.{wiring}
use Rattle.calculus.proofs.Rewrite.{Sized, facing, rewrite, without, sized_after}
use Rattle.calculus.proofs.Leads.{fresh}
use Rattle.calculus.proofs.Places.{at_fresh}
use Rattle.calculus.proofs.Alikes.{alike_refl, alike_sym, alike_trans}
use Rattle.calculus.proofs.Respects.{rest_alike_lem}
use Rattle.calculus.proofs.Grid.{rest_final_lem, good_reaches, carry_reaches}
use Rattle.calculus.proofs.Drawings.{well_formed, good_drawn, rest?, at_rest, kept, alike_drawn}

sized_drawn : (K : RuleBook) → Laws K → (D : Drawing) → pass? (well_formed K D) ≡ true → Sized K (length D.kinds) (drawn D)
sized_drawn K laws D t = record { good = good_drawn K D laws t; small = λ r k e. nth_within D.kinds r k e }

-- a net at rest has come to itself
rests : (K : RuleBook) → Laws K → (D : Drawing) → pass? (well_formed K D) ≡ true → rest? K (drawn D) (length D.kinds) ≡ true → ComesTo K D 0 D
rests K laws D t u =
    let S = sized_drawn K laws D t in
    record {
      good = S.good;
      rules = [];
      result = drawn D;
      reached = none;
      steps = refl;
      rest = at_rest K (drawn D) (length D.kinds) S.small u;
      alike = alike_refl (drawn D);
    }

-- the net drawn as D with the pair P rewritten
abbrev then : RuleBook → Drawing → Pair → Net
then K D P = rewrite K (length D.kinds) (drawn D) P

-- one interaction more: P rewritten in D gives D', renumbered
comes_on : (K : RuleBook) → Laws K → (D D' E : Drawing) (k : ℕ) (P : Pair) (to from : ℕ → ℕ) → Active K (drawn D) P → Good K (drawn E) →
    pass? (well_formed K D) ≡ true → pass? (well_formed K D') ≡ true → (then K D P).ends ≡ D'.ends → (then K D P).loops ≡ D'.loops →
    pass? (kept (then K D P) (drawn D') to from (length D.kinds + 6)) ≡ true → pass? (kept (drawn D') (then K D P) from to (length D'.kinds)) ≡ true →
    ComesTo K D' k E → ComesTo K D (suc k) E
comes_on K laws D D' E k P to from act GE t t' e l u u' c =
    let n = length D.kinds in
    let N = drawn D in
    let S = sized_drawn K laws D t in
    let S₁ = sized_after K laws n N S P (facing K N P act) in
    let al = alike_drawn K laws (then K D P) (drawn D') (n + 6) (length D'.kinds) S₁ (sized_drawn K laws D' t') to from e l u u' in
    let v = carry_reaches K laws c.reached (then K D P) c.good S₁.good (alike_sym (then K D P) (drawn D') al) in
    let GR = good_reaches K laws c.reached c.good in
    let GV = good_reaches K laws v.1 S₁.good in
    record {
      good = S.good;
      rules = P.position ∷ c.rules;
      result = v.0;
      reached = step (record { pair = P; place = fresh n; rewriting = at_fresh K laws n N S P act }) v.1;
      steps = ap suc c.steps;
      rest = rest_alike_lem K c.result v.0 laws GR GV v.2 c.rest;
      alike = alike_trans K v.0 c.result (drawn E) GV GE (alike_sym c.result v.0 v.2) c.alike;
    }

abbrev pair : ℕ → ℕ → ℕ → Rule → Pair
pair p q i w = record { left = p; right = q; position = i; rule = w }

abbrev as_it_is : ℕ → ℕ
as_it_is r = r

empty_rests : (n : ℕ) → ComesTo combinators (loops_only n) 0 (loops_only n)
empty_rests n = rests combinators combinators_lawful (loops_only n) refl refl

two_erasers : ComesTo combinators erasers 1 (loops_only 0)
unfolding rewrite through closes beside split without wiring
two_erasers = comes_on combinators combinators_lawful erasers (loops_only 0) (loops_only 0) 0 (pair 0 1 2 εε) as_it_is as_it_is
    (record { listed = refl; left = refl; right = refl; facing = refl; first = λ e. omega arith }) (empty_rests 0).good
    refl refl refl refl refl refl (empty_rests 0)

own_γ : ComesTo combinators (own γ) 1 (loops_only 1)
unfolding rewrite through closes beside split without wiring
own_γ = comes_on combinators combinators_lawful (own γ) (loops_only 1) (loops_only 1) 0 (pair 0 1 0 γγ) as_it_is as_it_is
    (record { listed = refl; left = refl; right = refl; facing = refl; first = λ e. omega arith }) (empty_rests 1).good
    refl refl refl refl refl refl (empty_rests 1)

across_γ : ComesTo combinators (across γ) 1 (loops_only 2)
unfolding rewrite through closes beside split without wiring
across_γ = comes_on combinators combinators_lawful (across γ) (loops_only 2) (loops_only 2) 0 (pair 0 1 0 γγ) as_it_is as_it_is
    (record { listed = refl; left = refl; right = refl; facing = refl; first = λ e. omega arith }) (empty_rests 2).good
    refl refl refl refl refl refl (empty_rests 2)

across_δ : ComesTo combinators (across δ) 1 (loops_only 1)
unfolding rewrite through closes beside split without wiring
across_δ = comes_on combinators combinators_lawful (across δ) (loops_only 1) (loops_only 1) 0 (pair 0 1 1 δδ) as_it_is as_it_is
    (record { listed = refl; left = refl; right = refl; facing = refl; first = λ e. omega arith }) (empty_rests 1).good
    refl refl refl refl refl refl (empty_rests 1)

-- the new cells 2 and 3 are numbered 0 and 1
erasing : ComesTo combinators erased 2 (loops_only 0)
unfolding rewrite through closes beside split without wiring
erasing = comes_on combinators combinators_lawful erased erasers (loops_only 0) 1 (pair 1 0 4 γε) (λ r. r - 2) (λ r. 2 + r)
    (record { listed = refl; left = refl; right = refl; facing = refl; first = λ e. absurd (let z : ⊥ = omega arith in z) }) (empty_rests 0).good
    refl refl refl refl refl refl two_erasers

-- δ facing δ, and a γ on each side of both
abbrev doubling_on : Drawing
doubling_on = record {
  ends = 2;
  kinds = δ ∷ δ ∷ γ ∷ γ ∷ [];
  links = (port 0 0, port 1 0) ∷ (port 2 0, end 0) ∷ (port 3 0, end 1) ∷ (port 0 1, port 2 1) ∷ (port 0 2, port 3 1) ∷ (port 1 1, port 2 2) ∷ (port 1 2, port 3 2) ∷ [];
  loops = 0;
}

twice_rests : ComesTo combinators twice 0 twice
twice_rests = rests combinators combinators_lawful twice refl refl

-- the cells 2 and 3 are numbered 0 and 1
doubled_once : ComesTo combinators doubling_on 1 twice
unfolding rewrite through closes beside split without wiring
doubled_once = comes_on combinators combinators_lawful doubling_on twice twice 0 (pair 0 1 1 δδ) (λ r. r - 2) (λ r. 2 + r)
    (record { listed = refl; left = refl; right = refl; facing = refl; first = λ e. omega arith }) twice_rests.good
    refl refl refl refl refl refl twice_rests

doubled_active : Active combinators (drawn doubled) (pair 1 0 3 γδ)
doubled_active = record { listed = refl; left = refl; right = refl; facing = refl; first = λ e. absurd (let z : ⊥ = omega arith in z) }

-- the new cells 2 to 5 are numbered 0 to 3
doubling : ComesTo combinators doubled 2 twice
unfolding rewrite through closes beside split without wiring
doubling = comes_on combinators combinators_lawful doubled doubling_on twice 1 (pair 1 0 3 γδ) (λ r. r - 2) (λ r. 2 + r)
    doubled_active twice_rests.good refl refl refl refl refl refl doubled_once

-- the sum of 1 and 3 under one S, and the sum of 0 and 3 under two
abbrev adding_on : Drawing
adding_on = record {
  ends = 1;
  kinds = S ∷ A ∷ S ∷ Z ∷ S ∷ S ∷ S ∷ Z ∷ [];
  links = (port 0 0, end 0) ∷ (port 0 1, port 1 2) ∷ (port 1 0, port 2 0) ∷ (port 2 1, port 3 0)
      ∷ (port 1 1, port 4 0) ∷ (port 4 1, port 5 0) ∷ (port 5 1, port 6 0) ∷ (port 6 1, port 7 0) ∷ [];
  loops = 0;
}

abbrev adding_last : Drawing
adding_last = record {
  ends = 1;
  kinds = S ∷ S ∷ A ∷ Z ∷ S ∷ S ∷ S ∷ Z ∷ [];
  links = (port 0 0, end 0) ∷ (port 0 1, port 1 0) ∷ (port 1 1, port 2 2) ∷ (port 2 0, port 3 0)
      ∷ (port 2 1, port 4 0) ∷ (port 4 1, port 5 0) ∷ (port 5 1, port 6 0) ∷ (port 6 1, port 7 0) ∷ [];
  loops = 0;
}

five_rests : ComesTo counts five 0 five
five_rests = rests counts counts_lawful five refl refl

added_thrice : ComesTo counts adding_last 1 five
unfolding rewrite through closes beside split without wiring
added_thrice = comes_on counts counts_lawful adding_last five five 0 (pair 3 2 0 ZA)
    (λ r. get_or (0 ∷ 1 ∷ 9 ∷ 9 ∷ 2 ∷ 3 ∷ 4 ∷ 5 ∷ []) r 9) (λ r. get_or (0 ∷ 1 ∷ 4 ∷ 5 ∷ 6 ∷ 7 ∷ []) r 9)
    (record { listed = refl; left = refl; right = refl; facing = refl; first = λ e. absurd (let z : ⊥ = omega arith in z) }) five_rests.good
    refl refl refl refl refl refl five_rests

-- the new cells 8 and 9 are numbered 1 and 2
added_twice : ComesTo counts adding_on 2 five
unfolding rewrite through closes beside split without wiring
added_twice = comes_on counts counts_lawful adding_on adding_last five 1 (pair 2 1 1 SA)
    (λ r. get_or (0 ∷ 9 ∷ 9 ∷ 3 ∷ 4 ∷ 5 ∷ 6 ∷ 7 ∷ 1 ∷ 2 ∷ []) r 9) (λ r. get_or (0 ∷ 8 ∷ 9 ∷ 3 ∷ 4 ∷ 5 ∷ 6 ∷ 7 ∷ []) r 9)
    (record { listed = refl; left = refl; right = refl; facing = refl; first = λ e. absurd (let z : ⊥ = omega arith in z) }) five_rests.good
    refl refl refl refl refl refl added_thrice

-- the new cells 8 and 9 are numbered 0 and 1
adding : ComesTo counts two_and_three 3 five
unfolding rewrite through closes beside split without wiring
adding = comes_on counts counts_lawful two_and_three adding_on five 2 (pair 1 0 1 SA)
    (λ r. get_or (9 ∷ 9 ∷ 2 ∷ 3 ∷ 4 ∷ 5 ∷ 6 ∷ 7 ∷ 0 ∷ 1 ∷ []) r 9) (λ r. get_or (8 ∷ 9 ∷ 2 ∷ 3 ∷ 4 ∷ 5 ∷ 6 ∷ 7 ∷ []) r 9)
    (record { listed = refl; left = refl; right = refl; facing = refl; first = λ e. absurd (let z : ⊥ = omega arith in z) }) five_rests.good
    refl refl refl refl refl refl added_twice

pub worked_nets_lem : WorkedNets
worked_nets_lem = record {
  two_erasers = two_erasers;
  own_γ = own_γ;
  across_γ = across_γ;
  across_δ = across_δ;
  erasing = erasing;
  doubling = doubling;
  adding = adding;
}

pub books_lawful_lem : BooksLawful
books_lawful_lem = record { combinators_keep = combinators_lawful; counts_keep = counts_lawful }

pub growing : Growing
growing = (combinators_lawful, good_drawn combinators doubled combinators_lawful refl, (pair 1 0 3 γδ, doubled_active, refl))

pub always_so_lem : AlwaysSo
always_so_lem K D E n M N is laws G GE al c r rest =
    let f = rest_final_lem K (drawn D) M c.result N c.rules is laws c.good G al c.reached r c.rest in
    let GR = good_reaches K laws c.reached c.good in
    let GN = good_reaches K laws r G in
    (f.rests_then rest ∙ c.steps, alike_trans K N c.result (drawn E) GN GE (alike_sym c.result N (f.alike rest)) c.alike)
