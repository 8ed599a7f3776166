-- Two nets joined along ends: side by side, with ends linked. Assumes nothing.
use Rattle.std.proofs.Common.{ℕ, ◌+◌, ◌<◌, List, [], ◌∷◌, sym, subst, arith}
use Rattle.calculus.specs.Nets.{Net}
use Rattle.calculus.specs.Alike.{Alike}
use Rattle.calculus.specs.Joining.{pairing, seams, join, Unlisted, Tieable, tie, FirstNew, SecondNew, Joinable, JoinGood, JoinAlike, JoinFirst, behind_pair, JoinSecond}
use Rattle.calculus.proofs.Beside.{both}
use Rattle.calculus.proofs.Ties.{tie_good_lem, tie_alike_lem}
use Rattle.calculus.proofs.Pairings.{pair_ends, good_pairing, pairing_alike, rewriting_first, rewriting_second}
use Rattle.calculus.proofs.TiedRewriting.{tie_rewriting_lem}

seams_first : (a b e : ℕ) → e < a → (ss : List (ℕ × ℕ)) → Joinable a b ss → FirstNew e ss → Unlisted e (seams a ss)
seams_first a b e h [] j u = tt
seams_first a b e h (s ∷ ss) j u = (u.0, omega arith, seams_first a b e h ss j.4 u.1)

seams_second : (a b e : ℕ) → (ss : List (ℕ × ℕ)) → Joinable a b ss → SecondNew e ss → Unlisted (a + e) (seams a ss)
seams_second a b e [] j u = tt
seams_second a b e (s ∷ ss) j u =
    let h = j.0 in
    let n = u.0 in
    ((λ z. let y : ⊥ = omega arith in y), (λ z. n (omega arith)), seams_second a b e ss j.4 u.1)

tieable : (a b : ℕ) (ss : List (ℕ × ℕ)) → Joinable a b ss → Tieable (a + b) (seams a ss)
tieable a b [] j = tt
tieable a b (s ∷ ss) j =
    let h = j.0 in
    let k = j.1 in
    (omega arith, omega arith, omega arith, seams_first a b s.0 h ss j.4 j.2, seams_second a b s.1 ss j.4 j.3, tieable a b ss j.4)

module _ (n : ℕ) (A B : Net) (ss : List (ℕ × ℕ)) (j : Joinable A.ends B.ends ss) where
  pub tieable_pair : Tieable (pairing n A B).ends (seams A.ends ss)
  tieable_pair = subst (λ k. Tieable k (seams A.ends ss)) (sym (pair_ends n A B)) (tieable A.ends B.ends ss j)

pub join_good_lem : JoinGood
join_good_lem K n A B ss G b G' j = tie_good_lem K (pairing n A B) (seams A.ends ss) (good_pairing K n A B G b G') (tieable_pair n A B ss j)

pub join_alike_lem : JoinAlike
join_alike_lem K n n' A A' B B' ss G G' H H' l l' j (a, b, s) (c, d, t) =
    subst (λ k. Alike (join n A B ss) (tie (seams k ss) (pairing n' A' B'))) s.ends
    (tie_alike_lem K (pairing n A B) (pairing n' A' B') (seams A.ends ss) (good_pairing K n A B G l H) (good_pairing K n' A' B' G' l' H')
    (both n n' a c, both n' n b d, pairing_alike K n n' A A' B B' a b c d G G' H H' l l' s t) (tieable_pair n A B ss j))

pub join_first : JoinFirst
join_first K n A A' B P place ss laws G G' b b' j w =
    let t = tie_rewriting_lem K (pairing n A B) (pairing n A' B) P place (seams A.ends ss) laws (good_pairing K n A B G b G') (tieable_pair n A B ss j)
    (rewriting_first K n A A' B P place laws G b b' w) in
    (t.0, λ C place' r. subst (λ k. Alike C (tie (seams k ss) (pairing n A' B))) (sym w.ends) (t.1 C place' r))

pub join_second_lem : JoinSecond
join_second_lem K n A B B' P place ss laws G G' b j w =
    tie_rewriting_lem K (pairing n A B) (pairing n A B') (behind_pair n P) (λ i. n + place i) (seams A.ends ss) laws (good_pairing K n A B G b G') (tieable_pair n A B ss j)
    (rewriting_second K n A B B' P place laws G b G' w)
