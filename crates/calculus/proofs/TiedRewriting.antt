-- Linking ends of a net before or after rewriting it. Assumes nothing.
use Rattle.std.proofs.Common.{◌≡◌, ℕ, zero, suc, ◌+◌, ◌≢◌, ◌⊎◌, List, [], ◌∷◌, ◌++◌, sym, refl, ap, ◌∙◌, subst, ap₂, subst₂, inl, inr, arith}
use mathlib.Core.Path.{fun_ext}
use Rattle.std.specs.List.{slice_get}
use Rattle.calculus.specs.Spots.{Spot, end, port}
use Rattle.calculus.specs.Books.{RuleBook, Laws}
use Rattle.calculus.specs.Nets.{Net, Good, Pair}
use Rattle.calculus.specs.Alike.{SameLinks, Alike}
use Rattle.calculus.specs.Joining.{bonds, rank, old_end, recall, tie, Tieable, TieRewriting}
use Rattle.calculus.proofs.Wires.{Out, Ready, run, tally}
use Rattle.calculus.proofs.Splice.{spot, Mutual, Apart, exchange, mutual_run}
use Rattle.calculus.proofs.Iso.{pairs, same_sym, same_run, image_live}
use Rattle.calculus.proofs.Beside.{split, beside, Left, Ports, Bounded, side, up, port_mate, on_left, on_right, left_live}
use Rattle.calculus.proofs.Assoc.{beside_run}
use Rattle.calculus.proofs.Wiring.{ports, wiring, wiring_mutual, wiring_ports}
use Rattle.calculus.proofs.Plugs.{wires, plugs, end_plugs}
use Rattle.calculus.proofs.Rewrite.{without, after_kind, Sized, Facing, sized, facing, laid, rewrite, bounded, rule_laws, laid_mutual, plugs_ready, after_mate, after_ends, after_loops, sized_after}
use Rattle.calculus.proofs.Alikes.{alike_sym, alike_trans}
use Rattle.calculus.proofs.Carried.{pairs-append}
use Rattle.calculus.proofs.Cross.{run_past, ready_beside}
use Rattle.calculus.proofs.Respects.{spliced}
use Rattle.calculus.proofs.Unique.{stays_good_lem}
use Rattle.calculus.proofs.Ties.{port_bonds, ready_bonds, tied, F, H, tie_port, tie_ends, tie_kind, tie_loops, tied_mutual, was_linked, same_tie, good_tied, tie_alike_lem}

-- a wiring has one image
one_image : (f g m n n' : Spot → Spot) → Mutual n → Mutual n' → SameLinks f g m n → SameLinks f g m n' → n ≡ n'
one_image f g m n n' jn jn' s s' = fun_ext at
  where
    half : (k k' : Spot → Spot) → Mutual k → SameLinks f g m k → SameLinks f g m k' → (y : Spot) → k y ≢ y → k y ≡ k' y
    half k k' jk t t' y l =
        let u = t.back y l in
        let v = t.back (k y) (λ z. l (sym (sym (jk y) ∙ z))) in
        let w = t'.there (g y) (image_live g f k m jk (same_sym t) y l) in
        sym v.1 ∙ ap f (sym u.0) ∙ sym w.0 ∙ ap k' u.1

    at : (y : Spot) → n y ≡ n' y
    at y = go (spot (n y) y) (spot (n' y) y)
      where
        go : (n y ≡ y) ⊎ (n y ≢ y) → (n' y ≡ y) ⊎ (n' y ≢ y) → n y ≡ n' y
        go (inl e) (inl e') = e ∙ sym e'
        go (inl e) (inr l) = sym (half n' n jn' s' s y l)
        go (inr l) q = half n n' jn s s' y l

-- renumbering ends beside a wiring that has none
module _ (n : ℕ) (f h : ℕ → ℕ) (m m' w : Spot → Spot) (im : Mutual m) (bm : Bounded n m) (iw : Mutual w) (pw : Ports w)
    (s : SameLinks (recall f) (recall h) m m') where
  recall_left : (x : Spot) → Left n x → Left n (recall f x)
  recall_left (end e) l = tt
  recall_left (port r j) l = l

  ends_there : (x : Spot) → beside n m w x ≢ x → (beside n m' w (recall f x) ≡ recall f (beside n m w x)) × (recall h (recall f x) ≡ x)
  ends_there x l = go (side n x)
    where
      go : Left n x ⊎ ((i : ℕ) × (j : ℕ) × (x ≡ port (n + i) j)) → (beside n m' w (recall f x) ≡ recall f (beside n m w x)) × (recall h (recall f x) ≡ x)
      go (inl b) =
          let t = s.there x (left_live n m w im bm iw pw x b l) in
          (on_left n m' w (recall f x) (recall_left x b) ∙ t.0 ∙ ap (recall f) (sym (on_left n m w x b)), t.1)
      go (inr (i, j, e)) =
          let k = port_mate w iw pw i j in (
            ap (λ x. beside n m' w (recall f x)) e ∙ on_right n m' w i j ∙ ap (up n) k.2 ∙ ap (λ y. recall f (up n y)) (sym k.2)
                ∙ ap (recall f) (sym (on_right n m w i j) ∙ ap (beside n m w) (sym e)),
            ap (λ x. recall h (recall f x)) e ∙ sym e,
          )

pairs_recall_wires : (f : ℕ → ℕ) (p g k : ℕ) → pairs (recall f) (wires p g k) ≡ wires p g k
pairs_recall_wires f p g zero = refl
pairs_recall_wires f p g (suc k) = ap (λ t. (port p (suc k), port g (suc k)) ∷ t) (pairs_recall_wires f p g k)

pairs_recall_append : (f : ℕ → ℕ) (xs ys : List (Spot × Spot)) → pairs (recall f) xs ≡ xs → pairs (recall f) ys ≡ ys → pairs (recall f) (xs ++ ys) ≡ xs ++ ys
pairs_recall_append f xs ys e d = pairs-append (recall f) xs ys ∙ ap₂ ◌++◌ e d

pairs_recall : (f : ℕ → ℕ) (K : RuleBook) (n : ℕ) (P : Pair) → pairs (recall f) (plugs K n P) ≡ plugs K n P
pairs_recall f K n P =
    ap (λ t. (port P.left 0, port P.right 0) ∷ t)
    (pairs_recall_append f (wires P.left (n + 4) (ports K P.rule.left)) (wires P.right (n + 5) (ports K P.rule.right))
    (pairs_recall_wires f P.left (n + 4) (ports K P.rule.left))
    (pairs_recall_wires f P.right (n + 5) (ports K P.rule.right)))

bonds_apart : (ss : List (ℕ × ℕ)) (K : RuleBook) (n : ℕ) (P : Pair) → Apart (bonds ss) (plugs K n P)
bonds_apart [] K n P = tt
bonds_apart (s ∷ ss) K n P = (end_plugs K n P s.0, end_plugs K n P s.1, bonds_apart ss K n P)

module _ (K : RuleBook) (laws : Laws K) (n : ℕ) (A : Net) (S : Sized K n A) (P : Pair) (act : Facing K A P) (ss : List (ℕ × ℕ)) (t : Tieable A.ends ss) where
  G : Good K A
  G = S.good

  pub sized_tie : Sized K n (tie ss A)
  sized_tie = record { good = good_tied K A G ss t; small = λ r k e. S.small r k (ap (λ f. f r) (sym (tie_kind ss A)) ∙ e) }

  pub facing_tie : Facing K (tie ss A) P
  facing_tie =
      let f = act.facing in
      record {
        listed = act.listed;
        left = ap (λ f. f P.left) (tie_kind ss A) ∙ act.left;
        right = ap (λ f. f P.right) (tie_kind ss A) ∙ act.right;
        facing = tie_port ss A P.left 0
            ∙ ap (F ss A) (run_past (bonds ss) A.mate (port P.left 0) (port_bonds ss P.left 0) (subst (λ y. Out y (bonds ss)) (sym f) (port_bonds ss P.right 0)) ∙ f);
      }

  iw : Mutual (wiring P.rule)
  iw = wiring_mutual K P.rule (rule_laws K laws n A S P act)

  pw : Ports (wiring P.rule)
  pw = wiring_ports K P.rule (rule_laws K laws n A S P act)

  b_t : Bounded n (tied ss A)
  b_t x l = bounded K n A S x (was_linked K A G ss t x l).1

  -- ends spliced beside the rule's right side
  br : (beside n (tied ss A) (wiring P.rule) ≡ run (bonds ss) (laid n A P)) × (tally (bonds ss) (laid n A P) ≡ tally (bonds ss) A.mate)
  br = beside_run n (wiring P.rule) iw pw (bonds ss) A.mate G.twice (bounded K n A S) (ready_bonds K A G ss t)

  -- and renumbered
  laid_tie : SameLinks (F ss A) (H ss A) (run (bonds ss) (laid n A P)) (laid n (tie ss A) P)
  laid_tie = subst (λ m. SameLinks (F ss A) (H ss A) m (laid n (tie ss A) P)) br.0 (record {
    there = ends_there n (rank ss) (old_end ss A.ends) (tied ss A) (tie ss A).mate (wiring P.rule) (tied_mutual K A G ss t) b_t iw pw (same_tie K A G ss t);
    back = ends_there n (old_end ss A.ends) (rank ss) (tie ss A).mate (tied ss A) (wiring P.rule) sized_tie.good.twice (bounded K n (tie ss A) sized_tie) iw pw
        (same_sym (same_tie K A G ss t));
  })

  rv_b : Ready (bonds ss) (laid n A P)
  rv_b = ready_beside n A.mate (wiring P.rule) G.twice (bounded K n A S) iw pw (bonds ss) (ready_bonds K A G ss t)

  ex : (run (plugs K n P) (run (bonds ss) (laid n A P)) ≡ run (bonds ss) (run (plugs K n P) (laid n A P)))
      × (tally (bonds ss) (laid n A P) + tally (plugs K n P) (run (bonds ss) (laid n A P)) ≡ tally (plugs K n P) (laid n A P) + tally (bonds ss) (run (plugs K n P) (laid n A P)))
  ex = exchange (bonds ss) (plugs K n P) (laid n A P) (laid_mutual K laws n A S P act) rv_b (plugs_ready K laws n A S P act) (bonds_apart ss K n P)

  sr : SameLinks (H ss A) (F ss A) (run (plugs K n P) (laid n (tie ss A) P)) (run (pairs (H ss A) (plugs K n P)) (run (bonds ss) (laid n A P)))
      × (tally (plugs K n P) (laid n (tie ss A) P) ≡ tally (pairs (H ss A) (plugs K n P)) (run (bonds ss) (laid n A P)))
  sr = same_run (H ss A) (F ss A) (laid n (tie ss A) P) (run (bonds ss) (laid n A P)) (laid_mutual K laws n (tie ss A) sized_tie P facing_tie)
      (mutual_run (bonds ss) (laid n A P) (laid_mutual K laws n A S P act) rv_b) (same_sym laid_tie) (plugs K n P) (plugs_ready K laws n (tie ss A) sized_tie P facing_tie)

  -- the rewritten net, its ends spliced and then renumbered
  rewritten_tie : SameLinks (F ss A) (H ss A) (tied ss (rewrite K n A P)) (rewrite K n (tie ss A) P).mate
  rewritten_tie =
      subst₂ (SameLinks (F ss A) (H ss A))
      (ap (λ l. run l (run (bonds ss) (laid n A P))) (pairs_recall (old_end ss A.ends) K n P) ∙ ex.0 ∙ ap (run (bonds ss)) (sym (after_mate K laws n A S P act)))
      (sym (after_mate K laws n (tie ss A) sized_tie P facing_tie)) (same_sym sr.0)

  t' : Tieable (rewrite K n A P).ends ss
  t' = subst (λ k. Tieable k ss) (sym (after_ends K laws n A S P act)) t

  G' : Good K (rewrite K n A P)
  G' = (sized_after K laws n A S P act).good

  tie_mate : (rewrite K n (tie ss A) P).mate ≡ (tie ss (rewrite K n A P)).mate
  tie_mate = one_image (F ss A) (H ss A) (tied ss (rewrite K n A P)) (rewrite K n (tie ss A) P).mate (tie ss (rewrite K n A P)).mate
      (sized_after K laws n (tie ss A) sized_tie P facing_tie).good.twice (good_tied K (rewrite K n A P) G' ss t').twice rewritten_tie
      (subst (λ k. SameLinks (F ss A) (recall (old_end ss k)) (tied ss (rewrite K n A P)) (tie ss (rewrite K n A P)).mate) (after_ends K laws n A S P act)
      (same_tie K (rewrite K n A P) G' ss t'))

  tie_total : (rewrite K n (tie ss A) P).loops ≡ (tie ss (rewrite K n A P)).loops
  tie_total =
      let a = after_loops K laws n (tie ss A) sized_tie P facing_tie in
      let b = tie_loops ss A in
      let c = sr.1 ∙ ap (λ l. tally l (run (bonds ss) (laid n A P))) (pairs_recall (old_end ss A.ends) K n P) in
      let d = ex.1 in
      let e = br.1 in
      let f = after_loops K laws n A S P act in
      let g = tie_loops ss (rewrite K n A P) in
      let h = ap (tally (bonds ss)) (after_mate K laws n A S P act) in
      omega (arith, a, b, c, d, e, f, g, h)

  -- rewriting before or after the ends are linked
  pub rewrite_tie : rewrite K n (tie ss A) P ≡ tie ss (rewrite K n A P)
  rewrite_tie = λ i. record {
    ends = (after_ends K laws n (tie ss A) sized_tie P facing_tie ∙ tie_ends ss A ∙ ap (rank ss) (sym (after_ends K laws n A S P act)) ∙ sym (tie_ends ss (rewrite K n A P))) i;
    kind = (after_kind K laws n (tie ss A) sized_tie P facing_tie
        ∙ ap (λ k. without P.left P.right (split n k (slice_get P.rule.cells))) (tie_kind ss A)
        ∙ sym (after_kind K laws n A S P act) ∙ sym (tie_kind ss (rewrite K n A P))) i;
    mate = tie_mate i;
    loops = tie_total i;
  }

pub tie_rewriting_lem : TieRewriting
tie_rewriting_lem K A B P place ss laws G t r =
    let n = G.finite.0 in
    let S = sized K A G in
    let act = facing K A P r.active in
    let f = facing_tie K laws n A S P act ss t in
    let ST = sized_tie K laws n A S P act ss t in
    let A₁ = rewrite K n A P in
    let G₁ = (sized_after K laws n A S P act).good in
    let GB = stays_good_lem K A B P place laws G r in
    let t₁ = subst (λ k. Tieable k ss) (sym (after_ends K laws n A S P act)) t in
    let al = tie_alike_lem K A₁ B ss G₁ GB (spliced K A B P place n laws S r) t₁ in
    let GTB = good_tied K B GB ss (subst (λ k. Tieable k ss) (sym r.ends) t) in (
      record { listed = f.listed; left = f.left; right = f.right; facing = f.facing; first = r.active.first },
      λ C place' q.
          let GC = stays_good_lem K (tie ss A) C P place' laws ST.good q in
          alike_trans K C (rewrite K n (tie ss A) P) (tie ss B) GC GTB (alike_sym (rewrite K n (tie ss A) P) C (spliced K (tie ss A) C P place' n laws ST q))
          (subst (λ N. Alike N (tie ss B)) (sym (rewrite_tie K laws n A S P act ss t)) al),
    )
