-- Linking ends of a net: well formed again, and alike in alike nets. Assumes nothing.
use Rattle.std.proofs.Common.{◌≡◌, ℕ, ◌+◌, ◌<◌, ◌≤◌, false, ◌≢◌, ◌⊎◌, List, [], ◌∷◌, sym, refl, ap, ◌∙◌, subst, subst₂, inl, inr, arith}
use Rattle.std.proofs.lemmas.Bool.{cases_lt}
use Rattle.calculus.specs.Spots.{Spot, end, port, carry}
use Rattle.calculus.specs.Books.{RuleBook}
use Rattle.calculus.specs.Nets.{Net, Stands, Good}
use Rattle.calculus.specs.Alike.{SameKinds, SameLinks, AlikeBy}
use Rattle.calculus.specs.Splicing.{splices}
use Rattle.calculus.specs.Joining.{bonds, listed, rank, old_end, recall, tie, Unlisted, Tieable, TieGood, TieAlike}
use Rattle.calculus.proofs.Wires.{Out, Ready, run, tally}
use Rattle.calculus.proofs.Beside.{end≢port}
use Rattle.calculus.proofs.Splice.{spot, Mutual, mutual_run, live_run, was_live_run, spliced_mate, spliced_loops}
use Rattle.calculus.proofs.Iso.{pairs, same_run, image_live}
use Rattle.calculus.proofs.Alikes.{by_back}
use Rattle.calculus.proofs.Ranks.{left_out, out_left, rank_below, old_rank, rank_old}

out_bonds : (ss : List (ℕ × ℕ)) (e : ℕ) → Unlisted e ss → Out (end e) (bonds ss)
out_bonds [] e u = tt
out_bonds (s ∷ ss) e u = ((λ z. u.0 (cc)), (λ z. u.1 (cc)), out_bonds ss e u.2)

pub port_bonds : (ss : List (ℕ × ℕ)) (r j : ℕ) → Out (port r j) (bonds ss)
port_bonds [] r j = tt
port_bonds (s ∷ ss) r j = ((λ z. end≢port s.0 r j (sym z)), (λ z. end≢port s.1 r j (sym z)), port_bonds ss r j)

pub ready_bonds : (K : RuleBook) (A : Net) → Good K A → (ss : List (ℕ × ℕ)) → Tieable A.ends ss → Ready (bonds ss) A.mate
ready_bonds K A G [] t = tt
ready_bonds K A G (s ∷ ss) t = (
  (λ z. t.2 (cc)),
  G.linked (end s.0) t.0,
  G.linked (end s.1) t.1,
  out_bonds ss s.0 t.3,
  out_bonds ss s.1 t.4,
  ready_bonds K A G ss t.5,
)

module _ (ss : List (ℕ × ℕ)) (A : Net) where
  -- the wiring with the listed ends spliced
  abbrev pub tied : Spot → Spot
  tied = run (bonds ss) A.mate

  abbrev pub F : Spot → Spot
  F = recall (rank ss)

  abbrev pub H : Spot → Spot
  H = recall (old_end ss A.ends)

  pub tie_port : (r j : ℕ) → (tie ss A).mate (port r j) ≡ F (tied (port r j))
  unfolding tie
  tie_port r j = ap (λ m. F (m (port r j))) (spliced_mate (bonds ss) A)

  pub tie_end : (i : ℕ) → i < rank ss A.ends → (tie ss A).mate (end i) ≡ F (tied (end (old_end ss A.ends i)))
  unfolding tie
  tie_end i h = low h ∙ ap (λ m. F (m (end (old_end ss A.ends i)))) (spliced_mate (bonds ss) A)
    where
      low : i < rank ss A.ends → (tie ss A).mate (end i) ≡ F ((splices (bonds ss) A).mate (end (old_end ss A.ends i)))
      low h = grind (arith)

  pub tie_past : (i : ℕ) → rank ss A.ends ≤ i → (tie ss A).mate (end i) ≡ end i
  unfolding tie
  tie_past i h = grind (arith)

  pub tie_ends : (tie ss A).ends ≡ rank ss A.ends
  unfolding tie
  tie_ends = refl

  pub tie_kind : (tie ss A).kind ≡ A.kind
  unfolding tie
  tie_kind = refl

  pub tie_loops : (tie ss A).loops ≡ A.loops + tally (bonds ss) A.mate
  unfolding tie
  tie_loops = spliced_loops (bonds ss) A

module _ (K : RuleBook) (A : Net) (G : Good K A) (ss : List (ℕ × ℕ)) (t : Tieable A.ends ss) where
  rb : Ready (bonds ss) A.mate
  rb = ready_bonds K A G ss t

  pub tied_mutual : Mutual (tied ss A)
  tied_mutual = mutual_run (bonds ss) A.mate G.twice rb

  pub was_linked : (x : Spot) → tied ss A x ≢ x → Out x (bonds ss) × (A.mate x ≢ x)
  was_linked = was_live_run (bonds ss) A.mate G.twice rb

  still_linked : (x : Spot) → Out x (bonds ss) → A.mate x ≢ x → tied ss A x ≢ x
  still_linked = live_run (bonds ss) A.mate G.twice rb

  -- an end that is linked afterwards is one that is left
  end_left : (e : ℕ) → tied ss A (end e) ≢ end e → (e < A.ends) × (listed e ss ≡ false)
  end_left e l = let w = was_linked (end e) l in (G.there (end e) w.1, out_left ss e w.0)

  comes_back : (x : Spot) → tied ss A x ≢ x → H ss A (F ss A x) ≡ x
  comes_back (end e) l = let h = end_left e l in ap end (old_rank ss A.ends e h.0 h.1)
  comes_back (port r j) l = refl

  mate_linked : (x : Spot) → tied ss A x ≢ x → tied ss A (tied ss A x) ≢ tied ss A x
  mate_linked x l z = let i = tied_mutual in l (sym (sym (i x) ∙ z))

  tie_there : (x : Spot) → tied ss A x ≢ x → (tie ss A).mate (F ss A x) ≡ F ss A (tied ss A x)
  tie_there (end e) l =
      let h = end_left e l in
      tie_end ss A (rank ss e) (rank_below ss A.ends e h.0 h.1) ∙ ap (λ e. F ss A (tied ss A (end e))) (old_rank ss A.ends e h.0 h.1)
  tie_there (port r j) l = tie_port ss A r j

  tie_from : (y : Spot) → (tie ss A).mate y ≢ y → (tied ss A (H ss A y) ≢ H ss A y) × (F ss A (H ss A y) ≡ y) × ((tie ss A).mate y ≡ F ss A (tied ss A (H ss A y)))
  tie_from (end i) l = go (cases_lt i (rank ss A.ends))
    where
      go : (i < rank ss A.ends) ⊎ (rank ss A.ends ≤ i) →
          (tied ss A (H ss A (end i)) ≢ H ss A (end i)) × (F ss A (H ss A (end i)) ≡ end i) × ((tie ss A).mate (end i) ≡ F ss A (tied ss A (H ss A (end i))))
      go (inl h) =
          let o = rank_old ss A.ends i h in
          let n = o.number in
          let e : F ss A (H ss A (end i)) ≡ end i = ap end n in
          let f = tie_end ss A i h in
          ((λ z. l (f ∙ ap (F ss A) z ∙ e)), e, f)
      go (inr h) = absurd (l (tie_past ss A i h))
  tie_from (port r j) l = ((λ z. l (tie_port ss A r j ∙ ap (F ss A) z)), refl, tie_port ss A r j)

  pub same_tie : SameLinks (F ss A) (H ss A) (tied ss A) (tie ss A).mate
  same_tie = record {
    there = λ x l. (tie_there x l, comes_back x l);
    back = λ y l. let w = tie_from y l in (sym (ap (H ss A) w.2 ∙ comes_back (tied ss A (H ss A y)) (mate_linked (H ss A y) w.0)), w.1);
  }

  twice : (y : Spot) → (tie ss A).mate ((tie ss A).mate y) ≡ y
  twice y = go (spot ((tie ss A).mate y) y)
    where
      go : ((tie ss A).mate y ≡ y) ⊎ ((tie ss A).mate y ≢ y) → (tie ss A).mate ((tie ss A).mate y) ≡ y
      go (inl e) = ap (tie ss A).mate e ∙ e
      go (inr l) =
          let w = tie_from y l in
          let i = tied_mutual in
          let x = H ss A y in
          ap (tie ss A).mate w.2 ∙ tie_there (tied ss A x) (mate_linked x w.0) ∙ ap (F ss A) (i x) ∙ w.1

  linked_tie : (x : Spot) → Stands K (tie ss A) x → (tie ss A).mate x ≢ x
  linked_tie (end i) h =
      let b = subst (λ n. i < n) (tie_ends ss A) h in
      let o = rank_old ss A.ends i b in
      let n = o.number in
      let e = old_end ss A.ends i in
      subst (λ i. (tie ss A).mate (end i) ≢ end i) n
      (image_live (F ss A) (H ss A) (tied ss A) (tie ss A).mate tied_mutual same_tie (end e) (still_linked (end e) (left_out ss e o.left) (G.linked (end e) o.below)))
  linked_tie (port r j) (k, e, h) =
      image_live (F ss A) (H ss A) (tied ss A) (tie ss A).mate tied_mutual same_tie (port r j)
      (still_linked (port r j) (port_bonds ss r j) (G.linked (port r j) (k, ap (λ f. f r) (sym (tie_kind ss A)) ∙ e, h)))

  there_tie : (x : Spot) → (tie ss A).mate x ≢ x → Stands K (tie ss A) x
  there_tie (end i) l = go (cases_lt i (rank ss A.ends))
    where
      go : (i < rank ss A.ends) ⊎ (rank ss A.ends ≤ i) → i < (tie ss A).ends
      go (inl h) = subst (λ n. i < n) (sym (tie_ends ss A)) h
      go (inr h) = absurd (l (tie_past ss A i h))
  there_tie (port r j) l =
      let s = G.there (port r j) (was_linked (port r j) (tie_from (port r j) l).0).1 in
      (s.0, ap (λ f. f r) (tie_kind ss A) ∙ s.1, s.2)

  pub good_tied : Good K (tie ss A)
  good_tied = record {
    finite = (G.finite.0, λ r k e. G.finite.1 r k (ap (λ f. f r) (sym (tie_kind ss A)) ∙ e));
    known = λ r k e. G.known r k (ap (λ f. f r) (sym (tie_kind ss A)) ∙ e);
    twice = twice;
    linked = linked_tie;
    there = there_tie;
  }

pub tie_good_lem : TieGood
tie_good_lem K A ss G t = good_tied K A G ss t

carry_recall : (a f : ℕ → ℕ) (x : Spot) → carry a (recall f x) ≡ recall f (carry a x)
carry_recall a f (end e) = refl
carry_recall a f (port r j) = refl

pairs_bonds : (a : ℕ → ℕ) (ss : List (ℕ × ℕ)) → pairs (carry a) (bonds ss) ≡ bonds ss
pairs_bonds a [] = refl
pairs_bonds a (s ∷ ss) = ap (λ t. (end s.0, end s.1) ∷ t) (pairs_bonds a ss)

module _ (K : RuleBook) (A B : Net) (ss : List (ℕ × ℕ)) (G : Good K A) (G' : Good K B) (a b : ℕ → ℕ) (al : AlikeBy a b A B)
    (t : Tieable A.ends ss) (t' : Tieable B.ends ss) where
  tied_alike : SameLinks (carry a) (carry b) (tied ss A) (tied ss B) × (tally (bonds ss) A.mate ≡ tally (bonds ss) B.mate)
  tied_alike =
      let s = same_run (carry a) (carry b) A.mate B.mate G.twice G'.twice al.links (bonds ss) (ready_bonds K A G ss t) in (
        subst (λ l. SameLinks (carry a) (carry b) (tied ss A) (run l B.mate)) (pairs_bonds a ss) s.0,
        s.1 ∙ ap (λ l. tally l B.mate) (pairs_bonds a ss),
      )

  links_there : (x : Spot) → (tie ss A).mate x ≢ x → ((tie ss B).mate (carry a x) ≡ carry a ((tie ss A).mate x)) × (carry b (carry a x) ≡ x)
  links_there x l =
      let w = tie_from K A G ss t x l in
      let z = H ss A x in
      let s = tied_alike.0 in
      let u = s.there z w.0 in
      let v = image_live (carry a) (carry b) (tied ss A) (tied ss B) (tied_mutual K A G ss t) s z w.0 in (
        ap (λ x. (tie ss B).mate (carry a x)) (sym w.1) ∙ ap (tie ss B).mate (carry_recall a (rank ss) z) ∙ tie_there K B G' ss t' (carry a z) v
            ∙ ap (F ss B) u.0 ∙ sym (carry_recall a (rank ss) (tied ss A z)) ∙ ap (carry a) (sym w.2),
        ap (λ x. carry b (carry a x)) (sym w.1) ∙ ap (carry b) (carry_recall a (rank ss) z) ∙ carry_recall b (rank ss) (carry a z) ∙ ap (F ss A) u.1 ∙ w.1,
      )

module _ (K : RuleBook) (A B : Net) (ss : List (ℕ × ℕ)) (G : Good K A) (G' : Good K B) (a b : ℕ → ℕ) (al : AlikeBy a b A B)
    (t : Tieable A.ends ss) (t' : Tieable B.ends ss) where
  ties_alike : AlikeBy a b (tie ss A) (tie ss B)
  ties_alike = record {
    ends = tie_ends ss A ∙ ap (rank ss) al.ends ∙ sym (tie_ends ss B);
    loops = let l = al.loops in omega (arith, tie_loops ss A, tie_loops ss B, (tied_alike K A B ss G G' a b al t t').1);
    kinds = subst₂ (SameKinds a b) (sym (tie_kind ss A)) (sym (tie_kind ss B)) al.kinds;
    links = record {
      there = links_there K A B ss G G' a b al t t';
      back = links_there K B A ss G' G b a (by_back al) t' t;
    };
  }

pub tie_alike_lem : TieAlike
tie_alike_lem K A B ss G G' (a, b, al) t = (a, b, ties_alike K A B ss G G' a b al t (subst (λ n. Tieable n ss) al.ends t))
