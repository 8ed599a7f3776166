-- What a draft that is filled from a file holds.
use Rattle.std.proofs.Common.{◌≡◌, take, ℕ, ◌+◌, ◌<◌, true, ltb, leb, ◌⊎◌, List, get_or, Some, None, sym, refl, ap, ◌∙◌, subst, subst₂, inl, inr, arith}
use Rattle.std.proofs.lemmas.List.{get_or-take}
use Rattle.std.proofs.lemmas.Bool.{lt-ltb, le-leb, ltb-true, leb-true, and_from, and_parts}
use Rattle.calculus.specs.Spots.{Spot, end, port}
use Rattle.calculus.specs.Books.{RuleBook}
use Rattle.nets.specs.Drafts.{Plan, planned, nameable, LinkNamed, link_fault}
use Rattle.nets.proofs.Attempts.{link_free}
use Rattle.netfile.specs.Words.{cell_word}
use Rattle.netfile.specs.Faults.{IsCell, CellDue, Nameable, Names, LinkDue}
use Rattle.netfile.specs.Reading.{Sound}
use Rattle.netfile.specs.Passes.{Laid}
use Rattle.netfile.specs.Building.{Celled, NamedAt, Naming}
use Rattle.netfile.specs.Layout.{LayoutView}
use Rattle.netfile.specs.declared.head.Head.{Head}
use Rattle.netfile.specs.declared.survey.Survey.{Survey}
use Rattle.netfile.proofs.Order.{cases_spot, earlier, same_word, link_there}
use Rattle.netfile.proofs.Mutuals.{has_port, port_word}

-- a survey says where each cell begins
pub laid : (K : RuleBook) (bs : List ℕ) (s : Survey) → Sound K bs s → Laid K bs s.head s.starts
laid K bs s sound = record {
  whole = sound.right.whole;
  named = λ x w due less. let m = sound.right.links x w due in (m.0, m.1);
  begins = sound.starts;
}

-- and so does its front
pub laid_front : (K : RuleBook) (bs : List ℕ) (h : Head) (starts : List ℕ) → Laid K bs h starts → Laid K bs h (take h.cells starts)
laid_front K bs h starts l = record {
  whole = l.whole;
  named = l.named;
  begins = λ i less. subst (CellDue K bs h.ends h.cells i) (sym (get_or-take h.cells starts i 0 less)) (l.begins i less);
}

module _ (K : RuleBook) {B : Type 0} (l : LayoutView B) (laid : Laid K l.bytes l.head l.starts) where
  abbrev bs : List ℕ
  bs = l.bytes

  abbrev h : Head
  h = l.head

  abbrev starts : List ℕ
  starts = l.starts

  abbrev e : ℕ
  e = h.ends

  abbrev c : ℕ
  c = h.cells

  -- a link that is due is there, and names a spot
  pub named_due : (x : Spot) {w : ℕ} → LinkDue K bs e c x w → (y : Spot) × Names bs e c w y
  named_due x due = laid.named x _ due (link_there K bs e c x laid.whole due)

  pub cell_known : (i : ℕ) → i < c → (a : ℕ) × IsCell K bs (get_or starts i 0) a
  cell_known i less = let q = earlier K bs e c (laid.begins i less) laid.whole less in (q.0, q.1)

  module _ (p : Plan) (all : Celled K l h.cells p) where
    -- the spots of the plan are those of the file
    pub due_planned : (x : Spot) (w : ℕ) → LinkDue K bs e c x w → planned p x ≡ true
    due_planned (end x) w due = lt-ltb x p.ends (omega (arith, due.0, all.ends))
    due_planned (port i j) w due =
        let (a, is, within) = has_port K bs h starts laid i j due in
        let arity = plan_arity i a due.3 is in
        and_from _ _ (lt-ltb i p.cells (omega (arith, due.3, all.cells))) (le-leb j (p.arity i) (omega arith))
      where
        plan_arity : (i a : ℕ) → i < c → IsCell K bs (get_or starts i 0) a → p.arity i ≡ a
        plan_arity i a less is =
            let here = all.kinds i less in
            let there = is.1.1 in
            let kinds : p.kind i ≡ is.1.0 = omega (arith, here, there) in
            let left = all.arities i less in
            let right = is.1.2 in
            cc

    pub planned_due : (x : Spot) → planned p x ≡ true → (w : ℕ) × LinkDue K bs e c x w
    planned_due (end x) there = (2 + x, (omega (arith, ltb-true x p.ends there, all.ends), refl))
    planned_due (port i j) there =
        let parts = and_parts (ltb i p.cells) (leb j (p.arity i)) there in
        let less : i < c = omega (arith, ltb-true i p.cells parts.0, all.cells) in
        let (a, is) = cell_known i less in (
          get_or starts i 0 + (j + 1),
          port_word K bs h starts laid i j (p.arity i) less (is.0, (p.kind i, all.kinds i less, all.arities i less)) (leb-true j (p.arity i) parts.1),
        )

  in_tables : (y : Spot) → Nameable e c y → nameable y ≡ true
  in_tables (end x) is = lt-ltb x 64 (omega (arith, h.few))
  in_tables (port i j) is = and_from _ _ (lt-ltb i 1024 (omega (arith, is.0, h.small))) (lt-ltb j 3 is.1)

  module _ (p : Plan) (all : Celled K l h.cells p) where
    pub link_room : (x y : Spot) (w : ℕ) → LinkDue K bs e c x w → Names bs e c w y → link_fault p x y ≡ None
    link_room x y w due names = link_free p x y (due_planned p all x w due) (in_tables y names.2)

    pub naming_one : (x y : Spot) (w : ℕ) (q : Plan) → LinkNamed p x y q → LinkDue K bs e c x w → Names bs e c w y → Naming K l (λ z. z ≡ x) p q
    naming_one x y w q done due names = record {
      celled = record {
        ends = done.ends ∙ all.ends;
        loops = done.loops ∙ all.loops;
        cells = done.cells ∙ all.cells;
        kinds = λ r less. all.kinds r less ∙ ap cell_word (sym (done.kinds r));
        arities = λ r less. ap K.arity (done.kinds r) ∙ all.arities r less ∙ ap Some (sym (done.arities r));
      };
      named = λ z t. subst (NamedAt K l q) (sym t) here;
      kept = λ z before. elim (cases_spot z x) [
        | inl t ↦ subst (NamedAt K l q) (sym t) here
        | inr n ↦ λ v due'. subst (λ u. Names bs e c v u) (sym (done.others z (due_planned p all z v due') n)) (before v due')
      ];
    }
      where
        here : NamedAt K l q x
        here v due' =
            let at : w ≡ v = same_word K bs e c x due due' in
            subst₂ (λ n u. Names bs e c n u) at (sym done.link) names

module _ (K : RuleBook) {B : Type 0} (l : LayoutView B) where
  -- a spot that is not there
  abbrev pub Absent : Spot → Type 0
  Absent x = (w : ℕ) → LinkDue K l.bytes l.head.ends l.head.cells x w → ⊥

  pub naming_wider : {P R : Spot → Type 0} {p q : Plan} → Naming K l P p q → ((x : Spot) → R x → P x ⊎ Absent x) → Naming K l R p q
  naming_wider {P} {R} {p} {q} first parts = record { celled = first.celled; named = λ x r. at x (parts x r); kept = first.kept }
    where
      at : (x : Spot) → P x ⊎ Absent x → NamedAt K l q x
      at x (inl h) = first.named x h
      at x (inr none) = λ w due. absurd (none w due)

  pub naming_then : {P Q R : Spot → Type 0} {p q r : Plan} → Naming K l P p q → Naming K l Q q r → ((x : Spot) → R x → P x ⊎ Q x) → Naming K l R p r
  naming_then {P} {Q} {R} {p} {q} {r} first second parts = record { celled = second.celled; named = λ x h. at x (parts x h); kept = λ x h. second.kept x (first.kept x h) }
    where
      at : (x : Spot) → P x ⊎ Q x → NamedAt K l r x
      at x (inl h) = second.kept x (first.named x h)
      at x (inr h) = second.named x h
