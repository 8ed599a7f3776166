-- At most one fault is due of some bytes, and none where nothing is wrong.
use Rattle.std.proofs.Common.{◌≡◌, ℕ, List, sym, refl, ap, ◌∙◌, subst, subst₂, inl, inr, arith}
use Rattle.std.proofs.lemmas.Bool.{cases_order}
use Rattle.refusals.specs.declared.faults.FileFault.{FileFault}
use Rattle.refusals.specs.declared.faults.NetFault.{NetFault}
use Rattle.calculus.specs.Books.{RuleBook}
use Rattle.netfile.specs.Faults.{BadHeader, BadHeader.zeroth, BadHeader.first, Header, BadCell, BadLink, BadEnd, BadWord, NotMutual, First}
use Rattle.netfile.specs.Reading.{Headed, Right, After, DueFile, DueNet, Due}
use Rattle.netfile.specs.declared.head.Head.{Head}
use Rattle.netfile.specs.declared.survey.SurveyFault.{SurveyFault}
use Rattle.netfile.proofs.Words.{header_injective}
use Rattle.netfile.proofs.Order.{earlier, cell_or_link}
use Rattle.netfile.proofs.Mutuals.{no_bad_word, not_bad}

module _ {P : ℕ → Type 0} where
  pub same_first : {v w : ℕ} → First P v → First P w → v ≡ w
  same_first {v} {w} p q =
      elim (cases_order v w) [ inl s ↦ s | inr (inl s) ↦ absurd (q.1 v s p.0) | inr (inr s) ↦ absurd (p.1 w s q.0) ]

module _ (K : RuleBook) (bs : List ℕ) where
  pub same_head : {e c f d : ℕ} → Header K bs e c → Header K bs f d → (e ≡ f) × (c ≡ d)
  same_head {e} {c} {f} {d} p q =
      let h = header_injective K.number K.number e f c d (omega (arith, p.ends)) (omega (arith, q.ends)) (omega (arith, p.cells)) (omega (arith, q.cells)) (sym p.is ∙ q.is) in
      (h.1, h.2)

  headed_or_bad : {w e c l : ℕ} → BadHeader K bs w → Headed K bs e c l → ⊥
  headed_or_bad (zeroth none) h = none _ _ h.header
  headed_or_bad (first p none) h = none _ h.loops

  one_header : {v w : ℕ} → BadHeader K bs v → BadHeader K bs w → v ≡ w
  one_header (zeroth none) (zeroth none') = refl
  one_header (zeroth none) (first p none') = absurd (none _ _ p)
  one_header (first p none) (zeroth none') = absurd (none' _ _ p)
  one_header (first p none) (first p' none') = refl

  -- two faults of words stand at one word
  module _ (P Q : ℕ → ℕ → ℕ → Type 0) where
    at_one_word : {v w : ℕ} → After K bs (λ e c. First (BadWord K bs e c) v × P e c v) → After K bs (λ e c. First (BadWord K bs e c) w × Q e c w) → (e : ℕ) × (c : ℕ) × (v ≡ w) × P e c v × Q e c v
    at_one_word {v} {w} (e, c, l, h, (p, here)) (e', c', l', h', (q, there)) =
        let same = same_head h.header h'.header in
        let q' = subst₂ (λ m n. First (BadWord K bs m n) w × Q m n w) (sym same.0) (sym same.1) (q, there) in
        let word = same_first p q'.0 in
        (e, c, word, here, subst (λ n. Q e c n) (sym word) q'.1)

  cell_not_link : {e c w : ℕ} → BadCell K bs e c w → BadLink K bs e c w → ⊥
  cell_not_link {e} {c} p q = cell_or_link K bs e c q.1.0 p.1.2 q.1.1

  cell_not_end : {e c w : ℕ} → BadCell K bs e c w → BadEnd K bs e c w → ⊥
  cell_not_end p (inl q) = omega (arith, p.0, q.0)
  cell_not_end {e} {c} p (inr q) = let r = earlier K bs e c p.1.2 q.1 p.1.1 in omega (arith, r.2)

  link_not_end : {e c w : ℕ} → BadLink K bs e c w → BadEnd K bs e c w → ⊥
  link_not_end p (inl q) = omega (arith, p.0, q.0)
  link_not_end {e} {c} p (inr q) = cell_or_link K bs e c p.1.0 q.1 p.1.1

  one_file : (f g : FileFault) → DueFile K bs f → DueFile K bs g → f ≡ g
  one_file FileFault.NoRoom g p q = absurd p
  one_file FileFault.Length FileFault.NoRoom p q = absurd q
  one_file FileFault.Length FileFault.Length p q = refl
  one_file FileFault.Length (FileFault.Header w) p q = absurd (q.0 p)
  one_file FileFault.Length (FileFault.BadCell w) p q = absurd (q.3.length p)
  one_file FileFault.Length (FileFault.BadLink w) p q = absurd (q.3.length p)
  one_file FileFault.Length (FileFault.Words w) p q = absurd (q.3.length p)
  one_file (FileFault.Header v) FileFault.NoRoom p q = absurd q
  one_file (FileFault.Header v) FileFault.Length p q = absurd (p.0 q)
  one_file (FileFault.Header v) (FileFault.Header w) p q = ap FileFault.Header (one_header p.1 q.1)
  one_file (FileFault.Header v) (FileFault.BadCell w) p q = absurd (headed_or_bad p.1 q.3)
  one_file (FileFault.Header v) (FileFault.BadLink w) p q = absurd (headed_or_bad p.1 q.3)
  one_file (FileFault.Header v) (FileFault.Words w) p q = absurd (headed_or_bad p.1 q.3)
  one_file (FileFault.BadCell v) FileFault.NoRoom p q = absurd q
  one_file (FileFault.BadCell v) FileFault.Length p q = absurd (p.3.length q)
  one_file (FileFault.BadCell v) (FileFault.Header w) p q = absurd (headed_or_bad q.1 p.3)
  one_file (FileFault.BadCell v) (FileFault.BadCell w) p q = ap FileFault.BadCell (at_one_word (BadCell K bs) (BadCell K bs) p q).2
  one_file (FileFault.BadCell v) (FileFault.BadLink w) p q = let m = at_one_word (BadCell K bs) (BadLink K bs) p q in absurd (cell_not_link m.3 m.4)
  one_file (FileFault.BadCell v) (FileFault.Words w) p q = let m = at_one_word (BadCell K bs) (BadEnd K bs) p q in absurd (cell_not_end m.3 m.4)
  one_file (FileFault.BadLink v) FileFault.NoRoom p q = absurd q
  one_file (FileFault.BadLink v) FileFault.Length p q = absurd (p.3.length q)
  one_file (FileFault.BadLink v) (FileFault.Header w) p q = absurd (headed_or_bad q.1 p.3)
  one_file (FileFault.BadLink v) (FileFault.BadCell w) p q = let m = at_one_word (BadLink K bs) (BadCell K bs) p q in absurd (cell_not_link m.4 m.3)
  one_file (FileFault.BadLink v) (FileFault.BadLink w) p q = ap FileFault.BadLink (at_one_word (BadLink K bs) (BadLink K bs) p q).2
  one_file (FileFault.BadLink v) (FileFault.Words w) p q = let m = at_one_word (BadLink K bs) (BadEnd K bs) p q in absurd (link_not_end m.3 m.4)
  one_file (FileFault.Words v) FileFault.NoRoom p q = absurd q
  one_file (FileFault.Words v) FileFault.Length p q = absurd (p.3.length q)
  one_file (FileFault.Words v) (FileFault.Header w) p q = absurd (headed_or_bad q.1 p.3)
  one_file (FileFault.Words v) (FileFault.BadCell w) p q = let m = at_one_word (BadEnd K bs) (BadCell K bs) p q in absurd (cell_not_end m.4 m.3)
  one_file (FileFault.Words v) (FileFault.BadLink w) p q = let m = at_one_word (BadEnd K bs) (BadLink K bs) p q in absurd (link_not_end m.4 m.3)
  one_file (FileFault.Words v) (FileFault.Words w) p q = ap FileFault.Words (at_one_word (BadEnd K bs) (BadEnd K bs) p q).2

  -- a fault of the words leaves none of the links
  word_or_net : {w : ℕ} (P : ℕ → ℕ → Type 0) (g : NetFault) → After K bs (λ e c. First (BadWord K bs e c) w × P e c) → DueNet K bs g → ⊥
  word_or_net {w} P (NetFault.NotMutual v) (e, c, l, h, (p, here)) (e', c', l', h', (clean, q)) =
      let same = same_head h.header h'.header in
      clean w (subst₂ (λ m n. BadWord K bs m n w) same.0 same.1 p.0)

  file_or_net : (f : FileFault) (g : NetFault) → DueFile K bs f → DueNet K bs g → ⊥
  file_or_net FileFault.NoRoom g p q = p
  file_or_net FileFault.Length (NetFault.NotMutual v) p q = q.3.length p
  file_or_net (FileFault.Header w) (NetFault.NotMutual v) p q = headed_or_bad p.1 q.3
  file_or_net (FileFault.BadCell w) g p q = word_or_net (λ e c. BadCell K bs e c w) g p q
  file_or_net (FileFault.BadLink w) g p q = word_or_net (λ e c. BadLink K bs e c w) g p q
  file_or_net (FileFault.Words w) g p q = word_or_net (λ e c. BadEnd K bs e c w) g p q

  one_net : (f g : NetFault) → DueNet K bs f → DueNet K bs g → f ≡ g
  one_net (NetFault.NotMutual v) (NetFault.NotMutual w) (e, c, l, h, (clean, p)) (e', c', l', h', (clean', q)) =
      let same = same_head h.header h'.header in
      ap NetFault.NotMutual (same_first p (subst₂ (λ m n. First (NotMutual K bs m n) w) (sym same.0) (sym same.1) q))

  pub one_due : (f g : SurveyFault) → Due K bs f → Due K bs g → f ≡ g
  one_due (SurveyFault.File f) (SurveyFault.File g) p q = ap SurveyFault.File (one_file f g p q)
  one_due (SurveyFault.File f) (SurveyFault.Net g) p q = absurd (file_or_net f g p q)
  one_due (SurveyFault.Net f) (SurveyFault.File g) p q = absurd (file_or_net g f q p)
  one_due (SurveyFault.Net f) (SurveyFault.Net g) p q = ap SurveyFault.Net (one_net f g p q)

  module _ (e c l : ℕ) (right : Right K bs e c l) where
    head : Head
    head = record {
      ends = e;
      cells = c;
      loops = l;
      few = right.headed.header.ends;
      small = right.headed.header.cells;
      counted = right.headed.loops.1;
    }

    no_bad : (u : ℕ) → BadWord K bs e c u → ⊥
    unfolding head
    no_bad = no_bad_word K bs head right.whole (λ x w due less. let m = right.links x w due in (m.0, m.1))

    no_bad_after : (P : ℕ → ℕ → Type 0) {w : ℕ} → After K bs (λ e c. First (BadWord K bs e c) w × P e c) → ⊥
    no_bad_after P {w} (e', c', l', h', (p, here)) =
        let same = same_head h'.header right.headed.header in
        no_bad w (subst₂ (λ m n. BadWord K bs m n w) same.0 same.1 p.0)

    right_file : (f : FileFault) → DueFile K bs f → ⊥
    right_file FileFault.NoRoom p = p
    right_file FileFault.Length p = right.headed.length p
    right_file (FileFault.Header w) p = headed_or_bad p.1 right.headed
    right_file (FileFault.BadCell w) p = no_bad_after (λ e c. BadCell K bs e c w) p
    right_file (FileFault.BadLink w) p = no_bad_after (λ e c. BadLink K bs e c w) p
    right_file (FileFault.Words w) p = no_bad_after (λ e c. BadEnd K bs e c w) p

    right_net : (f : NetFault) → DueNet K bs f → ⊥
    unfolding head
    right_net (NetFault.NotMutual w) (e', c', l', h', (clean, q)) =
        let same = same_head h'.header right.headed.header in
        let (x, y, due, names, why) = subst₂ (λ m n. NotMutual K bs m n w) same.0 same.1 q.0 in
        not_bad K bs head x (right.links x w due) y names why

    pub right_none : (f : SurveyFault) → Due K bs f → ⊥
    right_none (SurveyFault.File f) p = right_file f p
    right_none (SurveyFault.Net f) p = right_net f p
