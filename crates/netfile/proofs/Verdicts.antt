-- Which fault is due, from how far the words of a file were found right.
use Rattle.std.proofs.Common.{◌≡◌, ℕ, ◌+◌, ◌-◌, ◌*◌, ◌%◌, ◌<◌, ◌≤◌, List, ◌++◌, length, get_or, set, Ok, Err, Some, None, Option, refl, sym, ap, ◌∙◌, subst, subst₂, inl, inr, add-one, arith}
use Rattle.std.specs.Option.{ok_or}
use Rattle.std.proofs.lemmas.List.{get_or_append_left, get_or-set_same, get_or-set_other, length-set}
use Rattle.std.proofs.lemmas.Bool.{cases_order, cases_lt, cases_eq}
use Rattle.refusals.specs.declared.faults.FileFault.{FileFault}
use Rattle.calculus.specs.Spots.{Spot, end, port}
use Rattle.calculus.specs.Books.{RuleBook, Laws}
use Rattle.netfile.specs.Words.{header}
use Rattle.netfile.specs.Faults.{BadLength, BadHeader, size, CellDue, LinkDue, BadCell, BadLink, BadEnd, BadWord, First}
use Rattle.netfile.specs.Decoding.{WordAt, HeaderOf, LoopsOf, KindOf}
use Rattle.netfile.specs.Reading.{Headed, DueFile}
use Rattle.netfile.specs.Passes.{NoCell, NoLink, NameAll, StopsIn, CellChecked, NamedBefore, Laid}
use Rattle.netfile.specs.declared.head.Head.{Head}
use Rattle.netfile.proofs.Order.{from_ends, same_start, earlier, cell_or_link}

omega_size : {m n : ℕ} → m ≤ n → n ≤ m → m ≡ n
omega_size p q = omega arith

-- what `ok_or` refuses with
pub is_fault : {T E : Type 0} (o : Option T) (e f : E) → Err f ≡ ok_or o e → o ≡ None → f ≡ e
is_fault None e f h n = cc
is_fault (Some x) e f h n = cc

-- the word is no cell word of the book, which has no kind past 63
pub no_kind : (K : RuleBook) → Laws K → (bs : List ℕ) (at w : ℕ) → WordAt bs at (Some w) → KindOf w None → NoCell K bs at (FileFault.BadCell at)
no_kind K laws bs at w here none = (
  refl,
  here.0,
  λ a is.
      let few : is.1.0 < 64 = omega (arith, ((laws.kinds is.1.0 a is.1.2).0)) in
      none is.1.0 few (here.1 ∙ is.1.1),
)

-- the first of the words 0 and 1 that is wrong
pub bad_zeroth : (K : RuleBook) (bs : List ℕ) (number w : ℕ) → number ≡ K.number → WordAt bs 0 (Some w) → HeaderOf number w None → BadHeader K bs 0
bad_zeroth K bs number w is here none =
    BadHeader.zeroth (λ e c h. none e c h.ends h.cells (here.1 ∙ h.is ∙ ap (λ m. header m e c) (sym is)))

pub bad_first : (K : RuleBook) (bs : List ℕ) (number v w e c : ℕ) → number ≡ K.number → WordAt bs 0 (Some v) → WordAt bs 1 (Some w) →
    HeaderOf number v (Some (e, c)) → LoopsOf w None → BadHeader K bs 1
bad_first K bs number v w e c is here there head none =
    BadHeader.first
    (record { is = sym here.1 ∙ head.0 ∙ ap (λ m. header m e c) is; ends = head.1; cells = head.2 })
    (λ l h. none l h.1 (there.1 ∙ h.0))

pub right-length : (bs : List ℕ) → 8 ≤ length bs → length bs % 4 ≡ 0 → BadLength bs → ⊥
right-length bs long whole (inl short) = omega arith
right-length bs long whole (inr part) = part whole

module _ (K : RuleBook) (bs : List ℕ) (h : Head) where
  abbrev e : ℕ
  e = h.ends

  abbrev c : ℕ
  c = h.cells

  -- words that are named are there
  pub named_size : {from to : ℕ} → from ≤ size bs → from ≤ to → NameAll bs h from to → to ≤ size bs
  named_size {from} {to} there up named =
      elim (cases_lt from to) [ inl less ↦ omega (arith, (named (to - 1) (omega arith) (omega arith)).1.0) | inr done ↦ omega arith ]

  pub named_ends : {w : ℕ} → w ≤ 2 + e → NameAll bs h 2 w → NamedBefore K bs h w
  named_ends within named (end x) v due less = named v (omega (arith, due.1)) less
  named_ends within named (port i j) v due less = absurd (omega (arith, from_ends K bs e c due.2, due.6))

  pub named_cell : {i v w : ℕ} → CellDue K bs e c i v → NamedBefore K bs h v → NameAll bs h (v + 1) w → NamedBefore K bs h w
  named_cell {v = v} d before named x u due less =
      elim (cases_order u v) [
        | inl s ↦ absurd (cell_or_link K bs e c x d (subst (λ n. LinkDue K bs e c x n) s due))
        | inr (inl s) ↦ before x u due s
        | inr (inr s) ↦ named u (omega arith) less
      ]

  -- nothing is wrong before a word up to which the links are right, if a cell begins there or later
  pub clean : {i v w : ℕ} → CellDue K bs e c i v → i ≤ c → w ≤ v → w ≤ size bs → NamedBefore K bs h w → (u : ℕ) → u < w → BadWord K bs e c u → ⊥
  clean {i = i} {v = v} d most up there before u less (inl bad) =
      let k = bad.1.0 in
      let dk = bad.1.2 in
      elim (cases_order k i) [
        | inl s ↦ let here = same_start K bs e c (subst (λ n. CellDue K bs e c n u) s dk) d in omega arith
        | inr (inl s) ↦ let q = earlier K bs e c dk d s in bad.2 q.0 q.1
        | inr (inr s) ↦ let q = earlier K bs e c d dk s in omega (arith, q.2)
      ]
  clean d most up there before u less (inr (inl bad)) = let q = before bad.1.0 u bad.1.1 less in bad.2 q.0 q.1
  clean d most up there before u less (inr (inr (inl bad))) = omega (arith, bad.0)
  clean {i = i} {v = v} d most up there before u less (inr (inr (inr bad))) =
      elim (cases_order c i) [
        | inl s ↦ let here = same_start K bs e c (subst (λ n. CellDue K bs e c n u) s bad.1) d in omega arith
        | inr (inl s) ↦ omega arith
        | inr (inr s) ↦ let q = earlier K bs e c d bad.1 s in omega (arith, q.2)
      ]

  -- how far the cells were found right: cell i begins at word w, each link before it names a spot, and each cell before it begins where the list says
  pub record Reached (i w : ℕ) (starts : List ℕ) : Type 0 where
    pub due : CellDue K bs e c i w
    pub named : NamedBefore K bs h w
    pub there : w ≤ size bs
    pub near : w ≤ 66 + 4 * i
    pub begins : (k : ℕ) → k < i → CellDue K bs e c k (get_or starts k 0)
    pub wide : length starts ≡ c

  module _ (headed : Headed K bs e c h.loops) where
    pub cell_fault : {i w : ℕ} (f : FileFault) → CellDue K bs e c i w → i < c → w ≤ size bs → NamedBefore K bs h w → NoCell K bs w f → DueFile K bs f
    cell_fault FileFault.NoRoom d less there before no_cell = absurd no_cell
    cell_fault FileFault.Length d less there before no_cell = absurd no_cell
    cell_fault (FileFault.Header v) d less there before no_cell = absurd no_cell
    cell_fault {i} {w} (FileFault.BadCell v) d less there before no_cell =
        let bad : BadCell K bs e c w = (no_cell.1, (i, less, d), no_cell.2) in
        let first : First (BadWord K bs e c) w = (inl bad, clean d (omega arith) (omega arith) there before) in
        let due : DueFile K bs (FileFault.BadCell w) = (e, c, h.loops, headed, (first, bad)) in
        subst (λ n. DueFile K bs (FileFault.BadCell n)) (sym no_cell.0) due
    cell_fault (FileFault.BadLink v) d less there before no_cell = absurd no_cell
    cell_fault {i} {w} (FileFault.Words v) d less there before no_cell =
        let bad : BadEnd K bs e c w = inl (omega (arith, no_cell.1), inl (i, less, d)) in
        let first : First (BadWord K bs e c) w = (inr (inr bad), clean d (omega arith) (omega arith) there before) in
        let due : DueFile K bs (FileFault.Words w) = (e, c, h.loops, headed, (first, bad)) in
        subst (λ n. DueFile K bs (FileFault.Words n)) (sym no_cell.0) due

    pub link_fault : {i v w : ℕ} (x : Spot) (f : FileFault) → CellDue K bs e c i v → i ≤ c → w ≤ v → LinkDue K bs e c x w → w ≤ size bs → NamedBefore K bs h w → NoLink bs h w f → DueFile K bs f
    link_fault x FileFault.NoRoom d most up due there before no_link = absurd no_link
    link_fault x FileFault.Length d most up due there before no_link = absurd no_link
    link_fault x (FileFault.Header n) d most up due there before no_link = absurd no_link
    link_fault x (FileFault.BadCell n) d most up due there before no_link = absurd no_link
    link_fault {w = w} x (FileFault.BadLink n) d most up due there before no_link =
        let bad : BadLink K bs e c w = (no_link.1, (x, due), no_link.2) in
        let first : First (BadWord K bs e c) w = (inr (inl bad), clean d most up there before) in
        let whole : DueFile K bs (FileFault.BadLink w) = (e, c, h.loops, headed, (first, bad)) in
        subst (λ m. DueFile K bs (FileFault.BadLink m)) (sym no_link.0) whole
    link_fault {w = w} x (FileFault.Words n) d most up due there before no_link =
        let bad : BadEnd K bs e c w = inl (omega (arith, no_link.1), inr (x, due)) in
        let first : First (BadWord K bs e c) w = (inr (inr bad), clean d most up there before) in
        let whole : DueFile K bs (FileFault.Words w) = (e, c, h.loops, headed, (first, bad)) in
        subst (λ m. DueFile K bs (FileFault.Words m)) (sym no_link.0) whole

    pub left_over : {w : ℕ} → CellDue K bs e c c w → NamedBefore K bs h w → w < size bs → DueFile K bs (FileFault.Words w)
    left_over {w} d before more =
        let bad : BadEnd K bs e c w = inr (more, d) in
        (e, c, h.loops, headed, ((inr (inr bad), clean d (omega arith) (omega arith) (omega arith) before), bad))

    two_words : 2 ≤ size bs
    two_words = elim (cases_lt (length bs) 8) [ inl short ↦ absurd (headed.length (inl short)) | inr long ↦ omega arith ]

    pub ends_fault : (f : FileFault) → StopsIn bs h 2 (2 + e) f → DueFile K bs f
    ends_fault f (w, low, high, named, no_link) =
        link_fault (end (w - 2)) f CellDue.first (omega arith) (omega arith) (omega arith, omega arith) (named_size two_words low named) (named_ends (omega arith) named) no_link

    pub reached_none : (starts : List ℕ) → length starts ≡ c → NameAll bs h 2 (2 + e) → Reached 0 (2 + e) starts
    reached_none starts wide named =
        record {
          due = CellDue.first;
          named = named_ends (omega arith) named;
          there = named_size two_words (omega arith) named;
          near = omega (arith, headed.header.ends);
          begins = λ k less. absurd (omega arith);
          wide = wide;
        }

    pub reached_fault : {i w : ℕ} {starts : List ℕ} (f : FileFault) → Reached i w starts → i < c → CellChecked K bs h w (Err f) → DueFile K bs f
    reached_fault f r less (inl no_cell) = cell_fault f r.due less r.there r.named no_cell
    reached_fault {i} {w} f r less (inr (a, is, stops)) =
        let (u, low, high, named, no_link) = stops in
        link_fault (port i (u - (w + 1))) f (CellDue.next r.due less is) (omega arith) (omega arith)
        (w, a, r.due, less, is, omega arith, omega arith) (named_size (omega (arith, is.0)) low named) (named_cell r.due r.named named) no_link

    pub reached_more : {i w next : ℕ} {starts : List ℕ} → Laws K → Reached i w starts → i < c → CellChecked K bs h w (Ok next) → Reached (i + 1) next (set starts i w)
    reached_more {i} {w} {next} {starts} laws r less (a, is, named, after) =
        record {
          due = subst₂ (λ m n. CellDue K bs e c m n) (sym (add-one i)) (sym after) (CellDue.next r.due less is);
          named = subst (NamedBefore K bs h) (sym after) (named_cell r.due r.named named);
          there = omega (arith, named_size (omega (arith, is.0)) (omega arith) named);
          near = omega (arith, (laws.kinds is.1.0 a is.1.2).1, r.near);
          begins = λ k low. elim (cases_eq k i) [
            | inl s ↦ subst₂ (λ m n. CellDue K bs e c m n) (sym s) (sym (ap (λ m. get_or (set starts i w) m 0) s ∙ get_or-set_same starts i w 0 (omega (arith, r.wide, headed.header.cells)))) r.due
            | inr n ↦ subst (λ m. CellDue K bs e c k m) (sym (get_or-set_other starts i k w 0 n)) (r.begins k (omega arith))
          ];
          wide = length-set starts i w ∙ r.wide;
        }

    -- the starts of all cells, and what else is in the list
    pub reached_all : {w : ℕ} {starts : List ℕ} (rest : List ℕ) → Reached c w starts → size bs ≤ w → Laid K bs h (starts ++ rest)
    reached_all {starts = starts} rest r none =
        let all = omega_size r.there none in
        record {
          whole = subst (CellDue K bs e c c) all r.due;
          named = subst (NamedBefore K bs h) all r.named;
          begins = λ i less.
              subst (CellDue K bs e c i) (sym (get_or_append_left starts rest 0 i (omega (arith, r.wide)))) (r.begins i less);
        }
