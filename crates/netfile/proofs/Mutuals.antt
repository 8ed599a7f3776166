-- Links that are mutual or not, in a file whose words are all right.
use Rattle.std.proofs.Common.{◌≡◌, ℕ, ◌+◌, ◌*◌, ◌<◌, ◌≤◌, Bool, false, leb, ◌≢◌, ◌⊎◌, ◌↔◌, IsTrue, List, get_or, Some, None, Ok, Err, Result, IsOk, MatchResult, sym, refl, subst, inl, inr, arith}
use Rattle.std.proofs.lemmas.Bool.{false≢true, cases_lt, le-leb, lt-leb}
use Rattle.std.proofs.lemmas.Option.{none-some}
use Rattle.std.specs.Bool.{then_some}
use Rattle.std.specs.Result.{result_ok}
use Rattle.refusals.specs.declared.faults.FileFault.{FileFault}
use Rattle.refusals.specs.declared.faults.NetFault.{NetFault}
use Rattle.calculus.specs.Spots.{Spot, port}
use Rattle.calculus.specs.Books.{RuleBook, Laws}
use Rattle.nets.specs.Drafts.{Before}
use Rattle.nets.specs.Views.{at}
use Rattle.nets.specs.declared.spot.Spot.{Spot as Seen}
use Rattle.nets.specs.declared.spot.Spot.TheVariants.{End, Port}
use Rattle.netfile.specs.Faults.{size, IsCell, Names, CellDue, LinkDue, BadWord, NotMutual}
use Rattle.netfile.specs.Reading.{Headed, Mutual, DueNet}
use Rattle.netfile.specs.Passes.{NoCell, CellRead, NoLink, LinkRead, NamedBefore, Laid, WordOf, MutualAt, FaultAt, nth_spot}
use Rattle.netfile.specs.declared.head.Head.{Head}
use Rattle.books.specs.declared.table.Cell.{Cell}
use Rattle.netfile.proofs.Order.{same_name, same_arity, same_start, same_word, earlier, cell_or_link, cases_spot, before_from_word, link_there}
use Rattle.netfile.proofs.Walk.{number, nth_number, number_below, number_before, due_nameable}
use Rattle.netfile.proofs.Verdicts.{clean}

pub refuted : (P : Type 0) → (P → ⊥) → IsTrue false ↔ P
refuted P no-p = (λ t. absurd (false≢true t), λ p. absurd (no-p p))

-- no two spots are seen alike
pub at_injective : (x y : Seen) → at x ≡ at y → x ≡ y
at_injective (End a) (End b) s = cc
at_injective (End a) (Port i j) s = cc
at_injective (Port i j) (End b) s = cc
at_injective (Port i j) (Port k l) s = cc

no_cell : (K : RuleBook) (bs : List ℕ) (w : ℕ) (f : FileFault) → NoCell K bs w f → (a : ℕ) → IsCell K bs w a → ⊥
no_cell K bs w FileFault.NoRoom none a is = none
no_cell K bs w FileFault.Length none a is = none
no_cell K bs w (FileFault.Header v) none a is = none
no_cell K bs w (FileFault.BadCell v) none a is = none.2 a is
no_cell K bs w (FileFault.BadLink v) none a is = none
no_cell K bs w (FileFault.Words v) none a is = omega (arith, none.1, is.0)

-- a cell that is there is read
pub cell_ok : (K : RuleBook) (bs : List ℕ) (w : ℕ) (r : Result Cell FileFault) → CellRead K bs w r → (a : ℕ) → IsCell K bs w a → IsOk r
cell_ok K bs w (Ok x) read a is = refl
cell_ok K bs w (Err f) read a is = absurd (no_cell K bs w f read a is)

no_link : (bs : List ℕ) (h : Head) (w : ℕ) (f : FileFault) → NoLink bs h w f → (y : Spot) → Names bs h.ends h.cells w y → ⊥
no_link bs h w FileFault.NoRoom none y names = none
no_link bs h w FileFault.Length none y names = none
no_link bs h w (FileFault.Header v) none y names = none
no_link bs h w (FileFault.BadCell v) none y names = none
no_link bs h w (FileFault.BadLink v) none y names = none.2 y names
no_link bs h w (FileFault.Words v) none y names = omega (arith, none.1, names.0)

-- a link that is there is read
pub link_ok : (bs : List ℕ) (h : Head) (w : ℕ) (r : Result Seen FileFault) → LinkRead bs h w r → (y : Spot) → Names bs h.ends h.cells w y → IsOk r
link_ok bs h w (Ok z) read y names = refl
link_ok bs h w (Err f) read y names = absurd (no_link bs h w f read y names)

module _ (K : RuleBook) (bs : List ℕ) (h : Head) where
  abbrev e : ℕ
  e = h.ends

  abbrev c : ℕ
  c = h.cells

  -- a mutual link, by what its word names
  pub mutual_with : (x y : Spot) {w : ℕ} → Names bs e c w y → Mutual K bs e c x w → (y ≢ x) × ((v : ℕ) × LinkDue K bs e c y v × Names bs e c v x)
  mutual_with x y names (z, other, ne, back) =
      let s = same_name bs e c z y h.few h.small other names in
      subst (λ n. (n ≢ x) × ((v : ℕ) × LinkDue K bs e c n v × Names bs e c v x)) s (ne, back)

  -- its target names it back at the target's own word
  pub named_back : (x y : Spot) {v w : ℕ} → Names bs e c w y → LinkDue K bs e c y v → Mutual K bs e c x w → Names bs e c v x
  named_back x y names due mutual_link =
      let back = (mutual_with x y names mutual_link).1 in
      subst (λ n. Names bs e c n x) (same_word K bs e c y back.1 due) back.2

  -- whether the link of a spot is mutual, by what its target names
  pub tells_mutual : (x : Seen) (y : Spot) (v w : ℕ) (r : Bool) (named : Result Seen FileFault) → Names bs e c w y → y ≢ at x → LinkDue K bs e c y v → LinkRead bs h v named →
      MatchResult named (λ z. IsTrue r ↔ (z ≡ x)) (λ _. r ≡ false) → IsTrue r ↔ Mutual K bs e c (at x) w
  tells_mutual x y v w r (Ok z) names ne due back tells = (
    λ t. (y, names, ne, (v, due, subst (λ n. Names bs e c v (at n)) (tells.0 t) back)),
    λ m. tells.1 (at_injective z x (same_name bs e c (at z) (at x) h.few h.small back (named_back (at x) y names due m))),
  )
  tells_mutual x y v w r (Err f) names ne due back tells =
      subst (λ b. IsTrue b ↔ Mutual K bs e c (at x) w) (sym tells)
      (refuted (Mutual K bs e c (at x) w) (λ m. no_link bs h v f back (at x) (named_back (at x) y names due m)))

  pub not_bad : (x : Spot) {w : ℕ} → Mutual K bs e c x w → (y : Spot) → Names bs e c w y → (y ≡ x) ⊎ ((v : ℕ) → LinkDue K bs e c y v → Names bs e c v x → ⊥) → ⊥
  not_bad x mutual_link y names (inl s) = (mutual_with x y names mutual_link).0 s
  not_bad x mutual_link y names (inr none) = let back = (mutual_with x y names mutual_link).1 in none back.0 back.1 back.2

  -- nothing is wrong with words that are all right
  pub no_bad_word : CellDue K bs e c c (size bs) → NamedBefore K bs h (size bs) → (u : ℕ) → BadWord K bs e c u → ⊥
  no_bad_word whole named u (inl bad) = clean K bs h whole (omega arith) (omega arith) (omega arith) named u bad.0 (inl bad)
  no_bad_word whole named u (inr (inl bad)) = clean K bs h whole (omega arith) (omega arith) (omega arith) named u bad.0 (inr (inl bad))
  no_bad_word whole named u (inr (inr (inl (here, inl (i, less, due))))) =
      let q = earlier K bs e c due whole less in omega (arith, q.2)
  no_bad_word whole named u (inr (inr (inl (here, inr (x, due))))) =
      cell_or_link K bs e c x whole (subst (λ n. LinkDue K bs e c x n) here due)
  no_bad_word whole named u (inr (inr (inr bad))) = let s = same_start K bs e c bad.1 whole in omega (arith, bad.0)

  module _ (starts : List ℕ) (laid : Laid K bs h starts) where
    pub port_word : (i j a : ℕ) → i < c → IsCell K bs (get_or starts i 0) a → j ≤ a → LinkDue K bs e c (port i j) (get_or starts i 0 + (j + 1))
    port_word i j a less is within = (get_or starts i 0, a, laid.begins i less, less, is, within, refl)

    pub has_port : (i j : ℕ) {w : ℕ} → LinkDue K bs e c (port i j) w → (a : ℕ) × IsCell K bs (get_or starts i 0) a × (j ≤ a)
    has_port i j due =
        let s = same_start K bs e c due.2 (laid.begins i due.3) in
        (due.1, subst (λ n. IsCell K bs n due.1) s due.4, due.5)

    -- the first link at fault, all before it mutual
    pub fault_due : Headed K bs e c h.loops → (x : Spot) (f : NetFault) → FaultAt K bs h x f → ((y : Spot) → Before y x → MutualAt K bs h y) → DueNet K bs f
    fault_due headed x (NetFault.NotMutual w) (due, not-mutual) before =
        let (y, names) = laid.named x w due (link_there K bs e c x laid.whole due) in
        let bad : NotMutual K bs e c w =
        elim (cases_spot y x) [
          | inl s ↦ (x, y, due, names, inl s)
          | inr apart ↦ (x, y, due, names, inr (λ v back named. not-mutual (y, names, apart, (v, back, named))))
        ] in (
          e,
          c,
          h.loops,
          headed,
          (
            no_bad_word laid.whole laid.named,
            (
              bad,
              λ v less wrong.
                  let (z, t, due', names', why) = wrong in
                  not_bad z (before z (before_from_word K bs e c z x due' due less) v due') t names' why,
            ),
          ),
        )

    -- no cell stands there
    pub port_absent : (i j v : ℕ) (r : Result Cell FileFault) → v ≡ get_or starts i 0 → CellRead K bs v r → None ≡ result_ok r → WordOf K bs h (port i j) None
    port_absent i j v (Ok x) s read none = absurd (none-some x none)
    port_absent i j v (Err f) s read none = λ w due.
        let p = has_port i j due in
        no_cell K bs v f read p.0 (subst (λ n. IsCell K bs n p.0) (sym s) p.1)

    -- the word of a port, unless it is past the arity
    pub port_found : (i j v : ℕ) (r : Result Cell FileFault) (x : Cell) → i < c → v ≡ get_or starts i 0 → CellRead K bs v r → Some x ≡ result_ok r →
        WordOf K bs h (port i j) (then_some (leb j x.arity) (v + (j + 1)))
    port_found i j v (Err f) x less s read found = absurd (none-some x (sym found))
    port_found i j v (Ok y) x less s read found =
        let same : y ≡ x = cc in
        let is : IsCell K bs v x.arity = subst (λ (z : Cell). IsCell K bs v z.arity) same (read.0, (y.kind, read.1, read.2)) in
        elim (cases_lt x.arity j) [
          | inl past ↦
              subst (λ b. WordOf K bs h (port i j) (then_some b (v + (j + 1)))) (sym (lt-leb j x.arity past))
              (λ w due.
              let p = has_port i j due in
              let a = same_arity K bs s is p.1 in
              omega arith)
          | inr there ↦
              subst (λ b. WordOf K bs h (port i j) (then_some b (v + (j + 1)))) (sym (le-leb j x.arity there))
              (subst (λ n. LinkDue K bs e c (port i j) (n + (j + 1))) (sym s)
              (port_word i j x.arity less (subst (λ n. IsCell K bs n x.arity) s is) there))
        ]

    -- spot i is at fault, and each before it is mutual
    pub nth_fault : Laws K → Headed K bs e c h.loops → (i : ℕ) (f : NetFault) → FaultAt K bs h (nth_spot e i) f → ((k : ℕ) → k < i → MutualAt K bs h (nth_spot e k)) → DueNet K bs f
    nth_fault laws headed i f fault ones =
        fault_due headed (nth_spot e i) f fault
        (λ y b w due.
        let there = due_nameable K laws bs e c y w due in
        subst (MutualAt K bs h) (nth_number e c y there) (ones (number e y) (number_before e c i y there b)) w due)

    pub all_mutual : Laws K → ((k : ℕ) → k < e + 3 * c → MutualAt K bs h (nth_spot e k)) → (x : Spot) → MutualAt K bs h x
    all_mutual laws ones x w due =
        let there = due_nameable K laws bs e c x w due in
        subst (MutualAt K bs h) (nth_number e c x there) (ones (number e x) (number_below e c x there)) w due
