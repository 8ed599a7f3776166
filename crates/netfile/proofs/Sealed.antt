-- The table of a draft that is filled from a surveyed file.
use Rattle.std.proofs.Common.{◌≡◌, ℕ, ◌<◌, ◌≤◌, List, Some, None, Result, Ok, Err, IsOk, refl, sym, ap, ◌∙◌, subst, inl, inr, arith}
use Rattle.std.proofs.lemmas.Bool.{lt-ltb, le-ltb, cond-true, cond-false, cases_lt, both_ways}
use Rattle.calculus.specs.Spots.{Spot}
use Rattle.calculus.specs.Books.{RuleBook}
use Rattle.nets.specs.declared.table.Table.{Table}
use Rattle.nets.specs.Meaning.{net, OfBook}
use Rattle.nets.specs.Drafts.{Plan, planned, Faulty, Realised, Sealing}
use Rattle.nets.specs.Views.{at}
use Rattle.nets.specs.declared.spot.Spot.{Spot as Seen}
use Rattle.nets.proofs.Standing.{good}
use Rattle.netfile.specs.Words.{cell_word, word}
use Rattle.netfile.specs.Faults.{Names, CellDue, LinkDue}
use Rattle.netfile.specs.Reading.{Right, ReadAs}
use Rattle.netfile.specs.Passes.{Laid}
use Rattle.netfile.specs.Building.{Celled, NamedAt}
use Rattle.netfile.specs.Layout.{LayoutView}
use Rattle.netfile.specs.declared.head.Head.{Head}
use Rattle.netfile.proofs.Words.{Below}
use Rattle.netfile.proofs.Order.{same_start, same_name}
use Rattle.netfile.proofs.Built.{due_planned, planned_due}
use Rattle.netfile.proofs.Refiled.{packed_file}

module _ (K : RuleBook) {B : Type 0} (l : LayoutView B) (right : Right K l.bytes l.head.ends l.head.cells l.head.loops) (laid : Laid K l.bytes l.head l.starts) (p : Plan) (all : Celled K l l.head.cells p) (named : (x : Spot) → NamedAt K l p x) where
  abbrev bs : List ℕ
  bs = l.bytes

  abbrev h : Head
  h = l.head

  abbrev e : ℕ
  e = h.ends

  abbrev c : ℕ
  c = h.cells

  link_is : (x y : Spot) (w : ℕ) → LinkDue K bs e c x w → Names bs e c w y → p.link x ≡ y
  link_is x y w due names = same_name bs e c (p.link x) y h.few h.small (named x w due) names

  -- no link of the plan is at fault
  no_fault : (x : Spot) → Faulty p x → ⊥
  no_fault x (there, why) =
      let (w, due) = planned_due K l laid p all x there in
      let (y, names, ne, (v, back, named_back)) = right.links x w due in
      let is = link_is x y w due names in
      elim why [
        | inl self ↦ ne (sym is ∙ self)
        | inr (inl absent) ↦ both_ways (planned p y) (ap (planned p) (sym is) ∙ absent) (due_planned K l laid p all y v back)
        | inr (inr other) ↦ other (ap p.link is ∙ link_is y x v back named_back)
      ]

  pub sealed : (r : Result Table Seen) → Sealing p r → IsOk r
  sealed (Ok t) sealing = refl
  sealed (Err x) sealing = absurd (no_fault (at x) sealing.0)

  module _ (bytes : Below 256 bs) (t : Table) (done : Realised p t) where
    kind_there : (r : ℕ) → r < c → (net t).kind r ≡ Some (p.kind r)
    kind_there r less = done.kinds r ∙ cond-true _ _ _ (lt-ltb r p.cells (omega (arith, all.cells)))

    kind_none : (r : ℕ) → c ≤ r → (net t).kind r ≡ None
    kind_none r far = done.kinds r ∙ cond-false _ _ _ (le-ltb r p.cells (omega (arith, all.cells)))

    kind_is : (r k : ℕ) → (net t).kind r ≡ Some k → (r < c) × (p.kind r ≡ k)
    kind_is r k is =
        elim (cases_lt r c) [
          | inl less ↦ (less, let there = kind_there r less in cc)
          | inr far ↦ let none = kind_none r far in let z : ◌≡◌ {A = ℕ} 0 1 = cc in absurd (omega arith)
        ]

    of_book : OfBook K t
    of_book r k is =
        let (less, same) = kind_is r k is in
        ap K.arity (sym same) ∙ all.arities r less ∙ sym (done.arities r ∙ cond-true _ _ _ (lt-ltb r p.cells (omega (arith, all.cells))))

    cells : (r : ℕ) → r < c → (k : ℕ) × ((net t).kind r ≡ Some k) × ((v : ℕ) → CellDue K bs e c r v → word bs v ≡ cell_word k)
    cells r less = (p.kind r, kind_there r less, λ v due. ap (word bs) (same_start K bs e c due (laid.begins r less)) ∙ all.kinds r less)

    mates : (x : Spot) (w : ℕ) → LinkDue K bs e c x w → Names bs e c w ((net t).mate x)
    mates x w due =
        let is : (net t).mate x ≡ p.link x = done.links x ∙ cond-true _ _ _ (due_planned K l laid p all x w due) in
        subst (λ y. Names bs e c w y) (sym is) (named x w due)

    pub read_as : ReadAs K bs t
    read_as =
        let (storable, packed, is) =
        packed_file K bs bytes e c h.loops right (net t) (good t K of_book) (sym (done.ends ∙ all.ends)) (sym (done.loops ∙ all.loops)) cells kind_none mates in
        record { file = is; book = of_book; storable = storable; packed = packed }
