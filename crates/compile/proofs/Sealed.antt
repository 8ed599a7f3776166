-- The table of a draft in which all links of a linear term are named.
use Rattle.std.proofs.Common.{◌≡◌, ℕ, ◌<◌, ◌≤◌, true, false, ltb, leb, ◌≢◌, ◌⊎◌, List, [], ◌∷◌, length, Some, None, Ok, Err, Result, IsOk, sym, refl, ap, ◌∙◌, subst, inl, inr, arith}
use mathlib.Core.Path.{fun_ext}
use Rattle.std.specs.List.{AllByRecursion}
use Rattle.std.proofs.lemmas.Bool.{lt-ltb, le-ltb, ltb-true, leb-true, and_parts, cond-true, cond-false, cases_lt, cases_Bool, both_ways}
use Rattle.calculus.specs.Spots.{Spot, end, port}
use Rattle.calculus.specs.Splicing.{Out}
use Rattle.calculus.specs.Drawn.{linked}
use Rattle.calculus.specs.Combinators.{γ, combinators}
use Rattle.lambda.specs.Terms.{Term}
use Rattle.lambda.specs.TermNets.{links}
use Rattle.lambda.specs.TermNets.{net as net_of_term}
use Rattle.lambda.proofs.Wirings.{In, occ, out_occ, Distinct, find, linked_in, linked_out}
use Rattle.lambda.proofs.Good.{kind_yes, kind_none, mate_is, ends_are, no_loops, port_named, end_live, distinct_links}
use Rattle.nets.specs.declared.table.Table.{Table}
use Rattle.nets.specs.Meaning.{net, OfBook}
use Rattle.nets.specs.Drafts.{Plan, planned, Faulty, Realised, Sealing}
use Rattle.nets.specs.Views.{at}
use Rattle.nets.specs.declared.spot.Spot.{Spot as Seen}
use Rattle.terms.specs.Named.{Named, cells, items}
use Rattle.terms.specs.Bindings.{term_under, net_under}
use Rattle.terms.specs.Texts.{Reads}
use Rattle.binding.proofs.Places.{placed_inside, placed_outside}
use Rattle.compile.specs.Linking.{BothWays, Drafted}
use Rattle.compile.proofs.Steps.{linear}

all_in : (P : Spot × Spot → Type 0) (ls : List (Spot × Spot)) → AllByRecursion P ls → (u v : Spot) → In ls u v → P (u, v)
all_in P [] a u v h = absurd h
all_in P (l ∷ ls) a u v (inl (e, f)) = subst (λ x. P (x, v)) (sym e) (subst (λ y. P (l.0, y)) (sym f) a.0)
all_in P (l ∷ ls) a u v (inr h) = all_in P ls a.1 u v h

module _ {text : List ℕ} {T : Named} (reads : Reads text T) {p : Plan} (d : Drafted (length (items T)) (cells T) (links (end 0) (term_under (items T) T)) p) where
  abbrev n : ℕ
  n = length (items T)

  abbrev U : Term
  U = term_under (items T) T

  apart : Distinct (links (end 0) U)
  apart = distinct_links n U (linear reads)

  -- a spot that is there has a link, and a spot that has one is there
  counted : (x : Spot) → planned p x ≡ true → 1 ≤ occ x (links (end 0) U)
  counted (end e) h = let l = end_live n U (linear reads) e (omega (arith, ltb-true e p.ends h, d.ends)) in omega arith
  counted (port r j) h =
      let (a, b) = and_parts (ltb r p.cells) (leb j (p.arity r)) h in
      let less : r < cells T = omega (arith, ltb-true r p.cells a, d.cells) in
      let low : j ≤ 2 = omega (arith, leb-true j (p.arity r) b, d.arities r less) in
      let l = port_named n U (linear reads) r j low in
      let i = placed_inside (items T) T 0 [] r (omega arith) (omega arith) in
      omega arith

  -- what the plan links it with is what the term does
  pub record Joined (x : Spot) : Type 0 where
    pub mate : Spot
    pub here : p.link x ≡ mate
    pub back : p.link mate ≡ x
    pub other : mate ≢ x
    pub there : planned p mate ≡ true
    pub same : linked (links (end 0) U) x ≡ mate

  joined : (x : Spot) → planned p x ≡ true → Joined x
  joined x h = go (find (links (end 0) U) x)
    where
      go : ((y : Spot) × (In (links (end 0) U) x y ⊎ In (links (end 0) U) y x)) ⊎ Out x (links (end 0) U) → Joined x
      go (inl (y, inl i)) =
          let b = all_in (BothWays p) (links (end 0) U) d.named x y i in
          let l = linked_in (links (end 0) U) apart x y i in
          record { mate = y; here = b.0; back = b.1; other = λ e. l.2 (sym e); there = b.3; same = l.0 }
      go (inl (y, inr i)) =
          let b = all_in (BothWays p) (links (end 0) U) d.named y x i in
          let l = linked_in (links (end 0) U) apart y x i in
          record { mate = y; here = b.1; back = b.0; other = l.2; there = b.2; same = l.1 }
      go (inr o) = let z = out_occ x (links (end 0) U) o in let k = counted x h in absurd (omega arith)

  alone : (x : Spot) → planned p x ≡ false → linked (links (end 0) U) x ≡ x
  alone x h = go (find (links (end 0) U) x)
    where
      go : ((y : Spot) × (In (links (end 0) U) x y ⊎ In (links (end 0) U) y x)) ⊎ Out x (links (end 0) U) → linked (links (end 0) U) x ≡ x
      go (inl (y, inl i)) = absurd (both_ways (planned p x) h (all_in (BothWays p) (links (end 0) U) d.named x y i).2)
      go (inl (y, inr i)) = absurd (both_ways (planned p x) h (all_in (BothWays p) (links (end 0) U) d.named y x i).3)
      go (inr o) = linked_out (links (end 0) U) x o

  -- no link is at fault
  no_fault : (x : Spot) → Faulty p x → ⊥
  no_fault x (there, why) =
      let j = joined x there in
      elim why [
        | inl self ↦ j.other (sym j.here ∙ self)
        | inr (inl absent) ↦ both_ways (planned p j.mate) (ap (planned p) (sym j.here) ∙ absent) j.there
        | inr (inr other) ↦ other (ap p.link j.here ∙ j.back)
      ]

  pub sealed : (r : Result Table Seen) → Sealing p r → IsOk r
  sealed (Ok t) h = refl
  sealed (Err x) h = absurd (no_fault (at x) h.0)

  module _ {t : Table} (done : Realised p t) where
    kind_there : (r : ℕ) → r < cells T → (net t).kind r ≡ Some γ
    kind_there r less = done.kinds r ∙ cond-true _ _ _ (lt-ltb r p.cells (omega (arith, d.cells))) ∙ ap Some (d.kinds r less)

    kind_far : (r : ℕ) → cells T ≤ r → (net t).kind r ≡ None
    kind_far r far = done.kinds r ∙ cond-false _ _ _ (le-ltb r p.cells (omega (arith, d.cells)))

    same_kind : (r : ℕ) → (net t).kind r ≡ (net_of_term n U).kind r
    same_kind r = elim (cases_lt r (cells T)) [
      | inl less ↦ (let i = placed_inside (items T) T 0 [] r (omega arith) (omega arith) in kind_there r less ∙ sym (kind_yes n U r (omega arith)))
      | inr far ↦ kind_far r far ∙ sym (kind_none n U r (placed_outside (items T) T 0 [] r (inr (omega arith))))
    ]

    same_mate : (x : Spot) → (net t).mate x ≡ (net_of_term n U).mate x
    same_mate x =
        let is : linked (links (end 0) U) x ≡ (net_of_term n U).mate x = ap (λ (m : Spot → Spot). m x) (sym (mate_is n U)) in
        elim (cases_Bool (planned p x)) [
          | inl h ↦ (let j = joined x h in done.links x ∙ cond-true _ _ _ h ∙ j.here ∙ sym j.same ∙ is)
          | inr h ↦ done.links x ∙ cond-false _ _ _ h ∙ sym (alone x h) ∙ is
        ]

    -- the table holds the term's net
    pub net_is : net t ≡ net_under (items T) T
    net_is = λ i. record {
      ends = (done.ends ∙ d.ends ∙ sym (ends_are n U)) i;
      kind = fun_ext same_kind i;
      mate = fun_ext same_mate i;
      loops = (done.loops ∙ d.loops ∙ sym (no_loops n U)) i;
    }

    pub of_book : OfBook combinators t
    of_book r k is = elim (cases_lt r (cells T)) [
      | inl less ↦ (
          let there = kind_there r less in
          let same : k ≡ γ = cc in
          ap combinators.arity same ∙ sym (done.arities r ∙ cond-true _ _ _ (lt-ltb r p.cells (omega (arith, d.cells))) ∙ ap Some (d.arities r less)))
      | inr far ↦ (let none = kind_far r far in let z : ◌≡◌ {A = ℕ} 0 1 = cc in absurd (omega arith))
    ]
