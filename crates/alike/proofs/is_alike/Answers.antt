use Rattle.std.proofs.Common.{◌≡◌, ℕ, Bool, true, false, refl, ◌∙◌, subst, inl, inr, arith}
use Rattle.std.proofs.lemmas.Bool.{cases_Bool}
use Rattle.pairing.proofs.Pairs.{Spread, Covers, Ok}
use Rattle.pairing.proofs.Steps.{alike_yes, alike_no}
use Rattle.pairing.proofs.Drawn.{alike_by_rows_lem}
use Rattle.nets.specs.Meaning.{net}
use Rattle.alike.specs.Pairings.{pairs}
use Rattle.alike.specs.Sides.{graph_of}
use Rattle.alike.specs.Rows.{rows}
use Rattle.alike.proofs.Graphs.{fits}
use Rattle.alike.proofs.Pairings.{matched, over}
use Rattle.alike.proofs.is_alike.Goals as goal

pub returns-then-spread : goal.returns-then-spread
returns-then-spread c =
    let a = c.args.a.now in
    let b = c.args.b.now in
    let n = c.spread.new.self in
    let d = c.new-pairing.ensures.nets in
    let e = c.spread.ensures.nets in
    let s = over (λ A B. Spread A B (pairs n) true) _ _ _ _ d.0 d.1 c.if-spread.ensures.spread in
    let ok = over (λ A B. Ok A B (pairs n)) _ _ _ _ (e.0 ∙ d.0) (e.1 ∙ d.1) (matched n) in
    let covers = over (λ A B. Covers B (pairs n).count (pairs n).theirs c.is_covered.result) _ _ _ _ (e.0 ∙ d.0) (e.1 ∙ d.1)
    (subst (λ (k : ℕ). Covers (graph_of n.theirs) k (pairs n).theirs c.is_covered.result) n.even c.is_covered.ensures) in
    let w = alike_by_rows_lem (net a) (net b) (fits a) (fits b) in
    let l : a.loops ≡ b.loops = omega arith in
    record {
      sound = λ t. w.to l (alike_yes (rows a) (rows b) (pairs n) ok s (subst (λ (z : Bool). Covers (rows b) (pairs n).count (pairs n).theirs z) t covers));
      complete = λ h. elim (cases_Bool c.is_covered.result) [
        | inl t ↦ t
        | inr t ↦ absurd (alike_no (rows a) (rows b) (pairs n) s (subst (λ (z : Bool). Covers (rows b) (pairs n).count (pairs n).theirs z) t covers) (w.fro h).1)
      ];
    }

pub returns-else-spread-clause-complete : goal.returns-else-spread-clause-complete
returns-else-spread-clause-complete c =
    let a = c.args.a.now in
    let b = c.args.b.now in
    let d = c.new-pairing.ensures.nets in
    let s = over (λ A B. Spread A B (pairs c.spread.new.self) false) _ _ _ _ d.0 d.1 c.if-spread.ensures.spread in
    λ h. absurd (s.no refl ((alike_by_rows_lem (net a) (net b) (fits a) (fits b)).fro h).1)
