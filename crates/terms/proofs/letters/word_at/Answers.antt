use Rattle.std.proofs.Common.{rules, ◌≡◌, ℕ, List, ◌-◌, length, take, drop, sym, ap, ◌∙◌, subst, arith}
use Rattle.std.proofs.lemmas.List.{take_all, length-drop}
use Rattle.std.proofs.lemmas.Iterator.{YieldsList-from_slice, YieldsList-from_take}
use Rattle.std.proofs.lemmas.Iterator.Consumers.{count_from_yields_List}
use Rattle.std.proofs.lemmas.Iterator.Search.{YieldsList-from_take_while}
use Rattle.terms.specs.Letters.{letter, Run, ReadAt}
use Rattle.terms.proofs.Words.{run_word, run_read, front_run}
use Rattle.terms.proofs.letters.word_at.Goals as goal

pub returns : goal.returns
returns c =
    let text = c.args.text.now in
    let at = c.args.at in
    let first = c.args.first in
    let inside = c.in-Some.ensures.lookup.0.0 in
    let rest : c.in-Some.rest.now ≡ drop at text = c.in-Some.ensures.lookup.0.2 ∙ take_all (length text - at) (drop at text) (omega (arith, length-drop at text)) in
    let n = count_from_yields_List _ _ c.count-len.ensures.ran
    (YieldsList-from_take_while {s = c.take_while.result} _ (letter first) (YieldsList-from_take 8 (YieldsList-from_slice (drop at text) cc) cc) c.take_while.ensures.closure c.take_while.ensures.done (λ x b q k. search rules)) in
    let run : Run text at first c.count-len.result = subst (Run text at first) (sym n) (front_run text at first inside) in
    record {
      word = λ w h. ap (λ (r : List ℕ). take c.count-len.result r) rest ∙ ap (λ (m : ℕ). take m (drop at text)) (run_word text at first c.count-len.result w run h) ∙ h.here;
      read = subst (λ (r : List ℕ). ReadAt text at first (take c.count-len.result r)) (sym rest) (run_read text at first c.count-len.result run);
    }
