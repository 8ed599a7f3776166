use Rattle.std.proofs.Common.{◌≡◌, ℕ, ◌<◌, ◌⊎◌, List, [], length, inl, inr, subst, ◌∙◌, arith}
use Rattle.terms.specs.Walking.{between, Reading, Walk, Walked}
use Rattle.terms.specs.declared.walker.Walker.{Walker}
use Rattle.terms.proofs.Fronts.{left}
use Rattle.terms.proofs.Single.{one_answer}
use Rattle.terms.proofs.Outcomes.{due_wrong, due_unused, linear, due_large, reads_all, cells_all, items_all}
use Rattle.terms.proofs.survey.survey_text.Goals as goal

-- a walk with nothing more to be read has come to the end of the text
walked : (text : List ℕ) (v w : Walker) → v.text.now ≡ text → w.text.now ≡ v.text.now → Reading w (between []) → Walked text w
walked text v w begun same (T, spelt, is, h) =
    let all = left w.text.now w.at (between []) h.stands in
    let end : w.at ≡ length w.text.now = omega arith in
    let there : Walk w.text.now T (length w.text.now) w.around.items w.saved.items w.binders w.cells w.tally (between []) =
    subst (λ (p : ℕ). Walk w.text.now T p w.around.items w.saved.items w.binders w.cells w.tally (between [])) end h in
    (T, spelt, is ∙ same ∙ begun, subst (λ (t : List ℕ). Walk t T (length t) w.around.items w.saved.items w.binders w.cells w.tally (between [])) (same ∙ begun) there)

pub returns-in-Some : goal.returns-in-Some
returns-in-Some c =
    let text = c.args.text.now in
    let w = c.walk.new.self in
    let (T, spelt, is, h) = walked text c.new-walker.result w c.new-walker.ensures.same c.walk.ensures.same c.walk.ensures.whole in
    record { answer = due_wrong text T spelt is c.in_ok-check_grammar.ensures.answer.0 w h c.in-Some.fault c.in-Some.is; one = one_answer text }

pub returns-in-Some-find_unused : goal.returns-in-Some-find_unused
returns-in-Some-find_unused c =
    let text = c.args.text.now in
    let w = c.walk.new.self in
    let (T, spelt, is, h) = walked text c.new-walker.result w c.new-walker.ensures.same c.walk.ensures.same c.walk.ensures.whole in
    record { answer = due_unused text T spelt is c.in_ok-check_grammar.ensures.answer.0 w h c.in_default.is c.in-Some-find_unused.at c.in-Some-find_unused.ensures; one = one_answer text }

pub returns-then-items-gt63 : goal.returns-then-items-gt63
returns-then-items-gt63 c =
    let text = c.args.text.now in
    let w = c.walk.new.self in
    let (T, spelt, is, h) = walked text c.new-walker.result w c.new-walker.ensures.same c.walk.ensures.same c.walk.ensures.whole in
    let short = c.in_ok-check_grammar.ensures.answer.0 in
    let many = c.len-items.ensures.value in
    let large : (63 < length w.tally.items.items) ⊎ (1024 < w.cells) = elim c.then-items-gt63.either [ inl x ↦ inl (omega arith) | inr x ↦ inr x.1 ] in
    record { answer = due_large text T spelt is short w h (linear text T spelt is short w h c.in_default.is c.in_default-find_unused.ensures) large; one = one_answer text }

pub returns : goal.returns
returns c =
    let text = c.args.text.now in
    let w = c.walk.new.self in
    let (T, spelt, is, h) = walked text c.new-walker.result w c.new-walker.ensures.same c.walk.ensures.same c.walk.ensures.whole in
    let short = c.in_ok-check_grammar.ensures.answer.0 in
    let many = c.len-items.ensures.value in
    let all = linear text T spelt is short w h c.in_default.is c.in_default-find_unused.ensures in
    record {
      answer = (T, reads_all text T spelt is short w h all (omega (arith, c.if-items-gt63.false)) c.if-walker-gt1024.false, cells_all text T spelt is short w h, many ∙ items_all text T spelt is short w h);
      one = one_answer text;
    }
