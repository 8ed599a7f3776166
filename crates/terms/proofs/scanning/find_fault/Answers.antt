use Rattle.std.proofs.Common.{◌≡◌, ℕ, ◌+◌, ◌≤◌, Bool, true, false, not, List, [], ◌∷◌, length, get_or, take, sym, refl, ap, ◌∙◌, subst, inl, inr, arith}
use Rattle.std.specs.Bool.{then_some}
use Rattle.std.proofs.lemmas.List.{take_more, take_all, length-take}
use Rattle.terms.specs.declared.scanner.Mode.{Mode}
use Rattle.terms.specs.declared.scanner.Scanner.{Scanner}
use Rattle.terms.specs.Scanning.{want, run, step, opened, flags, Shows, Ending, Scanned}
use Rattle.terms.proofs.Machine.{run-append}
use Rattle.terms.proofs.Stacks.{open_most}
use Rattle.terms.proofs.Steps.{shown_live, shown_by}
use Rattle.terms.proofs.Exact.{outside, read_whole}
use Rattle.terms.proofs.scanning.find_fault.Goals as goal

pub step-requires : goal.step-requires
step-requires c =
    let front = take c.loop-i.i c.args.text.now in
    let same : length c.loop-i.scanner.arguments.items ≡ length (flags (opened (run (want []) front))) = ap length c.loop-i.invariant.1 in
    omega (arith, open_most front, length-take c.loop-i.i c.args.text.now)

pub returns-in_default : goal.returns-in_default
returns-in_default c =
    let text = c.args.text.now in
    let i = c.loop-i.i in
    let s = run (want []) (take i text) in
    outside text i (omega arith) (shown_live c.loop-i.mode c.loop-i.scanner s c.loop-i.invariant)
    (inr (c.loop-i-test.true, c.in_default.ensures s c.loop-i.invariant))

pub loop-i-preserved : goal.loop-i-preserved
loop-i-preserved c =
    let text = c.args.text.now in
    let i = c.loop-i.i in
    let s = run (want []) (take i text) in
    let e : run (want []) (take (i + 1) text) ≡ step s (get_or text i 0) =
    ap (λ (r : List ℕ). run (want []) r) (take_more text i 0 c.loop-i-test.true) ∙ run-append (want []) (take i text) (get_or text i 0 ∷ []) in
    let h = c.in-Some.ensures s c.loop-i.invariant in
    shown_by _ _ _ (step s (get_or text i 0)) e h.0 h.1

all_read : (text : List ℕ) (i : ℕ) → length text ≤ i → run (want []) (take i text) ≡ run (want []) text
all_read text i l = ap (λ (r : List ℕ). run (want []) r) (take_all i text l)

ends : (text : List ℕ) (m : Mode) (c : Scanner) (r : Bool) → Shows m c (run (want []) text) → Ending r (run (want []) text) → Scanned text (then_some (not r) (length text))
ends text m c true h w = read_whole text w.0 w.1
ends text m c false h w = outside text (length text) (omega arith) (λ z. shown_live m c _ h (sym (all_read text (length text) (omega arith)) ∙ z)) (inl (refl, w))

pub returns : goal.returns
returns c =
    let text = c.args.text.now in
    let shown = subst (Shows c.loop-i.mode c.loop-i.scanner) (all_read text c.loop-i.i c.loop-i-test.false) c.loop-i.invariant in
    subst (Scanned text) (sym c.then_some.ensures) (ends text c.loop-i.mode c.loop-i.scanner c.is_whole.result shown (c.is_whole.ensures _ shown))
