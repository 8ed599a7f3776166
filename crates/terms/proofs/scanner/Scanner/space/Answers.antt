use Rattle.std.proofs.Common.{◌≡◌, ◌-◌, Bool, true, false, List, [], ◌∷◌, ◌++◌, length, take, Some, sym, refl, ap, ◌∙◌, arith}
use Rattle.std.specs.List.{slice_get}
use Rattle.std.specs.Option.{option_eq}
use Rattle.std.proofs.lemmas.List.{length_push}
use mathlib.Core.Bool.{beq}
use Rattle.terms.specs.Scanning.{want, argument, spaced}
use Rattle.terms.proofs.Stacks.{popped, not_popped, last_place, last_set, spaced_stuck, spaced_goes, not_false, not_true}
use Rattle.terms.proofs.Steps.{shown_by}
use Rattle.terms.proofs.scanner.Scanner.space.Goals as goal

pub returns-then-ne : goal.returns-then-ne
returns-then-ne c t ks h =
    let xs = c.args.self.now.arguments.items in
    let is : c.copied.result ≡ slice_get xs (length xs - 1) = cc (c.copied.ensures, c.last.ensures.value, c.deref.ensures.0) in
    let at = last_place xs c.copied.result is in
    let no = not_true (option_eq beq c.copied.result (Some false)) (sym c.ne.ensures ∙ c.if-ne.true) in
    spaced_stuck t ks (λ zs z. not_popped xs (take (length xs - 1) xs) zs c.copied.result false at.1 at.0 no (h ∙ z))

pub returns : goal.returns
returns c t ks h =
    let xs = c.args.self.now.arguments.items in
    let is : c.copied.result ≡ slice_get xs (length xs - 1) = cc (c.copied.ensures, c.last.ensures.value, c.deref.ensures.0) in
    let yes = not_false (option_eq beq c.copied.result (Some false)) (sym c.ne.ensures ∙ c.if-ne.false) in
    let at : xs ≡ take (length xs - 1) xs ++ false ∷ [] = popped xs (take (length xs - 1) xs) c.copied.result false (last_place xs c.copied.result is).0 yes in
    let some : length xs ≡ length (take (length xs - 1) xs ++ false ∷ []) = ap length at in
    let g = spaced_goes t ks (take (length xs - 1) xs) (sym h ∙ at) in
    let left = last_set xs c.deref_mut.result.now (c.len-last.result - 1) true c.deref_mut.ensures.value (omega arith) (omega (arith, length_push (take (length xs - 1) xs) false)) in
    shown_by _ _ (spaced t ks) (want (argument g.0 ∷ g.1)) g.2 refl (left ∙ ap (λ (ys : List Bool). ys ++ true ∷ []) g.3)
