use Rattle.std.proofs.Common.{true, sym, ◌∙◌}
use Rattle.terms.proofs.Stacks.{popped, not_popped}
use Rattle.terms.proofs.Steps.{closed_by}
use Rattle.terms.proofs.scanner.Scanner.close.Goals as goal

pub returns : goal.returns
returns c t ks h =
    let xs = c.args.self.now.arguments.items in
    let ys = c.pop.new.self.items in
    closed_by _ _ _ t ks c.then_some.ensures (λ e. sym h ∙ popped xs ys c.pop.result true c.pop.ensures.items (sym c.eq.ensures ∙ e))
    (λ e zs z. not_popped xs ys zs c.pop.result true c.pop.ensures.variant.1 c.pop.ensures.items (sym c.eq.ensures ∙ e) (h ∙ z))
