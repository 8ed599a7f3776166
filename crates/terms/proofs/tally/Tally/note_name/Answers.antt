use Rattle.std.proofs.Common.{sym, ap, subst}
use Rattle.terms.specs.Bindings.{Meaning}
use Rattle.terms.specs.Tallying.{meant, Noted}
use Rattle.terms.proofs.tally.Tally.note_name.Goals as goal

pub returns-in-Some : goal.returns-in-Some
returns-in-Some c text = subst (λ (m : Meaning). Noted text m c.args.at c.args.self.now c.note_variable.new.self) (sym (ap meant c.in-Some.is)) (c.note_variable.ensures text)

pub returns-in-None : goal.returns-in-None
returns-in-None c text = subst (λ (m : Meaning). Noted text m c.args.at c.args.self.now c.note_unbound.new.self) (sym (ap meant c.in-None.is)) (c.note_unbound.ensures text)
