use Rattle.std.proofs.Common.{sym, subst}
use Rattle.terms.specs.Scanning.{State, step, Came}
use Rattle.terms.proofs.Steps.{shown_word}
use Rattle.terms.proofs.scanner.Scanner.step.Goals as goal

pub returns-in-Spelling : goal.returns-in-Spelling
returns-in-Spelling c s h =
    let (w, ks, is, long, open_ones) = shown_word c.args.mode c.args.self.now s c.in-Spelling.word c.in-Spelling.letters c.in-Spelling.is h in
    subst (λ (z : State). Came c.spell.result c.spell.new.self (step z c.args.byte)) (sym is) (c.spell.ensures w ks long open_ones)
