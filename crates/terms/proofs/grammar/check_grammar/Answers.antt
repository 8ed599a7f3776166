use Rattle.std.proofs.Common.{arith}
use Rattle.terms.proofs.Single.{one_answer}
use Rattle.terms.proofs.grammar.check_grammar.Goals as goal

pub returns-then-text-gt8192 : goal.returns-then-text-gt8192
returns-then-text-gt8192 c = record { answer = omega arith; one = one_answer c.args.text.now }

pub returns-in-Some : goal.returns-in-Some
returns-in-Some c = record { answer = (omega arith, c.in-Some.ensures); one = one_answer c.args.text.now }

pub returns-in-None : goal.returns-in-None
returns-in-None c = record { answer = (omega arith, c.in-None.ensures); one = one_answer c.args.text.now }
