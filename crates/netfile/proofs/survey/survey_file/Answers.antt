use Rattle.std.proofs.Common.{arith}
use Rattle.netfile.proofs.Answer.{one_answer}
use Rattle.netfile.proofs.survey.survey_file.Goals as goal

pub returns-in_err-head-clause-one : goal.returns-in_err-head-clause-one
returns-in_err-head-clause-one g c =
    one_answer (g.B.Book.meaning c.args.book.now) (g.met.B.Book.lawful c.args.book.now) c.args.bytes.now (λ i. omega (arith, c.type_inv.bytes i))

pub returns-in_err-starts-clause-one : goal.returns-in_err-starts-clause-one
returns-in_err-starts-clause-one g c =
    one_answer (g.B.Book.meaning c.args.book.now) (g.met.B.Book.lawful c.args.book.now) c.args.bytes.now (λ i. omega (arith, c.type_inv.bytes i))

pub returns-in_err-check-clause-one : goal.returns-in_err-check-clause-one
returns-in_err-check-clause-one g c =
    one_answer (g.B.Book.meaning c.args.book.now) (g.met.B.Book.lawful c.args.book.now) c.args.bytes.now (λ i. omega (arith, c.type_inv.bytes i))

pub returns-clause-one : goal.returns-clause-one
returns-clause-one g c =
    one_answer (g.B.Book.meaning c.args.book.now) (g.met.B.Book.lawful c.args.book.now) c.args.bytes.now (λ i. omega (arith, c.type_inv.bytes i))

pub returns-clause-answer : goal.returns-clause-answer
returns-clause-answer g c =
    let laid = c.in_ok-starts.ensures in
    record {
      right = record { headed = c.in_ok-head.ensures; whole = laid.whole; links = rw c.layout.ensures at c.in_ok-check.ensures };
      starts = laid.begins;
    }
