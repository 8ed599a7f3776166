use Rattle.std.proofs.Common.{subst}
use Rattle.std.proofs.lemmas.Result.{err_from_is_err_and}
use Rattle.netfile.specs.Decoding.{WordAt, KindOf}
use Rattle.netfile.proofs.Verdicts.{is_fault, no_kind}
use Rattle.netfile.proofs.file.File.cell_at.Goals as goal

pub returns-in_err-kind : goal.returns-in_err-kind
returns-in_err-kind g c =
    let p = err_from_is_err_and c.from_residual-in_err-kind.result c.from_residual-in_err-kind.ensures.1 in
    let none = c.in_err-kind.ensures in
    let fault = is_fault _ _ _ none.value none.ok_part in
    let bs = c.args.self.now.bytes.now in
    let word = c.in_ok-word.word in
    rw (p.1, p.2, fault)
    (no_kind (g.B.Book.meaning c.args.self.now.book.now) (g.met.B.Book.lawful c.args.self.now.book.now) bs c.args.at word
    (subst (WordAt bs c.args.at) c.in_ok-word.ensures.ok_part c.word_at.ensures) (subst (KindOf word) none.ok_part c.decode_cell.ensures))
