use Rattle.std.proofs.Common.{subst, arith}
use Rattle.std.proofs.lemmas.Result.{err_from_is_err_and}
use Rattle.netfile.specs.Decoding.{WordAt, HeaderOf, LoopsOf}
use Rattle.netfile.proofs.Verdicts.{is_fault, right-length, bad_zeroth, bad_first}
use Rattle.netfile.proofs.head.Head.read.Goals as goal

pub returns-in_err-ends : goal.returns-in_err-ends
returns-in_err-ends g c =
    let p = err_from_is_err_and c.from_residual-in_err-ends.result c.from_residual-in_err-ends.ensures.1 in
    let none = c.in_err-ends.ensures in
    let bs = c.args.bytes.now in
    let number = c.number.result in
    let here = subst (WordAt bs 0) c.in_ok-zeroth.ensures.ok_part c.word_at.ensures in
    let there = subst (WordAt bs 1) c.in_ok-first.ensures.ok_part c.word_at-2.ensures in
    rw (p.1, p.2, is_fault _ _ _ none.value none.ok_part) (
      right-length bs (omega (arith, there.0)) c.if-bytes-ne0.false,
      bad_zeroth (g.B.Book.meaning c.args.book.now) bs number c.in_ok-zeroth.zeroth c.number.ensures here
          (subst (HeaderOf number c.in_ok-zeroth.zeroth) none.ok_part c.decode_header.ensures),
    )

pub returns-in_err-loops : goal.returns-in_err-loops
returns-in_err-loops g c =
    let p = err_from_is_err_and c.from_residual-in_err-loops.result c.from_residual-in_err-loops.ensures.1 in
    let none = c.in_err-loops.ensures in
    let bs = c.args.bytes.now in
    let number = c.number.result in
    let zeroth = c.in_ok-zeroth.zeroth in
    let first = c.in_ok-first.first in
    let here = subst (WordAt bs 0) c.in_ok-zeroth.ensures.ok_part c.word_at.ensures in
    let there = subst (WordAt bs 1) c.in_ok-first.ensures.ok_part c.word_at-2.ensures in
    rw (p.1, p.2, is_fault _ _ _ none.value none.ok_part) (
      right-length bs (omega (arith, there.0)) c.if-bytes-ne0.false,
      bad_first (g.B.Book.meaning c.args.book.now) bs number zeroth first c.in_ok-ends.ends c.in_ok-ends.cells c.number.ensures here there
          (subst (HeaderOf number zeroth) c.in_ok-ends.ensures.ok_part c.decode_header.ensures)
          (subst (LoopsOf first) none.ok_part c.decode_loops.ensures),
    )
