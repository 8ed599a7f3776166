use Rattle.std.proofs.Common.{take, arith}
use Rattle.netfile.specs.Layout.{LayoutView}
use Rattle.netfile.proofs.Built.{laid, laid_front}
use Rattle.netfile.proofs.Sealed.{sealed, read_as}
use Rattle.netfile.proofs.reader.read.Goals as goal

-- every link is named, and all are mutual
pub unwrap-requires : goal.unwrap-requires
unwrap-requires g c =
    let K = g.B.Book.meaning c.args.book.now in
    let bs = c.args.bytes.now in
    let s = c.in_ok-survey.survey in
    let sound = c.in_ok-survey.ensures.answer in
    let l : LayoutView _ = record { book = c.args.book.now; bytes = bs; head = s.head; starts = take s.head.cells s.starts } in
    let named = rw c.layout-layout.ensures at c.name_links.ensures in
    sealed K l sound.right (laid_front K bs s.head s.starts (laid K bs s sound)) _
    named.celled (λ x. named.named x tt) _ c.seal.ensures

pub returns : goal.returns
returns g c =
    let K = g.B.Book.meaning c.args.book.now in
    let bs = c.args.bytes.now in
    let s = c.in_ok-survey.survey in
    let survey = c.in_ok-survey.ensures in
    let l : LayoutView _ = record { book = c.args.book.now; bytes = bs; head = s.head; starts = take s.head.cells s.starts } in
    let named = rw c.layout-layout.ensures at c.name_links.ensures in
    let done = rw c.unwrap.ensures at c.seal.ensures in
    record {
      answer = read_as K l survey.answer.right (laid_front K bs s.head s.starts (laid K bs s survey.answer)) _
          named.celled (λ x. named.named x tt) (λ i. omega (arith, c.type_inv.bytes i)) c.unwrap.result done.0;
      one = survey.one;
    }
