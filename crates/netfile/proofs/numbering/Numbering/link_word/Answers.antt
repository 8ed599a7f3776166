use Rattle.std.proofs.Common.{sym, ap, ◌∙◌, subst}
use Rattle.nets.specs.Views.{at}
use Rattle.netfile.specs.Writing.{Inside}
use Rattle.netfile.proofs.Links.{mated, link_is}
use Rattle.netfile.proofs.numbering.Numbering.link_word.Goals as goal

pub word_of-requires : goal.word_of-requires
word_of-requires c =
    let m = mated c.args.self.now.table.now c.args.spot c.mate.result c.requires c.mate.ensures in
    subst (λ y. Inside (at y)) (sym c.unwrap_or.ensures) m.0

pub returns : goal.returns
returns c =
    let n = c.args.self.now in
    let m = mated n.table.now c.args.spot c.mate.result c.requires c.mate.ensures in
    let is = sym c.unwrap_or.ensures in
    link_is n.table.now n.numbers (at c.args.spot) (at c.unwrap_or.result) c.word_of.result n.numbered
    (subst (λ y. Inside (at y)) is m.0) (m.1 ∙ ap at is) c.word_of.ensures
