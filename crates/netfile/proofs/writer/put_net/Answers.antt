use Rattle.std.proofs.Common.{◌≡◌, ◌∷◌, ◌++◌, ap, ap₂, subst, arith, rules}
use Rattle.calculus.specs.Spots.{end}
use Rattle.nets.specs.Meaning.{net, cells_below}
use Rattle.netfile.specs.Words.{header, loops_word}
use Rattle.netfile.specs.Writing.{Puts, words_of, end_words, all_cell_words}
use Rattle.netfile.proofs.Cells.{links-length}
use Rattle.netfile.proofs.Puts.{puts_length, puts_same, puts_then}
use Rattle.netfile.proofs.writer.put_net.Goals as goal

pub put_cells-requires : goal.put_cells-requires
put_cells-requires c =
    let t = c.new-numbering.result.table.now in
    let one = puts_length (omega (arith, c.requires)) c.put.ensures in
    let two = puts_length (omega (arith, c.put.ensures.put.long, c.requires)) c.put-2.ensures in
    let ends = links-length (net t) (net t).ends end in
    let three = puts_length (omega (arith, c.put.ensures.put.long, c.put-2.ensures.put.long, t.few, c.requires)) c.put_ends.ensures in
    omega (arith, c.put.ensures.put.long, c.put-2.ensures.put.long, c.put_ends.ensures.put.long, t.few, c.requires)

pub returns : goal.returns
returns c =
    let t = c.args.table.now in
    let is = c.new-numbering.ensures in
    let head : _ ≡ header c.args.number (net t).ends (cells_below (net t) 1024) =
    ap₂ (header c.args.number) c.ends.ensures c.cells.ensures.live in
    let loops : _ ≡ loops_word (net t).loops = ap loops_word c.loops.ensures in
    let two = puts_then (omega arith) c.put.ensures c.put-2.ensures in
    let three = puts_then (omega arith) two (subst (λ u. Puts c.put-2.new.self (end_words u) c.put_ends.new.self) is c.put_ends.ensures) in
    let four = puts_then (omega arith) three (subst (λ u. Puts c.put_ends.new.self (all_cell_words u) c.put_cells.new.self) is c.put_cells.ensures) in
    let all = puts_same four (words_of c.args.number t) (ap₂ (λ v w. v ∷ w ∷ (end_words t ++ all_cell_words t)) head loops) in
    search rules
