use Rattle.std.proofs.Common.{get_or, ap, ◌∙◌, arith}
use Rattle.netfile.proofs.Words.{word_of_chunk}
use Rattle.netfile.proofs.decode.word_at.Goals as goal

pub returns : goal.returns
returns c =
    let bs = c.args.bytes.now in
    let read = c.in_ok-word.ensures.lookup in (
      omega (arith, read.3.0, c.as_chunks.ensures.front_len),
      c.from_be_bytes.ensures
          ∙ word_of_chunk bs c.in_ok-word.word.now c.args.i (omega (arith, read.3.0, c.as_chunks.ensures.front_len))
          (read.1 ∙ ap (λ cs. get_or cs c.args.i c.in_ok-word.word.now) c.as_chunks.ensures.front),
    )
