use Rattle.std.proofs.Common.{rules, ◌≡◌, ◌<◌, ◌⊎◌, length, refl, inl, inr, arith}
use Rattle.terms.specs.Letters.{capital}
use Rattle.terms.proofs.Words.{outside_word}
use Rattle.terms.proofs.item.Item.read.Goals as goal

pub returns-then-is_empty : goal.returns-then-is_empty
returns-then-is_empty c =
    let n = length c.word_at-word.result.now in
    let stops : (n ≡ 0) ⊎ (n < length c.args.bytes.now) = elim c.then-is_empty.either [ inl e ↦ inl (search rules) | inr h ↦ inr h.1 ] in
    (n, refl, outside_word capital c.args.bytes.now n (c.word_at-word.ensures.read.run (omega arith)) stops)
