use Rattle.std.proofs.Common.{ℕ, Ok, Err, Result, ltb, sym, ap, ◌∙◌, ap₂}
use Rattle.std.specs.List.{insert, position}
use Rattle.std.specs.Option.{unwrap_or}
use Rattle.std.proofs.lemmas.Bool.{false≢true}
use Rattle.std.specs.Result.{IsOk, OnOk}
use Rattle.strategies.specs.declared.pair.Pair.{Pair as Waiting}
use Rattle.pairs.specs.Pairs.{least}
use Rattle.pairs.proofs.Putting.{put_at}
use Rattle.pairs.proofs.gather.insert.Goals as goal

then_ok : {T E P : Type 0} (r : Result T E) → IsOk r → OnOk r P → P
then_ok (Ok x) i p = p
then_ok (Err e) i p = absurd (false≢true i)

pub returns : goal.returns
returns c = λ h.
    let place = c.place_among.ensures ∙ ap (position (λ (y : Waiting). ltb (least c.args.pair) (least y))) c.deref.ensures.0 in
    then_ok c.try_insert.result (c.try_insert.ensures.variant.1 h) c.try_insert.ensures.ok
    ∙ ap (λ (i : ℕ). insert c.args.found.now.items i c.args.pair) (c.unwrap_or-place.ensures ∙ ap₂ unwrap_or place c.len.ensures.value)
    ∙ sym (put_at least c.args.pair c.args.found.now.items)
