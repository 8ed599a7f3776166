use Rattle.std.proofs.Common.{subst}
use Rattle.std.proofs.lemmas.Slice.Eq.{slice_eq-Decides}
use Rattle.std.proofs.lemmas.Bool.Decides.{Decides-eqb}
use Rattle.terms.specs.Letters.{ReadAt}
use Rattle.terms.proofs.Words.{one_reading}
use Rattle.terms.proofs.looking.is_read.Goals as goal

pub returns : goal.returns
returns c =
    let same = slice_eq-Decides Decides-eqb _ _ _ c.eq.ensures in
    let text = c.args.text.now in (
      (λ e. subst (ReadAt text c.args.place c.args.first) (same.0 e) c.word_at.ensures.read),
      λ r. same.1 (one_reading text c.args.place c.args.first _ _ c.word_at.ensures.read r),
    )
