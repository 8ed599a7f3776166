use Rattle.pairing.proofs.Drawn.{alike_by_rows_lem}
use Rattle.pairing.proofs.alike_by_rows.Goals as goal

pub returns : goal.returns
returns c = alike_by_rows_lem
