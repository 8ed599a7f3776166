use Rattle.std.proofs.Common.{eqb, ltb, sym}
use Rattle.std.proofs.lemmas.Bool.{or_left, or_right, lt-ltb, eq-eqb}
use Rattle.pairing.proofs.Rows.{spot_low, spot_high}
use Rattle.alike.proofs.row.Port.spot.Goals as goal

pub returns-then-row-lt1030 : goal.returns-then-row-lt1030
returns-then-row-lt1030 c =
    let r = c.args.self.row.number in
    let j = c.args.self.number in
    let h = c.if-row-lt1030.true in
    (or_left (ltb r 1030) (eqb j 0) (lt-ltb r 1030 h), sym (spot_low r j h))

pub returns-then-self-eq0 : goal.returns-then-self-eq0
returns-then-self-eq0 c =
    let r = c.args.self.row.number in
    let j = c.args.self.number in
    (or_right (ltb r 1030) (eqb j 0) (eq-eqb j 0 c.if-self-eq0.true), sym (spot_high r j c.if-row-lt1030.false))
