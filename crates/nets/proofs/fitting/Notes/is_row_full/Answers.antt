use Rattle.nets.proofs.Notings.{row_told}
use Rattle.nets.proofs.fitting.Notes.is_row_full.Goals as goal

pub returns : goal.returns
returns c = row_told c.args.self.now.mates c.args.row c.args.from c.args.to c.contains.result c.args.self.now.wide c.requires.rows c.requires.ports.0 c.requires.ports.1 c.contains.ensures.cases
