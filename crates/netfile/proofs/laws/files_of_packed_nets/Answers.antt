use Rattle.netfile.proofs.Packing.{packs}
use Rattle.netfile.proofs.laws.files_of_packed_nets.Goals as goal

pub returns : goal.returns
returns c = packs
