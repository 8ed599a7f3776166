use Rattle.netfile.proofs.Unique.{one_net}
use Rattle.netfile.proofs.laws.one_net_a_file.Goals as goal

pub returns : goal.returns
returns c = one_net
