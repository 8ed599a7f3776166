use Rattle.netfile.proofs.RoundTrip.{reads_back}
use Rattle.netfile.proofs.laws.reads_what_was_written.Goals as goal

pub returns : goal.returns
returns c = reads_back
