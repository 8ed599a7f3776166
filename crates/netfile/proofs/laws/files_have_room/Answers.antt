use Rattle.netfile.proofs.Stored.{file_fits}
use Rattle.netfile.proofs.laws.files_have_room.Goals as goal

pub returns : goal.returns
returns c = file_fits
