use Rattle.engine.proofs.Openings.{open_places}
use Rattle.engine.proofs.openness.places_are_open.Goals as goal

pub returns : goal.returns
returns c = open_places
