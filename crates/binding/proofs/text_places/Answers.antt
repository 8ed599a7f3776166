use Rattle.binding.proofs.Places.{text_places_lem}
use Rattle.binding.proofs.text_places.Goals as goal

pub returns : goal.returns
returns c = text_places_lem
