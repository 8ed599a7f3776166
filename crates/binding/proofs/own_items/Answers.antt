use Rattle.binding.proofs.Linearity.{own_items_lem}
use Rattle.binding.proofs.own_items.Goals as goal

pub returns : goal.returns
returns c = own_items_lem
