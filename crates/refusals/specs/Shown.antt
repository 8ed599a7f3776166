-- How a refusal is shown: `refused`, its number, its layer and its place, one space between each. Assumes nothing.
use Rattle.std.specs.Prelude.{ℕ, List, ◌++◌, codes, decimal}
use Rattle.refusals.specs.declared.layer.Layer.{Layer}
use Rattle.refusals.specs.declared.layer.Layer.TheVariants.{Order, Text, File, Net, Strategy, Run, Reading}

abbrev pub layer_name : Layer → List ℕ
layer_name Order = codes "order"
layer_name Text = codes "text"
layer_name File = codes "file"
layer_name Net = codes "net"
layer_name Strategy = codes "strategy"
layer_name Run = codes "run"
layer_name Reading = codes "reading"

abbrev pub shown_as : ℕ → Layer → ℕ → List ℕ
shown_as number layer place = codes "refused " ++ (decimal number ++ (codes " " ++ (layer_name layer ++ (codes " " ++ decimal place))))
