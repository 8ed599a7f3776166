use Rattle.std.proofs.Common.{◌≡◌, ◌≤◌, length, take}
use Rattle.std.specs.List.{flat_map}
use Rattle.nets.specs.Meaning.{net}
use Rattle.nets.specs.Views.{at}
use Rattle.pairs.specs.Gathering.{cell_at}
use Rattle.pairs.proofs.gather.neighbours.Given as goal

abbrev pub invariant-loop-port : goal.invariant-loop-port
invariant-loop-port l = record {
  so_far : l.cells.items ≡ flat_map (λ x. cell_at ((net l.table).mate (at x))) (take l.port-index l.port-items);
  few : length l.cells.items ≤ l.port-index;
}
