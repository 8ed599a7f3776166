use Rattle.std.proofs.Common.{ℕ, ◌+◌, ◌≤◌, List, vec_items}
use Rattle.nets.specs.declared.link.Link.{Link}
use Rattle.nets.specs.Rewiring.{Strung}
use Rattle.nets.proofs.links.Links.splice_rows.Given as goal

abbrev pub invariant-loop-port : goal.invariant-loop-port
invariant-loop-port l = record {
  few : l.loops + l.port ≤ l.ports;
  rest : (us : List Link) (k : ℕ) → Strung (vec_items l.self.targets) l.row l.gate l.port us k →
      Strung (vec_items l.initial.self.targets) l.row l.gate l.ports us (l.loops + k);
}
