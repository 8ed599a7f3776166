use Rattle.std.proofs.Common.{List, vec_items}
use Rattle.nets.specs.declared.link.Link.{Link}
use Rattle.nets.specs.Rewiring.{Parked}
use Rattle.nets.proofs.links.Links.clear.Given as goal

abbrev pub invariant-loop-port : goal.invariant-loop-port
invariant-loop-port l =
    (us : List Link) → Parked (vec_items l.self.targets) l.row l.spare l.port us → Parked (vec_items l.initial.self.targets) l.row l.spare l.ports us
