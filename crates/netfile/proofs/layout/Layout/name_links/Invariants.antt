use Rattle.std.proofs.Common.{◌≡◌, ℕ, ◌<◌}
use Rattle.nets.specs.Drafts.{plan}
use Rattle.netfile.specs.Passes.{nth_spot}
use Rattle.netfile.specs.Building.{Naming}
use Rattle.netfile.proofs.layout.Layout.name_links.Given as goal

abbrev pub invariant-loop-i : goal.invariant-loop-i
invariant-loop-i g l =
    Naming (g.B.Book.meaning l.self.book) l.self (λ x. (k : ℕ) × (k < l.i) × (x ≡ nth_spot l.self.head.ends k))
    (plan l.initial.draft) (plan l.draft)
