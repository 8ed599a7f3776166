use Rattle.std.proofs.Common.{ℕ, sym, subst, inl, inr, arith}
use Rattle.std.proofs.lemmas.Bool.{cases_eq}
use Rattle.calculus.specs.Spots.{Spot}
use Rattle.nets.specs.Views.{at}
use Rattle.netfile.specs.Faults.{Names}
use Rattle.netfile.proofs.file.File.check_links.Goals as goal

pub loop-at-preserved : goal.loop-at-preserved
loop-at-preserved g c w low high =
    let h = c.args.self.now.head in
    let P : ℕ → Type 0 = λ n. (y : Spot) × Names c.args.self.now.bytes.now h.ends h.cells n y in
    elim (cases_eq w c.loop-at.at) [
      | inl s ↦ subst P (sym s) (at c.in_ok-link_at.field-0, c.in_ok-link_at.ensures)
      | inr n ↦ c.loop-at.invariant w low (omega arith)
    ]
