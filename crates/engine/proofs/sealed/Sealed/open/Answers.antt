use Rattle.std.proofs.Common.{List, ◌++◌, map, refl, ap, ◌∙◌, subst}
use Rattle.std.specs.List.Sorted.{IsPermutation}
use Rattle.std.proofs.lemmas.List.{append-nil}
use Rattle.strategies.specs.declared.pair.Pair.{Pair as Waiting}
use Rattle.pairs.specs.Pairs.{waiting}
use Rattle.engine.proofs.Puttings.{puts_bag}
use Rattle.engine.proofs.Keeping.{opens}
use Rattle.engine.proofs.Scanning.{scan_all}
use Rattle.engine.proofs.sealed.Sealed.open.Goals as goal

pub returns : goal.returns
returns g c = record {
  net = refl;
  stamp = refl;
  count = refl;
  unmarked = c.none.ensures;
  cleared = c.clear.new.self;
  clears = c.clear.ensures.own;
  empty = c.clear.ensures.bags;
  puts = λ h. scan_all g.B.Book.meaning g.met.B.Book.lawful g.S.Strategy c.args.self.net c.clear.new.self c.put_active.new.strategy c.put_active.ensures h c.clear.ensures.bags;
  running = λ h.
      let t = scan_all g.B.Book.meaning g.met.B.Book.lawful g.S.Strategy c.args.self.net c.clear.new.self c.put_active.new.strategy c.put_active.ensures h c.clear.ensures.bags in
      opens g.B.Book.meaning g.met.B.Book.lawful g.S.Strategy _ h t.0 t.1
      (subst (λ (ps : List Waiting). IsPermutation ps (g.S.Strategy.bag c.put_active.new.strategy)) (ap (λ (ps : List Waiting). map waiting t.0 ++ ps) c.clear.ensures.bags ∙ append-nil (map waiting t.0)) (puts_bag g.S.Strategy t.2))
      c.none.ensures;
}
