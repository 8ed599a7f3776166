use Rattle.std.proofs.Common.{◌≡◌, length, ap, inl, inr, arith}
use Rattle.std.proofs.lemmas.Bool.{false≢true}
use Rattle.engine.specs.Accounts.{pairs_out}
use Rattle.engine.proofs.Keeping.{rests}
use Rattle.engine.proofs.Moments.{sofar}
use Rattle.engine.proofs.Termwise.{run_comes_to}
use Rattle.engine.proofs.run.Run.close.Goals as goal

pub returns : goal.returns
returns g c =
    let none : length (g.S.Strategy.bag c.args.self.strategy) ≡ 0 = omega (arith, c.count.ensures) in
    record {
      closes = record {
        none = λ b. elim b [ inl h ↦ omega arith | inr t ↦ false≢true (c.if-any.ensures.1 t) ];
        net = ap (λ (t : _). t.0) c.end-net.ensures;
        count = ap (λ (t : _). t.1) c.end-net.ensures;
        strategy = ap (λ (t : _). t.2) c.end-net.ensures;
        rests = λ out R. rests g.B.Book.meaning g.met.B.Book.lawful g.S.Strategy c.args.self out R none (λ r e. false≢true (c.if-any.ensures.1 (r, e)));
      };
      terms = λ n s given x es is t eb lt ls al h O T.
          let F = sofar g.B.Book.meaning g.met.B.Book.lawful g.S.Strategy n s given x h O T in
          rw c.end-net.ensures
          (run_comes_to g.B.Book.meaning g.met.B.Book.lawful g.S.Strategy n s given x c.args.self es is t eb lt ls al h O T
          (rests g.B.Book.meaning g.met.B.Book.lawful g.S.Strategy c.args.self (pairs_out es) F.running none (λ r e. false≢true (c.if-any.ensures.1 (r, e)))));
    }
