use Rattle.std.proofs.Common.{rules, ◌≡◌, ◌≢◌, ℕ, arith}
use Rattle.terms.specs.declared.scanner.Kind.{Kind}
use Rattle.terms.proofs.Steps.{may_end}
use Rattle.terms.proofs.scanner.Scanner.is_whole.Goals as goal

pub returns-then-ne : goal.returns-then-ne
returns-then-ne c s h =
    let i = c.in-Spelling.is in
    let other : c.in-Spelling.word ≢ Kind.Binder = search rules in
    may_end c.args.mode c.args.self.now s _ c.is_empty.ensures (λ e. let z : ◌≡◌ {A = ℕ} 0 1 = cc in omega arith) (λ n e. other cc) h

pub returns-in-Done : goal.returns-in-Done
returns-in-Done c s h =
    let i = c.in-Done.is in
    may_end c.args.mode c.args.self.now s _ c.is_empty-in-Done.ensures (λ e. let z : ◌≡◌ {A = ℕ} 0 1 = cc in omega arith) (λ n e. let z : ◌≡◌ {A = ℕ} 0 1 = cc in omega arith) h
