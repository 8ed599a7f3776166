use Rattle.std.proofs.Common.{ℕ, ◌≤◌, Some, sym, ap, ◌∙◌, subst}
use Rattle.nets.specs.Meaning.{content}
use Rattle.nets.specs.Fitting.{Fitting}
use Rattle.nets.specs.Rewrites.{Suits, ports_at}
use Rattle.nets.proofs.Standing.{some_kind}
use Rattle.nets.proofs.Notings.{told_same}
use Rattle.nets.proofs.Finishing.{p_on, q_on}
use Rattle.nets.proofs.Indexing.{p_place, q_place, p_kind, q_kind, p_arity, q_arity}
use Rattle.nets.proofs.table.Table.is_suited.Goals as goal

pub index-requires : goal.index-requires
index-requires c = p_place c.args.self.now c.args.left c.args.right c.requires

pub index-requires-2 : goal.index-requires-2
index-requires-2 c = q_place c.args.self.now c.args.left c.args.right c.requires

pub fits-requires : goal.fits-requires
fits-requires c =
    let t = c.args.self.now in
    let a = p_arity t c.args.left c.args.right c.requires c.index.result.now c.index.ensures in
    let b = q_arity t c.args.left c.args.right c.requires c.index-2.result.now c.index-2.ensures in
    record { ports = (subst (λ (x : ℕ). x ≤ 2) (sym a) (t.ports c.args.left), subst (λ (x : ℕ). x ≤ 2) (sym b) (t.ports c.args.right)) }

pub returns : goal.returns
returns c =
    let t = c.args.self.now in
    let p = c.args.left in
    let q = c.args.right in
    let r = c.args.rule.now in
    let x = c.index.result.now in
    let y = c.index-2.result.now in
    let k = p_kind t p q c.requires x c.index.ensures in
    let l = q_kind t p q c.requires y c.index-2.ensures in
    let a = p_arity t p q c.requires x c.index.ensures in
    let b = q_arity t p q c.requires y c.index-2.ensures in
    told_same (Fitting x.arity y.arity r) (Suits t p q r) c.fits.result
    (λ F. record {
      left = some_kind (content t) p (p_on t p q c.requires) ∙ ap (λ (v : ℕ). Some v) (sym k ∙ c.if-first-rule.false);
      right = some_kind (content t) q (q_on t p q c.requires) ∙ ap (λ (v : ℕ). Some v) (sym l ∙ c.if-second-rule.false);
      fitting = subst (λ (a : ℕ). Fitting a (ports_at t q) r) a (subst (λ (b : ℕ). Fitting x.arity b r) b F);
    })
    (λ S. subst (λ (b : ℕ). Fitting x.arity b r) (sym b) (subst (λ (a : ℕ). Fitting a (ports_at t q) r) (sym a) S.fitting))
    c.fits.ensures
