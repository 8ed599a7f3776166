-- That the rule of an active pair suits its cells, and what a rule's table that suits them can do. Assumes nothing.
use Rattle.std.proofs.Common.{ℕ, Some, ap, ◌∙◌, List, sym}
use Rattle.calculus.specs.Books.{Rule, RuleBook, Laws}
use Rattle.calculus.specs.Nets.{Active}
use Rattle.books.specs.declared.table.RuleTable.{RuleTable}
use Rattle.books.specs.Tables.{Depicts}
use Rattle.nets.specs.declared.fault.RewriteFault.{RewriteFault}
use Rattle.nets.specs.declared.fault.RewriteFault.TheVariants.{NotFacing, Unfit, LoopsFull, NoPlace}
use Rattle.nets.specs.declared.table.Table.{Table}
use Rattle.nets.specs.Meaning.{content, net, OfBook}
use Rattle.nets.specs.Rewrites.{Face, ports_at, Suits, Cause, Limit, Rewrote, pair}
use Rattle.nets.specs.ByBook.{seat, RewroteAt}
use Rattle.nets.proofs.Standing.{kind_some, some_arity}
use Rattle.nets.proofs.Finishing.{depicted_fits}
use Rattle.nets.proofs.Readiness.{active_faces}

-- a pair that is active meets only limits
pub limited : (t : Table) (p q : ℕ) (r : RuleTable) (e : RewriteFault) → Cause t p q r e → Face (net t) p q × Suits t p q r → Limit e
limited t p q r NotFacing c h = c h.0
limited t p q r Unfit c h = c.1 h.1
limited t p q r LoopsFull c h = tt
limited t p q r NoPlace c h = tt

-- an active pair of a table of the book suits it
pub active_suits : (K : RuleBook) (r : RuleTable) (w : Rule) → Depicts K r w → Laws K → (t : Table) (p q i : ℕ) → OfBook K t → Active K (net t) (pair p q i w) → Face (net t) p q × Suits t p q r
active_suits K r w D laws t p q i B act =
    let kp = kind_some (content t) p w.left act.left in
    let kq = kind_some (content t) q w.right act.right in
    let ea = B p w.left act.left ∙ some_arity (content t) p kp.0 in
    let eb = B q w.right act.right ∙ some_arity (content t) q kq.0 in (
      active_faces K t (pair p q i w) act,
      record {
        left = act.left ∙ ap (λ (v : ℕ). Some v) (sym D.left);
        right = act.right ∙ ap (λ (v : ℕ). Some v) (sym D.right);
        fitting = depicted_fits K r w D (laws.rules i w act.listed) (ports_at t p) (ports_at t q) ea eb (λ k x e. (laws.kinds k x e).1);
      },
    )

-- what is rewritten with its new cells in known places is rewritten
pub rewrote_somewhere : (K : RuleBook) (s t : Table) (p q i : ℕ) (w : Rule) (places : List ℕ) → RewroteAt K s (pair p q i w) places t → Rewrote K s (pair p q i w) t
rewrote_somewhere K s t p q i w places R = record { place = seat places; seats = R.seats; rewriting = R.rewriting; of_book = R.of_book }
