-- Runs of the nets of terms. Assumes nothing.
use Rattle.std.specs.Prelude.{◌≡◌, ℕ, List, length, Ok, Err, Result}
use Rattle.calculus.specs.Books.{RuleBook}
use Rattle.calculus.specs.Nets.{Net as CNet}
use Rattle.calculus.specs.Alike.{Alike}
use Rattle.calculus.specs.Combinators.{combinators}
use Rattle.refusals.specs.declared.faults.RunFault.{RunFault}
use Rattle.strategies.specs.Behaviour.{Behaviour}
use Rattle.lambda.specs.Reduction.{steps, normal_form}
use Rattle.lambda.specs.TermNets.{net}
use Rattle.lambda.specs.Indices.{Same}
use Rattle.terms.specs.Named.{Named}
use Rattle.terms.specs.Bindings.{LinearNamed, term_under, net_under}
use Rattle.binding.specs.Theorems.{Lists}
use Rattle.engine.specs.declared.sealed.Sealed.{Sealed}
use Rattle.engine.specs.declared.normal.Normal.{Normal}
use Rattle.engine.specs.declared.run.Run.{Run}
use Rattle.engine.specs.States.{held, Proper}
use Rattle.engine.specs.Calls.{Opens}
use Rattle.engine.specs.Accounts.{Account, Tells}

-- A is what the linear term t, with the items listed in `is`, comes to in k interactions: k is the number of its beta steps, and A is the net of its normal form; so whatever linear term with these items has the net A is its normal form up to bound names
pub record ComesTo (is : List (List ℕ)) (t : Named) (k : ℕ) (A : CNet) : Type 0 where
  pub counted : k ≡ steps (term_under is t)
  pub net : Alike (net (length is) (normal_form (term_under is t))) A
  pub reads : (u : Named) → LinearNamed u → Lists is u → Alike (net_under is u) A → Same (term_under is u) (normal_form (term_under is t))

-- a run of the net of a linear term, whatever its strategy and whatever was called, that is closed
abbrev pub ClosesTerms : {B S : Type 0} → (B → RuleBook) → Behaviour S → Run B S → Result (Normal B × ℕ × S) (RunFault × Run B S) → Type 0
ClosesTerms {B} {S} mean acts y (Ok r) =
    (n : Sealed B) (s : S) (given : ℕ) (x : Run B S) (es : Account) (is : List (List ℕ)) (t : Named) →
    mean n.net.book ≡ combinators → LinearNamed t → Lists is t → Alike (net_under is t) (held n.net) → Proper mean n.net →
    Opens mean acts n s given x → Tells mean acts x es y → ComesTo is t r.1 (held r.0.net)
ClosesTerms mean acts y (Err e) = Unit {0}
