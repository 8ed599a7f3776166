-- What is proved of linear terms and their nets. Assumes nothing.
use Rattle.std.specs.Prelude.{◌≡◌, ℕ, suc, ◌+◌, ◌≤◌, ◌⊎◌, List, [], length}
use Rattle.calculus.specs.Nets.{Net, Good, Pair, Active, AtRest}
use Rattle.calculus.specs.Rewriting.{Rewriting}
use Rattle.calculus.specs.Reaching.{Reaches}
use Rattle.calculus.specs.Alike.{Alike}
use Rattle.calculus.specs.Combinators.{combinators}
use Rattle.lambda.specs.Terms.{Term, size, places, Linear}
use Rattle.lambda.specs.Reduction.{Beta, Betas, Normal, steps, normal_form}
use Rattle.lambda.specs.TermNets.{net, facing}
use Rattle.lambda.specs.Indices.{Indexed, indexed, Same, Contracts, in_order, upto}
use Rattle.lambda.specs.Reading.{ReadsBack}

-- the net of a linear term is well formed, with an end for the root and one for each item
abbrev pub TermNetsGood : Type 0
TermNetsGood = (n : ℕ) (t : Term) → Linear n t → Good combinators (net n t) × ((net n t).ends ≡ suc n)

-- the redexes of t are the active pairs of its net
pub record SamePairs (n : ℕ) (t : Term) : Type 0 where
  pub active : (p q : ℕ) (u : Term) → Beta p q t u → Active combinators (net n t) (facing p q)
  pub redex : (P : Pair) → Active combinators (net n t) P → (p : ℕ) × (q : ℕ) × (u : Term) × Beta p q t u × (P ≡ facing p q)

-- each active pair of a term's net is a redex, and the other way round
abbrev pub PairsAreRedexes : Type 0
PairsAreRedexes = (n : ℕ) (t : Term) → Linear n t → SamePairs n t

-- u is linear, and its net, which has no loop, is the net of t with the pair of p and q rewritten, and nothing else is
pub record Rewritten (n p q : ℕ) (t u : Term) : Type 0 where
  pub linear : Linear n u
  pub rewriting : (place : ℕ → ℕ) → Rewriting combinators (net n t) (facing p q) place (net n u)
  pub only : (place : ℕ → ℕ) (B : Net) → Rewriting combinators (net n t) (facing p q) place B → B ≡ net n u
  pub no_loop : (net n u).loops ≡ 0

-- rewriting the pair of a redex gives exactly the reduct's net
abbrev pub RewritingContracts : Type 0
RewritingContracts = (n p q : ℕ) (t u : Term) → Linear n t → Beta p q t u → Rewritten n p q t u

-- some term, reached from t in k steps, has the net B
pub record StillTerm (n k : ℕ) (t : Term) (B : Net) : Type 0 where
  pub term : Term
  pub reached : Betas k t term
  pub linear : Linear n term
  pub same : B ≡ net n term

-- whatever is reached from the net of a linear term is the net of a term that is reached in as many steps
abbrev pub NetsStayTerms : Type 0
NetsStayTerms = (n : ℕ) (t : Term) → Linear n t → (B : Net) (is : List ℕ) → Reaches combinators is (net n t) B → StillTerm n (length is) t B

-- v, reached from t in k steps, is as far from its normal form as is left of all steps of t
pub record OnTheWay (k : ℕ) (t v : Term) : Type 0 where
  pub no_longer : k ≤ steps t
  pub goes_on : (j : ℕ) × (w : Term) × Betas j v w × Normal w × (k + j ≡ steps t)
  pub normal : Normal v → (k ≡ steps t) × Same v (normal_form t)

-- the normal form of t is linear and normal, and every reduction comes to it in the same number of steps
pub record Ends (n : ℕ) (t : Term) : Type 0 where
  pub linear : Linear n (normal_form t)
  pub normal : Normal (normal_form t)
  pub reached : Betas (steps t) t (normal_form t)
  pub every : (k : ℕ) (v : Term) → Betas k t v → OnTheWay k t v

-- every reduction of a linear term ends, all in the same number of steps
abbrev pub ReductionsEnd : Type 0
ReductionsEnd = (n : ℕ) (t : Term) → Linear n t → Ends n t

-- B, reached in k interactions from the net of t, is at rest when k is the number of steps of t, and only then: then it is the net of the normal form of t, and that is what is read from it
pub record Computes (n : ℕ) (t : Term) (k : ℕ) (B : Net) : Type 0 where
  pub no_longer : k ≤ steps t
  pub rests : k ≡ steps t → AtRest combinators B
  pub counted : AtRest combinators B → k ≡ steps t
  pub result : AtRest combinators B → Alike (net n (normal_form t)) B
  pub read : AtRest combinators B → (u : Term) × ReadsBack n B u × Same u (normal_form t)

-- the net of a linear term, reduced to rest in any order and read back, is its normal form up to bound names, in as many interactions as beta steps
abbrev pub NetsReduceTerms : Type 0
NetsReduceTerms =
    (n : ℕ) (t : Term) → Linear n t → (A B : Net) (is : List ℕ) → Good combinators A → Alike (net n t) A →
    Reaches combinators is A B → Computes n t (length is) B

-- equal up to bound names exactly when the nets are alike
pub record SameNets (n : ℕ) (t u : Term) : Type 0 where
  pub alike : Same t u → Alike (net n t) (net n u)
  pub same : Alike (net n t) (net n u) → Same t u

abbrev pub OneTerm : Type 0
OneTerm = (n : ℕ) (t u : Term) → Linear n t → Linear n u → SameNets n t u

-- a term is the same as with its cells placed in text order
pub record Placed (n : ℕ) (t : Term) : Type 0 where
  pub linear : Linear n (in_order t)
  pub order : places (in_order t) ≡ upto 0 (size t)
  pub same : Same t (in_order t)
  pub alike : Alike (net n t) (net n (in_order t))

-- every linear term can have its cells in text order
abbrev pub TextOrder : Type 0
TextOrder = (n : ℕ) (t : Term) → Linear n t → Placed n t

-- reading back: what is read is linear and has exactly this net; a term that has it is read, up to bound names; nothing else is read; and where nothing is read, no linear term has it
pub record ReadingBack (n : ℕ) (A : Net) : Type 0 where
  pub linear : (t : Term) → ReadsBack n A t → Linear n t
  pub exact : (t : Term) → ReadsBack n A t → net n t ≡ A
  pub found : (t : Term) → Linear n t → Alike (net n t) A → (u : Term) × ReadsBack n A u × Same t u
  pub one : (t u : Term) → ReadsBack n A t → ReadsBack n A u → t ≡ u
  pub decided : ((t : Term) × ReadsBack n A t) ⊎ ((t : Term) → Linear n t → Alike (net n t) A → ⊥)

-- a net is that of a linear term exactly when one is read from it, and whether one is read is decided
abbrev pub EveryReadingBack : Type 0
EveryReadingBack = (n : ℕ) (A : Net) → Good combinators A → ReadingBack n A

-- the steps of t are those of the term with indices
pub record SameSteps (t : Term) : Type 0 where
  pub there : (p q : ℕ) (u : Term) → Beta p q t u → Contracts (indexed [] t) (indexed [] u)
  pub back : (c : Indexed) → Contracts (indexed [] t) c → (p : ℕ) × (q : ℕ) × (u : Term) × Beta p q t u × (indexed [] u ≡ c)

-- a beta step of a linear term is a beta step of the term with indices
abbrev pub TextbookBeta : Type 0
TextbookBeta = (n : ℕ) (t : Term) → Linear n t → SameSteps t
