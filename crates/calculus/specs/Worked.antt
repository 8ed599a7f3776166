-- Worked nets: what they come to, and in how many interactions. Assumes nothing.
use Rattle.std.specs.Prelude.{◌≡◌, ℕ, List, [], ◌∷◌, length}
use Rattle.calculus.specs.Spots.{end, port}
use Rattle.calculus.specs.Books.{RuleBook, Laws}
use Rattle.calculus.specs.Nets.{Net, Good, Pair, Active, AtRest}
use Rattle.calculus.specs.Reaching.{Reaches}
use Rattle.calculus.specs.Alike.{Alike}
use Rattle.calculus.specs.Drawn.{Drawing, drawn}
use Rattle.calculus.specs.Combinators.{γ, δ, ε, combinators}
use Rattle.calculus.specs.Counts.{Z, S, A, counts}

-- the net drawn as D is well formed, comes to rest after n interactions, and is then the one drawn as E but for the numbers of its places
pub record ComesTo (K : RuleBook) (D : Drawing) (n : ℕ) (E : Drawing) : Type 0 where
  pub good : Good K (drawn D)
  pub rules : List ℕ
  pub result : Net
  pub reached : Reaches K rules (drawn D) result
  pub steps : length rules ≡ n
  pub rest : AtRest K result
  pub alike : Alike result (drawn E)

-- whatever is rewritten first and wherever the cells stand, such a net at rest has made n interactions, and is the one drawn as E
abbrev pub AlwaysSo : Type 0
AlwaysSo =
    (K : RuleBook) (D E : Drawing) (n : ℕ) (M N : Net) (is : List ℕ) → Laws K → Good K M → Good K (drawn E) → Alike (drawn D) M → ComesTo K D n E →
    Reaches K is M N → AtRest K N → (length is ≡ n) × Alike N (drawn E)

-- two ε facing
abbrev pub erasers : Drawing
erasers = record { ends = 0; kinds = ε ∷ ε ∷ []; links = (port 0 0, port 1 0) ∷ []; loops = 0 }

-- two cells facing, ports 1 and 2 of each linked with each other
abbrev pub own : ℕ → Drawing
own k = record { ends = 0; kinds = k ∷ k ∷ []; links = (port 0 0, port 1 0) ∷ (port 0 1, port 0 2) ∷ (port 1 1, port 1 2) ∷ []; loops = 0 }

-- two cells facing, port 1 of each linked with port 2 of the other
abbrev pub across : ℕ → Drawing
across k = record { ends = 0; kinds = k ∷ k ∷ []; links = (port 0 0, port 1 0) ∷ (port 0 1, port 1 2) ∷ (port 0 2, port 1 1) ∷ []; loops = 0 }

-- ε facing a γ whose ports 1 and 2 are linked
abbrev pub erased : Drawing
erased = record { ends = 0; kinds = ε ∷ γ ∷ []; links = (port 0 0, port 1 0) ∷ (port 1 1, port 1 2) ∷ []; loops = 0 }

-- δ facing a γ whose ports 1 and 2 are linked; ports 1 and 2 of δ at the ends
abbrev pub doubled : Drawing
doubled = record {
  ends = 2;
  kinds = δ ∷ γ ∷ [];
  links = (port 0 0, port 1 0) ∷ (port 1 1, port 1 2) ∷ (port 0 1, end 0) ∷ (port 0 2, end 1) ∷ [];
  loops = 0;
}

-- each end at port 0 of a γ whose ports 1 and 2 are linked
abbrev pub twice : Drawing
twice = record {
  ends = 2;
  kinds = γ ∷ γ ∷ [];
  links = (end 0, port 0 0) ∷ (port 0 1, port 0 2) ∷ (end 1, port 1 0) ∷ (port 1 1, port 1 2) ∷ [];
  loops = 0;
}

-- the sum of 2, in places 1 to 3, and 3, in places 4 to 7, at end 0
abbrev pub two_and_three : Drawing
two_and_three = record {
  ends = 1;
  kinds = A ∷ S ∷ S ∷ Z ∷ S ∷ S ∷ S ∷ Z ∷ [];
  links = (port 0 0, port 1 0) ∷ (port 1 1, port 2 0) ∷ (port 2 1, port 3 0)
      ∷ (port 0 1, port 4 0) ∷ (port 4 1, port 5 0) ∷ (port 5 1, port 6 0) ∷ (port 6 1, port 7 0) ∷ (port 0 2, end 0) ∷ [];
  loops = 0;
}

-- the number 5 at end 0
abbrev pub five : Drawing
five = record {
  ends = 1;
  kinds = S ∷ S ∷ S ∷ S ∷ S ∷ Z ∷ [];
  links = (end 0, port 0 0) ∷ (port 0 1, port 1 0) ∷ (port 1 1, port 2 0) ∷ (port 2 1, port 3 0) ∷ (port 3 1, port 4 0) ∷ (port 4 1, port 5 0) ∷ [];
  loops = 0;
}

-- no cell, no end, and n loops
abbrev pub loops_only : ℕ → Drawing
loops_only n = record { ends = 0; kinds = []; links = []; loops = n }

-- what the worked nets come to
pub record WorkedNets : Type 0 where
  pub two_erasers : ComesTo combinators erasers 1 (loops_only 0)
  pub own_γ : ComesTo combinators (own γ) 1 (loops_only 1)
  pub across_γ : ComesTo combinators (across γ) 1 (loops_only 2)
  pub across_δ : ComesTo combinators (across δ) 1 (loops_only 1)
  pub erasing : ComesTo combinators erased 2 (loops_only 0)
  pub doubling : ComesTo combinators doubled 2 twice
  pub adding : ComesTo counts two_and_three 3 five

-- both books keep the laws
pub record BooksLawful : Type 0 where
  pub combinators_keep : Laws combinators
  pub counts_keep : Laws counts

-- a well-formed net with an active pair whose rule has four new cells: what the theorems ask for can be had
abbrev pub Growing : Type 0
Growing = Laws combinators × Good combinators (drawn doubled) × ((P : Pair) × Active combinators (drawn doubled) P × (length P.rule.cells ≡ 4))
