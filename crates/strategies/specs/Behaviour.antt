-- What a strategy says of itself, as one thing: its bag, its clearing, its putting and its taking. Assumes nothing.
use Rattle.strategies.specs.declared.strategy.Strategy.{Ghosts}

-- a clause writes it S.Strategy, under S: Strategy
abbrev pub Behaviour : Type 0 → Type 1
Behaviour S = Ghosts S
