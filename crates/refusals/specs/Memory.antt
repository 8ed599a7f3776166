-- The refusal of a call that takes memory. Assumes nothing.
use Rattle.std.specs.Prelude.{Some, None, Option}
use Rattle.refusals.specs.declared.refusal.Refusal.{Refusal}
use Rattle.refusals.specs.declared.memory.OrMemory.{OrMemory}

-- want of memory has no number: it says nothing of what was given
abbrev pub refusal_or_none : {F : Type 0} → (F → Refusal) → OrMemory F → Option Refusal
refusal_or_none stands (OrMemory.Fault f) = Some (stands f)
refusal_or_none stands OrMemory.Memory = None
