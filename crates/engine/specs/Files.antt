-- A sealed net from a file. Assumes nothing.
use Rattle.std.specs.Prelude.{◌≡◌, ℕ, List, Ok, Err, Result}
use Rattle.calculus.specs.Books.{RuleBook}
use Rattle.refusals.specs.declared.memory.OrMemory.{OrMemory}
use Rattle.netfile.specs.declared.survey.SurveyFault.{SurveyFault}
use Rattle.netfile.specs.Reading.{ReadAs, Answered}
use Rattle.engine.specs.declared.sealed.Sealed.{Sealed}
use Rattle.engine.specs.States.{Proper}

-- what was read is the net whose file the bytes are, its cells in places 0, 1, 2 and on, of the book that was given; otherwise the fault is the one that is due
abbrev pub ReadSealed : {B : Type 0} → (B → RuleBook) → B → List ℕ → Result (Sealed B) (OrMemory SurveyFault) → Type 0
ReadSealed mean b bs (Ok n) = ReadAs (mean b) bs n.net.table × (n.net.book ≡ b) × Proper mean n.net
ReadSealed mean b bs (Err f) = Answered (mean b) bs (Err f)
