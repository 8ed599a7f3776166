-- What reading makes of what was written, and writing of what was read. Assumes nothing.
use Rattle.std.specs.Prelude.{◌≡◌, ℕ, List, Ok, Err, Result}
use Rattle.refusals.specs.declared.memory.OrMemory.{OrMemory}
use Rattle.calculus.specs.Books.{RuleBook, Laws}
use Rattle.calculus.specs.Nets.{Net}
use Rattle.calculus.specs.Alike.{Alike}
use Rattle.nets.specs.declared.table.Table.{Table}
use Rattle.nets.specs.Meaning.{net, OfBook}
use Rattle.netfile.specs.declared.survey.SurveyFault.{SurveyFault}
use Rattle.netfile.specs.Words.{bytes_of}
use Rattle.netfile.specs.Reading.{ReadAs, Answered}
use Rattle.netfile.specs.Writing.{words_of}

-- what reading a file of the net A may answer: a table that holds an alike net, or that memory is wanting
abbrev pub ReadBack : Net → Result Table (OrMemory SurveyFault) → Type 0
ReadBack A (Ok t) = Alike A (net t)
ReadBack A (Err (OrMemory.Fault f)) = ⊥
ReadBack A (Err OrMemory.Memory) = Unit {0}

-- reading what was written of a table of the book gives an alike net, and is never refused
abbrev pub ReadsWhatWasWritten : Type 0
ReadsWhatWasWritten =
    (K : RuleBook) → Laws K → (t : Table) → OfBook K t → (answer : Result Table (OrMemory SurveyFault)) →
    Answered K (bytes_of (words_of K.number t)) answer → ReadBack (net t) answer

-- writing what was read gives the same bytes
abbrev pub WritesWhatWasRead : Type 0
WritesWhatWasRead = (K : RuleBook) (bs : List ℕ) (t : Table) → ReadAs K bs t → bytes_of (words_of K.number t) ≡ bs
