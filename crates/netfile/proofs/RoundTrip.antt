-- What was written is read back.
use Rattle.std.proofs.Common.{Ok, Err, sym, ◌∙◌}
use Rattle.nets.specs.Meaning.{net}
use Rattle.refusals.specs.declared.memory.OrMemory.{OrMemory}
use Rattle.netfile.specs.RoundTrip.{ReadsWhatWasWritten}
use Rattle.netfile.specs.Words.{bytes_of}
use Rattle.netfile.specs.Writing.{words_of}
use Rattle.netfile.proofs.Words.{bytes_below}
use Rattle.netfile.proofs.Answer.{one_answer}
use Rattle.netfile.proofs.Tables.{table_storable, file_of}
use Rattle.netfile.proofs.Unique.{one_net}

pub reads_back : ReadsWhatWasWritten
reads_back K laws t b (Ok u) a = one_net K laws (net t) (net u) (table_storable K t b) a.storable (sym (file_of K t b) ∙ sym a.file)
reads_back K laws t b (Err (OrMemory.Fault f)) a = (one_answer K laws (bytes_of (words_of K.number t)) (bytes_below (words_of K.number t))).unfiled f (net t) a (table_storable K t b) (sym (file_of K t b))
reads_back K laws t b (Err OrMemory.Memory) a = tt
