-- Of all bytes: at most one fault is due, none where nothing is wrong, none of the file of a net; and nothing wrong means that some net has this file.
use Rattle.std.proofs.Common.{ℕ, List, subst}
use Rattle.calculus.specs.Books.{RuleBook, Laws}
use Rattle.nets.specs.Meaning.{cells_below}
use Rattle.netfile.specs.Reading.{Right, OneAnswer}
use Rattle.netfile.proofs.Words.{Below}
use Rattle.netfile.proofs.Single.{one_due, right_none}
use Rattle.netfile.proofs.Filed.{file_right}
use Rattle.netfile.proofs.Drawn.{some_net}

pub one_answer : (K : RuleBook) → Laws K → (bs : List ℕ) → Below 256 bs → OneAnswer K bs
one_answer K laws bs bytes = record {
  one = one_due K bs;
  clear = λ f e c l due right. right_none K bs e c l right f due;
  unfiled = λ f A due s is.
      right_none K bs A.ends (cells_below A 1024) A.loops
      (subst (λ b. Right K b A.ends (cells_below A 1024) A.loops) is (file_right K laws A s)) f due;
  filed = λ e c l right. some_net K bs e c l right bytes;
}
