use Rattle.std.proofs.Common.{Ok, refl, ap, arith}
use Rattle.nets.specs.Meaning.{content, net, arity_at}
use Rattle.netfile.specs.Writing.{words_of}
use Rattle.netfile.proofs.Cells.{arity_small, few_bytes}
use Rattle.netfile.proofs.Puts.{put_same, front_length, front_bytes}
use Rattle.netfile.proofs.Tables.{tells, file_of}
use Rattle.netfile.proofs.writer.write.Goals as goal

pub returns-then-out-lt-FILE_ROOM : goal.returns-then-out-lt-FILE_ROOM
returns-then-out-lt-FILE_ROOM g c =
    let t = c.args.table.now in
    let K = g.B.Book.meaning c.args.book.now in
    record {
      written = record {
        refused = λ _. refl;
        unchanged = λ _. refl;
        answered = λ h. absurd (omega (arith, c.if-out-lt-FILE_ROOM.true));
        holds = λ h. absurd (omega (arith, c.if-out-lt-FILE_ROOM.true));
        short = few_bytes (arity_at (content t)) (net t) (arity_small t) K.number t.few;
        of_book = file_of K t;
      };
      tells = tells K (g.met.B.Book.lawful c.args.book.now) t;
    }

pub returns : goal.returns
returns g c =
    let t = c.args.table.now in
    let K = g.B.Book.meaning c.args.book.now in
    let put = put_same c.put_net.ensures (words_of K.number t) (ap (λ n. words_of n t) c.number.ensures) in
    record {
      written = record {
        refused = λ h. absurd (omega (arith, c.if-out-lt-FILE_ROOM.false));
        unchanged = λ h. absurd (omega (arith, c.if-out-lt-FILE_ROOM.false));
        answered = λ _. ap Ok (front_length put);
        holds = λ _. front_bytes put;
        short = few_bytes (arity_at (content t)) (net t) (arity_small t) K.number t.few;
        of_book = file_of K t;
      };
      tells = tells K (g.met.B.Book.lawful c.args.book.now) t;
    }
