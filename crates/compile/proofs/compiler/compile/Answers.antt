use Rattle.std.proofs.Common.{◌+◌, ◌∙◌, subst}
use Rattle.nets.specs.Drafts.{plan, Begun, Sealing}
use Rattle.terms.specs.Texts.{Reads}
use Rattle.compile.proofs.Steps.{builds_none, builds_all}
use Rattle.compile.proofs.Sealed.{sealed, net_is, of_book}
use Rattle.compile.proofs.compiler.compile.Goals as goal

pub walk-requires : goal.walk-requires
walk-requires c =
    let (T, reads, cells, items) = c.in_ok-size.ensures.answer in
    builds_none reads c.in_ok-draft.draft c.in_ok-new.field-0 c.new-builder.result
    (subst (λ n. Begun (n + 1) 0 (plan c.in_ok-draft.draft)) items c.in_ok-draft.ensures) c.in_ok-new.ensures c.new-builder.ensures

pub unwrap-table-requires : goal.unwrap-table-requires
unwrap-table-requires c =
    let (U, read, w) = c.walk.ensures.whole in
    let (T, reads, drafted, _) = builds_all read c.walk.new.self w in
    sealed reads drafted c.seal.result c.seal.ensures

pub returns : goal.returns
returns c =
    let text = c.args.text.now in
    let (U, read, w) = c.walk.ensures.whole in
    let (T, same, drafted, listed) = builds_all read c.walk.new.self w in
    let reads = subst (λ bs. Reads bs T) (c.walk.ensures.same ∙ c.new-builder.ensures.here) same in
    let done = subst (Sealing (plan c.walk.new.self.draft)) c.unwrap-table.ensures c.seal.ensures in
    record {
      answer = record {
        term = T;
        reads = reads;
        items = listed;
        net = net_is reads drafted done.0;
        book = of_book reads drafted done.0;
      };
      one = c.in_ok-size.ensures.one;
    }
