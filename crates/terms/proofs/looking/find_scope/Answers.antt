use Rattle.std.proofs.Common.{rules}
use Rattle.terms.proofs.Scoping.{found_latest}
use Rattle.terms.proofs.looking.find_scope.Goals as goal

pub returns-clause-found : goal.returns-clause-found
returns-clause-found c = found_latest c.args.text.now c.args.around.now c.args.name.now _ (search rules)
