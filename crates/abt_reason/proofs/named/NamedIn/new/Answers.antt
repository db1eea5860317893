use Rattle.std.proofs.Common.{length}
use Rattle.abt_reason.proofs.NamedLaws.{listed_again}
use Rattle.abt_reason.proofs.named.NamedIn.new.Goals as goal

pub returns-clause-lists : goal.returns-clause-lists
returns-clause-lists c = listed_again c.args.problem.now c.args.rules.now c.in_ok-namings.namings.items c.by_variable-namings.result.items (length c.args.rules.now) c.by_variable-namings.ensures.same c.in_ok-namings.ensures
