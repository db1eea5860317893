use Rattle.std.proofs.Common.{ap, subst, length, arith}
use Rattle.abt_defs.specs.Agents.{View, values_in}
use Rattle.abt_reason.specs.Cached.{KeepsRows, size_of}
use Rattle.abt_reason.specs.Grids.{rows_of}
use Rattle.abt_reason.proofs.NamedLaws.{owned_few}
use Rattle.abt_reason.proofs.rules.FirstRules.new.Goals as goal

pub new-requires-2-clause-few : goal.new-requires-2-clause-few
new-requires-2-clause-few c = let few = owned_few c.args.problem.now c.args.agent c.vars-variables.ensures.problem in omega (arith, few, ap length c.owned-owned.ensures.rules)

pub new-requires-3-clause-few : goal.new-requires-3-clause-few
new-requires-3-clause-few c = let few = owned_few c.args.problem.now c.args.agent c.vars-variables.ensures.problem in omega (arith, few, ap length c.owned-owned.ensures.rules)

pub returns-clause-kept : goal.returns-clause-kept
returns-clause-kept c = subst (λ (view : View). KeepsRows c.args.problem.now c.args.agent (values_in view) (rows_of (size_of c.args.problem.now c.args.agent) c.refresh_all.new.ruled_out.rows.items)) c.in_ok-view.ensures.empty c.refresh_all.ensures.right
