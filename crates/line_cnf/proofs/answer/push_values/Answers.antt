use Rattle.line_cnf.specs.CnfRuns.{value_literal}
use Rattle.line_cnf.proofs.Printed.{printed_more}
use Rattle.line_cnf.proofs.answer.push_values.Goals as goal

pub loop-variable-preserved : goal.loop-variable-preserved
loop-variable-preserved c = printed_more (value_literal c.args.values.now) c.loop-variable.variable _ _ _ c.loop-variable.invariant c.in_ok-push_literal.ensures
