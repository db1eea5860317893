use Rattle.std.proofs.Common.{arith, ◌∙◌}
use Rattle.dcsp_problem.proofs.Reading.{variables_more}
use Rattle.dcsp_problem.proofs.index.push_variables.Goals as goal

pub loop-term-preserved : goal.loop-term-preserved
loop-term-preserved c = c.in_ok-push_variable.ensures ∙ variables_more _ _ c.args.terms.now c.loop-term.term-index _ (omega arith) c.loop-term.invariant
