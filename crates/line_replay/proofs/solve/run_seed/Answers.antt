use Rattle.std.proofs.Common.{◌∙◌}
use Rattle.line_replay.specs.Settings.{settings_of}
use Rattle.line_replay.specs.Asked.{asked_run, solve}
use Rattle.abt_session.specs.Ordering.{order_in}
use Rattle.line_replay.proofs.Outcomes.{status_is, has_values}
use Rattle.line_replay.proofs.Telling.{before_stopped, answer_stopped, answered, solve_text}
use Rattle.line_replay.proofs.solve.run_seed.Goals as goal

pub returns-in_err-outcome-clause-wrote : goal.returns-in_err-outcome-clause-wrote
returns-in_err-outcome-clause-wrote g c = before_stopped (solve (order_in c.args.model) c.args.model.problem.now c.args.line.log.now (settings_of c.args.line.options)) _ c.from_residual.ensures (rw c.telling.ensures at (rw c.new-choices.ensures at c.in_err-outcome.ensures.wrote))

pub tell-requires : goal.tell-requires
tell-requires g c = has_values (order_in c.args.model) c.args.model.problem.now (asked_run (solve (order_in c.args.model) c.args.model.problem.now c.args.line.log.now (settings_of c.args.line.options))) c.requires.model.problem c.requires.model.order c.in_ok-outcome.outcome.end (rw c.new-choices.ensures at c.in_ok-outcome.ensures.gives).end

pub returns-in_err-tell-clause-wrote : goal.returns-in_err-tell-clause-wrote
returns-in_err-tell-clause-wrote g c = answer_stopped (solve (order_in c.args.model) c.args.model.problem.now c.args.line.log.now (settings_of c.args.line.options)) _ (solve_text (order_in c.args.model) c.args.model.problem.now c.args.line.log.now (settings_of c.args.line.options) c.in_ok-outcome.outcome (rw c.new-choices.ensures at c.in_ok-outcome.ensures.gives)) _ c.from_residual-in_err-tell.ensures (rw c.telling.ensures at (rw c.new-choices.ensures at c.in_ok-outcome.ensures.wrote)) (c.in_err-tell.ensures _)

pub returns-clause-wrote : goal.returns-clause-wrote
returns-clause-wrote g c = answered (solve (order_in c.args.model) c.args.model.problem.now c.args.line.log.now (settings_of c.args.line.options)) _ (solve_text (order_in c.args.model) c.args.model.problem.now c.args.line.log.now (settings_of c.args.line.options) c.in_ok-outcome.outcome (rw c.new-choices.ensures at c.in_ok-outcome.ensures.gives)) _ (rw c.telling.ensures at (rw c.new-choices.ensures at c.in_ok-outcome.ensures.wrote)) (c.in_ok-tell.ensures _)

pub returns-clause-status : goal.returns-clause-status
returns-clause-status g c = c.end_status.ensures ∙ status_is (order_in c.args.model) c.args.model.problem.now (asked_run (solve (order_in c.args.model) c.args.model.problem.now c.args.line.log.now (settings_of c.args.line.options))) c.in_ok-outcome.outcome.end (rw c.new-choices.ensures at c.in_ok-outcome.ensures.gives).end
