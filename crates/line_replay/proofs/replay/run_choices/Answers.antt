use Rattle.std.proofs.Common.{◌∙◌}
use Rattle.line_replay.specs.Asked.{asked_run, replay}
use Rattle.abt_session.specs.Ordering.{order_in}
use Rattle.line_replay.proofs.Outcomes.{status_is, has_values, left_long, made_few}
use Rattle.line_replay.proofs.Telling.{before_stopped, answer_stopped, answered, replay_text}
use Rattle.line_replay.proofs.replay.run_choices.Goals as goal

pub returns-in_err-outcome-clause-wrote : goal.returns-in_err-outcome-clause-wrote
returns-in_err-outcome-clause-wrote g c = before_stopped (replay (order_in c.args.read.model) c.args.read.model.problem.now c.args.read.choices c.args.line.log.now c.args.line.trace) _ c.from_residual.ensures (rw c.traced.ensures at c.in_err-outcome.ensures.wrote)

pub tell-requires : goal.tell-requires
tell-requires g c = has_values (order_in c.args.read.model) c.args.read.model.problem.now (asked_run (replay (order_in c.args.read.model) c.args.read.model.problem.now c.args.read.choices c.args.line.log.now c.args.line.trace)) c.requires.problem c.requires.order c.in_ok-outcome.outcome.end c.in_ok-outcome.ensures.gives.end

pub returns-in_err-tell-clause-wrote : goal.returns-in_err-tell-clause-wrote
returns-in_err-tell-clause-wrote g c = answer_stopped (replay (order_in c.args.read.model) c.args.read.model.problem.now c.args.read.choices c.args.line.log.now c.args.line.trace) _ (replay_text (order_in c.args.read.model) c.args.read.model.problem.now c.args.read.choices c.args.line.log.now c.args.line.trace c.in_ok-outcome.outcome c.left.result c.in_ok-outcome.ensures.gives (c.left.ensures ∙ left_long _ c.args.read.choices _ c.in_ok-outcome.ensures.answers (made_few (order_in c.args.read.model) c.args.read.model.problem.now c.args.read.choices c.args.line.log.now c.args.line.trace))) _ c.from_residual-in_err-tell.ensures (rw c.traced.ensures at c.in_ok-outcome.ensures.wrote) (c.in_err-tell.ensures _)

pub returns-clause-wrote : goal.returns-clause-wrote
returns-clause-wrote g c = answered (replay (order_in c.args.read.model) c.args.read.model.problem.now c.args.read.choices c.args.line.log.now c.args.line.trace) _ (replay_text (order_in c.args.read.model) c.args.read.model.problem.now c.args.read.choices c.args.line.log.now c.args.line.trace c.in_ok-outcome.outcome c.left.result c.in_ok-outcome.ensures.gives (c.left.ensures ∙ left_long _ c.args.read.choices _ c.in_ok-outcome.ensures.answers (made_few (order_in c.args.read.model) c.args.read.model.problem.now c.args.read.choices c.args.line.log.now c.args.line.trace))) _ (rw c.traced.ensures at c.in_ok-outcome.ensures.wrote) (c.in_ok-tell.ensures _)

pub returns-clause-status : goal.returns-clause-status
returns-clause-status g c = c.end_status.ensures ∙ status_is (order_in c.args.read.model) c.args.read.model.problem.now (asked_run (replay (order_in c.args.read.model) c.args.read.model.problem.now c.args.read.choices c.args.line.log.now c.args.line.trace)) c.in_ok-outcome.outcome.end c.in_ok-outcome.ensures.gives.end
