use Rattle.std.proofs.Common.{ap}
use Rattle.abt_session.specs.Sessions.{run_script}
use Rattle.abt_session.proofs.Pieces.{wrote_as, stopped_so}
use Rattle.dcsp_script.proofs.Lines.{then_rest, then_stopped}
use Rattle.abt_session.specs.Ordering.{order_in}
use Rattle.line_replay.specs.Settings.{settings_of}
use Rattle.line_replay.proofs.Telling.{as_ok}
use Rattle.line_solve.specs.Searching.{best_search}
use Rattle.line_solve.specs.SearchScripts.{found_script, solution_script}
use Rattle.line_solve.proofs.Writing.{run_and_solution}
use Rattle.line_solve.proofs.Making.{session_next, end_next, all_values, problem_is, right_next, few_more, made_more}
use Rattle.line_solve.proofs.runner.SearchRunner.make_round.Goals as goal

pub returns-in_err-put_round-clause-wrote : goal.returns-in_err-put_round-clause-wrote
returns-in_err-put_round-clause-wrote g c =
    let line = c.args.line in
    let asked = best_search (order_in c.args.model) c.args.model.problem.now line.log.now (settings_of line.options) in
    then_stopped (run_and_solution asked c.args.self.now.rounds) c.from_residual.ensures (c.in_err-put_round.ensures _)

pub run_next-requires-clause-problem : goal.run_next-requires-clause-problem
run_next-requires-clause-problem g c =
    let line = c.args.line in
    problem_is (best_search (order_in c.args.model) c.args.model.problem.now line.log.now (settings_of line.options)) c.args.self.now.rounds c.args.self.now c.requires.made

pub returns-in_err-outcome-clause-wrote : goal.returns-in_err-outcome-clause-wrote
returns-in_err-outcome-clause-wrote g c =
    let line = c.args.line in
    let asked = best_search (order_in c.args.model) c.args.model.problem.now line.log.now (settings_of line.options) in
    then_rest (c.in_ok-put_round.ensures _) (then_stopped (solution_script asked c.args.self.now.rounds) c.from_residual-in_err-outcome.ensures (wrote_as (ap run_script (session_next asked c.args.self.now.rounds c.args.self.now c.requires.made)) c.in_err-outcome.ensures.wrote))

pub put_found-requires : goal.put_found-requires
put_found-requires g c =
    let line = c.args.line in
    let asked = best_search (order_in c.args.model) c.args.model.problem.now line.log.now (settings_of line.options) in
    all_values asked c.args.self.now.rounds c.args.self.now c.requires.made c.in_ok-outcome.outcome c.in_ok-outcome.ensures.tells (record { problem = c.requires.model.problem; order = c.requires.model.order })

pub returns-in_err-put_found-clause-wrote : goal.returns-in_err-put_found-clause-wrote
returns-in_err-put_found-clause-wrote g c =
    let line = c.args.line in
    let asked = best_search (order_in c.args.model) c.args.model.problem.now line.log.now (settings_of line.options) in
    let run = wrote_as (ap run_script (session_next asked c.args.self.now.rounds c.args.self.now c.requires.made)) c.in_ok-outcome.ensures.wrote in
    let found = ap (found_script line.options.each c.args.model.problem.now) (end_next asked c.args.self.now.rounds c.args.self.now c.requires.made c.in_ok-outcome.outcome c.in_ok-outcome.ensures.tells) in
    then_rest (c.in_ok-put_round.ensures _) (then_rest run (stopped_so _ c.from_residual-in_err-put_found.ensures (wrote_as found (c.in_err-put_found.ensures _))))

pub count-requires-clause-right : goal.count-requires-clause-right
count-requires-clause-right g c =
    let line = c.args.line in
    let asked = best_search (order_in c.args.model) c.args.model.problem.now line.log.now (settings_of line.options) in
    right_next asked c.args.self.now.rounds c.args.self.now c.in_ok-outcome.outcome c.requires.made (record { problem = c.requires.model.problem; order = c.requires.model.order }) c.in_ok-outcome.ensures.tells

pub count-requires-clause-few : goal.count-requires-clause-few
count-requires-clause-few g c =
    let line = c.args.line in
    let asked = best_search (order_in c.args.model) c.args.model.problem.now line.log.now (settings_of line.options) in
    few_more asked c.args.self.now.rounds c.args.self.now c.in_ok-outcome.outcome c.requires.made c.requires.few c.requires.choices c.in_ok-outcome.ensures.tells

pub returns-clause-wrote : goal.returns-clause-wrote
returns-clause-wrote g c =
    let line = c.args.line in
    let asked = best_search (order_in c.args.model) c.args.model.problem.now line.log.now (settings_of line.options) in
    let run = wrote_as (ap run_script (session_next asked c.args.self.now.rounds c.args.self.now c.requires.made)) c.in_ok-outcome.ensures.wrote in
    let found = ap (found_script line.options.each c.args.model.problem.now) (end_next asked c.args.self.now.rounds c.args.self.now c.requires.made c.in_ok-outcome.outcome c.in_ok-outcome.ensures.tells) in
    then_rest (c.in_ok-put_round.ensures _) (then_rest run (as_ok _ (wrote_as found (c.in_ok-put_found.ensures _))))

pub returns-clause-made : goal.returns-clause-made
returns-clause-made g c =
    let line = c.args.line in
    let asked = best_search (order_in c.args.model) c.args.model.problem.now line.log.now (settings_of line.options) in
    made_more asked c.args.self.now.rounds c.args.self.now c.count.new.self c.in_ok-outcome.outcome c.requires.made c.requires.goes_on c.in_ok-outcome.ensures.tells c.in_ok-outcome.ensures.numbers
    c.count.ensures.search c.count.ensures.rounds c.count.ensures.deliveries c.count.ensures.steps c.count.ensures.taken
