use Rattle.std.proofs.Common.{Err, ◌∙◌, ap}
use Rattle.dcsp_script.proofs.Lines.{wrote_nothing, then_stopped}
use Rattle.abt_session.proofs.Pieces.{made_then_memory}
use Rattle.abt_session.specs.Ordering.{order_in}
use Rattle.line_replay.specs.Settings.{settings_of}
use Rattle.line_solve.specs.Searching.{best_search}
use Rattle.line_solve.specs.BestAnswers.{best_status, found}
use Rattle.line_solve.specs.SearchScripts.{search_script}
use Rattle.line_solve.specs.declared.runner.SearchRunner.{SearchRunner}
use Rattle.line_solve.proofs.Telling.{search_is, over_is, searched_is, has_values, text_is, record_is, rounds_stopped, record_stopped, answer_stopped, answered}
use Rattle.line_solve.proofs.line.run_search.Goals as goal

pub returns-in_err-runner-clause-wrote : goal.returns-in_err-runner-clause-wrote
returns-in_err-runner-clause-wrote g c =
    let line = c.args.line in
    let asked = best_search (order_in c.args.model) c.args.model.problem.now line.log.now (settings_of line.options) in
    then_stopped (search_script asked) c.from_residual.ensures (made_then_memory {U = SearchRunner} (Err c.in_err-runner.field-0.0) c.in_err-runner.ensures.only_memory (wrote_nothing {T = Unit {0}} {x = tt {0}}))

pub returns-in_err-run-clause-wrote : goal.returns-in_err-run-clause-wrote
returns-in_err-run-clause-wrote g c =
    let line = c.args.line in
    let asked = best_search (order_in c.args.model) c.args.model.problem.now line.log.now (settings_of line.options) in
    rounds_stopped asked _ c.from_residual-in_err-run.ensures c.in_err-run.ensures.wrote

pub returns-in_err-write_record-clause-wrote : goal.returns-in_err-write_record-clause-wrote
returns-in_err-write_record-clause-wrote g c =
    let line = c.args.line in
    let asked = best_search (order_in c.args.model) c.args.model.problem.now line.log.now (settings_of line.options) in
    record_stopped asked _ (record_is asked c.run.new.self c.in_ok-run.ensures.made c.choices.result.now c.choices.ensures) c.in_ok-run.ensures.wrote _ c.from_residual-in_err-write_record.ensures (c.in_err-write_record.ensures _)

pub finish-searched-requires-clause-over : goal.finish-searched-requires-clause-over
finish-searched-requires-clause-over g c =
    let line = c.args.line in
    let asked = best_search (order_in c.args.model) c.args.model.problem.now line.log.now (settings_of line.options) in
    over_is asked c.run.new.self c.in_ok-run.ensures.made (record { problem = c.requires.model.problem; order = c.requires.model.order }) c.requires.aimed

pub finish-searched-requires-clause-search : goal.finish-searched-requires-clause-search
finish-searched-requires-clause-search g c =
    let line = c.args.line in
    let asked = best_search (order_in c.args.model) c.args.model.problem.now line.log.now (settings_of line.options) in
    searched_is asked c.run.new.self c.in_ok-run.ensures.made (record { problem = c.requires.model.problem; order = c.requires.model.order }) c.requires.aimed

pub tell-requires : goal.tell-requires
tell-requires g c =
    let line = c.args.line in
    let asked = best_search (order_in c.args.model) c.args.model.problem.now line.log.now (settings_of line.options) in
    has_values asked c.run.new.self c.in_ok-run.ensures.made (record { problem = c.requires.model.problem; order = c.requires.model.order }) c.requires.aimed c.finish-searched.result.best.end c.finish-searched.ensures.found

pub returns-in_err-tell-clause-wrote : goal.returns-in_err-tell-clause-wrote
returns-in_err-tell-clause-wrote g c =
    let line = c.args.line in
    let asked = best_search (order_in c.args.model) c.args.model.problem.now line.log.now (settings_of line.options) in
    let made = c.in_ok-run.ensures.made in
    let told = c.finish-searched.ensures in
    let text = text_is asked c.run.new.self made c.finish-searched.result told.found told.rounds told.work.0 told.work.1 in
    answer_stopped asked _ (record_is asked c.run.new.self made c.choices.result.now c.choices.ensures) c.in_ok-run.ensures.wrote (c.in_ok-write_record.ensures _) _ text _ c.from_residual-in_err-tell.ensures (c.in_err-tell.ensures _)

pub returns-clause-wrote : goal.returns-clause-wrote
returns-clause-wrote g c =
    let line = c.args.line in
    let asked = best_search (order_in c.args.model) c.args.model.problem.now line.log.now (settings_of line.options) in
    let made = c.in_ok-run.ensures.made in
    let told = c.finish-searched.ensures in
    let text = text_is asked c.run.new.self made c.finish-searched.result told.found told.rounds told.work.0 told.work.1 in
    answered asked _ (record_is asked c.run.new.self made c.choices.result.now c.choices.ensures) c.in_ok-run.ensures.wrote (c.in_ok-write_record.ensures _) _ text _ (c.in_ok-tell.ensures _)

pub returns-clause-status : goal.returns-clause-status
returns-clause-status g c =
    let line = c.args.line in
    let asked = best_search (order_in c.args.model) c.args.model.problem.now line.log.now (settings_of line.options) in
    c.best_status.ensures ∙ ap best_status (c.finish-searched.ensures.found ∙ ap found (search_is asked c.run.new.self c.in_ok-run.ensures.made))
