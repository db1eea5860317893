use Rattle.std.proofs.Common.{Err, ◌∙◌, ap, length, subst, sym}
use Rattle.dcsp_script.proofs.Lines.{then_rest, then_stopped}
use Rattle.abt_session.specs.declared.outcome.Outcome.{Outcome}
use Rattle.abt_session.proofs.Pieces.{wrote_as, stopped_so, made_then_memory}
use Rattle.line_replay.specs.Asked.{record_script}
use Rattle.line_replay.proofs.Telling.{as_ok}
use Rattle.dcsp_rule.specs.Problems.{Contents, csp_of}
use Rattle.dcsp_defs.specs.Csp.{IsCsp}
use Rattle.abt_session.specs.Ordering.{order_in}
use Rattle.line_replay.proofs.UnderOrder.{ordered_count, ordered_csp}
use Rattle.line_lossy.specs.Runners.{asked_by}
use Rattle.line_lossy.specs.Asked.{run_numbers, most_calm}
use Rattle.line_replay.proofs.Outcomes.{record_of}
use Rattle.line_lossy.proofs.Endings.{log_is, taken_is, is_ended}
use Rattle.line_lossy.proofs.line.run_fresh.Goals as goal

pub returns-in_err-run-clause-wrote : goal.returns-in_err-run-clause-wrote
returns-in_err-run-clause-wrote g c = λ out.
    let asked = asked_by c.args.model c.args.line in
    then_stopped (record_script asked.record_file (run_numbers asked)) c.from_residual.ensures (wrote_as (log_is asked c.args.runner.now most_calm c.requires.fresh.order c.requires.fresh.problem c.requires.fresh.log) (c.in_err-run.ensures.wrote out))

pub returns-in_err-outcome-clause-wrote : goal.returns-in_err-outcome-clause-wrote
returns-in_err-outcome-clause-wrote g c = λ out.
    let asked = asked_by c.args.model c.args.line in
    let log = wrote_as (log_is asked c.args.runner.now most_calm c.requires.fresh.order c.requires.fresh.problem c.requires.fresh.log) (c.in_ok-run.ensures.wrote out) in
    then_stopped (record_script asked.record_file (run_numbers asked)) c.from_residual-in_err-outcome.ensures (made_then_memory {U = Outcome} (Err c.in_err-outcome.field-0.0) c.in_err-outcome.ensures.only_memory log)

pub returns-in_err-write_record-clause-wrote : goal.returns-in_err-write_record-clause-wrote
returns-in_err-write_record-clause-wrote g c = λ out.
    let asked = asked_by c.args.model c.args.line in
    let log = wrote_as (log_is asked c.args.runner.now most_calm c.requires.fresh.order c.requires.fresh.problem c.requires.fresh.log) (c.in_ok-run.ensures.wrote out) in
    let taken = c.choices.ensures ∙ taken_is asked c.args.runner.now c.run.new.self c.in_ok-run.ensures.same c.requires.fresh.order c.requires.fresh.problem c.in_ok-run.ensures.made in
    let kept = record_of c.args.line.record_file c.args.runner.now.keep (run_numbers asked) c.choices.result.now c.requires.fresh.keep taken in
    then_rest log (stopped_so _ c.from_residual-in_err-write_record.ensures (wrote_as kept (c.in_err-write_record.ensures out)))

pub returns-clause-wrote : goal.returns-clause-wrote
returns-clause-wrote g c = λ out.
    let asked = asked_by c.args.model c.args.line in
    let log = wrote_as (log_is asked c.args.runner.now most_calm c.requires.fresh.order c.requires.fresh.problem c.requires.fresh.log) (c.in_ok-run.ensures.wrote out) in
    let taken = c.choices.ensures ∙ taken_is asked c.args.runner.now c.run.new.self c.in_ok-run.ensures.same c.requires.fresh.order c.requires.fresh.problem c.in_ok-run.ensures.made in
    let kept = record_of c.args.line.record_file c.args.runner.now.keep (run_numbers asked) c.choices.result.now c.requires.fresh.keep taken in
    then_rest log (as_ok _ (wrote_as kept (c.in_ok-write_record.ensures out)))

pub returns-clause-gives : goal.returns-clause-gives
returns-clause-gives g c =
    let asked = asked_by c.args.model c.args.line in
    is_ended asked c.args.runner.now c.run.new.self c.in_ok-run.ensures.same c.requires.fresh.order c.requires.fresh.problem c.in_ok-run.ensures.made c.in_ok-outcome.outcome c.events.result c.in_ok-outcome.ensures.gives c.events.ensures

pub outcome_of-requires-clause-csp : goal.outcome_of-requires-clause-csp
outcome_of-requires-clause-csp g c =
    let m = c.args.model in
    subst (λ (q : Contents). IsCsp (csp_of q)) (sym (c.in_ok-run.ensures.same.problem ∙ c.requires.fresh.problem)) (ordered_csp (order_in m) m.problem.now c.requires.model.problem c.requires.model.order)

pub outcome_of-requires-clause-count : goal.outcome_of-requires-clause-count
outcome_of-requires-clause-count g c =
    let m = c.args.model in
    ap (λ (q : Contents). length q.domains) (c.in_ok-run.ensures.same.problem ∙ c.requires.fresh.problem) ∙ ordered_count (order_in m) m.problem.now c.requires.model.problem c.requires.model.order
