use Rattle.std.proofs.Common.{◌∙◌}
use Rattle.dcsp_script.proofs.Lines.{then_rest, then_stopped}
use Rattle.abt_session.proofs.Pieces.{wrote_as, stopped_so}
use Rattle.line_replay.proofs.Outcomes.{record_of}
use Rattle.line_replay.proofs.Telling.{as_ok}
use Rattle.line_replay.proofs.record.run_recorded.Goals as goal

pub returns-in_err-outcome-clause-wrote : goal.returns-in_err-outcome-clause-wrote
returns-in_err-outcome-clause-wrote g c = then_stopped _ c.from_residual.ensures c.in_err-outcome.ensures.wrote

pub returns-in_err-write_record-clause-wrote : goal.returns-in_err-write_record-clause-wrote
returns-in_err-write_record-clause-wrote g c =
    let kept = record_of c.args.task.record_file c.is_some.result _ c.choices.result.now c.is_some.ensures (c.choices.ensures ∙ c.in_ok-outcome.ensures.numbers) in
    then_rest c.in_ok-outcome.ensures.wrote (stopped_so _ c.from_residual-in_err-write_record.ensures (wrote_as kept (c.in_err-write_record.ensures _)))

pub returns-clause-wrote : goal.returns-clause-wrote
returns-clause-wrote g c =
    let kept = record_of c.args.task.record_file c.is_some.result _ c.choices.result.now c.is_some.ensures (c.choices.ensures ∙ c.in_ok-outcome.ensures.numbers) in
    then_rest c.in_ok-outcome.ensures.wrote (as_ok _ (wrote_as kept (c.in_ok-write_record.ensures _)))
