use Rattle.std.proofs.Common.{◌∙◌, ap, ◌++◌}
use Rattle.dcsp_rule.specs.Problems.{csp_of}
use Rattle.abt_session.specs.Starving.{starving_choices}
use Rattle.abt_session.proofs.Pieces.{memory_at_once}
use Rattle.abt_session.proofs.Whole.{on_ok}
use Rattle.line_starve.proofs.Replaying.{reads_choices, replayed, bounded, choices_stopped, line_told}
use Rattle.line_starve.proofs.starve.run_starved.Goals as goal

pub returns-in_default-clause-wrote : goal.returns-in_default-clause-wrote
returns-in_default-clause-wrote g c = memory_at_once _ _

pub returns-in_err-write_choices-clause-wrote : goal.returns-in_err-write_choices-clause-wrote
returns-in_err-write_choices-clause-wrote g c =
    choices_stopped c.args.run.problem.now c.args.run.from c.args.run.to c.args.run.most c.args.file.now c.in-Ok.told c.choices.result.now c.in-Ok.ensures.starved (c.choices.ensures ∙ c.in-Ok.ensures.takes ∙ ap (λ l. l ++ starving_choices (csp_of c.args.run.problem.now) c.args.run.from c.args.run.to c.args.run.most) c.new-taken.ensures)
    _ c.from_residual.ensures (c.in_err-write_choices.ensures _)

pub returns-clause-wrote : goal.returns-clause-wrote
returns-clause-wrote g c =
    line_told c.args.run.problem.now c.args.run.from c.args.run.to c.args.run.most c.args.file.now c.in-Ok.told c.choices.result.now c.in-Ok.ensures.starved (c.choices.ensures ∙ c.in-Ok.ensures.takes ∙ ap (λ l. l ++ starving_choices (csp_of c.args.run.problem.now) c.args.run.from c.args.run.to c.args.run.most) c.new-taken.ensures)
    (c.in_ok-write_choices.ensures _) (c.tell.ensures _)

pub returns-clause-schedule : goal.returns-clause-schedule
returns-clause-schedule g c = on_ok c.tell.result (reads_choices c.args.run.problem.now c.args.run.from c.args.run.to c.args.run.most c.requires.most c.in-Ok.ensures.near)

pub returns-clause-replayed : goal.returns-clause-replayed
returns-clause-replayed g c = on_ok c.tell.result (replayed c.args.run.problem.now c.args.run.from c.args.run.to c.args.run.most c.requires.most c.in-Ok.ensures.near c.in-Ok.ensures.numbers)

pub returns-clause-bound : goal.returns-clause-bound
returns-clause-bound g c = on_ok c.tell.result (bounded c.args.run.problem.now c.args.run.from c.args.run.to c.args.run.most c.in-Ok.ensures.verdicts.bound)
