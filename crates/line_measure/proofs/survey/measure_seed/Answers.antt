use Rattle.std.proofs.Common.{false, subst}
use Rattle.std.specs.Prelude.{Some}
use Rattle.abt_schedule.specs.Answers.{word_at}
use Rattle.abt_session.specs.Answers.{first_answers}
use Rattle.abt_measure.specs.Whole.{IsMeasuredRun}
use Rattle.line_replay.specs.Asked.{most_deliveries}
use Rattle.line_measure.specs.Numbers.{seeded}
use Rattle.line_measure.proofs.survey.measure_seed.Goals as goal

pub returns : goal.returns
returns c =
    c.numbers_of.ensures c.args.problem.now (seeded c.args.seed) false
    (subst (λ g. IsMeasuredRun c.args.problem.now most_deliveries (first_answers most_deliveries (λ k. Some (word_at g k))) false c.in_ok-run.run') c.new-choices.ensures c.in_ok-run.ensures)
