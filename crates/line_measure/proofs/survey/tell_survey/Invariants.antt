use Rattle.std.proofs.Common.{◌≡◌}
use Rattle.dcsp_outside.specs.Outside.{Place}
use Rattle.dcsp_script.specs.Scripts.{outside}
use Rattle.dcsp_script.specs.Left.{HasLeft}
use Rattle.abt_network.specs.declared.Standing.TheVariants.{Quiet}
use Rattle.line_measure.specs.MeasurePromise.{seeds, survey_script, worst}
use Rattle.line_measure.proofs.SurveyLaws.{left_from}
use Rattle.line_measure.proofs.survey.tell_survey.Given as goal

abbrev pub invariant-loop-number : goal.invariant-loop-number
invariant-loop-number g l = record {
  left : (folder : Place) → HasLeft (survey_script l.problem l.line.from l.line.count) (left_from l.problem l.line.from l.line.count l.number) (outside folder (g.S.Sink.stream l.fn.out)) (outside folder (g.S.Sink.stream l.out));
  worst : l.worst ≡ worst l.problem Quiet (seeds l.line.from l.number);
}
