use Rattle.law_subjects.proofs.Lengths.{are_short}
use Rattle.law_subjects.proofs.Texts.{queens_have_problem, colouring_has_problem, sparse_has_problem, pigeons_have_problem, binary_has_problem}
use Rattle.law_subjects.proofs.MeetingLines.{meetings_have_problem, meetings_are_short}
use Rattle.law_subjects.proofs.SensorLines.{sensors_have_problem, sensors_are_short}
use Rattle.law_subjects.proofs.generated.generated_texts_have_problems.Goals as goal

pub returns : goal.returns
returns c = record {
  queens = queens_have_problem;
  colouring = colouring_has_problem;
  sparse = sparse_has_problem;
  pigeons = pigeons_have_problem;
  binary = binary_has_problem;
  short = are_short;
  meetings = meetings_have_problem;
  meetings_short = meetings_are_short;
  sensors = sensors_have_problem;
  sensors_short = sensors_are_short;
}
