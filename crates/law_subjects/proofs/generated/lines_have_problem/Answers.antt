use Rattle.law_subjects.proofs.Whole.{lines_say_problem, lines_have_problem}
use Rattle.law_subjects.proofs.NamedProblems.{named_lines_say_problem, named_lines_have_problem}
use Rattle.law_subjects.proofs.generated.lines_have_problem.Goals as goal

pub returns : goal.returns
returns c = record { problem = lines_say_problem; items = lines_have_problem; named_problem = named_lines_say_problem; named_items = named_lines_have_problem }
