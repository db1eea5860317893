use Rattle.line_drill.specs.Drills.{HasProblem}
use Rattle.line_drill.proofs.Generated.{not_refused}
use Rattle.line_drill.proofs.run.try_text.Goals as goal

pub problem_of-requires : goal.problem_of-requires
problem_of-requires c = let has : HasProblem c.in-Ok.text.items = rw c.in-Ok.is at c.requires in has.1.short

pub unreachable-requires : goal.unreachable-requires
unreachable-requires c = let has : HasProblem c.in-Ok.text.items = rw c.in-Ok.is at c.requires in not_refused has (rw c.in-Err-Refused.field-0-is at c.in-Err-Refused.ensures)
