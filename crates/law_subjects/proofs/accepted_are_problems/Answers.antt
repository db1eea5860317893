use Rattle.law_subjects.proofs.Accepting.{accepted_are_problems}
use Rattle.law_subjects.proofs.accepted_are_problems.Goals as goal

pub returns : goal.returns
returns c = accepted_are_problems
