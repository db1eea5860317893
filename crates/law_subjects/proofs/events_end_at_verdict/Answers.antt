use Rattle.law_subjects.proofs.Losing.{events_end_at_verdict}
use Rattle.law_subjects.proofs.events_end_at_verdict.Goals as goal

pub returns : goal.returns
returns c = events_end_at_verdict
