use Rattle.law_subjects.proofs.Finding.{entries_have_finding}
use Rattle.law_subjects.proofs.entries_have_finding.Goals as goal

pub returns : goal.returns
returns c = entries_have_finding
