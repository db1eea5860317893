use Rattle.ngd_check.proofs.Once.{one_finding, one_finding_of}
use Rattle.ngd_check.proofs.one_finding.Goals as goal

pub returns-clause-derivation : goal.returns-clause-derivation
returns-clause-derivation c = one_finding

pub returns-clause-entries : goal.returns-clause-entries
returns-clause-entries c = one_finding_of
