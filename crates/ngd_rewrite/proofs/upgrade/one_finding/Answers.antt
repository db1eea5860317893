use Rattle.ngd_rewrite.proofs.Findings.{one_finding}
use Rattle.ngd_rewrite.proofs.upgrade.one_finding.Goals as goal

pub returns : goal.returns
returns c = one_finding
