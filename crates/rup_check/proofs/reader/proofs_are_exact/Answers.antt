use Rattle.rup_check.proofs.TotalLaws.{proof_or_bad_line}
use Rattle.rup_check.proofs.reader.proofs_are_exact.Goals as goal

pub returns : goal.returns
returns c = proof_or_bad_line
