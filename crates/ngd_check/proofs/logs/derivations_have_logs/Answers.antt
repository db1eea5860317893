use Rattle.ngd_check.proofs.Writable.{have_logs}
use Rattle.ngd_check.proofs.logs.derivations_have_logs.Goals as goal

pub returns : goal.returns
returns c = have_logs
