use Rattle.ngd_log.proofs.LogLaws.{logs_differ}
use Rattle.ngd_log.proofs.log.logs_differ.Goals as goal

pub returns : goal.returns
returns c = logs_differ
