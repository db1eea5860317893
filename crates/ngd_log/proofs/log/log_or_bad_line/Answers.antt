use Rattle.ngd_log.proofs.LogLaws.{log_or_bad_line}
use Rattle.ngd_log.proofs.log.log_or_bad_line.Goals as goal

pub returns : goal.returns
returns c = log_or_bad_line
