use Rattle.ngd_log.proofs.LogLaws.{next_line_is}
use Rattle.ngd_log.proofs.log.next_lines.Goals as goal

pub returns : goal.returns
returns c = next_line_is
