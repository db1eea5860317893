use Rattle.ngd_log.proofs.GoodEntries.{good_lines}
use Rattle.ngd_log.proofs.pieces.good_lines.Goals as goal

pub returns : goal.returns
returns c = good_lines
