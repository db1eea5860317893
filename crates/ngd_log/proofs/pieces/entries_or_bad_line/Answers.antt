use Rattle.ngd_log.proofs.EntryLaws.{entries_or_bad_line}
use Rattle.ngd_log.proofs.pieces.entries_or_bad_line.Goals as goal

pub returns : goal.returns
returns c = entries_or_bad_line
