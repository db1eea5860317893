use Rattle.ngd_check.proofs.Forms.{entries_exclude}
use Rattle.ngd_check.proofs.entries_exclude.Goals as goal

pub returns : goal.returns
returns c = entries_exclude
