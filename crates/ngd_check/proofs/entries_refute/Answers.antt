use Rattle.ngd_check.proofs.Forms.{entries_refute}
use Rattle.ngd_check.proofs.entries_refute.Goals as goal

pub returns : goal.returns
returns c = entries_refute
