use Rattle.dcsp_gen.proofs.Ranges.{appended}
use Rattle.dcsp_gen.proofs.lines.push_diagonals.Goals as goal

pub returns : goal.returns
returns c = appended _ _ _ _ _ c.in_ok-write.ensures.bytes c.in_ok-write-2.ensures.bytes
