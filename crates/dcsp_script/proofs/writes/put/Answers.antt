use Rattle.std.proofs.Common.{refl}
use Rattle.dcsp_script.proofs.Leaves.{put_failed}
use Rattle.dcsp_script.proofs.writes.put.Goals as goal

pub returns-in-Err-Failed : goal.returns-in-Err-Failed
returns-in-Err-Failed g c = λ folder.
    let e = rw c.in-Err-Failed.field-0-is at c.in-Err-Failed.ensures in
    put_failed folder _ _ c.args.bytes.now (e.failed refl) e.faults (e.cause refl)
