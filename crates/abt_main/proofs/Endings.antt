-- What a run of the given words says of the program's end.
use Rattle.std.proofs.Common.{◌≡◌, ℕ, Ok, Err, Result, inl, inr}
use Rattle.std.specs.declared.vec.Vec.{Vec}
use Rattle.std.specs.declared.string.String.{String}
use Rattle.std.specs.declared.alloc.Global.{Global}
use Rattle.std.specs.declared.alloc.AllocError.{AllocError as Lack}
use Rattle.dcsp_outside.specs.Outside.{Stream}
use Rattle.dcsp_script.specs.Scripts.{World}
use Rattle.abt_main.specs.Ending.{EndsRun, EndsWith, IsFresh}

pub ends_with : (words : Result (Vec (String Global) Global) Lack) (old new : World) (err now : Stream) (code : ℕ) → IsFresh old → EndsRun words old new err now code → EndsWith code
unfolding EndsWith
ends_with (Ok words) old new err now code fresh run = inl (run.0, run.1, record { words = _; old = old; fresh = fresh; new = new; err = err; now = now; ran = run.2 })
ends_with (Err lack) old new err now code fresh run = inr run.code_is
