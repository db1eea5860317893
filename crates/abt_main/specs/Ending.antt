-- How the program ends.
use Rattle.std.specs.Prelude.{◌≡◌, ◌⊎◌, ℕ, List, [], Result, Ok, Err}
use Rattle.std.specs.declared.vec.Vec.{Vec}
use Rattle.std.specs.declared.string.String.{String}
use Rattle.std.specs.declared.alloc.Global.{Global}
use Rattle.std.specs.declared.alloc.AllocError.{AllocError as Lack}
use Rattle.dcsp_outside.specs.Outside.{Stream}
use Rattle.dcsp_script.specs.declared.stop.Stop.TheVariants as stops
use Rattle.dcsp_script.specs.Scripts.{World}
use Rattle.dcsp_script.specs.Ways.{Did}
use Rattle.dcsp_script.specs.declared.status.Status.{Status}
use Rattle.dcsp_script.specs.declared.status.Status.TheVariants.{Memory}
use Rattle.dcsp_script.specs.Statuses.{code_of, stop_text}
use Rattle.dcsp_script.specs.Promises.{IsSaid}
use Rattle.abt_words.specs.Values.{texts}
use Rattle.abt_command.specs.LinePromises.{HasRun}

-- there was no memory for the words: the number says so, nothing was written, and it was told
pub record EndsLacking (old new : World) (err now : Stream) (code : ℕ) : Type 0 where
  pub code_is : code ≡ code_of Memory
  pub nothing : Did [] old new
  pub said : IsSaid (stop_text stops.Memory) err now

-- a run of these words ended with the status that has this number; or there was no memory for them
abbrev pub EndsRun : Result (Vec (String Global) Global) Lack → World → World → Stream → Stream → ℕ → Type 0
EndsRun (Ok words) old new err now code = (status : Status) × (code ≡ code_of status) × HasRun (texts words.items) old new err now status
EndsRun (Err lack) old new err now code = EndsLacking old new err now code

-- nothing was created or handed over yet
pub record IsFresh (world : World) : Type 0 where
  pub created : world.folder.created ≡ []
  pub handed : world.folder.handed ≡ []

-- a run of some words over an outside with which nothing was done ended with this status
pub record EndedWith (status : Status) : Type 0 where
  pub words : List (List ℕ)
  pub old : World
  pub fresh : IsFresh old
  pub new : World
  pub err : Stream
  pub now : Stream
  pub ran : HasRun words old new err now status

-- the number is that of a status with which a run ended; or there was no memory for the words
unfoldable pub EndsWith : ℕ → Type 0
EndsWith code = ((status : Status) × (code ≡ code_of status) × EndedWith status) ⊎ (code ≡ code_of Memory)
