-- What a run of a line of words leaves, and what its status goes with.
use Rattle.std.specs.Prelude.{◌≡◌, ◌⊎◌, ℕ, List, [], ◌++◌}
use Rattle.dcsp_outside.specs.Outside.{Stream, Rose}
use Rattle.dcsp_script.specs.declared.stop.Stop.{Stop}
use Rattle.dcsp_script.specs.declared.stop.Stop.TheVariants as stops
use Rattle.dcsp_script.specs.Scripts.{Write, World, IsAfter}
use Rattle.dcsp_script.specs.Ways.{Did, DidStartOf, FailedIn}
use Rattle.dcsp_script.specs.declared.status.Status.{Status}
use Rattle.dcsp_script.specs.declared.status.Status.TheVariants.{Good, No, Words, Model, Input, Unfinished, Fault, Memory}
use Rattle.dcsp_script.specs.Statuses.{IsFinal, stop_status, stop_text}
use Rattle.dcsp_script.specs.Promises.{Report, Promise, answered, refused, AreFetched, IsSaid, SaysAsReported}

-- a fetch of the line failed: all that stands before it in the order passed, and nothing was written
pub record FetchFailed (promise : Promise) (inputs : List (List ℕ)) (old new : World) : Type 0 where
  pub before : List (List ℕ)
  pub later : List (List ℕ)
  pub are_first : before ++ later ≡ inputs
  pub name : List ℕ
  pub fetches : promise.Fetches before name
  pub rose : Rose (old.folder.reads name) (new.folder.reads name)
  pub after : IsAfter [] old new

-- a write of the script of the line's report failed
pub record WriteFailed (promise : Promise) (inputs : List (List ℕ)) (old new : World) : Type 0 where
  pub report : Report
  pub reports : promise.Reports inputs report
  pub failed : FailedIn report.script old new

-- a line was stopped by a fault
abbrev pub HasFailed : Promise → List (List ℕ) → World → World → Type 0
HasFailed promise inputs old new = FetchFailed promise inputs old new ⊎ WriteFailed promise inputs old new

-- a line was stopped by want of memory: it wrote nothing, or whole first writes of the script of its report
abbrev pub HasLacked : Promise → List (List ℕ) → World → World → Type 0
HasLacked promise inputs old new =
    Did [] old new ⊎ ((report : Report) × promise.Reports inputs report × DidStartOf report.script old new)

-- with a final status: this is the line's report on the bytes of its files, the whole script was made, nothing failed, and what it says was said
pub record Answers (promise : Promise) (old new : World) (err now : Stream) (status : Status) : Type 0 where
  pub inputs : List (List ℕ)
  pub are_held : AreFetched old.folder new.folder promise.fetched inputs
  pub report : Report
  pub reports : promise.Reports inputs report
  pub status_is : status ≡ report.status
  pub did : Did report.script old new
  pub said : SaysAsReported report.said err now

-- with status 6
pub record Faults (promise : Promise) (old new : World) (err now : Stream) : Type 0 where
  pub inputs : List (List ℕ)
  pub are_held : AreFetched old.folder new.folder promise.fetched inputs
  pub failed : HasFailed promise inputs old new
  pub said : IsSaid (stop_text stops.Fault) err now

-- with status 7
pub record Lacks (promise : Promise) (old new : World) (err now : Stream) : Type 0 where
  pub inputs : List (List ℕ)
  pub are_held : AreFetched old.folder new.folder promise.fetched inputs
  pub lacked : HasLacked promise inputs old new
  pub said : IsSaid (stop_text stops.Memory) err now

-- what a run of a line leaves, by its status
abbrev pub Ran : Promise → World → World → Stream → Stream → Status → Type 0
Ran promise old new err now Good = Answers promise old new err now Good
Ran promise old new err now No = Answers promise old new err now No
Ran promise old new err now Words = ⊥
Ran promise old new err now Model = Answers promise old new err now Model
Ran promise old new err now Input = Answers promise old new err now Input
Ran promise old new err now Unfinished = Answers promise old new err now Unfinished
Ran promise old new err now Fault = Faults promise old new err now
Ran promise old new err now Memory = Lacks promise old new err now

-- what the code of a line comes to, before anything is said: an answer, refused input with what is to be said of it, or a stop
pub data Way : Type 0 where
  Answered : (status : Status) → Way
  Refused : (status : Status) → (text : List ℕ) → Way
  Stopped : (stop : Stop) → Way

-- what a line that came to this has done
abbrev pub CameTo : Promise → List (List ℕ) → World → World → Way → Type 0
CameTo promise inputs old new (Answered status) =
    (script : List Write) × promise.Reports inputs (answered status script) × Did script old new × IsFinal status
CameTo promise inputs old new (Refused status text) =
    promise.Reports inputs (refused status text) × Did [] old new × IsFinal status
CameTo promise inputs old new (Stopped stops.Fault) = HasFailed promise inputs old new
CameTo promise inputs old new (Stopped stops.Memory) = HasLacked promise inputs old new

-- the same on the bytes of its files
pub record CameIn (promise : Promise) (old new : World) (way : Way) : Type 0 where
  pub inputs : List (List ℕ)
  pub are_held : AreFetched old.folder new.folder promise.fetched inputs
  pub came : CameTo promise inputs old new way

-- the status of what a line came to, and what was said of it
abbrev pub Concludes : Way → Stream → Stream → Status → Type 0
Concludes (Answered good) err now status = (status ≡ good) × (now ≡ err)
Concludes (Refused bad text) err now status = (status ≡ bad) × IsSaid text err now
Concludes (Stopped stop) err now status = (status ≡ stop_status stop) × IsSaid (stop_text stop) err now
