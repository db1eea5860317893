-- What the line that words are promises.
use Rattle.std.specs.Prelude.{◌≡◌, ◌⊎◌, ℕ, List, [], codes}
use Rattle.dcsp_outside.specs.Outside.{Stream}
use Rattle.dcsp_script.specs.Scripts.{World}
use Rattle.dcsp_script.specs.Ways.{Did}
use Rattle.dcsp_script.specs.declared.status.Status.{Status}
use Rattle.dcsp_script.specs.declared.status.Status.TheVariants.{Words}
use Rattle.dcsp_script.specs.Promises.{Promise, IsSaid}
use Rattle.dcsp_script.specs.Runs.{Ran}
use Rattle.abt_command.specs.Lines.{Line, IsLine, IsNoLine, promise_of}

-- the line that the words are has a promise of which this holds
abbrev pub EachPromise : List (List ℕ) → (Promise → Type 0) → Type 0
EachPromise words P = (line : Line) → IsLine words line → P (promise_of line)

-- the words are a line, and a run of it left this; or they are no line, which status 2 and a line on `err` tell, and nothing else was done
abbrev pub HasRun : List (List ℕ) → World → World → Stream → Stream → Status → Type 0
HasRun words old new err now status =
    ((line : Line) × IsLine words line × Ran (promise_of line) old new err now status) ⊎ (IsNoLine words × (status ≡ Words) × Did [] old new × IsSaid (codes "abt: bad words\n") err now)
