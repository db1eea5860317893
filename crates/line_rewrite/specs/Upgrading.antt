-- What an upgrade means to a user.
use Rattle.std.specs.Prelude.{◌≡◌, ◌≢◌, ◌↔◌, ℕ, List, ◌++◌, Option, Some, IfSome}
use Rattle.dcsp_defs.specs.Csp.{Csp}
use Rattle.dcsp_defs.specs.declared.Step.{Step}
use Rattle.dcsp_outside.specs.Outside.{Told, bytes_of}
use Rattle.dcsp_defs.specs.declared.entry.Entry.{Entry}
use Rattle.ngd_log.specs.declared.standing.Version.TheVariants.{Two}
use Rattle.ngd_log.specs.EntryTexts.{entries_text, IsTextOf, IsLogOfEntries}
use Rattle.ngd_check.specs.declared.Finding.{Finding}
use Rattle.ngd_check.specs.Findings.{IsFinding, IsFindingOf}
use Rattle.ngd_rewrite.specs.Upgrade.{upgraded}
use Rattle.dcsp_script.specs.Scripts.{World}
use Rattle.abt_input.specs.Inputs as inputs
use Rattle.line_rewrite.specs.UpgradePromise.{upgrade_text}

-- the text that is written of the steps
abbrev pub new_text : List Step → List ℕ
new_text steps = entries_text Two (upgraded steps)

-- The bytes are these steps as a log of version 2.
pub record IsUpgradeOf (steps : List Step) (bytes : List ℕ) : Type 0 where
  -- they are the text of version 2 of the steps with their deletions
  pub text : IsTextOf bytes Two (upgraded steps)
  -- for every problem, the finding on the log that they are is the finding on the steps
  pub finding : (p : Csp) (entries : List Entry) (finding : Finding) → IsLogOfEntries bytes entries → IsFinding p steps finding ↔ IsFindingOf p entries finding

-- the files before and after an upgrade of these steps
pub record WritesUpgrade (steps : List Step) (new_name : List ℕ) (files now : List ℕ → Option (List ℕ)) : Type 0 where
  -- the new log is there, whole
  pub written : now new_name ≡ Some (new_text steps)
  -- whose finding for every problem is that of the steps
  pub upgrade : IsUpgradeOf steps (new_text steps)
  pub others : (name : List ℕ) → name ≢ new_name → now name ≡ files name

-- Where the folder tells its files, and the log under the name is read, its upgrade was written.
abbrev pub HoldsUpgrade : List ℕ → List ℕ → Option (List ℕ → Option (List ℕ)) → Option (List ℕ → Option (List ℕ)) → Type 0
HoldsUpgrade log_name new_name files now =
    Told files now (λ before after. (steps : List Step) → inputs.IsTextOf (bytes_of (before log_name)) steps → WritesUpgrade steps new_name before after)

-- Where the folder tells its files, and the log under the name is read, how many steps it has, and how many of them are deleted, was put.
abbrev pub TellsUpgrade : List ℕ → World → World → Type 0
TellsUpgrade log_name old new =
    IfSome old.folder.held (λ f. (steps : List Step) → inputs.IsTextOf (bytes_of (f log_name)) steps → Told old.out.written new.out.written (λ before now. now ≡ before ++ upgrade_text steps))

-- an upgrade of the log under this name was written and told
pub record IsUpgraded (log_name new_name : List ℕ) (old new : World) : Type 0 where
  pub writes : HoldsUpgrade log_name new_name old.folder.held new.folder.held
  pub tells : TellsUpgrade log_name old new
