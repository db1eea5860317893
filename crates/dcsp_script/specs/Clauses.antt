-- What follows for a line of words, whatever its status.
use Rattle.std.specs.Prelude.{◌≡◌, ◌⊎◌, ℕ, List, [], ◌++◌, Contains, All, IfSome}
use Rattle.dcsp_outside.specs.Outside.{Rose, Told, IsPrefixOf}
use Rattle.dcsp_script.specs.Scripts.{Write, World, put_by}
use Rattle.dcsp_script.specs.Texts.{Touches}
use Rattle.dcsp_script.specs.declared.status.Status.{Status}
use Rattle.dcsp_script.specs.declared.status.Status.TheVariants.{Memory}
use Rattle.dcsp_script.specs.Statuses.{IsFinal, IsRefusal}
use Rattle.dcsp_script.specs.Promises.{Report, Promise, inputs_of}

-- a count rose that may stop the line: that of reads of a name that it fetches, of writes of a name that it creates, or of `out`
abbrev pub HasCause : Promise → World → World → Type 0
HasCause promise old new =
    ((name : List ℕ) × Contains promise.fetched name × Rose (old.folder.reads name) (new.folder.reads name)) ⊎ (((name : List ℕ) × Contains promise.created name × Rose (old.folder.writes name) (new.folder.writes name)) ⊎ Rose old.out.faults new.out.faults)

-- every name that the line does not create is as before
abbrev pub LeavesOthers : Promise → World → World → Type 0
LeavesOthers promise old new =
    Told old.folder.held new.folder.held (λ files now. (name : List ℕ) → (Contains promise.created name → ⊥) → now name ≡ files name)

-- only names that the line creates were created
abbrev pub CreatesOwn : Promise → World → World → Type 0
CreatesOwn promise old new =
    (names : List (List ℕ)) × All (λ name. Contains promise.created name) names × (new.folder.created ≡ old.folder.created ++ names)

-- where the folder tells the files, `out` gained a first part of the text of their report
abbrev pub GainsText : Promise → World → World → Type 0
GainsText promise old new =
    IfSome old.folder.held (λ files. (report : Report) → promise.Reports (inputs_of files promise.fetched) report → Told old.out.written new.out.written (λ before now. (gained : List ℕ) × IsPrefixOf gained (put_by report.script) × (now ≡ before ++ gained)))

-- where the folder tells the files and no count of the line rose, the status is that of their report, or memory was wanted
abbrev pub IsComplete : Promise → World → World → Status → Type 0
IsComplete promise old new status =
    IfSome old.folder.held (λ files. (report : Report) → promise.Reports (inputs_of files promise.fetched) report → (HasCause promise old new → ⊥) → (status ≡ report.status) ⊎ (status ≡ Memory))

-- what each promise keeps: there is one report, its status is final, a refusal writes nothing, a script changes only names that the line creates, and only names that it fetches are fetched
pub record IsLawful (promise : Promise) : Type 0 where
  pub one : (inputs : List (List ℕ)) (r s : Report) → promise.Reports inputs r → promise.Reports inputs s → r ≡ s
  pub final : (inputs : List (List ℕ)) (report : Report) → promise.Reports inputs report → IsFinal report.status
  pub quiet : (inputs : List (List ℕ)) (report : Report) → promise.Reports inputs report → IsRefusal report.status → report.script ≡ []
  pub names : (inputs : List (List ℕ)) (report : Report) → promise.Reports inputs report → (write : Write) → Contains report.script write → (name : List ℕ) → Touches write name → Contains promise.created name
  pub reads : (before : List (List ℕ)) (name : List ℕ) → promise.Fetches before name → Contains promise.fetched name
