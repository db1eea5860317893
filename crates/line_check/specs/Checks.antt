-- What checking a log against a model comes to.
use Rattle.std.specs.Prelude.{ℕ, ◌<◌, ◌≤◌, List, ◌++◌, length, decimal, codes, Option, IfSome}
use Rattle.dcsp_outside.specs.Outside.{bytes_of}
use Rattle.dcsp_defs.specs.Csp.{HasNoSolution}
use Rattle.dcsp_rule.specs.Problems.{Contents, csp_of}
use Rattle.ngd_check.specs.declared.Finding.{Finding}
use Rattle.ngd_check.specs.declared.Finding.TheVariants.{Verified, BadStep, BadDeletion, NotEmpty}
use Rattle.ngd_check.specs.Findings.{IsFindingOf}
use Rattle.dcsp_defs.specs.declared.entry.Entry.{Entry}
use Rattle.ngd_log.specs.EntryTexts.{IsLogOfEntries, IsFirstBadLine}
use Rattle.dcsp_script.specs.declared.status.Status.{Status}
use Rattle.dcsp_script.specs.declared.status.Status.TheVariants.{Good, No}
use Rattle.abt_input.specs.Inputs.{most_log}
use Rattle.abt_input.specs.Kinds.{FileKind}
use Rattle.abt_input.specs.declared.error.CommandError.{CommandError}
use Rattle.line_check.specs.Taking.{Taking, plain, HasProblemFor}
use Rattle.abt_input.specs.declared.error.CommandError.TheVariants.{ModelLong, ModelRefused, NoAim, LogLong, LogLine, ScheduleLong, ScheduleLine, OrderRefused, Clauses, Fault, Memory}

-- these are the entries of the log, which is of either version
pub record HasEntries (log : List ℕ) (entries : List Entry) : Type 0 where
  pub short : length log ≤ most_log
  pub reads : IsLogOfEntries log entries

-- the log is short enough, and this is its first bad line
pub record IsEntryBadAt (log : List ℕ) (number : ℕ) : Type 0 where
  pub short : length log ≤ most_log
  pub line : IsFirstBadLine log number

-- this error is why the log, of either version, is refused
abbrev pub IsErrorOfEntries : List ℕ → CommandError → Type 0
IsErrorOfEntries log ModelLong = ⊥
IsErrorOfEntries log (ModelRefused error) = ⊥
IsErrorOfEntries log LogLong = most_log < length log
IsErrorOfEntries log (LogLine number) = IsEntryBadAt log number
IsErrorOfEntries log ScheduleLong = ⊥
IsErrorOfEntries log (ScheduleLine number) = ⊥
IsErrorOfEntries log (OrderRefused error) = ⊥
IsErrorOfEntries log NoAim = ⊥
IsErrorOfEntries log (Clauses error) = ⊥
IsErrorOfEntries log Fault = ⊥
IsErrorOfEntries log Memory = ⊥

-- what is found of the log's entries for this problem
pub record IsFoundFor (problem : Contents) (log : List ℕ) (finding : Finding) : Type 0 where
  pub entries : List Entry
  pub log_is : HasEntries log entries
  pub found : IsFindingOf (csp_of problem) entries finding

-- a log of either version, of which it is found what it is for the problem
abbrev pub log_for : Contents → FileKind
log_for problem = record { Value = Finding; Is = IsFoundFor problem; Refuses = IsErrorOfEntries }

-- the status of a finding
abbrev pub finding_status : Finding → Status
finding_status Verified = Good
finding_status (BadStep step) = No
finding_status (BadDeletion after) = No
finding_status NotEmpty = No

-- the line that tells a finding
abbrev pub finding_text : Finding → List ℕ
finding_text Verified = codes "verified\n"
finding_text (BadStep step) = codes "rejected step " ++ decimal step ++ codes "\n"
finding_text (BadDeletion after) = codes "rejected deletion after step " ++ decimal after ++ codes "\n"
finding_text NotEmpty = codes "rejected not empty\n"

-- a problem is taken of the model, and it has no solution
pub record IsRefutedModel (t : Taking) (model : List ℕ) : Type 0 where
  pub taken : HasProblemFor t model
  pub none : (problem : Contents) → t.Is model problem → HasNoSolution (csp_of problem)

-- the same of the model under the name, where the folder tells it
abbrev pub IsRefutedBy : Taking → Option (List ℕ → Option (List ℕ)) → List ℕ → Type 0
IsRefutedBy t files name = IfSome files (λ f. IsRefutedModel t (bytes_of (f name)))

-- the same of the model's own problem
abbrev pub IsRefuted : Option (List ℕ → Option (List ℕ)) → List ℕ → Type 0
IsRefuted files name = IsRefutedBy plain files name
