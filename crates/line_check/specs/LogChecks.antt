-- A log that is checked as its pieces come.
use Rattle.std.specs.Prelude.{◌≡◌, ℕ, ◌+◌, ◌<◌, List, ◌++◌, length, Option, IfSome, Result, Ok, Err, ⊤}
use Rattle.dcsp_outside.specs.Outside.{Place, SameCounts, IsPrefixOf, bytes_of}
use Rattle.dcsp_outside.specs.declared.folder.Piece.{Piece}
use Rattle.dcsp_outside.specs.declared.folder.Piece.TheVariants.{Part, End}
use Rattle.dcsp_script.specs.declared.stop.Stop.{Stop}
use Rattle.dcsp_script.specs.declared.stop.Stop.TheVariants as stops
use Rattle.dcsp_defs.specs.declared.entry.Entry.{Entry}
use Rattle.ngd_log.specs.EntryReading.{good_entries}
use Rattle.ngd_log.specs.Pieces.{IsFed}
use Rattle.ngd_check.specs.Entries.{steps_of}
use Rattle.ngd_check.specs.Progress.{HasTaken, HasKept, right_steps}
use Rattle.dcsp_outside.specs.Handed.{Handed}
use Rattle.dcsp_script.specs.Promises.{TellOf, AreBytesOf}
use Rattle.abt_input.specs.Kinds.{FileKind}
use Rattle.abt_input.specs.Inputs.{most_log}
use Rattle.dcsp_rule.specs.Problems.{Contents, csp_of}
use Rattle.ngd_check.specs.Findings.{IsFindingOf}
use Rattle.line_check.specs.declared.log_check.LogCheck.{LogCheck}
use Rattle.line_check.specs.declared.log_check.Checked.{Checked}
use Rattle.line_check.specs.Checks.{HasEntries, IsErrorOfEntries}

-- the check is of the same problem, and keeps steps or not as before
pub record HasSameTask (old new : LogCheck) : Type 0 where
  pub problem : new.checker.problem ≡ old.checker.problem
  pub keeps : new.checker.keeps ≡ old.checker.keeps

-- taking these entries leads from one check to the other
pub record HasGoneOn (old new : LogCheck) (entries : List Entry) : Type 0 where
  pub task : HasSameTask old new
  pub reader : new.reader ≡ old.reader
  pub taken : (before : List Entry) → HasTaken before old.checker → HasTaken (before ++ entries) new.checker
  pub kept : (before : List Entry) → HasKept before old.checker → HasKept (before ++ entries) new.checker

-- the text has come: it was read, the entries of its good lines were checked, and their steps are kept where steps are and each is right; where steps are not, none is
pub record HasCome (check : LogCheck) (text : List ℕ) : Type 0 where
  pub fed : IsFed check.reader text
  pub taken : HasTaken (good_entries text) check.checker
  pub kept : HasKept (good_entries text) check.checker

-- the front of a piece has come, and the rest waits
pub record HasTakenFront (old new : LogCheck) (piece rest : List ℕ) : Type 0 where
  pub front : List ℕ
  pub parts : piece ≡ front ++ rest
  pub task : HasSameTask old new
  pub counted : new.reader.fed ≡ old.reader.fed + length front
  pub come : (text : List ℕ) → HasCome old text → HasCome new (text ++ front)

-- the text is what the folder handed over of the name meanwhile: more bytes may follow, whatever they are; and where it tells its files, those of the name begin with the text
pub record HasHanded (files : Option (List ℕ → Option (List ℕ))) (old new : List Handed) (name text : List ℕ) : Type 0 where
  pub front : IfSome files (λ f. IsPrefixOf text (bytes_of (f name)))
  pub answers : List Handed
  pub handed : new ≡ old ++ answers
  pub tell : (rest : List ℕ) → TellOf name (text ++ rest) answers

-- as many bytes of the name have come
pub record StandsAt (files : Option (List ℕ → Option (List ℕ))) (old new : List Handed) (name : List ℕ) (from : ℕ) (check : LogCheck) : Type 0 where
  pub text : List ℕ
  pub counted : length text ≡ from
  pub handed : HasHanded files old new name text
  pub come : HasCome check text

-- all bytes of the name have come, and they are fewer than so many
pub record HasEndedBelow (files : Option (List ℕ → Option (List ℕ))) (old new : List Handed) (name : List ℕ) (bound : ℕ) (check : LogCheck) : Type 0 where
  pub log : List ℕ
  pub handed : AreBytesOf files old new name log
  pub short : length log < bound
  pub come : HasCome check log

-- some bytes of the name are those that were handed over, where a stop came
abbrev pub WasStopped : Option (List ℕ → Option (List ℕ)) → List Handed → List Handed → List ℕ → Type 0
WasStopped files old new name = (bytes : List ℕ) × AreBytesOf files old new name bytes

-- where a piece of `most` bytes from this place leads
abbrev pub LeadsOn : Option (List ℕ → Option (List ℕ)) → List Handed → List Handed → List ℕ → ℕ → ℕ → LogCheck → Result Piece Stop → Type 0
LeadsOn files old new name from most check (Ok Part) = StandsAt files old new name (from + most) check
LeadsOn files old new name from most check (Ok End) = HasEndedBelow files old new name (from + most) check
LeadsOn files old new name from most check (Err stop) = WasStopped files old new name

-- the log under the name is too long
abbrev pub IsLogLong : Option (List ℕ → Option (List ℕ)) → List Handed → List Handed → List ℕ → Type 0
IsLogLong files old new name = (log : List ℕ) × AreBytesOf files old new name log × (most_log < length log)

-- where the whole log leads: a part of it is left where it is too long
abbrev pub LeadsToEnd : Place → Place → List ℕ → LogCheck → Result Piece Stop → Type 0
LeadsToEnd old new name check (Ok Part) = IsLogLong old.held old.handed new.handed name
LeadsToEnd old new name check (Ok End) = HasEndedBelow old.held old.handed new.handed name (most_log + 1) check
LeadsToEnd old new name check (Err stop) = WasStopped old.held old.handed new.handed name

-- what is found of the log's entries for this problem, with the log's steps, deletions left out, where each entry is right
pub record IsKeptFor (problem : Contents) (log : List ℕ) (checked : Checked) : Type 0 where
  pub entries : List Entry
  pub log_is : HasEntries log entries
  pub found : IsFindingOf (csp_of problem) entries checked.finding
  pub steps : checked.steps ≡ right_steps checked.finding (steps_of entries)

-- a log of either version, of which it is found what it is for the problem, and whose steps are kept where each entry is right
abbrev pub kept_log : Contents → FileKind
kept_log problem = record { Value = Checked; Is = IsKeptFor problem; Refuses = IsErrorOfEntries }

-- this holds unless a fault stopped it
abbrev pub UnlessFaulted : {T : Type 0} → Result T Stop → Type 0 → Type 0
UnlessFaulted (Ok done) P = P
UnlessFaulted (Err stops.Memory) P = P
UnlessFaulted (Err stops.Fault) P = ⊤

-- calls that read alone, and did not fail
pub record HasOnlyRead (old new : Place) : Type 0 where
  pub held : new.held ≡ old.held
  pub created : new.created ≡ old.created
  pub counts : SameCounts old new
