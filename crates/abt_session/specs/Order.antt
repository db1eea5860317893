-- The order of writing: what a run has left of its log and on `out`, wherever it was stopped.
use Rattle.std.specs.Prelude.{◌≡◌, ◌≢◌, ℕ, ◌+◌, ◌<◌, ◌≤◌, List, [], ◌∷◌, ◌++◌, length, take, Option, Some, Contains}
use Rattle.std.specs.List.{concat}
use Rattle.abt_defs.specs.Runs.{Delivery}
use Rattle.ngd_log.specs.Logs.{open_log, log_text}
use Rattle.dcsp_outside.specs.Outside.{IsPrefixOf, Told}
use Rattle.dcsp_script.specs.Scripts.{World}
use Rattle.dcsp_script.specs.Texts.{HoldsPartOf}
use Rattle.dcsp_order.specs.Told.{steps_told}
use Rattle.abt_session.specs.Traces.{delivery_told, delivery_texts}
use Rattle.abt_session.specs.Sessions.{Session, run_of, network_after}

-- the texts that tell of these deliveries of the run, the first of which has this number
abbrev pub texts_from : Session → ℕ → List Delivery → List (List ℕ)
texts_from s number [] = []
texts_from s number (d ∷ deliveries) = delivery_texts s.telling number (length (network_after s number).steps) (delivery_told s.order d) ++ texts_from s (number + 1) deliveries

-- all that tells of the run's first deliveries, so many of them
abbrev pub told_of_first : Session → ℕ → List ℕ
told_of_first s n = concat (texts_from s 1 (take n (run_of s).trace))

-- all that tells of the run's deliveries
abbrev pub told_text : Session → List ℕ
told_text s = told_of_first s (run_of s).net.deliveries

-- the log's head, and the lines of the steps made at the start and by so many first deliveries
abbrev pub log_of_first : Session → ℕ → List ℕ
log_of_first s n = open_log (steps_told s.order (network_after s n).steps)

-- this many bytes are not all that tells of the first n deliveries
abbrev pub IsShortOf : Session → ℕ → List ℕ → Type 0
IsShortOf s n gained = (n ≤ (run_of s).net.deliveries) × (length gained < length (told_of_first s n))

-- among these bytes one is past all that tells of the first n deliveries: it tells of a later one, or of the end
abbrev pub IsPast : Session → ℕ → List ℕ → Type 0
IsPast s n gained = (n < (run_of s).net.deliveries) × (length (told_of_first s n) < length gained)

-- the file holds a first part of this text
abbrev pub HoldsAtMost : Option (List ℕ) → List ℕ → Type 0
HoldsAtMost file text = (held : List ℕ) × IsPrefixOf held text × (file ≡ Some held)

-- the file holds this text, and may hold more behind it
abbrev pub HoldsAtLeast : Option (List ℕ) → List ℕ → Type 0
HoldsAtLeast file text = (held : List ℕ) × IsPrefixOf text held × (file ≡ Some held)

-- the files of a folder before and after, where `out` gained these bytes of what tells of the run
pub record KeepsUp (s : Session) (gained : List ℕ) (IsCreated : Type 0) (files now : List ℕ → Option (List ℕ)) : Type 0 where
  -- the log, once created, holds a first part of its text; else it is as before, or holds no bytes
  pub log_part : HoldsPartOf s.log (log_text (steps_told s.order (run_of s).net.steps)) IsCreated (files s.log) (now s.log)
  -- every other name is as before
  pub others : (name : List ℕ) → name ≢ s.log → now name ≡ files name
  -- as long as a byte is missing of what tells of the first n deliveries, the log, once created, holds no byte of a step made by a later one
  pub not_ahead : (n : ℕ) → IsShortOf s n gained → IsCreated → HoldsAtMost (now s.log) (log_of_first s n)
  -- as soon as a byte is there that tells of a delivery after the first n, the log holds the head and the whole lines of the steps made at the start and by the first n + 1 deliveries
  pub not_behind : (n : ℕ) → IsPast s n gained → HoldsAtLeast (now s.log) (log_of_first s (n + 1))

-- what a run leaves, wherever it was stopped: it created these names, `out` gained these bytes, a first part of what tells of its deliveries, and where the folder tells its files the log keeps up with them
pub record WritesInOrder (s : Session) (old new : World) : Type 0 where
  pub names : List (List ℕ)
  pub created : new.folder.created ≡ old.folder.created ++ names
  pub gained : List ℕ
  pub out : Told old.out.written new.out.written (λ before now. now ≡ before ++ gained)
  pub told_part : IsPrefixOf gained (told_text s)
  pub files : Told old.folder.held new.folder.held (KeepsUp s gained (Contains names s.log))
