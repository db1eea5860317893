-- What a run that a line asks for means to a user: the headline, sentence by sentence.
use Rattle.std.specs.Prelude.{◌≡◌, ◌≢◌, ◌↔◌, ℕ, ◌+◌, ◌<◌, ◌≤◌, List, ◌++◌, length, Option, Some, Contains, IfSome}
use Rattle.dcsp_outside.specs.Outside.{IsPrefixOf, Told, bytes_of}
use Rattle.dcsp_script.specs.Scripts.{World}
use Rattle.dcsp_script.specs.Texts.{HoldsPartOf}
use Rattle.dcsp_defs.specs.Csp.{IsCsp, IsSolution}
use Rattle.dcsp_defs.specs.Derivation.{IsRefutation}
use Rattle.dcsp_rule.specs.Problems.{Contents, csp_of}
use Rattle.ngd_log.specs.Logs.{log_text}
use Rattle.abt_defs.specs.Bound.{message_bound}
use Rattle.law_runs.specs.Stops.{IsOpen}
use Rattle.ngd_check.specs.Logged.{IsSmall}
use Rattle.abt_schedule.specs.Schedules.{schedule_text}
use Rattle.abt_session.specs.Order.{told_text, log_of_first, IsShortOf, IsPast, HoldsAtMost, HoldsAtLeast}
use Rattle.dcsp_script.specs.declared.status.Status.{Status}
use Rattle.dcsp_script.specs.declared.status.Status.TheVariants.{Good, No, Unfinished}
use Rattle.abt_input.specs.Inputs.{IsModelOf}
use Rattle.line_replay.specs.Endings.{assigned, final_values, end_status}
use Rattle.line_replay.specs.Asked.{Asked, asked_run, asked_steps, answer_text}

-- the problem of the model under the name, where the folder tells it, is well-formed, and logs can name all that it has
abbrev pub HoldsProblem : Option (List ℕ → Option (List ℕ)) → List ℕ → Type 0
HoldsProblem files name = IfSome files (λ f. (problem : Contents) → IsModelOf (bytes_of (f name)) problem → IsCsp (csp_of problem) × IsSmall (csp_of problem))

-- all that goes to `out`: what tells of the deliveries, and the answer
abbrev pub whole_text : Asked → List ℕ
whole_text asked = told_text asked.session ++ answer_text asked

-- the name is not that of the log or of the record
abbrev pub IsOther : Asked → List ℕ → Type 0
IsOther asked name = (name ≢ asked.session.log) × IfSome asked.record_file (λ record_name. name ≢ record_name)

-- the log is that of the run's derivation, the record that of its numbers, and every other name is as before
pub record HoldsRun (asked : Asked) (files now : List ℕ → Option (List ℕ)) : Type 0 where
  pub log : now asked.session.log ≡ Some (log_text (asked_steps asked))
  pub recorded : IfSome asked.record_file (λ name. now name ≡ Some (schedule_text (asked_run asked).numbers))
  pub others : (name : List ℕ) → IsOther asked name → now name ≡ files name

-- The run: with a status of 0, 1 or 5 it was printed, logged and recorded whole.
pub record IsRun (asked : Asked) (status : Status) (old new : World) : Type 0 where
  pub status_is : status ≡ end_status (asked_run asked).end
  pub out : Told old.out.written new.out.written (λ before now. now ≡ before ++ whole_text asked)
  pub files : Told old.folder.held new.folder.held (HoldsRun asked)

-- Solved: with status 0 the values that were printed are a solution.
abbrev pub IsSolvedRun : Asked → Status → Type 0
IsSolvedRun asked status = status ≡ Good → IsSolution (csp_of asked.problem) (assigned (final_values asked.session.order asked.problem (asked_run asked)))

-- Refuted: with status 1 the derivation that was logged is a refutation.
abbrev pub IsRefutedRun : Asked → Status → Type 0
IsRefutedRun asked status = status ≡ No → IsRefutation (csp_of asked.problem) (asked_steps asked)

-- No stall: with status 5 nothing was refuted and a message is in transit, and this comes exactly where the run's limit was reached so.
abbrev pub IsUnfinishedRun : Asked → Status → Type 0
IsUnfinishedRun asked status =
    (status ≡ Unfinished) ↔ (IsOpen asked.session.problem (asked_run asked).net × ((asked_run asked).net.deliveries ≡ asked.limit))

-- The bound: no more messages were delivered than the bound of the problem under the order, and fewer with status 5; so a limit at the bound or above is never reached without a verdict.
pub record IsBoundedRun (asked : Asked) (status : Status) : Type 0 where
  pub bounded : (asked_run asked).net.deliveries ≤ message_bound asked.session.problem
  pub unfinished : status ≡ Unfinished → (asked_run asked).net.deliveries < message_bound asked.session.problem
  pub verdict : message_bound asked.session.problem ≤ asked.limit → status ≢ Unfinished

-- the files before and after, where `out` gained these bytes and these names were created
pub record KeepsOrder (asked : Asked) (names : List (List ℕ)) (gained : List ℕ) (files now : List ℕ → Option (List ℕ)) : Type 0 where
  -- the log, once created, holds a first part of its text; else it is as before, or holds no bytes
  pub log_part : HoldsPartOf asked.session.log (log_text (asked_steps asked)) (Contains names asked.session.log) (files asked.session.log) (now asked.session.log)
  -- and so does the record
  pub record_part : IfSome asked.record_file (λ name. HoldsPartOf name (schedule_text (asked_run asked).numbers) (Contains names name) (files name) (now name))
  -- once a byte was put past what tells of the deliveries, both hold their whole texts
  pub answer_last : length (told_text asked.session) < length gained → HoldsRun asked files now
  -- as long as a byte is missing of what tells of the first n deliveries, the log, once created, holds no byte of a step made by a later one
  pub not_ahead : (n : ℕ) → IsShortOf asked.session n gained → Contains names asked.session.log → HoldsAtMost (now asked.session.log) (log_of_first asked.session n)
  -- as soon as a byte is there that tells of a delivery after the first n, the log holds the head and the whole lines of the steps made at the start and by the first n + 1 deliveries
  pub not_behind : (n : ℕ) → IsPast asked.session n gained → HoldsAtLeast (now asked.session.log) (log_of_first asked.session (n + 1))
  pub others : (name : List ℕ) → IsOther asked name → now name ≡ files name

-- The order of writing: whatever the status, `out` gained a first part of its text, and the log and the record keep up with it.
pub record WritesOrdered (asked : Asked) (old new : World) : Type 0 where
  pub names : List (List ℕ)
  pub created : new.folder.created ≡ old.folder.created ++ names
  pub gained : List ℕ
  pub out : Told old.out.written new.out.written (λ before now. now ≡ before ++ gained)
  pub begins : IsPrefixOf gained (whole_text asked)
  pub files : Told old.folder.held new.folder.held (KeepsOrder asked names gained)
