-- What a run over the medium means to a user.
use Rattle.std.specs.Prelude.{◌≡◌, ◌≢◌, ◌↔◌, ℕ, ◌+◌, ◌*◌, ◌<◌, ◌≤◌, Bool, false, true, List, length, Option, Some, IfSome}
use Rattle.dcsp_outside.specs.Outside.{Told, bytes_of}
use Rattle.dcsp_defs.specs.Csp.{IsSolution, HasNoSolution}
use Rattle.dcsp_defs.specs.Derivation.{IsRefutation}
use Rattle.dcsp_rule.specs.Problems.{Contents, csp_of}
use Rattle.dcsp_problem.specs.WellFormed.{IsProblem}
use Rattle.dcsp_order.specs.Told.{ordered, IsOrderFor}
use Rattle.dcsp_script.specs.Scripts.{World, put_by, FilesAfter}
use Rattle.dcsp_script.specs.Ways.{DidPartOf}
use Rattle.ngd_log.specs.Logs.{log_text}
use Rattle.abt_schedule.specs.Schedules.{schedule_text, IsScheduleOf}
use Rattle.abt_defs.specs.Bound.{message_bound}
use Rattle.abt_defs.specs.Runs.{whole}
use Rattle.law_runs.specs.LossyEnds.{is_quiet, has_verdict}
use Rattle.law_runs.specs.LossyRuns.{IsWholeRun}
use Rattle.abt_input.specs.Inputs.{most_schedule, HasChoices, IsModelOf, IsOrderIn}
use Rattle.dcsp_script.specs.declared.status.Status.{Status}
use Rattle.dcsp_script.specs.declared.status.Status.TheVariants.{Good, No, Unfinished}
use Rattle.line_replay.specs.Asked.{asked_run, most_deliveries, replay}
use Rattle.line_replay.specs.Endings.{assigned, end_status}
use Rattle.line_lossy.specs.Asked.{Asked, lossy, run_problem, run_words, run_world, run_numbers, run_steps, end_of, world_values, most_calm, answer_text, asked_script}

-- Status 1 comes exactly where the world is refuted; the steps that were logged are a refutation then, and no assignment is a solution.
pub record IsRefutedRun (asked : Asked) (status : Status) : Type 0 where
  pub exactly : (status ≡ No) ↔ ((run_world asked).network.refuted ≡ true)
  pub refutation : status ≡ No → IsRefutation (csp_of asked.problem) (run_steps asked)
  pub no_solution : status ≡ No → HasNoSolution (csp_of asked.problem)

-- Status 0 comes exactly where every message that was sent was handed up and nothing is refuted; the values that were printed are a solution then.
pub record IsSolvedRun (asked : Asked) (status : Status) : Type 0 where
  pub exactly : (status ≡ Good) ↔ ((is_quiet (run_problem asked) (run_world asked) ≡ true) × ((run_world asked).network.refuted ≡ false))
  pub solution : status ≡ Good → IsSolution (csp_of asked.problem) (assigned (world_values asked.order asked.problem (run_world asked)))

-- Status 5 comes exactly where no verdict stands after all events of the seed and the most calm ones.
pub record IsUnfinishedRun (asked : Asked) (status : Status) : Type 0 where
  pub exactly : (status ≡ Unfinished) ↔ (has_verdict (run_problem asked) (run_world asked) ≡ false)
  pub all_made : status ≡ Unfinished → length (run_words asked) ≡ asked.events + most_calm
  -- it does not come where the calm budget, two for each event of the seed and three for each message of the bound, is within the most
  pub budget : 2 * asked.events + 3 * message_bound (run_problem asked) ≤ most_calm → status ≢ Unfinished

-- The counts: at most the bound's messages are handed up, and a verdict stands within the calm budget after the events of the seed.
pub record IsBoundedRun (asked : Asked) : Type 0 where
  pub deliveries : (run_world asked).network.deliveries ≤ message_bound (run_problem asked)
  pub numbered : length (run_numbers asked) ≡ (run_world asked).network.deliveries
  pub events : length (run_words asked) ≤ asked.events + (2 * asked.events + 3 * message_bound (run_problem asked))

-- Reliable links: the run under the record's numbers, of which at most so many may be used, has the same values and steps and the same end, and leaves none.
abbrev pub IsReliableRun : Asked → Type 0
IsReliableRun asked = (most : ℕ) → length (run_numbers asked) ≤ most → IsWholeRun (run_problem asked) most (run_numbers asked) (run_world asked) (whole (run_problem asked) most (run_numbers asked))

-- The record: the schedule of the numbers of all that was handed up.
pub record IsRecorded (asked : Asked) (text : List ℕ) : Type 0 where
  pub schedule : IsScheduleOf text (run_numbers asked)
  -- where it is not too long for `replay`, that reads these choices, and no other ones
  pub read : length text ≤ most_schedule → HasChoices text (run_numbers asked)
  pub alone : (choices : List ℕ) → HasChoices text choices → choices ≡ run_numbers asked
  -- and makes the world's run over reliable links of it, under the same order, whatever its log and its trace
  pub replayed : length text ≤ most_schedule → (log : List ℕ) (trace : Bool)
      → IsWholeRun (run_problem asked) most_deliveries (run_numbers asked) (run_world asked) (asked_run (replay asked.order asked.problem (run_numbers asked) log trace))

-- a run with this status
pub record IsLossyRun (asked : Asked) (status : Status) : Type 0 where
  pub status_is : status ≡ end_status (end_of (run_problem asked) (run_world asked))
  pub refuted : IsRefutedRun asked status
  pub solved : IsSolvedRun asked status
  pub unfinished : IsUnfinishedRun asked status
  pub bounded : IsBoundedRun asked
  pub reliable : IsReliableRun asked
  pub recorded : IsRecorded asked (schedule_text (run_numbers asked))

-- it is so of every run of a problem within the limits, under any order of its variables, that ends with the status of its report
abbrev pub RunsAreRight : Type 0
RunsAreRight =
    (p : Contents) (order : Option (List ℕ)) (events seed : ℕ) (log : List ℕ) (record_file : Option (List ℕ)) → IsProblem p → IsOrderFor order p → (status : Status)
    → status ≡ end_status (end_of (csp_of (ordered order p)) (run_world (lossy order p events seed log record_file))) → IsLossyRun (lossy order p events seed log record_file) status

-- the run of the model under the name, and under the order that is named, where the folder tells both, has this status
abbrev pub HoldsLossyRun : Option (List ℕ → Option (List ℕ)) → List ℕ → Option (List ℕ) → ℕ → ℕ → List ℕ → Option (List ℕ) → Status → Type 0
HoldsLossyRun files name order_name events seed log record_file status =
    IfSome files (λ f. (problem : Contents) (order : Option (List ℕ)) → IsModelOf (bytes_of (f name)) problem → IsOrderIn f order_name problem order
    → IsLossyRun (lossy order problem events seed log record_file) status)

-- ---- what is written

-- the files before and after the whole run: the log is that of its derivation, the record that of its numbers, and every other name is as before
pub record HoldsFiles (asked : Asked) (files now : List ℕ → Option (List ℕ)) : Type 0 where
  pub log : now asked.log ≡ Some (log_text (run_steps asked))
  pub recorded : IfSome asked.record_file (λ name. now name ≡ Some (schedule_text (run_numbers asked)))
  pub others : (name : List ℕ) → name ≢ asked.log → IfSome asked.record_file (λ record_name. name ≢ record_name) → now name ≡ files name

-- It is so behind the whole script, where the record does not have the log's name.
abbrev pub FilesAreWhole : Type 0
FilesAreWhole = (asked : Asked) → IfSome asked.record_file (λ record_name. record_name ≢ asked.log) → (files now : List ℕ → Option (List ℕ)) → FilesAfter (asked_script asked) files now → HoldsFiles asked files now

-- All that the script puts is the answer.
abbrev pub AnswersArePut : Type 0
AnswersArePut = (asked : Asked) → put_by (asked_script asked) ≡ answer_text asked

-- Once a byte was put, the log was written whole, and so was the record, where it does not have the log's name.
abbrev pub AnswersComeLast : Type 0
AnswersComeLast = (asked : Asked) → IfSome asked.record_file (λ record_name. record_name ≢ asked.log) → (old new : World) → DidPartOf (asked_script asked) old new
    → Told old.out.written new.out.written (λ before now. length before < length now → Told old.folder.held new.folder.held (HoldsFiles asked))
