-- What the record of a run is.
use Rattle.std.specs.Prelude.{◌≡◌, ℕ, ◌≤◌, Bool, List, [], ◌∷◌, ◌++◌, length, Option, Some, None, IfSome}
use Rattle.dcsp_outside.specs.Outside.{Told, bytes_of}
use Rattle.dcsp_rule.specs.Problems.{Contents}
use Rattle.dcsp_problem.specs.WellFormed.{IsProblem}
use Rattle.dcsp_order.specs.Told.{IsOrderFor}
use Rattle.dcsp_script.specs.Scripts.{Write, Put, FilesAfter}
use Rattle.abt_defs.specs.Runs.{Run}
use Rattle.law_runs.specs.Replay.{Repeats}
use Rattle.abt_schedule.specs.Schedules.{schedule_text, IsScheduleOf}
use Rattle.abt_session.specs.Sessions.{run_of}
use Rattle.abt_input.specs.Inputs.{most_schedule, HasChoices, IsModelOf, IsOrderIn}
use Rattle.line_replay.specs.Asked.{asked_run, most_deliveries, record_script, replay, set_session}
use Rattle.line_replay.specs.Settings.{Settings}

-- the text is the record of a run of this problem under this order
pub record IsRecordOf (order : Option (List ℕ)) (p : Contents) (run : Run) (text : List ℕ) : Type 0 where
  -- it is the schedule of the run's numbers, one for each delivery
  pub schedule : IsScheduleOf text run.numbers
  pub counted : length run.numbers ≡ run.net.deliveries
  -- where it is not too long for `replay`, that reads these choices, and no other ones
  pub read : length text ≤ most_schedule → HasChoices text run.numbers
  pub alone : (choices : List ℕ) → HasChoices text choices → choices ≡ run.numbers
  -- and makes this run again under the same order, whatever its log and its trace
  pub replayed : (log : List ℕ) (trace : Bool) → Repeats run (asked_run (replay order p run.numbers log trace))

-- A run from a seed, or a round of a search on the whole problem, has the schedule of its numbers as its record.
abbrev pub RecordsAreSchedules : Contents → Settings → Type 0
RecordsAreSchedules p s =
    IsProblem p → s.choices ≤ most_deliveries → (order : Option (List ℕ)) → IsOrderFor order p → (log : List ℕ) (round : Option ℕ)
    → let run = run_of (set_session order p log s round) in IsRecordOf order p run (schedule_text run.numbers)

-- Where a script writes the record of these numbers and then puts its answer, and all of that was done, the record's file holds their schedule.
abbrev pub RecordsAreWhole : Type 0
RecordsAreWhole =
    (name numbers answer : List ℕ) (before : List Write) (files now : List ℕ → Option (List ℕ))
    → FilesAfter (before ++ (record_script (Some name) numbers ++ Put answer ∷ [])) files now → now name ≡ Some (schedule_text numbers)

-- the run whose numbers are recorded: that from the seed, of a search that of its first round
abbrev pub recorded_run : Option (List ℕ) → Contents → List ℕ → Settings → Run
recorded_run order p log s = run_of (set_session order p log s None)

-- the file holds the record of this run, whole
pub record HasRecord (order : Option (List ℕ)) (p : Contents) (run : Run) (file : Option (List ℕ)) : Type 0 where
  pub written : file ≡ Some (schedule_text run.numbers)
  pub is_record : IsRecordOf order p run (schedule_text run.numbers)

-- of the model under the name, and the order that is named, the file holds the record of the run that is set so
abbrev pub EachRecord : List ℕ → List ℕ → Settings → (List ℕ → Option (List ℕ)) → Option (List ℕ) → Type 0
EachRecord model_name log s files file =
    (problem : Contents) → IsModelOf (bytes_of (files model_name)) problem → (order : Option (List ℕ)) → IsOrderIn files s.order_file problem order → HasRecord order problem (recorded_run order problem log s) file

-- Where the folder tells its files, and a record is asked for, the file under its name holds that.
abbrev pub HoldsRecord : List ℕ → List ℕ → Settings → Option (List ℕ → Option (List ℕ)) → Option (List ℕ → Option (List ℕ)) → Type 0
HoldsRecord model_name log s files now =
    Told files now (λ before after. IfSome s.record_file (λ name. EachRecord model_name log s before (after name)))
