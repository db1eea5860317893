-- The runs that the program makes: by the choices of a schedule, or by those of a seed.
use Rattle.std.specs.Prelude.{ℕ, ◌-◌, ◌^◌, ◌≤◌, Bool, false, List, [], ◌∷◌, ◌++◌, length, slice_get, Option, Some, None}
use Rattle.dcsp_defs.specs.declared.Step.{Step}
use Rattle.dcsp_rule.specs.Problems.{Contents}
use Rattle.dcsp_order.specs.Told.{ordered, steps_told}
use Rattle.dcsp_script.specs.Scripts.{Write, Create, Append, Put}
use Rattle.abt_defs.specs.Runs.{Run}
use Rattle.law_runs.specs.Replay.{Repeats}
use Rattle.abt_schedule.specs.Answers.{word_at, generator_of}
use Rattle.abt_schedule.specs.Schedules.{schedule_text}
use Rattle.abt_session.specs.Sessions.{Session, run_of, run_script}
use Rattle.abt_session.specs.Running.{session_of, trace_told}
use Rattle.dcsp_script.specs.Promises.{Report, answered}
use Rattle.line_replay.specs.Endings.{end_status, ending_text, unused_text}
use Rattle.line_replay.specs.Settings.{Settings, telling_of}

-- the most deliveries of a run
abbrev pub most_deliveries : ℕ
most_deliveries = 2 ^ 40

-- a run that a line asks for
pub record Asked : Type 0 where
  -- the model's problem, of which the run is that under the session's order
  pub problem : Contents
  pub session : Session
  -- the name of the record, where one is asked for
  pub record_file : Option (List ℕ)
  -- after so many deliveries it is over, with or without a verdict
  pub limit : ℕ
  -- how many choices it leaves, where that is told
  pub unused : Option ℕ

-- the run that is asked for
abbrev pub asked_run : Asked → Run
asked_run asked = run_of asked.session

-- the steps that it logs
abbrev pub asked_steps : Asked → List Step
asked_steps asked = steps_told asked.session.order (asked_run asked).net.steps

-- the session under an order and the choices of a list
abbrev pub listed_session : Option (List ℕ) → Contents → List ℕ → List ℕ → Bool → Session
listed_session order p choices log trace = session_of order (ordered order p) most_deliveries (λ k. slice_get choices k) log (trace_told trace)

-- the session under an order and the choices of a seed
abbrev pub seeded_session : Option (List ℕ) → Contents → ℕ → List ℕ → Bool → Session
seeded_session order p seed log trace = session_of order (ordered order p) most_deliveries (λ k. Some (word_at (generator_of seed) k)) log (trace_told trace)

-- the session under an order and so many first choices of a seed, all as it is set; it may be the round of a search with this number
abbrev pub set_session : Option (List ℕ) → Contents → List ℕ → Settings → Option ℕ → Session
set_session order p log s round = session_of order (ordered order p) s.choices (λ k. Some (word_at (generator_of s.seed) k)) log (telling_of s round)

-- a seed alone is set: there are as many choices as a run may have deliveries, and nothing else is asked for
abbrev pub seed_alone : ℕ → Settings
seed_alone seed = record { seed = seed; choices = most_deliveries; record_file = None; order_file = None; trace = false; progress = false; each = false; halves = false }

-- how many of the choices a run leaves
abbrev pub left_over : List ℕ → Run → ℕ
left_over choices run = length choices - run.net.deliveries

-- a replay of these choices under an order
abbrev pub replay : Option (List ℕ) → Contents → List ℕ → List ℕ → Bool → Asked
replay order p choices log trace = record {
  problem = p;
  session = listed_session order p choices log trace;
  record_file = None;
  limit = length choices;
  unused = Some (left_over choices (run_of (listed_session order p choices log trace)));
}

-- a run under an order from a seed, all as it is set
abbrev pub solve : Option (List ℕ) → Contents → List ℕ → Settings → Asked
solve order p log s = record { problem = p; session = set_session order p log s None; record_file = s.record_file; limit = s.choices; unused = None }

-- all that is put when the run has ended
abbrev pub answer_text : Asked → List ℕ
answer_text asked = ending_text asked.session.order asked.problem (asked_run asked) ++ unused_text asked.unused

-- the record of these numbers, where one is asked for: it is created, and its text is appended at once
abbrev pub record_script : Option (List ℕ) → List ℕ → List Write
record_script None numbers = []
record_script (Some name) numbers = Create name ∷ Append name (schedule_text numbers) ∷ []

-- the run writes its log and what tells of its deliveries, then comes the record, and the answer is put last
abbrev pub asked_script : Asked → List Write
asked_script asked = run_script asked.session ++ (record_script asked.record_file (asked_run asked).numbers ++ Put (answer_text asked) ∷ [])

-- the names that a run creates: its log, and its record where one is asked for
abbrev pub created_names : List ℕ → Option (List ℕ) → List (List ℕ)
created_names log None = log ∷ []
created_names log (Some name) = log ∷ name ∷ []

-- what is reported of the run
abbrev pub run_report : Asked → Report
run_report asked = answered (end_status (asked_run asked).end) (asked_script asked)

-- A run from a seed and a replay of its numbers under the same order are one run, whatever their logs and traces.
abbrev pub IsReplayed : Contents → Settings → Type 0
IsReplayed p s =
    s.choices ≤ most_deliveries → (order : Option (List ℕ)) (log again : List ℕ) (told : Bool)
    → let first = run_of (set_session order p log s None) in Repeats first (run_of (listed_session order p first.numbers again told))
