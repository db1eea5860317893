-- What a run that starves a link means to a user.
use Rattle.std.specs.Prelude.{◌≡◌, ◌≢◌, ◌≤◌, ℕ, Bool, List, ◌++◌, Option, Some, IfSome}
use Rattle.dcsp_outside.specs.Outside.{Told, bytes_of}
use Rattle.dcsp_rule.specs.Problems.{Contents, csp_of}
use Rattle.abt_defs.specs.Bound.{message_bound}
use Rattle.abt_schedule.specs.Schedules.{schedule_text}
use Rattle.law_runs.specs.Replay.{Repeats}
use Rattle.dcsp_order.specs.Told.{ordered}
use Rattle.abt_input.specs.Inputs.{IsModelOf, HasChoices, IsOrderIn}
use Rattle.line_replay.specs.Asked.{asked_run, replay}
use Rattle.line_starve.specs.StarvePromise.{most_starved, starving_run, choices_of, starved_line, agent_of}

-- a replay of the choices of the run under this order, under the same order and whatever its log and its trace, is that run again, with the same network and so the same deliveries, no choice left, and the same end, or used up where the run was cut off
abbrev pub IsReplayed : Option (List ℕ) → Contents → ℕ → ℕ → ℕ → Type 0
IsReplayed order p from to most =
    (log : List ℕ) (trace : Bool) → Repeats (starving_run (ordered order p) from to most) (asked_run (replay order p (choices_of (ordered order p) from to most) log trace))

-- the line that tells the run
abbrev pub line_of_run : Contents → ℕ → ℕ → List ℕ
line_of_run p from to = starved_line (starving_run p from to most_starved).end (starving_run p from to most_starved).net.deliveries

-- the files before and after the run of this problem, under this order, that starves the link between these agents
pub record WritesStarved (order : Option (List ℕ)) (p : Contents) (from to : ℕ) (file : List ℕ) (files now : List ℕ → Option (List ℕ)) : Type 0 where
  -- the file holds the schedule of the run's choices, whole
  pub written : now file ≡ Some (schedule_text (choices_of (ordered order p) from to most_starved))
  pub others : (name : List ℕ) → name ≢ file → now name ≡ files name
  -- it is short enough for a replay, which reads these choices
  pub schedule : HasChoices (schedule_text (choices_of (ordered order p) from to most_starved)) (choices_of (ordered order p) from to most_starved)
  -- and makes this run again
  pub replayed : IsReplayed order p from to most_starved
  pub bound : (starving_run (ordered order p) from to most_starved).net.deliveries ≤ message_bound (csp_of (ordered order p))

-- this holds of each run that the line asks for: of the problem under the order, with the link between the agents of the two variables
abbrev pub EachStarved : List ℕ → ℕ → ℕ → Option (List ℕ) → (List ℕ → Option (List ℕ)) → (Option (List ℕ) → Contents → ℕ → ℕ → Type 0) → Type 0
EachStarved model_name from to order_file files P =
    (problem : Contents) → IsModelOf (bytes_of (files model_name)) problem → (order : Option (List ℕ)) → IsOrderIn files order_file problem order → P order problem (agent_of order from) (agent_of order to)

-- Where the folder tells its files, and the model under the name has a problem, its starved run was written.
abbrev pub HoldsStarved : List ℕ → ℕ → ℕ → List ℕ → Option (List ℕ) → Option (List ℕ → Option (List ℕ)) → Option (List ℕ → Option (List ℕ)) → Type 0
HoldsStarved model_name from to file order_file files now =
    Told files now (λ before after. EachStarved model_name from to order_file before (λ order p a b. WritesStarved order p a b file before after))

-- Where the folder tells its files and the sink what was written, and the model under the name has a problem, the line of its starved run was put.
abbrev pub TellsStarved : List ℕ → ℕ → ℕ → Option (List ℕ) → Option (List ℕ → Option (List ℕ)) → Option (List ℕ) → Option (List ℕ) → Type 0
TellsStarved model_name from to order_file files before now =
    IfSome files (λ f. EachStarved model_name from to order_file f (λ order p a b. Told before now (λ old new. new ≡ old ++ line_of_run (ordered order p) a b)))
