-- What `replay MODEL SCHEDULE LOG [--trace] [--order FILE]` promises.
use Rattle.std.specs.Prelude.{ℕ, Bool, List, [], ◌∷◌, Option}
use Rattle.dcsp_rule.specs.Problems.{Contents}
use Rattle.dcsp_script.specs.Promises.{Promise}
use Rattle.abt_input.specs.Kinds.{a_model, a_schedule}
use Rattle.abt_input.specs.Plans.{Plan, Answer, Read, promise_by, order_then, under_order}
use Rattle.line_replay.specs.Endings.{end_status}
use Rattle.line_replay.specs.Asked.{Asked, asked_run, asked_script, replay}

-- a run is made, and tells how it ended
abbrev pub run_plan : Asked → Plan
run_plan asked = Answer (end_status (asked_run asked).end) (asked_script asked)

-- under an order the schedule is read, and the run under its choices is made
abbrev pub choices_plan : List ℕ → Bool → Contents → Option (List ℕ) → Plan
choices_plan log trace problem order = Read a_schedule (λ choices. run_plan (replay order problem choices log trace))

-- the model is read, and then the order, where one is given, and then the schedule
abbrev pub replay_plan : List ℕ → Bool → Option (List ℕ) → Plan
replay_plan log trace order_file = Read a_model (λ problem. under_order order_file problem (choices_plan log trace problem))

-- the line's promise
abbrev pub replay_promise : List ℕ → List ℕ → List ℕ → Bool → Option (List ℕ) → Promise
replay_promise model schedule log trace order_file = promise_by (model ∷ order_then order_file (schedule ∷ [])) (log ∷ []) (replay_plan log trace order_file)
