-- What `lossy MODEL LOG EVENTS SEED [--record FILE] [--order FILE]` promises.
use Rattle.std.specs.Prelude.{ℕ, List, [], ◌∷◌, Option}
use Rattle.dcsp_rule.specs.Problems.{Contents}
use Rattle.dcsp_script.specs.Promises.{Promise}
use Rattle.abt_input.specs.Kinds.{a_model}
use Rattle.abt_input.specs.Plans.{Plan, Answer, Read, order_then, promise_by, under_order}
use Rattle.line_replay.specs.Endings.{end_status}
use Rattle.line_replay.specs.Asked.{created_names}
use Rattle.line_lossy.specs.Asked.{Asked, lossy, run_problem, run_world, end_of, asked_script}

-- the run over the medium is made, and tells how it ended
abbrev pub run_plan : Asked → Plan
run_plan asked = Answer (end_status (end_of (run_problem asked) (run_world asked))) (asked_script asked)

-- the run of this problem under an order is made
abbrev pub ordered_plan : List ℕ → ℕ → ℕ → Option (List ℕ) → Contents → Option (List ℕ) → Plan
ordered_plan log events seed record_file problem order = run_plan (lossy order problem events seed log record_file)

-- the model is read, and then the order, where one is named, and the run of its problem is made
abbrev pub lossy_plan : List ℕ → ℕ → ℕ → Option (List ℕ) → Option (List ℕ) → Plan
lossy_plan log events seed record_file order_file = Read a_model (λ problem. under_order order_file problem (ordered_plan log events seed record_file problem))

-- the line's promise
abbrev pub lossy_promise : List ℕ → Option (List ℕ) → List ℕ → ℕ → ℕ → Option (List ℕ) → Promise
lossy_promise model order_file log events seed record_file = promise_by (model ∷ order_then order_file []) (created_names log record_file) (lossy_plan log events seed record_file order_file)
