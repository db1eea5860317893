-- What `solve MODEL LOG` promises, with its options.
use Rattle.std.specs.Prelude.{ℕ, List, [], ◌∷◌, Option, IfSome}
use Rattle.dcsp_outside.specs.Outside.{bytes_of}
use Rattle.dcsp_rule.specs.declared.aim.Aim.{Aim}
use Rattle.dcsp_rule.specs.declared.aim.Aim.TheVariants.{Satisfy, Least, Greatest}
use Rattle.dcsp_rule.specs.Problems.{Contents}
use Rattle.dcsp_problem.specs.WellFormed.{IsProblem}
use Rattle.dcsp_script.specs.Promises.{Promise}
use Rattle.abt_input.specs.Inputs.{IsModelOf}
use Rattle.abt_input.specs.Kinds.{a_model}
use Rattle.abt_input.specs.Plans.{Plan, Answer, Read, promise_by, order_then, under_order}
use Rattle.line_replay.specs.Asked.{solve, created_names}
use Rattle.line_replay.specs.Settings.{Settings}
use Rattle.line_replay.specs.ReplayPromise.{run_plan}
use Rattle.line_solve.specs.Searching.{AskedSearch, best_search}
use Rattle.line_solve.specs.BestAnswers.{search_status}
use Rattle.line_solve.specs.SearchScripts.{search_script}

-- the search is made, and tells the best value that was found
abbrev pub search_plan : AskedSearch → Plan
search_plan asked = Answer (search_status asked) (search_script asked)

-- of a problem with this aim, under an order: the run under the seed's choices where it asks for any solution, and the search for the best value where it asks for that
abbrev pub plan_for : Aim → Contents → List ℕ → Settings → Option (List ℕ) → Plan
plan_for Satisfy problem log s order = run_plan (solve order problem log s)
plan_for (Least term) problem log s order = search_plan (best_search order problem log s)
plan_for (Greatest term) problem log s order = search_plan (best_search order problem log s)

-- the model is read, and then the order, where one is given, and what the problem asks for is made
abbrev pub solve_plan : List ℕ → Settings → Plan
solve_plan log s = Read a_model (λ problem. under_order s.order_file problem (plan_for problem.aim problem log s))

-- the line's promise
abbrev pub solve_promise : List ℕ → List ℕ → Settings → Promise
solve_promise model log s = promise_by (model ∷ order_then s.order_file []) (created_names log s.record_file) (solve_plan log s)

-- the problem of the model under the name, where the folder tells it, keeps the limits, and its rules, outputs and aim are over its variables
abbrev pub HoldsWholeProblem : Option (List ℕ → Option (List ℕ)) → List ℕ → Type 0
HoldsWholeProblem files name = IfSome files (λ f. (problem : Contents) → IsModelOf (bytes_of (f name)) problem → IsProblem problem)
