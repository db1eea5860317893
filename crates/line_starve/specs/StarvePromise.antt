-- What `starve MODEL FROM TO FILE [--order FILE]` promises.
use Rattle.std.specs.Prelude.{ℕ, ◌-◌, List, [], ◌∷◌, ◌++◌, Option, codes, decimal}
use Rattle.dcsp_rule.specs.Problems.{Contents, csp_of}
use Rattle.dcsp_script.specs.Scripts.{Write, Create, Append, Put}
use Rattle.abt_defs.specs.Runs.{End, Refuted, Solved, Capped, Spent, Run, starved}
use Rattle.abt_schedule.specs.Schedules.{schedule_text}
use Rattle.abt_session.specs.Starving.{starving_choices}
use Rattle.dcsp_script.specs.declared.status.Status.TheVariants.{Good}
use Rattle.dcsp_script.specs.Promises.{Promise}
use Rattle.abt_input.specs.Kinds.{a_model}
use Rattle.dcsp_order.specs.Told.{ordered, place_told}
use Rattle.abt_input.specs.Plans.{Plan, Answer, Read, promise_by, order_then, under_order}

-- the most deliveries of a run that starves a link
abbrev pub most_starved : ℕ
most_starved = 7000000

-- the run of the problem, with at most so many deliveries, that starves the link from one agent to another
unfoldable pub starving_run : Contents → ℕ → ℕ → ℕ → Run
starving_run p from to most = starved (csp_of p) from to most

-- its choices
unfoldable pub choices_of : Contents → ℕ → ℕ → ℕ → List ℕ
choices_of p from to most = starving_choices (csp_of p) from to most

-- how a run ended, in a word
abbrev pub end_word : End → List ℕ
end_word Solved = codes "solved"
end_word Refuted = codes "refuted"
end_word Capped = codes "open"
end_word Spent = codes "open"

-- the line that tells how a run ended and how many deliveries it made, as `starved solved deliveries 6`
abbrev pub starved_line : End → ℕ → List ℕ
starved_line end deliveries = codes "starved " ++ end_word end ++ codes " deliveries " ++ decimal deliveries ++ codes "\n"

-- the file is created, the schedule of the choices goes last under it, at once, and then the run's line is put
abbrev pub starve_script : List ℕ → List ℕ → Run → List Write
starve_script file choices run = Create file ∷ Append file (schedule_text choices) ∷ Put (starved_line run.end run.net.deliveries) ∷ []

-- the run of this problem that starves this link is told
abbrev pub starved_script : List ℕ → Contents → ℕ → ℕ → List Write
starved_script file p from to = starve_script file (choices_of p from to most_starved) (starving_run p from to most_starved)

-- the agent of the variable with this number, which counts from 1
abbrev pub agent_of : Option (List ℕ) → ℕ → ℕ
agent_of order number = place_told order (number - 1)

-- the run of the problem under this order that starves the link between these variables is told
abbrev pub starved_under : ℕ → ℕ → List ℕ → Contents → Option (List ℕ) → Plan
starved_under from to file p order = Answer Good (starved_script file (ordered order p) (agent_of order from) (agent_of order to))

-- the model is read, and the order where one is named, and the run under it is told
abbrev pub starve_plan : ℕ → ℕ → List ℕ → Option (List ℕ) → Plan
starve_plan from to file order_file = Read a_model (λ p. under_order order_file p (starved_under from to file p))

-- the line's promise
abbrev pub starve_promise : List ℕ → ℕ → ℕ → List ℕ → Option (List ℕ) → Promise
starve_promise model from to file order_file = promise_by (model ∷ order_then order_file []) (file ∷ []) (starve_plan from to file order_file)
