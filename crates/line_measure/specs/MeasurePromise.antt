-- What `measure MODEL SCHEDULE [--order FILE]` and `survey MODEL COUNT [--from SEED] [--order FILE]` promise.
use Rattle.std.specs.Prelude.{ℕ, List, [], ◌∷◌, map, Option}
use Rattle.std.specs.List.{range_with_len}
use Rattle.dcsp_rule.specs.Problems.{Contents, csp_of}
use Rattle.dcsp_script.specs.Scripts.{Write, Put}
use Rattle.abt_network.specs.declared.Standing.{Standing}
use Rattle.abt_network.specs.declared.Standing.TheVariants.{Open, Quiet, Refuted}
use Rattle.dcsp_script.specs.declared.status.Status.{Status}
use Rattle.dcsp_script.specs.declared.status.Status.TheVariants.{Good, Unfinished}
use Rattle.dcsp_script.specs.Promises.{Promise}
use Rattle.abt_input.specs.Kinds.{a_model, a_schedule}
use Rattle.dcsp_order.specs.Told.{ordered}
use Rattle.abt_input.specs.Plans.{Plan, Answer, Read, promise_by, order_then, under_order}
use Rattle.line_measure.specs.Numbers.{listed, numbers_of, seeded}
use Rattle.line_measure.specs.Texts.{measures_text, survey_head, survey_line}

-- the status of a run that ended so
abbrev pub status_at : Standing → Status
status_at Quiet = Good
status_at Refuted = Good
status_at Open = Unfinished

-- the measures of the run of this problem, which is one under the order, are put at once
abbrev pub measure_script : Option (List ℕ) → Contents → List ℕ → List Write
measure_script order p choices = Put (measures_text order (csp_of p) (listed choices)) ∷ []

-- the schedule is read, and the run under its choices is measured
abbrev pub run_plan : Option (List ℕ) → Contents → Plan
run_plan order p = Read a_schedule (λ choices. Answer (status_at (numbers_of (csp_of p) (listed choices)).end) (measure_script order p choices))

-- the same of the problem under this order
abbrev pub measured_under : Contents → Option (List ℕ) → Plan
measured_under p order = run_plan order (ordered order p)

-- the model is read, and the order where one is named, and then the schedule
abbrev pub measure_plan : Option (List ℕ) → Plan
measure_plan order_file = Read a_model (λ p. under_order order_file p (measured_under p))

abbrev pub measure_promise : List ℕ → List ℕ → Option (List ℕ) → Promise
measure_promise model schedule order_file = promise_by (model ∷ order_then order_file (schedule ∷ [])) [] (measure_plan order_file)

-- ---- many seeds

-- the seeds from one on
abbrev pub seeds : ℕ → ℕ → List ℕ
seeds from count = range_with_len from count

-- how the run of a seed ended
abbrev pub end_of_seed : Contents → ℕ → Standing
end_of_seed p seed = (numbers_of (csp_of p) (seeded seed)).end

-- open where one of them is
abbrev pub worse : Standing → Standing → Standing
worse Open next = Open
worse Quiet Open = Open
worse Quiet Quiet = Quiet
worse Quiet Refuted = Quiet
worse Refuted Open = Open
worse Refuted Quiet = Quiet
worse Refuted Refuted = Quiet

-- how the worst of the runs of these seeds ended, and this one
abbrev pub worst : Contents → Standing → List ℕ → Standing
worst p so_far [] = so_far
worst p so_far (seed ∷ seeds) = worst p (worse so_far (end_of_seed p seed)) seeds

-- the line of a seed is put at once
abbrev pub seed_write : Contents → ℕ → Write
seed_write p seed = Put (survey_line seed (numbers_of (csp_of p) (seeded seed)))

-- the names of the columns are put, and then the line of each seed
abbrev pub survey_script : Contents → ℕ → ℕ → List Write
survey_script p from count = Put survey_head ∷ map (seed_write p) (seeds from count)

-- the run of each seed is measured
abbrev pub runs_plan : ℕ → ℕ → Contents → Plan
runs_plan from count p = Answer (status_at (worst p Quiet (seeds from count))) (survey_script p from count)

-- the same of the problem under this order
abbrev pub surveyed_under : ℕ → ℕ → Contents → Option (List ℕ) → Plan
surveyed_under from count p order = runs_plan from count (ordered order p)

-- the model is read, and the order where one is named
abbrev pub survey_plan : ℕ → ℕ → Option (List ℕ) → Plan
survey_plan from count order_file = Read a_model (λ p. under_order order_file p (surveyed_under from count p))

abbrev pub survey_promise : List ℕ → ℕ → ℕ → Option (List ℕ) → Promise
survey_promise model from count order_file = promise_by (model ∷ order_then order_file []) [] (survey_plan from count order_file)
