-- The runs over a medium that loses, repeats and reorders packets: their words, their ends, and what they write.
use Rattle.std.specs.Prelude.{ℕ, ℤ, ◌^◌, List, [], ◌∷◌, ◌++◌, map, length, codes, decimal, Option, if◌then◌else◌}
use Rattle.dcsp_defs.specs.Words.{below}
use Rattle.dcsp_defs.specs.Csp.{Csp}
use Rattle.dcsp_defs.specs.declared.Step.{Step}
use Rattle.dcsp_rule.specs.Problems.{Contents, csp_of}
use Rattle.dcsp_order.specs.Told.{ordered, steps_told}
use Rattle.dcsp_script.specs.Scripts.{Write, Create, Append, Put}
use Rattle.abt_defs.specs.Runs.{End, Refuted, Solved, Capped}
use Rattle.law_runs.specs.Worlds.{World, begin, after}
use Rattle.law_runs.specs.Deliveries.{numbers}
use Rattle.law_runs.specs.LossyEnds.{is_quiet, all_words}
use Rattle.abt_schedule.specs.Answers.{word_at, generator_of}
use Rattle.abt_session.specs.Sessions.{step_writes}
use Rattle.abt_session.specs.Running.{values_of}
use Rattle.line_replay.specs.Endings.{verdict_text, counts_text}
use Rattle.line_replay.specs.Asked.{record_script}

-- a run that a line asks for
pub record Asked : Type 0 where
  -- the model's problem, and the order of its variables under which it is run, where that is not the file's own
  pub problem : Contents
  pub order : Option (List ℕ)
  -- at most so many events come from the seed
  pub events : ℕ
  pub seed : ℕ
  pub log : List ℕ
  -- the name of the record, where one is asked for
  pub record_file : Option (List ℕ)

-- this run
abbrev pub lossy : Option (List ℕ) → Contents → ℕ → ℕ → List ℕ → Option (List ℕ) → Asked
lossy order p events seed log record_file = record { problem = p; order = order; events = events; seed = seed; log = log; record_file = record_file }

-- the problem that is run
abbrev pub run_problem : Asked → Csp
run_problem asked = csp_of (ordered asked.order asked.problem)

-- ---- events

-- the most calm events
abbrev pub most_calm : ℕ
most_calm = 2 ^ 40

-- the first words of a seed, so many of them
abbrev pub seeded_words : ℕ → ℕ → List ℕ
seeded_words seed n = map (word_at (generator_of seed)) (below n)

-- the words of all events: those given, until a verdict stands, and then at most so many calm ones
unfoldable pub words_of : Csp → List ℕ → ℕ → List ℕ
words_of p given most = all_words p given most

-- the words of the run
abbrev pub run_words : Asked → List ℕ
run_words asked = words_of (run_problem asked) (seeded_words asked.seed asked.events) most_calm

-- the world that they lead to
abbrev pub run_world : Asked → World
run_world asked = after (run_problem asked) (run_words asked) (begin (run_problem asked))

-- the numbers of all that was handed up
abbrev pub run_numbers : Asked → List ℕ
run_numbers asked = numbers (run_problem asked) (run_words asked) (begin (run_problem asked))

-- the steps that it logs, in the model's own numbers
abbrev pub run_steps : Asked → List Step
run_steps asked = steps_told asked.order (run_world asked).network.steps

-- ---- ends

-- how a run ends with this world; where no verdict stands all events were made
abbrev pub end_of : Csp → World → End
end_of p w = if w.network.refuted then Refuted else (if is_quiet p w then Solved else Capped)

-- the values of all variables of a model's problem in a world of its run under an order, the first variable's first
abbrev pub world_values : Option (List ℕ) → Contents → World → List ℤ
world_values order p w = values_of order (csp_of (ordered order p)) w.network

-- the line that tells how many events were made
abbrev pub events_text : ℕ → List ℕ
events_text events = codes "% events " ++ decimal events ++ codes "\n"

-- the lines of a world after so many events
abbrev pub world_text : Option (List ℕ) → Contents → World → ℕ → List ℕ
world_text order p w events =
    (verdict_text p (world_values order p w) (end_of (csp_of (ordered order p)) w) ++ counts_text w.network.deliveries (length w.network.steps)) ++ events_text events

-- all that is put when the run has ended
abbrev pub answer_text : Asked → List ℕ
answer_text asked = world_text asked.order asked.problem (run_world asked) (length (run_words asked))

-- ---- writes

-- the log of these steps is created and begun, each step is appended by itself, and the log ends
abbrev pub log_script : List ℕ → List Step → List Write
log_script log steps = Create log ∷ Append log (codes "ngd 1\n") ∷ (step_writes log 1 steps ++ Append log (codes "end\n") ∷ [])

-- the run writes its log, then comes the record of what was handed up, and the answer is put last
abbrev pub asked_script : Asked → List Write
asked_script asked =
    log_script asked.log (run_steps asked) ++ (record_script asked.record_file (run_numbers asked) ++ Put (answer_text asked) ∷ [])
