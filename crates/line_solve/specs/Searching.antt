-- The searches that `solve` makes where a model has an aim: rounds, each of which is a run from the same seed.
use Rattle.std.specs.Prelude.{ℕ, ℤ, zero, suc, ◌+◌, ◌-◌, List, [], ◌∷◌, ◌++◌, length, Option, Some, None, if◌then◌else◌}
use Rattle.dcsp_defs.specs.Words.{sum_below}
use Rattle.dcsp_defs.specs.declared.Step.{Step}
use Rattle.dcsp_rule.specs.Problems.{Contents}
use Rattle.dcsp_problem.specs.WellFormed.{IsProblem}
use Rattle.dcsp_order.specs.Told.{steps_told, IsOrderFor}
use Rattle.abt_defs.specs.Runs as runs
use Rattle.abt_defs.specs.Runs.{Run}
use Rattle.abt_session.specs.Sessions.{Session, run_of}
use Rattle.line_replay.specs.Endings.{final_values}
use Rattle.line_replay.specs.Asked.{set_session}
use Rattle.line_replay.specs.Settings.{Settings}
use Rattle.abt_defs.specs.declared.end.End.{End}
use Rattle.abt_defs.specs.declared.end.End.TheVariants.{Solved, Refuted, Spent, Capped}
use Rattle.abt_optimum.specs.Rounds.{is_done, round_problem, most_rounds}
use Rattle.abt_optimum.specs.Searches.{SearchState, next_better, round_after, values_after}

-- a search that a line asks for
pub record AskedSearch : Type 0 where
  -- the model's problem
  pub problem : Contents
  -- the order of its variables under which each round is run, where that is not the file's own
  pub order : Option (List ℕ)
  -- the name of the log, which each round creates anew
  pub log : List ℕ
  -- how it is made: by halves or not; each round has the choices of the seed anew, and as many; the record is that of the first round; and a trace has a line before each round's
  pub set : Settings

-- this search
abbrev pub best_search : Option (List ℕ) → Contents → List ℕ → Settings → AskedSearch
best_search order p log s = record { problem = p; order = order; log = log; set = s }

-- the problem is within the limits, and the order is one of its variables
pub record IsAskable (asked : AskedSearch) : Type 0 where
  pub problem : IsProblem asked.problem
  pub order : IsOrderFor asked.order asked.problem

-- ---- a round

-- the problem of the round that follows: the whole one, narrowed to what is better than the value that this round is to better
abbrev pub next_problem : AskedSearch → SearchState → Contents
next_problem asked s = round_problem asked.problem (next_better s)

-- the session of that round, whose number is told with its progress
abbrev pub next_session : AskedSearch → SearchState → Session
next_session asked s = set_session asked.order (next_problem asked s) asked.log asked.set (Some (length s.rounds + 1))

-- how a run of the problem ended, with the values where it is solved
abbrev pub end_as : Option (List ℕ) → Contents → Run → runs.End → End (List ℤ)
end_as order p run runs.Solved = Solved (final_values order p run)
end_as order p run runs.Refuted = Refuted
end_as order p run runs.Capped = Capped
end_as order p run runs.Spent = Spent

-- how that round ends
abbrev pub next_end : AskedSearch → SearchState → End (List ℤ)
next_end asked s = end_as asked.order (next_problem asked s) (run_of (next_session asked s)) (run_of (next_session asked s)).end

-- a search after one more round, which ended so
abbrev pub with_round : SearchState → End (List ℤ) → SearchState
with_round s end = record s { rounds = s.rounds ++ round_after s end ∷ []; values = values_after s.values end }

-- a search after the round that follows, if one does
abbrev pub one_more : AskedSearch → SearchState → SearchState
one_more asked s = if is_done s.problem.aim s.rounds then s else with_round s (next_end asked s)

-- ---- all rounds

-- the search after so many rounds, or after all that it has
unfoldable pub search_after : AskedSearch → ℕ → SearchState
search_after asked zero = record { problem = asked.problem; halves = asked.set.halves; rounds = []; values = None }
search_after asked (suc n) = one_more asked (search_after asked n)

-- the whole search
abbrev pub whole_search : AskedSearch → SearchState
whole_search asked = search_after asked (most_rounds asked.problem)

-- how many rounds it has
abbrev pub round_count : AskedSearch → ℕ
round_count asked = length (whole_search asked).rounds

-- the problem of the round with so many before it
abbrev pub problem_after : AskedSearch → ℕ → Contents
problem_after asked n = next_problem asked (search_after asked n)

-- its session
abbrev pub session_after : AskedSearch → ℕ → Session
session_after asked n = next_session asked (search_after asked n)

-- its run
abbrev pub run_after : AskedSearch → ℕ → Run
run_after asked n = run_of (session_after asked n)

-- the steps that it logs
abbrev pub steps_after : AskedSearch → ℕ → List Step
steps_after asked n = steps_told asked.order (run_after asked n).net.steps

-- the run of the first round, which is on the whole problem
abbrev pub first_run : AskedSearch → Run
first_run asked = run_of (set_session asked.order asked.problem asked.log asked.set (Some 1))

-- the run of the last round
abbrev pub last_run : AskedSearch → Run
last_run asked = run_after asked (round_count asked - 1)

-- the steps that it logs
abbrev pub last_steps : AskedSearch → List Step
last_steps asked = steps_after asked (round_count asked - 1)

-- how many deliveries the first rounds make, so many of them
abbrev pub deliveries_in : AskedSearch → ℕ → ℕ
deliveries_in asked n = sum_below (λ k. (run_after asked k).net.deliveries) n
