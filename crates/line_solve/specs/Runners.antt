-- A search on its way, and what its code tells of it.
use Rattle.std.specs.Prelude.{◌≡◌, ℕ, zero, suc, Bool, List, [], ◌++◌, length, Some, None, is_some, ⊤}
use Rattle.dcsp_rule.specs.Problems.{Contents}
use Rattle.law_runs.specs.Replay.{Verdicts}
use Rattle.abt_session.specs.Sessions.{Session, run_of}
use Rattle.abt_session.specs.Running.{kept, Gives}
use Rattle.abt_session.specs.declared.outcome.Outcome.{Outcome}
use Rattle.line_replay.specs.Endings.{counts_text}
use Rattle.abt_optimum.specs.declared.best.BestEnd.{BestEnd}
use Rattle.abt_optimum.specs.declared.best.BestEnd.TheVariants.{Optimal, NoSolution, Open}
use Rattle.line_solve.specs.Searching.{AskedSearch, search_after, run_after, first_run, deliveries_in}
use Rattle.line_solve.specs.BestAnswers.{best_text, rounds_text}
use Rattle.line_solve.specs.declared.answer.Searched.{Searched}
use Rattle.line_solve.specs.declared.runner.SearchRunner.{SearchRunner}

-- what the run of a round gives, and that it is right
pub record Tells (s : Session) (outcome : Outcome) : Type 0 where
  pub gives : Gives s outcome
  pub right : Verdicts s.problem s.most (run_of s)

-- no round of this problem's search has ended, which is by halves or not
pub record IsFresh (p : Contents) (halves : Bool) (r : SearchRunner) : Type 0 where
  pub search : r.search ≡ record { problem = p; halves = halves; rounds = []; values = None }
  pub rounds : r.rounds ≡ 0
  pub deliveries : r.deliveries ≡ 0
  pub steps : r.steps ≡ 0
  pub taken : r.taken ≡ []

-- the numbers that are taken down: those of the first round, where a record is asked for
abbrev pub taken_after : Bool → ℕ → List ℕ → List ℕ
taken_after keep zero numbers = []
taken_after keep (suc n) numbers = kept keep numbers

-- how many steps the last of so many rounds makes
abbrev pub steps_of_last : AskedSearch → ℕ → ℕ
steps_of_last asked zero = 0
steps_of_last asked (suc n) = length (run_after asked n).net.steps

-- the first rounds of the search have ended, so many of them, and were counted and taken down
pub record HasMade (asked : AskedSearch) (n : ℕ) (r : SearchRunner) : Type 0 where
  pub search : r.search ≡ search_after asked n
  pub many : length r.search.rounds ≡ n
  pub rounds : r.rounds ≡ n
  pub deliveries : r.deliveries ≡ deliveries_in asked n
  pub steps : r.steps ≡ steps_of_last asked n
  pub taken : r.taken ≡ taken_after (is_some asked.set.record_file) n (first_run asked).numbers

-- the lines of what was found, and its counts
abbrev pub searched_text : Bool → Contents → Searched → List ℕ
searched_text each p searched = best_text each p searched.best.end ++ (rounds_text searched.best.rounds ++ counts_text searched.deliveries searched.steps)

-- where a solution was found it gives a value for each variable
abbrev pub HasBestValues : Contents → BestEnd → Type 0
HasBestValues p (Optimal values) = length values ≡ length p.domains
HasBestValues p NoSolution = ⊤
HasBestValues p (Open None) = ⊤
HasBestValues p (Open (Some values)) = length values ≡ length p.domains
