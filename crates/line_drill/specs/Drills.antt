-- What a drill runs, and what it tells of that.
use Rattle.std.specs.Prelude.{◌≡◌, ℕ, Bool, true, false, ◌||◌, List, ◌++◌, length, codes, decimal, if◌then◌else◌, Some, None}
use Rattle.std.specs.FinMap as map
use Rattle.dcsp_outside.specs.Memory.{Files}
use Rattle.dcsp_rule.specs.Problems.{Contents}
use Rattle.ngd_log.specs.Logs.{log_text}
use Rattle.ngd_check.specs.declared.Finding.{Finding}
use Rattle.abt_defs.specs.Runs.{Run, End, Refuted, Solved, Capped, Spent}
use Rattle.abt_schedule.specs.Answers.{word_at, generator_of}
use Rattle.abt_session.specs.Sessions.{run_of}
use Rattle.dcsp_gen.specs.Problems.{sparse_text, queens_text, pigeons_text}
use Rattle.dcsp_script.specs.declared.status.Status.{Status}
use Rattle.dcsp_script.specs.declared.status.Status.TheVariants.{Good, Unfinished}
use Rattle.abt_input.specs.Inputs.{IsModelOf}
use Rattle.line_check.specs.Checks.{IsFoundFor, finding_text}
use Rattle.line_replay.specs.Asked.{seeded_session}

-- the text is the model of a problem
abbrev pub HasProblem : List ℕ → Type 0
HasProblem text = (p : Contents) × IsModelOf text p

-- the name of the log of each run
abbrev pub log_name : List ℕ
log_name = codes "drill"

-- the files hold a log, under the name of a run's, and something is found of it for the problem
abbrev pub HasFinding : Contents → Files → Type 0
HasFinding p files = (log : List ℕ) × (map.get files log_name ≡ Some log) × (finding : Finding) × IsFoundFor p log finding

-- the run of a problem under the choices of a seed, as `solve` makes it
abbrev pub run_from : Contents → ℕ → Run
run_from p seed = run_of (seeded_session None p seed log_name false)

-- the problem of a sparse graph of 500 nodes, that of 6 queens and that of 5 pigeons, and what is found of the log of the run of the last
pub record Drill (seed : ℕ) : Type 0 where
  pub sparse : Contents
  pub queens : Contents
  pub pigeons : Contents
  pub finding : Finding
  pub sparse_is : IsModelOf (sparse_text 500 (word_at (generator_of seed))) sparse
  pub queens_is : IsModelOf (queens_text 6) queens
  pub pigeons_is : IsModelOf (pigeons_text 5) pigeons
  pub found : IsFoundFor pigeons (log_text (run_from pigeons seed).net.steps) finding

-- the word for an end
abbrev pub end_word : End → List ℕ
end_word Solved = codes "solved"
end_word Refuted = codes "refuted"
end_word Capped = codes "unfinished"
end_word Spent = codes "unfinished"

-- how a run of the problem of this name ended, after how many deliveries
abbrev pub run_text : List ℕ → Run → List ℕ
run_text name run = name ++ end_word run.end ++ codes " deliveries " ++ decimal run.net.deliveries

-- the four lines on the runs of these problems, and on the finding
abbrev pub lines_of : ℕ → Contents → Contents → Contents → Finding → List ℕ
lines_of seed sparse queens pigeons finding =
    run_text (codes "sparse 500 ") (run_from sparse seed) ++ codes "\n"
    ++ run_text (codes "queens 6 ") (run_from queens seed) ++ codes "\n"
    ++ run_text (codes "pigeons 5 ") (run_from pigeons seed) ++ codes " steps " ++ decimal (length (run_from pigeons seed).net.steps) ++ codes "\n"
    ++ codes "pigeons 5 " ++ finding_text finding

-- the four lines of a drill
abbrev pub drill_text : (seed : ℕ) → Drill seed → List ℕ
drill_text seed d = lines_of seed d.sparse d.queens d.pigeons d.finding

-- whether a run ended without a verdict
abbrev pub is_unfinished : End → Bool
is_unfinished Solved = false
is_unfinished Refuted = false
is_unfinished Capped = true
is_unfinished Spent = true

-- three runs are unfinished where one of them is
abbrev pub status_of : ℕ → Contents → Contents → Contents → Status
status_of seed sparse queens pigeons =
    if is_unfinished (run_from sparse seed).end || is_unfinished (run_from queens seed).end || is_unfinished (run_from pigeons seed).end then Unfinished else Good

-- the status of a drill
abbrev pub drill_status : (seed : ℕ) → Drill seed → Status
drill_status seed d = status_of seed d.sparse d.queens d.pigeons
