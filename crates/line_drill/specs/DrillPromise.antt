-- What `drill SEED` promises.
use Rattle.std.specs.Prelude.{ℕ, [], ◌∷◌}
use Rattle.dcsp_rule.specs.Problems.{Contents}
use Rattle.dcsp_script.specs.Scripts.{Put}
use Rattle.ngd_log.specs.Logs.{log_text}
use Rattle.ngd_check.specs.declared.Finding.{Finding}
use Rattle.abt_schedule.specs.Answers.{word_at, generator_of}
use Rattle.dcsp_gen.specs.Problems.{sparse_text, queens_text, pigeons_text}
use Rattle.dcsp_script.specs.Promises.{Promise}
use Rattle.abt_input.specs.Inputs.{IsModelOf}
use Rattle.abt_input.specs.Plans.{Plan, Answer, Find, promise_by}
use Rattle.line_check.specs.Checks.{IsFoundFor}
use Rattle.line_drill.specs.Drills.{run_from, lines_of, status_of}

-- the problems of three generated texts are run, the log of the last run is checked, and four lines tell of it in one put
abbrev pub drill_plan : ℕ → Plan
drill_plan seed =
    Find Contents (IsModelOf (sparse_text 500 (word_at (generator_of seed)))) (λ sparse.
    Find Contents (IsModelOf (queens_text 6)) (λ queens.
    Find Contents (IsModelOf (pigeons_text 5)) (λ pigeons.
    Find Finding (IsFoundFor pigeons (log_text (run_from pigeons seed).net.steps)) (λ finding.
    Answer (status_of seed sparse queens pigeons) (Put (lines_of seed sparse queens pigeons finding) ∷ [])))))

-- the line's promise: nothing is read
abbrev pub drill_promise : ℕ → Promise
drill_promise seed = promise_by [] [] (drill_plan seed)
