-- What is told of what a run gave.
use Rattle.std.specs.Prelude.{ℕ, ℤ, Bool, ◌||◌, List, ◌++◌, codes, decimal, if◌then◌else◌}
use Rattle.abt_defs.specs.declared.end.End.{End}
use Rattle.abt_session.specs.Ends.{end_of}
use Rattle.abt_session.specs.declared.outcome.Outcome.{Outcome}
use Rattle.ngd_check.specs.declared.Finding.{Finding}
use Rattle.line_check.specs.Checks.{finding_text}
use Rattle.dcsp_script.specs.declared.status.Status.{Status}
use Rattle.dcsp_script.specs.declared.status.Status.TheVariants.{Good, Unfinished}
use Rattle.line_drill.specs.Drills.{end_word, is_unfinished}

-- the word for an end
abbrev pub outcome_word : End (List ℤ) → List ℕ
outcome_word end = end_word (end_of end)

-- how a run of the problem of this name ended
abbrev pub outcome_text : List ℕ → Outcome → List ℕ
outcome_text name outcome = name ++ outcome_word outcome.end ++ codes " deliveries " ++ decimal outcome.deliveries

-- whether a run ended without a verdict
abbrev pub is_open_end : End (List ℤ) → Bool
is_open_end end = is_unfinished (end_of end)

-- the four lines
abbrev pub told_text : Outcome → Outcome → Outcome → Finding → List ℕ
told_text sparse queens pigeons finding =
    outcome_text (codes "sparse 500 ") sparse ++ codes "\n"
    ++ outcome_text (codes "queens 6 ") queens ++ codes "\n"
    ++ outcome_text (codes "pigeons 5 ") pigeons ++ codes " steps " ++ decimal pigeons.steps ++ codes "\n"
    ++ codes "pigeons 5 " ++ finding_text finding

-- the status of three runs
abbrev pub told_status : Outcome → Outcome → Outcome → Status
told_status sparse queens pigeons = if is_open_end sparse.end || is_open_end queens.end || is_open_end pigeons.end then Unfinished else Good
