-- What is printed of a run when it has ended, and its status.
use Rattle.std.specs.Prelude.{ℕ, ℤ, pos, List, [], ◌++◌, Option, Some, None, length, slice_index_or, codes, decimal}
use Rattle.dcsp_defs.specs.Csp.{Assignment}
use Rattle.dcsp_rule.specs.Problems.{Contents, csp_of}
use Rattle.abt_defs.specs.Runs.{Run, End, Refuted, Solved, Capped, Spent}
use Rattle.dcsp_order.specs.Told.{ordered}
use Rattle.abt_session.specs.Running.{values_of}
use Rattle.line_replay.specs.Solutions.{solution_text}
use Rattle.dcsp_script.specs.declared.status.Status.{Status}
use Rattle.dcsp_script.specs.declared.status.Status.TheVariants.{Good, No, Unfinished}

-- the values of a list, the first variable's first
abbrev pub assigned : List ℤ → Assignment
assigned list var = slice_index_or list var (pos 0)

-- the values of all variables of a model's problem at the end of its run under an order, the first variable's first
abbrev pub final_values : Option (List ℕ) → Contents → Run → List ℤ
final_values order p run = values_of order (csp_of (ordered order p)) run.net

-- the lines of an end with these values
abbrev pub verdict_text : Contents → List ℤ → End → List ℕ
verdict_text p list Solved = solution_text p (assigned list)
verdict_text p list Refuted = codes "=====UNSATISFIABLE=====\n"
verdict_text p list Capped = codes "=====UNKNOWN=====\n"
verdict_text p list Spent = codes "=====UNKNOWN=====\n"

-- the lines that tell how many deliveries and steps were made
abbrev pub counts_text : ℕ → ℕ → List ℕ
counts_text deliveries steps =
    codes "% deliveries " ++ decimal deliveries ++ codes "\n% steps " ++ decimal steps ++ codes "\n"

-- the line that tells how many choices are left, where that is told
abbrev pub unused_text : Option ℕ → List ℕ
unused_text None = []
unused_text (Some choices) = codes "% unused " ++ decimal choices ++ codes "\n"

-- the lines of a run that has ended
abbrev pub ending_text : Option (List ℕ) → Contents → Run → List ℕ
ending_text order p run = verdict_text p (final_values order p run) run.end ++ counts_text run.net.deliveries (length run.net.steps)

-- the status of an end
abbrev pub end_status : End → Status
end_status Solved = Good
end_status Refuted = No
end_status Capped = Unfinished
end_status Spent = Unfinished
