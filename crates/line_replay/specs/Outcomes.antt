-- What is printed of what a run gave.
use Rattle.std.specs.Prelude.{◌≡◌, ℕ, ℤ, List, [], ◌++◌, length, ⊤}
use Rattle.dcsp_rule.specs.Problems.{Contents}
use Rattle.abt_defs.specs.Runs as runs
use Rattle.abt_defs.specs.declared.end.End.{End}
use Rattle.abt_defs.specs.declared.end.End.TheVariants.{Solved, Refuted, Spent, Capped}
use Rattle.abt_session.specs.Ends.{end_of}
use Rattle.abt_session.specs.declared.outcome.Outcome.{Outcome}
use Rattle.dcsp_script.specs.declared.status.Status.{Status}
use Rattle.line_replay.specs.Endings.{verdict_text, counts_text, end_status}

-- the lines of an end
abbrev pub end_text : Contents → End (List ℤ) → List ℕ
end_text p (Solved list) = verdict_text p list runs.Solved
end_text p Refuted = verdict_text p [] runs.Refuted
end_text p Spent = verdict_text p [] runs.Spent
end_text p Capped = verdict_text p [] runs.Capped

-- its lines and its counts
abbrev pub outcome_text : Contents → Outcome → List ℕ
outcome_text p outcome = end_text p outcome.end ++ counts_text outcome.deliveries outcome.steps

-- its status
abbrev pub outcome_status : End (List ℤ) → Status
outcome_status end = end_status (end_of end)

-- where the run is solved it gives a value for each variable
abbrev pub HasAllValues : Contents → End (List ℤ) → Type 0
HasAllValues p (Solved list) = length list ≡ length p.domains
HasAllValues p Refuted = ⊤
HasAllValues p Spent = ⊤
HasAllValues p Capped = ⊤
