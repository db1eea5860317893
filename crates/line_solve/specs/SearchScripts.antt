-- What a search writes.
use Rattle.std.specs.Prelude.{ℕ, ℤ, zero, suc, ◌+◌, Bool, true, false, List, [], ◌∷◌, ◌++◌, codes, decimal, if◌then◌else◌}
use Rattle.dcsp_script.specs.Scripts.{Write, Put}
use Rattle.abt_session.specs.Sessions.{run_script}
use Rattle.dcsp_script.specs.Promises.{Report, answered}
use Rattle.dcsp_rule.specs.Problems.{Contents}
use Rattle.line_replay.specs.Solutions.{solution_text}
use Rattle.abt_defs.specs.declared.end.End.{End}
use Rattle.abt_defs.specs.declared.end.End.TheVariants.{Solved, Refuted, Spent, Capped}
use Rattle.line_replay.specs.Endings.{assigned}
use Rattle.line_replay.specs.Asked.{record_script}
use Rattle.line_solve.specs.Searching.{AskedSearch, next_end, search_after, round_count, session_after, first_run}
use Rattle.line_solve.specs.BestAnswers.{answer_text, search_status}

-- the line before the trace of the round with this number
abbrev pub round_line : ℕ → List ℕ
round_line number = codes "% round " ++ decimal number ++ codes "\n"

-- it is put where a trace is asked for
abbrev pub line_script : Bool → ℕ → List Write
line_script trace number = if trace then Put (round_line number) ∷ [] else []

-- the text of a round that ended so: its solution, where each one is asked for
abbrev pub found_text : Bool → Contents → End (List ℤ) → List ℕ
found_text true p (Solved values) = solution_text p (assigned values)
found_text true p Refuted = []
found_text true p Spent = []
found_text true p Capped = []
found_text false p end = []

-- it is put
abbrev pub found_script : Bool → Contents → End (List ℤ) → List Write
found_script true p (Solved values) = Put (solution_text p (assigned values)) ∷ []
found_script true p Refuted = []
found_script true p Spent = []
found_script true p Capped = []
found_script false p end = []

-- what the round with so many before it puts when its run has ended
abbrev pub solution_script : AskedSearch → ℕ → List Write
solution_script asked n = found_script asked.set.each asked.problem (next_end asked (search_after asked n))

-- that round: its line, then what its run writes, and then its solution
abbrev pub round_script : AskedSearch → ℕ → List Write
round_script asked n = line_script asked.set.trace (n + 1) ++ (run_script (session_after asked n) ++ solution_script asked n)

-- the first rounds, so many of them, one after the other
unfoldable pub rounds_script : AskedSearch → ℕ → List Write
rounds_script asked zero = []
rounds_script asked (suc n) = rounds_script asked n ++ round_script asked n

-- after all rounds comes the record of the first one, and the answer is put last
abbrev pub ending_script : AskedSearch → List Write
ending_script asked = record_script asked.set.record_file (first_run asked).numbers ++ Put (answer_text asked) ∷ []

-- the whole search
abbrev pub search_script : AskedSearch → List Write
search_script asked = rounds_script asked (round_count asked) ++ ending_script asked

-- what is reported of it
abbrev pub search_report : AskedSearch → Report
search_report asked = answered (search_status asked) (search_script asked)
