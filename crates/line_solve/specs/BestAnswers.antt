-- What is printed of a search that is over, and its status.
use Rattle.std.specs.Prelude.{ℕ, ℤ, Bool, false, List, [], ◌++◌, if◌then◌else◌, length, codes, decimal, Some, None}
use Rattle.std.specs.Option.{option_map_or}
use Rattle.dcsp_rule.specs.Problems.{Contents}
use Rattle.line_replay.specs.Solutions.{solution_text}
use Rattle.dcsp_script.specs.declared.status.Status.{Status}
use Rattle.dcsp_script.specs.declared.status.Status.TheVariants.{Good, No, Unfinished}
use Rattle.line_replay.specs.Endings.{assigned, counts_text}
use Rattle.abt_optimum.specs.declared.round.Round.{Round}
use Rattle.abt_optimum.specs.declared.best.BestEnd.{BestEnd}
use Rattle.abt_optimum.specs.declared.best.BestEnd.TheVariants.{Optimal, NoSolution, Open}
use Rattle.abt_optimum.specs.Rounds.{is_open, last_round}
use Rattle.abt_optimum.specs.Searches.{SearchState}
use Rattle.abt_optimum.specs.Kept.{end_of}
use Rattle.line_solve.specs.Searching.{AskedSearch, whole_search, round_count, last_run, deliveries_in}

-- whether the last of the rounds is open: it was spent or capped
abbrev pub ends_capped : List Round → Bool
ends_capped rounds = option_map_or (λ (round : Round). is_open round.end) (last_round rounds) false

-- what a search that is over has found
abbrev pub found : SearchState → BestEnd
found s = end_of (ends_capped s.rounds) s.values

-- the text of the last solution; where each one was put when it was found, it is not put again
abbrev pub last_text : Bool → Contents → List ℤ → List ℕ
last_text each p values = if each then [] else solution_text p (assigned values)

-- its lines: a solution, and a line that says whether it is best; or the line that stands in its place
abbrev pub best_text : Bool → Contents → BestEnd → List ℕ
best_text each p (Optimal values) = last_text each p values ++ codes "==========\n"
best_text each p NoSolution = codes "=====UNSATISFIABLE=====\n"
best_text each p (Open None) = codes "=====UNKNOWN=====\n"
best_text each p (Open (Some values)) = last_text each p values

-- its status
abbrev pub best_status : BestEnd → Status
best_status (Optimal values) = Good
best_status NoSolution = No
best_status (Open values) = Unfinished

-- the line that tells how many rounds were made
abbrev pub rounds_text : ℕ → List ℕ
rounds_text rounds = codes "% rounds " ++ decimal rounds ++ codes "\n"

-- all that is put when the search is over; the deliveries are those of all rounds, the steps those of the last
abbrev pub answer_text : AskedSearch → List ℕ
answer_text asked =
    best_text asked.set.each asked.problem (found (whole_search asked))
    ++ (rounds_text (round_count asked) ++ counts_text (deliveries_in asked (round_count asked)) (length (last_run asked).net.steps))

-- the status of the search
abbrev pub search_status : AskedSearch → Status
search_status asked = best_status (found (whole_search asked))
