-- What a search that a line asks for means to a user: its headline, sentence by sentence.
use Rattle.std.specs.Prelude.{◌≡◌, ◌≢◌, ◌↔◌, ℕ, zero, suc, ◌+◌, ◌-◌, ◌<◌, ◌≤◌, ℤ, Bool, true, false, List, [], ◌++◌, length, Option, Some, Contains, IfSome, IsSome, if◌then◌else◌}
use Rattle.dcsp_outside.specs.Outside.{IsPrefixOf, Told}
use Rattle.dcsp_script.specs.Scripts.{World}
use Rattle.dcsp_script.specs.Ways.{Did}
use Rattle.dcsp_script.specs.Texts.{HoldsPartOf}
use Rattle.dcsp_defs.specs.Csp.{HasNoSolution}
use Rattle.dcsp_defs.specs.Derivation.{IsRefutation}
use Rattle.dcsp_rule.specs.declared.aim.Aim.TheVariants.{Satisfy}
use Rattle.dcsp_rule.specs.Problems.{csp_of}
use Rattle.dcsp_order.specs.Told.{ordered}
use Rattle.dcsp_rule.specs.Aims.{aimed_at, is_better, narrowed}
use Rattle.ngd_log.specs.Logs.{log_text}
use Rattle.abt_defs.specs.Bound.{message_bound}
use Rattle.abt_defs.specs.Runs as runs
use Rattle.law_runs.specs.Stops.{IsOpen}
use Rattle.abt_schedule.specs.Schedules.{schedule_text}
use Rattle.abt_session.specs.Sessions.{run_script}
use Rattle.abt_session.specs.Order.{told_text, WritesInOrder}
use Rattle.dcsp_script.specs.declared.status.Status.{Status}
use Rattle.dcsp_script.specs.declared.status.Status.TheVariants.{Good, No, Unfinished}
use Rattle.line_replay.specs.Endings.{assigned, final_values}
use Rattle.abt_optimum.specs.declared.best.BestEnd.TheVariants.{Optimal, Open}
use Rattle.abt_defs.specs.declared.end.End.TheVariants.{Solved}
use Rattle.abt_optimum.specs.Best.{aim_value, Solves, HasNoBetter, IsBest}
use Rattle.abt_optimum.specs.Rounds.{known_of, is_done, most_rounds, AreFewByHalves, AreRounds}
use Rattle.line_solve.specs.Searching.{AskedSearch, IsAskable, next_end, search_after, whole_search, round_count, problem_after, session_after, run_after, steps_after, first_run, last_run, last_steps}
use Rattle.line_solve.specs.BestAnswers.{found, answer_text, search_status}
use Rattle.line_solve.specs.SearchScripts.{round_line, line_script, found_text, rounds_script}

-- ---- what was written

-- what a round puts before its run: its line, where traces are asked for
abbrev pub line_text : AskedSearch → ℕ → List ℕ
line_text asked n = if asked.set.trace then round_line (n + 1) else []

-- what a round puts behind its run: its solution, where each one is asked for
abbrev pub solution_put : AskedSearch → ℕ → List ℕ
solution_put asked n = found_text asked.set.each asked.problem (next_end asked (search_after asked n))

-- the lines of the first rounds, what tells of their deliveries, and their solutions, so many of them
unfoldable pub puts_of_first : AskedSearch → ℕ → List ℕ
puts_of_first asked zero = []
puts_of_first asked (suc n) = puts_of_first asked n ++ (line_text asked n ++ (told_text (session_after asked n) ++ solution_put asked n))

-- all that goes to `out`: what the rounds put, and the answer
abbrev pub whole_text : AskedSearch → List ℕ
whole_text asked = puts_of_first asked (round_count asked) ++ answer_text asked

-- the name is not that of the log or of the record
abbrev pub IsOther : AskedSearch → List ℕ → Type 0
IsOther asked name = (name ≢ asked.log) × IfSome asked.set.record_file (λ record_name. name ≢ record_name)

-- the log is that of the last round's derivation, the record that of the first round's numbers, and every other name is as before
pub record HoldsSearch (asked : AskedSearch) (files now : List ℕ → Option (List ℕ)) : Type 0 where
  pub log : now asked.log ≡ Some (log_text (last_steps asked))
  pub recorded : IfSome asked.set.record_file (λ name. now name ≡ Some (schedule_text (first_run asked).numbers))
  pub others : (name : List ℕ) → IsOther asked name → now name ≡ files name

-- The search: with a status of 0, 1 or 5 its rounds were printed, logged and recorded whole.
pub record IsSearched (asked : AskedSearch) (status : Status) (old new : World) : Type 0 where
  pub status_is : status ≡ search_status asked
  pub out : Told old.out.written new.out.written (λ before now. now ≡ before ++ whole_text asked)
  pub files : Told old.folder.held new.folder.held (HoldsSearch asked)

-- ---- what it means

-- The rounds: each one follows those before it, the last of them ends the search, and there are no more than what is aimed at has values, and one; by halves there are at most two more than the binary logarithm of how many values it has, rounded up.
pub record HasRounds (asked : AskedSearch) : Type 0 where
  pub rounds : AreRounds asked.set.halves asked.problem (whole_search asked).rounds
  pub done : is_done asked.problem.aim (whole_search asked).rounds ≡ true
  pub few : round_count asked ≤ most_rounds asked.problem
  pub halved : asked.set.halves ≡ true → AreFewByHalves asked.problem (round_count asked)

-- these values were printed: they are a solution, no solution has a better value, and where the aim is at a variable, the derivation that was logged refutes the problem narrowed to their value
pub record PrintsBest (asked : AskedSearch) (values : List ℤ) : Type 0 where
  pub printed : found (whole_search asked) ≡ Optimal values
  pub best : IsBest asked.problem values
  pub shown : IsSome (aimed_at asked.problem.aim) → IsRefutation (csp_of (narrowed asked.problem (aim_value asked.problem.aim (assigned values)))) (last_steps asked)

-- Best: with status 0 the values that were printed are best.
abbrev pub IsBestSearch : AskedSearch → Status → Type 0
IsBestSearch asked status = status ≡ Good → (values : List ℤ) × PrintsBest asked values

-- the derivation that was logged is a refutation of the whole problem, which has no solution
pub record LogsRefutation (asked : AskedSearch) : Type 0 where
  pub refutes : IsRefutation (csp_of asked.problem) (last_steps asked)
  pub none : HasNoSolution (csp_of asked.problem)

-- Refuted: status 1 comes exactly where the first round is refuted, and then the whole problem is.
pub record IsRefutedSearch (asked : AskedSearch) (status : Status) : Type 0 where
  pub exactly : (status ≡ No) ↔ ((first_run asked).end ≡ runs.Refuted)
  pub refutes : status ≡ No → LogsRefutation asked

-- the last round was stopped with a message in transit, when its choices were used up
pub record EndsOpen (asked : AskedSearch) : Type 0 where
  pub in_transit : IsOpen (session_after asked (round_count asked - 1)).problem (last_run asked).net
  pub most : (last_run asked).net.deliveries ≡ asked.set.choices

-- these values are those of the last round that was solved
pub record IsLastSolved (asked : AskedSearch) (values : List ℤ) : Type 0 where
  pub number : ℕ
  pub within : suc number < round_count asked
  pub solved : next_end asked (search_after asked number) ≡ Solved values
  pub later : (k : ℕ) (other : List ℤ) → number < k → k < round_count asked → next_end asked (search_after asked k) ≡ Solved other → ⊥

-- these values, if there are any, are those of the last round that was solved, and a solution
pub record PrintsLast (asked : AskedSearch) (values : Option (List ℤ)) : Type 0 where
  pub printed : found (whole_search asked) ≡ Open values
  pub solves : IfSome values (Solves asked.problem)
  pub solved : IfSome values (IsLastSolved asked)
  -- without halves that is the round before the last
  pub last : asked.set.halves ≡ false → IfSome values (λ list. list ≡ final_values asked.order (problem_after asked (round_count asked - 2)) (run_after asked (round_count asked - 2)))
  -- there are none only where there is no round before
  pub some : 1 < round_count asked → IsSome values

-- Each is better: what a solved round was solved with is a solution of the whole problem, and has a better value at the aim than each round that was solved before it. And a value that is excluded is taken in no solution.
pub record IsImproving (asked : AskedSearch) : Type 0 where
  pub solves : (n : ℕ) (values : List ℤ) → n < round_count asked → next_end asked (search_after asked n) ≡ Solved values → Solves asked.problem values
  pub better : (m n : ℕ) (old new : List ℤ) → m < n → n < round_count asked → next_end asked (search_after asked m) ≡ Solved old → next_end asked (search_after asked n) ≡ Solved new
      → is_better asked.problem.aim (aim_value asked.problem.aim (assigned old)) (aim_value asked.problem.aim (assigned new)) ≡ true
  pub excluded : (n : ℕ) → IfSome (known_of (search_after asked n).rounds).limit (HasNoBetter asked.problem)

-- Unfinished: status 5 comes exactly where the last round was stopped open; what was printed then is the solution of the last round that was solved, if there is one.
pub record IsUnfinishedSearch (asked : AskedSearch) (status : Status) : Type 0 where
  pub exactly : (status ≡ Unfinished) ↔ EndsOpen asked
  pub prints : status ≡ Unfinished → PrintsLast asked (whole_search asked).values

-- The bound: there are no more rounds than stated above, and each delivers no more messages than the bound of the whole problem under the order; so where that is not above the choices of a round, status 5 never comes.
pub record IsBoundedSearch (asked : AskedSearch) (status : Status) : Type 0 where
  pub rounds : HasRounds asked
  pub bounded : (n : ℕ) → n < round_count asked → (run_after asked n).net.deliveries ≤ message_bound (csp_of (ordered asked.order asked.problem))
  pub verdict : message_bound (csp_of (ordered asked.order asked.problem)) ≤ asked.set.choices → status ≢ Unfinished

-- the same search, by halves or not
abbrev pub with_halves : Bool → AskedSearch → AskedSearch
with_halves halves asked = record asked { set = record asked.set { halves = halves } }

-- where neither leaves a round open, a search by halves and one without have one status, and the best values that they print have one value at the aim
pub record ComesToTheSame (asked : AskedSearch) : Type 0 where
  pub status : search_status (with_halves true asked) ≡ search_status (with_halves false asked)
  pub value : (xs ys : List ℤ) → found (whole_search (with_halves true asked)) ≡ Optimal xs → found (whole_search (with_halves false asked)) ≡ Optimal ys
      → aim_value asked.problem.aim (assigned xs) ≡ aim_value asked.problem.aim (assigned ys)

-- Halves change only how a search comes to its answer.
abbrev pub HalvesChangeNothing : AskedSearch → Type 0
HalvesChangeNothing asked = IsAskable asked → asked.problem.aim ≢ Satisfy → search_status (with_halves true asked) ≢ Unfinished → search_status (with_halves false asked) ≢ Unfinished → ComesToTheSame asked

-- ---- the order of writing

-- what the log holds after so many rounds, where it held this before them
abbrev pub log_after : AskedSearch → ℕ → Option (List ℕ) → Option (List ℕ)
log_after asked zero file = file
log_after asked (suc n) file = Some (log_text (steps_after asked n))

-- the log is that of the last of so many rounds, and every other name is as before
pub record HoldsRounds (asked : AskedSearch) (n : ℕ) (files now : List ℕ → Option (List ℕ)) : Type 0 where
  pub log : now asked.log ≡ log_after asked n (files asked.log)
  pub others : (name : List ℕ) → name ≢ asked.log → now name ≡ files name

-- so many whole rounds were made, and nothing else
pub record MadeRounds (asked : AskedSearch) (n : ℕ) (old new : World) : Type 0 where
  pub did : Did (rounds_script asked n) old new
  pub out : Told old.out.written new.out.written (λ before now. now ≡ before ++ puts_of_first asked n)
  pub files : Told old.folder.held new.folder.held (HoldsRounds asked n)

-- some first bytes of the text were put, and nothing else was done
pub record AddsBytes (text : List ℕ) (old new : World) : Type 0 where
  pub gained : List ℕ
  pub begins : IsPrefixOf gained text
  pub out : Told old.out.written new.out.written (λ before now. now ≡ before ++ gained)
  pub created : new.folder.created ≡ old.folder.created
  pub files : Told old.folder.held new.folder.held (λ files now. (name : List ℕ) → now name ≡ files name)

-- the round with so many before it, wherever it was stopped: in its line, or after its line in its run, which wrote in order, or in its solution after the whole of its run
pub data WritesRound (asked : AskedSearch) (n : ℕ) (old new : World) : Type 0 where
  in_line : AddsBytes (line_text asked n) old new → WritesRound asked n old new
  in_run : (moment : World) → Did (line_script asked.set.trace (n + 1)) old moment → WritesInOrder (session_after asked n) moment new → WritesRound asked n old new
  in_solution : (moment : World) → Did (line_script asked.set.trace (n + 1) ++ run_script (session_after asked n)) old moment → AddsBytes (solution_put asked n) moment new → WritesRound asked n old new

-- the files before and after the end of a search, where `out` gained these bytes of the answer and these names were created
pub record KeepsEnding (asked : AskedSearch) (names : List (List ℕ)) (gained : List ℕ) (files now : List ℕ → Option (List ℕ)) : Type 0 where
  -- the record, once created, holds a first part of its text; else it is as before, or holds no bytes
  pub record_part : IfSome asked.set.record_file (λ name. HoldsPartOf name (schedule_text (first_run asked).numbers) (Contains names name) (files name) (now name))
  -- once a byte of the answer was put, it holds its whole text
  pub answer_last : 0 < length gained → IfSome asked.set.record_file (λ name. now name ≡ Some (schedule_text (first_run asked).numbers))
  -- every other name, that of the log too, is as it was after the last round
  pub others : (name : List ℕ) → IfSome asked.set.record_file (λ record_name. name ≢ record_name) → now name ≡ files name

-- the end of a search, wherever it was stopped: the record, and then the answer
pub record WritesEnding (asked : AskedSearch) (old new : World) : Type 0 where
  pub names : List (List ℕ)
  pub created : new.folder.created ≡ old.folder.created ++ names
  pub gained : List ℕ
  pub out : Told old.out.written new.out.written (λ before now. now ≡ before ++ gained)
  pub begins : IsPrefixOf gained (answer_text asked)
  pub files : Told old.folder.held new.folder.held (KeepsEnding asked names gained)

-- The order of writing: whatever the status, there was a moment at which whole rounds had been made and nothing else, and from that moment on the next round, or the end, wrote in order. So a log that was not created in the round at hand is that of the round before, or holds no bytes.
pub data SearchOrdered (asked : AskedSearch) (old new : World) : Type 0 where
  in_round : (n : ℕ) → n < round_count asked → (moment : World) → MadeRounds asked n old moment → WritesRound asked n moment new → SearchOrdered asked old new
  in_ending : (moment : World) → MadeRounds asked (round_count asked) old moment → WritesEnding asked moment new → SearchOrdered asked old new
