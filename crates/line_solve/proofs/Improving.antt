-- What the rounds of a search were solved with, one after the other.
use Rattle.std.proofs.Common.{◌≡◌, ◌≢◌, ◌∙◌, ℕ, suc, ◌+◌, ◌-◌, ◌<◌, ℤ, true, List, slice_get, Some, sym, ap, subst, arith}
use Rattle.std.specs.Prelude.{IfSome}
use Rattle.dcsp_rule.specs.declared.aim.Aim.TheVariants.{Satisfy}
use Rattle.dcsp_rule.specs.Problems.{Contents}
use Rattle.dcsp_rule.specs.Aims.{is_better}
use Rattle.line_replay.specs.Endings.{assigned}
use Rattle.abt_optimum.specs.declared.round.Round.{Round}
use Rattle.abt_defs.specs.declared.end.End.TheVariants.{Solved}
use Rattle.abt_optimum.specs.Best.{aim_value, Solves, HasNoBetter}
use Rattle.abt_optimum.specs.Rounds.{known_of, most_rounds}
use Rattle.abt_optimum.specs.Searches.{SearchState, end_at, next_better, round_after, EndsRightly}
use Rattle.abt_optimum.proofs.Improving as lists
use Rattle.abt_optimum.proofs.SearchLaws.{solves_whole}
use Rattle.line_solve.specs.Searching.{AskedSearch, IsAskable, next_end, search_after, whole_search, round_count, problem_after}
use Rattle.line_solve.specs.BestHeadline.{IsImproving}
use Rattle.line_solve.proofs.Rounds.{same_problem, counted}
use Rattle.line_solve.proofs.RoundProblems.{rising_values}
use Rattle.line_solve.proofs.Searches.{right_after, is_search, has_rounds}
use Rattle.line_solve.proofs.LastRounds.{entry_at}

module _ (asked : AskedSearch) (ok : IsAskable asked) (aimed : asked.problem.aim ≢ Satisfy) where
  solved_round : (n : ℕ) (values : List ℤ) → next_end asked (search_after asked n) ≡ Solved values → Solves (problem_after asked n) values
  solved_round n values e = subst (EndsRightly (problem_after asked n)) e (right_after asked ok n)

  solves_all : (n : ℕ) (values : List ℤ) → next_end asked (search_after asked n) ≡ Solved values → Solves asked.problem values
  solves_all n values e = solves_whole asked.problem (next_better (search_after asked n)) values ok.problem.aim (solved_round n values e)

  -- the entry of a round in the whole search
  abbrev entry : ℕ → Round
  entry n = round_after (search_after asked n) (next_end asked (search_after asked n))

  entry_is : (n : ℕ) → n < round_count asked → slice_get (whole_search asked).rounds n ≡ Some (entry n)
  entry_is n l =
      let far : (round_count asked - suc n) + suc n ≡ round_count asked = omega arith in
      sym (ap (λ (s : SearchState). slice_get s.rounds n) ((counted asked (most_rounds asked.problem)).again))
      ∙ ap (λ (i : ℕ). slice_get (search_after asked i).rounds n) (sym far) ∙ entry_at asked n (round_count asked - suc n) (omega arith)

  -- it was solved with the value at the aim of its values
  entry_solved : (n : ℕ) (values : List ℤ) → next_end asked (search_after asked n) ≡ Solved values → (entry n).end ≡ Solved (aim_value asked.problem.aim (assigned values))
  entry_solved n values e = ap (end_at (search_after asked n).problem.aim) e ∙ ap (λ (p : Contents). Solved (aim_value p.aim (assigned values))) (same_problem asked n)

  better_later : (m n : ℕ) (old new : List ℤ) → m < n → n < round_count asked → next_end asked (search_after asked m) ≡ Solved old → next_end asked (search_after asked n) ≡ Solved new
      → is_better asked.problem.aim (aim_value asked.problem.aim (assigned old)) (aim_value asked.problem.aim (assigned new)) ≡ true
  better_later m n old new l less e f =
      lists.improving asked.set.halves asked.problem (whole_search asked).rounds (λ _. rising_values asked.problem ok.problem) (has_rounds asked ok aimed).rounds m n (entry m) (entry n)
      (aim_value asked.problem.aim (assigned old)) (aim_value asked.problem.aim (assigned new)) l (entry_is m (omega arith)) (entry_is n less) (entry_solved m old e) (entry_solved n new f)

  pub is_improving : IsImproving asked
  is_improving = record {
    solves = λ n values l e. solves_all n values e;
    better = better_later;
    excluded = λ n. subst (λ (p : Contents). IfSome (known_of (search_after asked n).rounds).limit (HasNoBetter p)) (same_problem asked n) (is_search asked ok aimed n).excluded;
  }
