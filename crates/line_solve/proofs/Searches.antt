-- The asked search is a search: each of its rounds ends rightly, and after as many as there may be it is over.
use Rattle.std.proofs.Common.{◌≡◌, ◌≢◌, ℕ, zero, suc, List, Option, Some, None, Bool, true, false, length, refl, sym, ap, subst, arith}
use Rattle.std.specs.Prelude.{ℤ}
use Rattle.dcsp_domain.specs.Sets.{IsRising}
use Rattle.dcsp_defs.specs.Csp.{HasNoSolution}
use Rattle.dcsp_rule.specs.declared.aim.Aim.TheVariants.{Satisfy}
use Rattle.dcsp_rule.specs.Rules.{IsAimOf}
use Rattle.dcsp_rule.specs.Problems.{Contents, csp_of}
use Rattle.dcsp_problem.specs.WellFormed.{IsProblem}
use Rattle.dcsp_problem.proofs.WellFormed.{is_csp}
use Rattle.dcsp_order.specs.Orders.{IsOrder}
use Rattle.dcsp_order.specs.Under.{by_place}
use Rattle.dcsp_order.specs.Told.{ordered, values_told, IsOrderFor}
use Rattle.dcsp_order.proofs.Solutions.{solutions_go}
use Rattle.abt_defs.specs.Network.{values}
use Rattle.abt_defs.specs.Runs as runs
use Rattle.abt_defs.specs.Runs.{Run}
use Rattle.law_runs.specs.Replay.{Verdicts}
use Rattle.law_runs.proofs.Whole.{verdicts}
use Rattle.line_replay.specs.Endings.{assigned, final_values}
use Rattle.line_replay.proofs.Verdicts.{same_solution}
use Rattle.line_replay.proofs.UnderOrder.{ordered_csp, solution_told, final_value, final_count}
use Rattle.abt_optimum.specs.Rounds.{aim_values, is_done, round_problem, most_rounds, AreRounds}
use Rattle.abt_optimum.specs.Searches.{next_better, EndsRightly, IsSearch}
use Rattle.abt_optimum.proofs.RoundLists.{no_rounds}
use Rattle.abt_optimum.proofs.Fewer.{room, halved}
use Rattle.abt_optimum.proofs.SearchLaws.{round_many, search_more}
use Rattle.line_solve.specs.Searching.{AskedSearch, IsAskable, end_as, next_end, search_after, whole_search, problem_after, session_after, run_after}
use Rattle.line_solve.specs.BestHeadline.{HasRounds}
use Rattle.line_solve.proofs.Rounds.{is_over, starts, goes_on, stops, same_problem, same_halves, counted}
use Rattle.line_solve.proofs.RoundProblems.{round_is_problem, rising_values}

-- where the problem that is run has no solution, the model's has none
no_solution_told : (order : Option (List ℕ)) (p : Contents) → IsProblem p → IsOrderFor order p → HasNoSolution (csp_of (ordered order p)) → HasNoSolution (csp_of p)
no_solution_told None p ok good none = none
no_solution_told (Some order) p ok good none = λ v h. none (by_place order v) (solutions_go p ok order good v h)

-- a run of a well-formed problem under an order ends rightly
pub ends_rightly : (order : Option (List ℕ)) (p : Contents) (most : ℕ) (run : Run) (end : runs.End) → IsProblem p → IsOrderFor order p → run.end ≡ end → Verdicts (csp_of (ordered order p)) most run → EndsRightly p (end_as order p run end)
ends_rightly order p most run runs.Solved ok good e law = record {
  many = final_count order p ok good run;
  solution = same_solution (csp_of p) (is_csp p ok) (assigned (final_values order p run)) (values_told order (values run.net)) (λ i l. final_value order p ok good run i l)
      (solution_told order p ok good (values run.net) (law.solved e).solution);
}
ends_rightly order p most run runs.Refuted ok good e law = no_solution_told order p ok good (law.no_solution e)
ends_rightly order p most run runs.Capped ok good e law = tt
ends_rightly order p most run runs.Spent ok good e law = tt

-- an order of the whole problem's variables is one of those of a round's problem
pub order_of_round : (order : Option (List ℕ)) (p : Contents) (better : Option ℤ) → IsOrderFor order p → IsOrderFor order (round_problem p better)
order_of_round None p better good = tt
order_of_round (Some order) p better good = subst (λ n. IsOrder n order) (sym (round_many p better)) good

module _ (asked : AskedSearch) (ok : IsAskable asked) where
  pub is_problem_after : (n : ℕ) → IsProblem (problem_after asked n)
  is_problem_after n = round_is_problem asked.problem (next_better (search_after asked n)) ok.problem

  pub is_order_after : (n : ℕ) → IsOrderFor asked.order (problem_after asked n)
  is_order_after n = order_of_round asked.order asked.problem (next_better (search_after asked n)) ok.order

  -- what is so of the run of each round
  pub law_after : (n : ℕ) → Verdicts (session_after asked n).problem asked.set.choices (run_after asked n)
  law_after n = verdicts (session_after asked n).problem (ordered_csp asked.order (problem_after asked n) (is_problem_after n) (is_order_after n)) asked.set.choices (session_after asked n).choices

  pub right_after : (n : ℕ) → EndsRightly (problem_after asked n) (next_end asked (search_after asked n))
  right_after n = ends_rightly asked.order (problem_after asked n) asked.set.choices (run_after asked n) (run_after asked n).end (is_problem_after n) (is_order_after n) refl (law_after n)

  pub known_after : (n : ℕ) → IsAimOf (length (search_after asked n).problem.domains) (search_after asked n).problem.aim
  known_after n = subst (λ (p : Contents). IsAimOf (length p.domains) p.aim) (sym (same_problem asked n)) ok.problem.aim

  pub rising_after : (n : ℕ) → IsRising (aim_values (search_after asked n).problem)
  rising_after n = subst (λ (p : Contents). IsRising (aim_values p)) (sym (same_problem asked n)) (rising_values asked.problem ok.problem)

  module _ (aimed : asked.problem.aim ≢ Satisfy) where
    search_next : (n : ℕ) (over : Bool) → is_over (search_after asked n) ≡ over → IsSearch (search_after asked n) → IsSearch (search_after asked (suc n))
    search_next n true e h = subst IsSearch (sym (stops asked n e)) h
    search_next n false e h =
        let s = search_after asked n in
        let right = subst (λ (p : Contents). EndsRightly (round_problem p (next_better s)) (next_end asked s)) (sym (same_problem asked n)) (right_after n) in
        subst IsSearch (sym (goes_on asked n e)) (search_more s h (known_after n) e (next_end asked s) right)

    pub is_search : (n : ℕ) → IsSearch (search_after asked n)
    is_search zero = subst IsSearch (sym (starts asked)) (record { aimed = aimed; rounds = no_rounds asked.set.halves asked.problem; solves = tt; value = refl; refuted = λ round e ends. absurd (cc); excluded = tt })
    is_search (suc n) = search_next n (is_over (search_after asked n)) refl (is_search n)

    -- the whole search is over
    over_at : (over : Bool) → is_over (whole_search asked) ≡ over → over ≡ true
    over_at true e = refl
    over_at false e =
        let n = most_rounds asked.problem in
        let s = whole_search asked in
        let h = is_search n in
        let less = room s.halves s.problem (λ _. rising_after n) s.rounds h.rounds e in
        let full = (counted asked n).full e in
        let same : most_rounds s.problem ≡ most_rounds asked.problem = ap most_rounds (same_problem asked n) in
        absurd (omega arith)

    pub is_whole : is_over (whole_search asked) ≡ true
    is_whole = let over = is_over (whole_search asked) in over_at over refl

    pub has_rounds : HasRounds asked
    has_rounds =
        let n = most_rounds asked.problem in
        let s = whole_search asked in
        let h = is_search n in
        let same = same_problem asked n in
        let rounds = subst (λ (b : Bool). AreRounds b asked.problem s.rounds) (same_halves asked n) (subst (λ (p : Contents). AreRounds s.halves p s.rounds) same h.rounds) in
        record {
          rounds = rounds;
          done = subst (λ (p : Contents). is_done p.aim s.rounds ≡ true) same is_whole;
          few = (counted asked n).at_most;
          halved = halved asked.set.halves asked.problem (λ _. rising_values asked.problem ok.problem) s.rounds rounds;
        }
