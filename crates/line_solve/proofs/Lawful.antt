-- A search is an answer of its own, and the promise of the line is lawful.
use Rattle.std.proofs.Common.{◌≡◌, ◌≢◌, ℕ, List, [], ◌∷◌, map, Option, refl, inr}
use Rattle.dcsp_rule.specs.declared.aim.Aim.{Aim}
use Rattle.dcsp_rule.specs.declared.aim.Aim.TheVariants.{Satisfy, Least, Greatest}
use Rattle.dcsp_rule.specs.Problems.{Contents}
use Rattle.dcsp_outside.specs.Outside.{bytes_of}
use Rattle.dcsp_script.specs.Scripts.{World}
use Rattle.dcsp_script.specs.Statuses.{IsFinal, IsRefusal}
use Rattle.dcsp_script.specs.Runs.{Way}
use Rattle.dcsp_script.specs.Clauses.{IsLawful}
use Rattle.abt_input.specs.Inputs.{IsModelOf, IsOrderIn}
use Rattle.abt_input.specs.Plans.{PlanReports, IsOwn, IsSoundPlan, order_then}
use Rattle.abt_input.proofs.ExactKinds.{model_exact}
use Rattle.abt_input.proofs.Keeping.{Keeps}
use Rattle.abt_input.proofs.PlanLaws.{ordered_reports, ordered_sound, plan_lawful}
use Rattle.abt_optimum.specs.declared.best.BestEnd.{BestEnd}
use Rattle.abt_optimum.specs.declared.best.BestEnd.TheVariants.{Optimal, NoSolution, Open}
use Rattle.line_replay.specs.Asked.{solve, created_names, run_report}
use Rattle.line_replay.specs.Settings.{Settings}
use Rattle.line_replay.specs.ReplayPromise.{run_plan}
use Rattle.line_replay.proofs.Lawful.{run_own, own_of_leaves}
use Rattle.line_solve.specs.Searching.{AskedSearch, best_search, whole_search}
use Rattle.line_solve.specs.BestAnswers.{found, best_status, search_status}
use Rattle.line_solve.specs.SearchScripts.{search_script, search_report}
use Rattle.line_solve.specs.SolvePromise.{search_plan, plan_for, solve_plan, solve_promise}
use Rattle.line_solve.proofs.Headlines.{search_leaves}

final_best : (end : BestEnd) → IsFinal (best_status end)
final_best (Optimal values) = tt
final_best NoSolution = tt
final_best (Open values) = tt

pub no_refusal_best : (end : BestEnd) → IsRefusal (best_status end) → ⊥
no_refusal_best (Optimal values) h = h
no_refusal_best NoSolution h = h
no_refusal_best (Open values) h = h

-- a search changes only its log and its record
search_own : (asked : AskedSearch) → IsOwn (created_names asked.log asked.set.record_file) (search_status asked) (search_script asked)
search_own asked = record {
  final = final_best (found (whole_search asked));
  no_refusal = no_refusal_best (found (whole_search asked));
  names = own_of_leaves asked.log asked.set.record_file (search_script asked) (search_leaves asked);
}

module _ (problem : Contents) (log : List ℕ) (s : Settings) where
  module _ (order : Option (List ℕ)) where
    plan_own : (aim : Aim) → IsSoundPlan [] (created_names log s.record_file) (plan_for aim problem log s order)
    plan_own Satisfy = run_own (solve order problem log s)
    plan_own (Least term) = search_own (best_search order problem log s)
    plan_own (Greatest term) = search_own (best_search order problem log s)

    -- a line that makes the run, where any solution is asked for, keeps to the plan
    pub keeps_run : {a b : World} {way : Way} (aim : Aim) → aim ≡ Satisfy → Keeps [] (created_names log s.record_file) (run_plan (solve order problem log s)) a b way → Keeps [] (created_names log s.record_file) (plan_for aim problem log s order) a b way
    keeps_run Satisfy e k = k
    keeps_run (Least term) e k = absurd (let f = e in cc)
    keeps_run (Greatest term) e k = absurd (let f = e in cc)

    -- and so does one that makes the search, where the best value is
    pub keeps_search : {a b : World} {way : Way} (aim : Aim) → aim ≢ Satisfy → Keeps [] (created_names log s.record_file) (search_plan (best_search order problem log s)) a b way → Keeps [] (created_names log s.record_file) (plan_for aim problem log s order) a b way
    keeps_search Satisfy n k = absurd (n refl)
    keeps_search (Least term) n k = k
    keeps_search (Greatest term) n k = k

    run_is : (aim : Aim) → aim ≡ Satisfy → PlanReports (plan_for aim problem log s order) [] (run_report (solve order problem log s))
    run_is Satisfy e = refl
    run_is (Least term) e = absurd (let f = e in cc)
    run_is (Greatest term) e = absurd (let f = e in cc)

    search_is : (aim : Aim) → aim ≢ Satisfy → PlanReports (plan_for aim problem log s order) [] (search_report (best_search order problem log s))
    search_is Satisfy n = absurd (n refl)
    search_is (Least term) n = refl
    search_is (Greatest term) n = refl

  module _ (files : List ℕ → Option (List ℕ)) (model : List ℕ) (is : IsModelOf (bytes_of (files model)) problem) (order : Option (List ℕ)) (has : IsOrderIn files s.order_file problem order) where
    -- the bytes of the line's files
    abbrev inputs : List (List ℕ)
    inputs = map (λ name. bytes_of (files name)) (model ∷ order_then s.order_file [])

    -- what is reported where any solution is asked for, and where the best value is
    pub reports_run : problem.aim ≡ Satisfy → PlanReports (solve_plan log s) inputs (run_report (solve order problem log s))
    reports_run e = inr (problem, is, ordered_reports files (plan_for problem.aim problem log s) problem s.order_file order [] (run_report (solve order problem log s)) has (run_is order problem.aim e))

    pub reports_search : problem.aim ≢ Satisfy → PlanReports (solve_plan log s) inputs (search_report (best_search order problem log s))
    reports_search n = inr (problem, is, ordered_reports files (plan_for problem.aim problem log s) problem s.order_file order [] (search_report (best_search order problem log s)) has (search_is order problem.aim n))

pub solve_sound : (model log : List ℕ) (s : Settings) → IsSoundPlan (model ∷ order_then s.order_file []) (created_names log s.record_file) (solve_plan log s)
solve_sound model log s = (model_exact, λ problem. ordered_sound [] (created_names log s.record_file) (plan_for problem.aim problem log s) s.order_file problem (λ order. plan_own problem log s order problem.aim))

pub solve_lawful : (model log : List ℕ) (s : Settings) → IsLawful (solve_promise model log s)
solve_lawful model log s = plan_lawful (solve_plan log s) (solve_sound model log s)
