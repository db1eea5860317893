-- The plans of both lines are sound, and so their promises are lawful.
use Rattle.std.proofs.Common.{ℕ, List, [], ◌∷◌, map, Option}
use Rattle.abt_network.specs.declared.Standing.{Standing}
use Rattle.abt_network.specs.declared.Standing.TheVariants.{Open, Quiet, Refuted}
use Rattle.dcsp_rule.specs.Problems.{Contents, csp_of}
use Rattle.dcsp_script.specs.Statuses.{IsFinal, IsRefusal}
use Rattle.dcsp_script.specs.Clauses.{IsLawful}
use Rattle.abt_input.specs.Plans.{IsSoundPlan, WritesOwn, order_then}
use Rattle.abt_input.proofs.ExactKinds.{model_exact, schedule_exact}
use Rattle.abt_input.proofs.OwnWrites.{own_none, own_put}
use Rattle.abt_input.proofs.PlanLaws.{plan_lawful, ordered_sound}
use Rattle.dcsp_order.specs.Told.{ordered}
use Rattle.line_measure.specs.Numbers.{listed, numbers_of}
use Rattle.line_measure.specs.MeasurePromise.{measure_plan, measure_promise, measured_under, surveyed_under, run_plan, runs_plan, seed_write, seeds, status_at, survey_plan, survey_promise, worst}

final_at : (end : Standing) → IsFinal (status_at end)
final_at Open = tt
final_at Quiet = tt
final_at Refuted = tt

not_refused : (end : Standing) → IsRefusal (status_at end) → ⊥
not_refused Open h = h
not_refused Quiet h = h
not_refused Refuted h = h

own_lines : (p : Contents) (seeds : List ℕ) → WritesOwn [] (map (seed_write p) seeds)
own_lines p [] = own_none
own_lines p (seed ∷ seeds) = own_put (own_lines p seeds)

run_sound : (schedule : List ℕ) (order : Option (List ℕ)) (p : Contents) → IsSoundPlan (schedule ∷ []) [] (run_plan order p)
run_sound schedule order p = (
  schedule_exact,
  λ choices. record {
    final = final_at (numbers_of (csp_of p) (listed choices)).end;
    no_refusal = not_refused (numbers_of (csp_of p) (listed choices)).end;
    names = own_put own_none;
  },
)

pub measure_sound : (model schedule : List ℕ) (order_file : Option (List ℕ)) → IsSoundPlan (model ∷ order_then order_file (schedule ∷ [])) [] (measure_plan order_file)
measure_sound model schedule order_file = (model_exact, λ p. ordered_sound (schedule ∷ []) [] (measured_under p) order_file p (λ order. run_sound schedule order (ordered order p)))

pub measure_lawful : (model schedule : List ℕ) (order_file : Option (List ℕ)) → IsLawful (measure_promise model schedule order_file)
measure_lawful model schedule order_file = plan_lawful (measure_plan order_file) (measure_sound model schedule order_file)

runs_sound : (from count : ℕ) (p : Contents) → IsSoundPlan [] [] (runs_plan from count p)
runs_sound from count p = record {
  final = final_at (worst p Quiet (seeds from count));
  no_refusal = not_refused (worst p Quiet (seeds from count));
  names = own_put (own_lines p (seeds from count));
}

pub survey_sound : (model : List ℕ) (from count : ℕ) (order_file : Option (List ℕ)) → IsSoundPlan (model ∷ order_then order_file []) [] (survey_plan from count order_file)
survey_sound model from count order_file = (model_exact, λ p. ordered_sound [] [] (surveyed_under from count p) order_file p (λ order. runs_sound from count (ordered order p)))

pub survey_lawful : (model : List ℕ) (from count : ℕ) (order_file : Option (List ℕ)) → IsLawful (survey_promise model from count order_file)
survey_lawful model from count order_file = plan_lawful (survey_plan from count order_file) (survey_sound model from count order_file)
