-- The plan of `rup` is sound, and so its promise is lawful.
use Rattle.std.proofs.Common.{◌≡◌, ℕ, ℤ, List, [], ◌∷◌, refl, inr}
use Rattle.std.specs.Prelude.{neg_ℤ}
use Rattle.dcsp_rule.specs.Problems.{Contents}
use Rattle.rup_check.specs.Verdicts.{IsVerdict}
use Rattle.rup_check.specs.declared.check.Rup.{Rup}
use Rattle.dcsp_script.specs.Promises.{Report}
use Rattle.dcsp_script.specs.Clauses.{IsLawful}
use Rattle.abt_input.specs.Inputs.{IsFormulaOf, HasClauses}
use Rattle.abt_input.specs.Plans.{IsSoundPlan}
use Rattle.abt_input.proofs.ExactKinds.{formula_exact, proof_exact}
use Rattle.abt_input.proofs.OwnWrites.{own_none, own_put}
use Rattle.abt_input.proofs.PlanLaws.{plan_lawful}
use Rattle.line_cnf.specs.Satisfying.{clauses_of}
use Rattle.line_cnf.specs.RupPromise.{rup_report, rup_plan, RupReport, rup_promise}
use Rattle.line_cnf.proofs.Answers.{one_answer, final_answer, no_refusal}

pub rup_sound : (cnf proof : List ℕ) → IsSoundPlan (cnf ∷ proof ∷ []) [] rup_plan
rup_sound cnf proof = (formula_exact, λ problem. (proof_exact, λ clauses. (one_answer (clauses_of problem) clauses, λ a. record { final = final_answer a; no_refusal = no_refusal a; names = own_put own_none })))

pub rup_lawful : (cnf proof : List ℕ) → IsLawful (rup_promise cnf proof)
rup_lawful cnf proof = plan_lawful rup_plan (rup_sound cnf proof)

-- the one report is that of the one answer
pub only_report : (cnf proof : List ℕ) (problem : Contents) (clauses : List (List ℤ)) (answer : Rup) → IsFormulaOf cnf problem → HasClauses proof clauses → IsVerdict neg_ℤ (clauses_of problem) clauses answer → (report : Report) → RupReport cnf proof report → report ≡ rup_report answer
only_report cnf proof problem clauses answer f c v report r = (rup_lawful cnf proof).one (cnf ∷ proof ∷ []) report (rup_report answer) r (inr (problem, f, inr (clauses, c, (answer, v, refl))))
