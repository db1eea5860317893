-- The plan of `cnf` is sound, and so its promise is lawful.
use Rattle.std.proofs.Common.{◌≡◌, ℕ, List, [], ◌∷◌, map, Option, Some, None}
use Rattle.dcsp_defs.specs.declared.Step.{Step}
use Rattle.dcsp_rule.specs.Problems.{Contents}
use Rattle.dcsp_script.specs.Scripts.{Put}
use Rattle.dcsp_script.specs.Texts.{LeavesAlone}
use Rattle.abt_defs.specs.Runs.{Run}
use Rattle.dcsp_script.specs.Clauses.{IsLawful}
use Rattle.abt_input.specs.Plans.{IsSoundPlan}
use Rattle.abt_input.proofs.ExactKinds.{formula_exact}
use Rattle.abt_input.proofs.PlanLaws.{plan_lawful}
use Rattle.abt_session.proofs.InOrder.{leaves-append}
use Rattle.line_replay.proofs.Lawful.{final_end, no_refusal, own_of_leaves}
use Rattle.line_cnf.specs.CnfRuns.{cnf_run, cnf_text, clause_write, proof_script, refutation_at, cnf_script}
use Rattle.line_cnf.specs.CnfPromise.{cnf_plan, cnf_promise}

clauses_leave : (proof name : List ℕ) → (proof ≡ name → ⊥) → (steps : List Step) → LeavesAlone (map (clause_write proof) steps) name
clauses_leave proof name other [] = tt
clauses_leave proof name other (s ∷ steps) = (other, clauses_leave proof name other steps)

proof_leaves : (proof name : List ℕ) → (proof ≡ name → ⊥) → (o : Option (List Step)) → LeavesAlone (proof_script proof o) name
proof_leaves proof name other None = tt
proof_leaves proof name other (Some steps) = (other, clauses_leave proof name other steps)

-- a run leaves every other name alone
pub run_leaves : (p : Contents) (proof name : List ℕ) (run : Run) → (proof ≡ name → ⊥) → LeavesAlone (cnf_script p proof run) name
run_leaves p proof name run other = leaves-append name (proof_script proof (refutation_at run.end run.net.steps)) (Put (cnf_text p run) ∷ []) (proof_leaves proof name other (refutation_at run.end run.net.steps)) ((λ u. u), tt)

pub cnf_sound : (cnf proof : List ℕ) (seed : ℕ) → IsSoundPlan (cnf ∷ []) (proof ∷ []) (cnf_plan proof seed)
cnf_sound cnf proof seed = (
  formula_exact,
  λ problem.
      let run = cnf_run problem seed in
      record { final = final_end run.end; no_refusal = no_refusal run.end; names = own_of_leaves proof None (cnf_script problem proof run) (λ name other none. run_leaves problem proof name run other) },
)

pub cnf_lawful : (cnf proof : List ℕ) (seed : ℕ) → IsLawful (cnf_promise cnf proof seed)
cnf_lawful cnf proof seed = plan_lawful (cnf_plan proof seed) (cnf_sound cnf proof seed)
