-- The plan of `core` is sound, and so its promise is lawful.
use Rattle.std.proofs.Common.{◌≡◌, ◌↔◌, ℕ, ℤ, Option, Bool, true, false, List, [], ◌∷◌, length, refl}
use Rattle.std.specs.Prelude.{◌≢◌}
use Rattle.dcsp_defs.specs.declared.Step.{Step}
use Rattle.dcsp_rule.specs.Problems.{Contents}
use Rattle.dcsp_script.specs.Scripts.{World}
use Rattle.ngd_log.specs.Logs.{log_lines}
use Rattle.ngd_check.specs.declared.Finding.{Finding}
use Rattle.ngd_check.specs.declared.Finding.TheVariants.{Verified, BadStep, BadDeletion, NotEmpty}
use Rattle.ngd_rewrite.specs.declared.cores.Core.{Core}
use Rattle.dcsp_script.specs.declared.status.Status.TheVariants.{Good, No}
use Rattle.dcsp_script.specs.Runs.{Way}
use Rattle.dcsp_script.specs.Clauses.{IsLawful}
use Rattle.abt_input.specs.Plans.{Find, Answer, IsSoundPlan}
use Rattle.abt_input.proofs.Keeping.{Keeps}
use Rattle.abt_input.proofs.OwnWrites.{own_none, own_put}
use Rattle.abt_input.proofs.PlanLaws.{plan_lawful}
use Rattle.line_check.specs.Checks.{finding_status}
use Rattle.line_check.specs.CheckReports.{finding_plan}
use Rattle.line_check.specs.Taking.{taking_of}
use Rattle.line_check.proofs.Lawful.{model_exact, kept_exact}
use Rattle.line_rewrite.specs.CorePromise.{core_text, core_script, IsCoreOf, trimming_plan, core_plan, core_promise}
use Rattle.line_rewrite.proofs.Lawful.{file_own}
use Rattle.line_rewrite.proofs.OneCore.{one_core}

module _ (trimmed : List ℕ) (problem : Contents) (steps : List Step) where
  trimming_sound : (finding : Finding) → IsSoundPlan [] (trimmed ∷ []) (trimming_plan trimmed problem steps finding)
  trimming_sound Verified = (one_core steps, λ core. record { final = tt; no_refusal = λ h. h; names = file_own trimmed (log_lines core.steps) (core_text (length problem.rules) (length steps) core) })
  trimming_sound (BadStep step) = record { final = tt; no_refusal = λ h. h; names = own_put own_none }
  trimming_sound (BadDeletion after) = record { final = tt; no_refusal = λ h. h; names = own_put own_none }
  trimming_sound NotEmpty = record { final = tt; no_refusal = λ h. h; names = own_put own_none }

  -- a line that trims the steps of a log that refutes keeps to the plan
  pub keeps_trimmed : {a b : World} {way : Way} (finding : Finding) → finding ≡ Verified → Keeps [] (trimmed ∷ []) (Find Core (IsCoreOf steps) (λ core. Answer Good (core_script trimmed problem steps core))) a b way → Keeps [] (trimmed ∷ []) (trimming_plan trimmed problem steps finding) a b way
  keeps_trimmed Verified e k = k
  keeps_trimmed (BadStep step) e k = absurd (let f = e in cc)
  keeps_trimmed (BadDeletion after) e k = absurd (let f = e in cc)
  keeps_trimmed NotEmpty e k = absurd (let f = e in cc)

  -- and so does one that tells what another log is found to be
  pub keeps_rejected : {a b : World} {way : Way} (finding : Finding) → finding ≢ Verified → Keeps [] (trimmed ∷ []) (finding_plan finding) a b way → Keeps [] (trimmed ∷ []) (trimming_plan trimmed problem steps finding) a b way
  keeps_rejected Verified n k = absurd (n refl)
  keeps_rejected (BadStep step) n k = k
  keeps_rejected (BadDeletion after) n k = k
  keeps_rejected NotEmpty n k = k

-- its status is 1
pub rejected_status : (finding : Finding) → finding ≢ Verified → No ≡ finding_status finding
rejected_status Verified n = absurd (n refl)
rejected_status (BadStep step) n = refl
rejected_status (BadDeletion after) n = refl
rejected_status NotEmpty n = refl

-- a log that is not verified is rejected
pub rejected : {P : Type 0} (b : Bool) → b ≡ false → (b ≡ true) ↔ P → P → ⊥
rejected b e is p = let no = is.1 p in cc

pub core_sound : (better : Option ℤ) (model log trimmed : List ℕ) → IsSoundPlan (model ∷ log ∷ []) (trimmed ∷ []) (core_plan (taking_of better) trimmed)
core_sound better model log trimmed = (model_exact better, λ problem. (kept_exact problem, λ checked. trimming_sound trimmed problem checked.steps checked.finding))

pub core_lawful : (better : Option ℤ) (model log trimmed : List ℕ) → IsLawful (core_promise (taking_of better) model log trimmed)
core_lawful better model log trimmed = plan_lawful (core_plan (taking_of better) trimmed) (core_sound better model log trimmed)
