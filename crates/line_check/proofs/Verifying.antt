-- A log of a refutation is verified.
use Rattle.std.proofs.Common.{◌≡◌, ℕ, ℤ, ◌+◌, List, [], ◌∷◌, ◌++◌, Option, None, codes, refl, sym, ap, inr, ◌∙◌}
use Rattle.std.specs.List.{concat}
use Rattle.dcsp_outside.specs.Outside.{bytes_of}
use Rattle.dcsp_defs.specs.declared.Step.{Step}
use Rattle.dcsp_defs.specs.Derivation.{IsRefutation}
use Rattle.dcsp_rule.specs.Problems.{Contents, csp_of}
use Rattle.dcsp_script.specs.Scripts.{Put}
use Rattle.ngd_log.specs.declared.standing.Version.TheVariants.{One}
use Rattle.ngd_log.specs.StepText.{step_line}
use Rattle.ngd_log.specs.Logs.{step_lines, IsLogOf}
use Rattle.ngd_log.specs.Entries.{entries_of}
use Rattle.ngd_log.specs.EntryTexts.{entry_lines, IsLogOfEntries}
use Rattle.ngd_log.proofs.OneAnswer.{have_text}
use Rattle.ngd_check.proofs.Forms.{one_form}
use Rattle.ngd_check.specs.declared.Finding.TheVariants.{Verified}
use Rattle.dcsp_script.specs.declared.status.Status.{Status}
use Rattle.dcsp_script.specs.declared.status.Status.TheVariants.{Good, No, Words, Model, Input, Unfinished, Fault, Memory}
use Rattle.dcsp_script.specs.Statuses.{IsFinal}
use Rattle.dcsp_script.specs.Promises.{answered}
use Rattle.dcsp_script.specs.Runs.{Ran}
use Rattle.dcsp_script.proofs.Following.{report_did}
use Rattle.abt_input.specs.Inputs.{IsModelOf, IsTextOf}
use Rattle.abt_input.specs.Plans.{PlanReports}
use Rattle.line_check.specs.Taking.{taking_of}
use Rattle.line_check.specs.Checks.{IsFoundFor, finding_status, finding_text}
use Rattle.line_check.specs.CheckReports.{check_plan, check_promise}
use Rattle.line_check.specs.Verifying.{VerifiesUnlessStopped, IsVerifiedBy, IsVerified}
use Rattle.line_check.proofs.Lawful.{check_lawful}

-- steps have the same lines as entries
lines_same : (number : ℕ) (steps : List Step) → entry_lines number (entries_of steps) ≡ step_lines number steps
lines_same number [] = refl
lines_same number (s ∷ steps) = ap (λ (x : List (List ℕ)). step_line number s ∷ x) (lines_same (number + 1) steps)

-- the log of steps is that of these as entries
as_entries : (text : List ℕ) (steps : List Step) → IsLogOf text steps → IsLogOfEntries text (entries_of steps)
as_entries text steps is = (One, record { writable = have_text One steps is.writable; same = is.same ∙ sym (ap (λ (ls : List (List ℕ)). codes "ngd 1\n" ++ concat ls ++ codes "end\n") (lines_same 1 steps)) })

-- the log of a refutation is verified
pub refutation_found : (log : List ℕ) (p : Contents) (steps : List Step) → IsTextOf log steps → IsRefutation (csp_of p) steps → IsFoundFor p log Verified
refutation_found log p steps is refutes = record {
  entries = entries_of steps;
  log_is = record { short = is.short; reads = as_entries log steps is.reads };
  found = (one_form (csp_of p) steps).refutation.0 refutes;
}

-- the files hold a model and the log of a refutation of the problem that is taken of it
pub refutation_verified_by : (better : Option ℤ) (files : List ℕ → Option (List ℕ)) (model log : List ℕ) (p : Contents) (steps : List Step) → (taking_of better).Is (bytes_of (files model)) p → IsTextOf (bytes_of (files log)) steps → IsRefutation (csp_of p) steps → IsVerifiedBy (taking_of better) files model log
refutation_verified_by better files model log p steps is_model is_log refutes old new err now status told ran = by_status status ran
  where
    report_is : PlanReports (check_plan (taking_of better)) (bytes_of (files model) ∷ bytes_of (files log) ∷ []) (answered (finding_status Verified) (Put (finding_text Verified) ∷ []))
    report_is = inr (p, is_model, inr (Verified, refutation_found (bytes_of (files log)) p steps is_log refutes, refl))

    -- a final status is that of the one report
    good : (s : Status) → Ran (check_promise (taking_of better) model log) old new err now s → IsFinal s → s ≡ Good
    good s r f = (report_did (check_promise (taking_of better) model log) (check_lawful better model log) old new err now files told (answered (finding_status Verified) (Put (finding_text Verified) ∷ [])) report_is s r f).0

    by_status : (s : Status) → Ran (check_promise (taking_of better) model log) old new err now s → VerifiesUnlessStopped s
    by_status Good r = tt
    by_status No r = absurd (let e = good No r tt in cc)
    by_status Words r = r
    by_status Model r = absurd (let e = good Model r tt in cc)
    by_status Input r = absurd (let e = good Input r tt in cc)
    by_status Unfinished r = absurd (let e = good Unfinished r tt in cc)
    by_status Fault r = tt
    by_status Memory r = tt

-- the same of the model's own problem
pub refutation_verified : (files : List ℕ → Option (List ℕ)) (model log : List ℕ) (p : Contents) (steps : List Step) → IsModelOf (bytes_of (files model)) p → IsTextOf (bytes_of (files log)) steps → IsRefutation (csp_of p) steps → IsVerified files model log
refutation_verified = refutation_verified_by None
