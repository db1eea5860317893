-- What `check` tells of a model and a log.
use Rattle.std.proofs.Common.{◌≡◌, ◌↔◌, ◌⊎◌, ℕ, ℤ, List, [], ◌∷◌, Option, Some, None, refl, sym, subst, inl, inr}
use Rattle.dcsp_outside.specs.Outside.{Stream, bytes_of}
use Rattle.dcsp_script.specs.Scripts.{World, Put}
use Rattle.dcsp_defs.specs.Csp.{Csp}
use Rattle.dcsp_defs.specs.declared.entry.Entry.{Entry}
use Rattle.dcsp_rule.specs.Problems.{Contents, csp_of}
use Rattle.ngd_check.specs.declared.Finding.{Finding}
use Rattle.ngd_check.specs.declared.Finding.TheVariants.{Verified, BadStep, BadDeletion, NotEmpty}
use Rattle.ngd_check.specs.Entries.{DoRefute}
use Rattle.ngd_check.specs.Findings.{IsFindingOf}
use Rattle.ngd_check.proofs.Once.{one_finding_of}
use Rattle.dcsp_script.specs.declared.status.Status.{Status}
use Rattle.dcsp_script.specs.declared.status.Status.TheVariants.{Good, No}
use Rattle.dcsp_script.specs.Statuses.{IsFinal, IsRefusal}
use Rattle.dcsp_script.specs.Promises.{Report, answered, refused, inputs_of}
use Rattle.dcsp_script.specs.Runs.{Ran, Answers}
use Rattle.dcsp_script.proofs.Fetched.{fetched_told}
use Rattle.dcsp_script.proofs.Following.{ran_answers}
use Rattle.abt_input.specs.declared.error.CommandError.{CommandError}
use Rattle.abt_input.specs.declared.error.CommandError.TheVariants.{ModelLong, ModelRefused, NoAim, LogLong, LogLine, ScheduleLong, ScheduleLine, OrderRefused, Clauses, Fault, Memory}
use Rattle.abt_input.specs.Errors.{error_status, error_text}
use Rattle.abt_input.specs.Plans.{PlanReports}
use Rattle.line_check.specs.Taking.{taking_of}
use Rattle.line_check.specs.Checks.{IsErrorOfEntries, IsFoundFor, finding_status, finding_text}
use Rattle.line_check.specs.CheckReports.{check_plan, check_promise}
use Rattle.line_check.proofs.Taken.{IsOfModel, settled}
use Rattle.abt_command.specs.Lines.{Line, Check, IsLine, promise_of}
use Rattle.abt_command.specs.Meanings.{IsCheckAnswer, AnswersCheck}
use Rattle.abt_command.proofs.Lines.{one_line, lawful}

-- an error of a model is a refusal
model_refusal : (e : CommandError) → IsOfModel e → IsRefusal (error_status e)
model_refusal ModelLong h = tt
model_refusal (ModelRefused error) h = tt
model_refusal NoAim h = tt
model_refusal LogLong h = absurd h
model_refusal (LogLine number) h = absurd h
model_refusal ScheduleLong h = absurd h
model_refusal (ScheduleLine number) h = absurd h
model_refusal (OrderRefused error) h = absurd h
model_refusal (Clauses error) h = absurd h
model_refusal Fault h = absurd h
model_refusal Memory h = absurd h

-- and so is one of a log
log_refusal : (log : List ℕ) (e : CommandError) → IsErrorOfEntries log e → IsRefusal (error_status e)
log_refusal log ModelLong h = absurd h
log_refusal log (ModelRefused error) h = absurd h
log_refusal log NoAim h = absurd h
log_refusal log LogLong h = tt
log_refusal log (LogLine number) h = tt
log_refusal log ScheduleLong h = absurd h
log_refusal log (ScheduleLine number) h = absurd h
log_refusal log (OrderRefused error) h = absurd h
log_refusal log (Clauses error) h = absurd h
log_refusal log Fault h = absurd h
log_refusal log Memory h = absurd h

-- the status is 0 exactly where the entries refute, and 1 where they do not
record IsExactOn (p : Csp) (entries : List Entry) (status : Status) : Type 0 where
  accepted : (status ≡ Good) ↔ DoRefute p entries
  rejected : (status ≡ No) ↔ (DoRefute p entries → ⊥)

rejecting : (p : Csp) (entries : List Entry) → (DoRefute p entries → ⊥) → IsExactOn p entries No
rejecting p entries none = record { accepted = ((λ e. absurd cc), λ d. absurd (none d)); rejected = ((λ e. none), λ n. refl) }

exact_finding : (p : Csp) (entries : List Entry) (f : Finding) → IsFindingOf p entries f → IsExactOn p entries (finding_status f)
exact_finding p entries Verified h = record { accepted = ((λ e. h), λ d. refl); rejected = ((λ e. absurd cc), λ n. absurd (n h)) }
exact_finding p entries (BadStep n) h = rejecting p entries (λ d. absurd (let e = one_finding_of p entries Verified (BadStep n) d h in cc))
exact_finding p entries (BadDeletion n) h = rejecting p entries (λ d. absurd (let e = one_finding_of p entries Verified (BadDeletion n) d h in cc))
exact_finding p entries NotEmpty h = rejecting p entries (λ d. h.not_empty d.ends)

-- a report that is no refusal tells it
told : (better : Option ℤ) (model log : List ℕ) (report : Report) → PlanReports (check_plan (taking_of better)) (model ∷ log ∷ []) report → (IsRefusal report.status → ⊥) → IsCheckAnswer (taking_of better) model log report.status
told better model log report reports no_refusal = of_model reports
  where
    Told_of : Contents → Type 0
    Told_of problem = ((error : CommandError) × IsErrorOfEntries log error × (report ≡ refused (error_status error) (error_text error))) ⊎ ((finding : Finding) × IsFoundFor problem log finding × (report ≡ answered (finding_status finding) (Put (finding_text finding) ∷ [])))

    of_log : (problem : Contents) → (taking_of better).Is model problem → Told_of problem → IsCheckAnswer (taking_of better) model log report.status
    of_log problem is (inl x) = absurd (no_refusal (subst (λ (r : Report). IsRefusal r.status) (sym x.2) (log_refusal log x.0 x.1)))
    of_log problem is (inr x) =
        let exact = subst (λ (r : Report). IsExactOn (csp_of problem) x.1.entries r.status) (sym x.2) (exact_finding (csp_of problem) x.1.entries x.0 x.1.found) in
        record { problem = problem; taken = is; entries = x.1.entries; log_is = x.1.log_is; accepted = exact.accepted; rejected = exact.rejected }

    of_model : ((error : CommandError) × (taking_of better).Refuses model error × (report ≡ refused (error_status error) (error_text error))) ⊎ ((problem : Contents) × (taking_of better).Is model problem × Told_of problem) → IsCheckAnswer (taking_of better) model log report.status
    of_model (inl x) = absurd (no_refusal (subst (λ (r : Report). IsRefusal r.status) (sym x.2) (model_refusal x.0 ((settled better).of_model model x.0 x.1))))
    of_model (inr x) = of_log x.0 x.1 x.2

exact_answer : (better : Option ℤ) (model log : List ℕ) (a b : World) (err now : Stream) (status : Status) → Answers (check_promise (taking_of better) model log) a b err now status → (IsRefusal status → ⊥) → AnswersCheck better a.folder.held model log status
exact_answer better model log a b err now status h no_refusal = by a.folder.held refl
  where
    by : (files : Option (List ℕ → Option (List ℕ))) → a.folder.held ≡ files → AnswersCheck better files model log status
    by None e = tt
    by (Some f) e =
        let inputs : h.inputs ≡ inputs_of f (model ∷ log ∷ []) = fetched_told a.folder b.folder f (model ∷ log ∷ []) h.inputs e h.are_held in
        let reports = subst (λ x. PlanReports (check_plan (taking_of better)) x h.report) inputs h.reports in
        subst (λ s. IsCheckAnswer (taking_of better) (bytes_of (f model)) (bytes_of (f log)) s) (sym h.status_is) (told better (bytes_of (f model)) (bytes_of (f log)) h.report reports (λ r. no_refusal (subst IsRefusal (sym h.status_is) r)))

-- words that are `check` tell it with a status that is final and no refusal
pub check_told : (words : List (List ℕ)) (line : Line) → IsLine words line → (a b : World) (err now : Stream) (status : Status) → Ran (promise_of line) a b err now status
    → (model log : List ℕ) (better : Option ℤ) → IsLine words (Check model log better) → IsFinal status → (IsRefusal status → ⊥) → AnswersCheck better a.folder.held model log status
check_told words line is a b err now status ran model log better asks final no_refusal =
    let mine : Ran (promise_of (Check model log better)) a b err now status = subst (λ x. Ran (promise_of x) a b err now status) (one_line words line (Check model log better) is asks) ran in
    exact_answer better model log a b err now status (ran_answers (promise_of (Check model log better)) (lawful (Check model log better)) a b err now status mine final) no_refusal
