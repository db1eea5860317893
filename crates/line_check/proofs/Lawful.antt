-- The two kinds of files are exact, and the promise of the line is lawful.
use Rattle.std.proofs.Common.{◌≡◌, ℕ, ℤ, Option, List, [], ◌∷◌, refl, ap, subst, ◌∙◌, sym}
use Rattle.dcsp_defs.specs.declared.Step.{Step}
use Rattle.dcsp_rule.specs.Problems.{Contents, csp_of}
use Rattle.ngd_check.specs.declared.Finding.{Finding}
use Rattle.ngd_check.specs.declared.Finding.TheVariants.{Verified, BadStep, BadDeletion, NotEmpty}
use Rattle.ngd_check.specs.Findings.{IsFindingOf}
use Rattle.ngd_check.specs.Entries.{steps_of}
use Rattle.ngd_check.specs.Progress.{right_steps}
use Rattle.ngd_check.proofs.Once.{one_finding_of}
use Rattle.dcsp_defs.specs.declared.entry.Entry.{Entry}
use Rattle.ngd_log.proofs.EntryLaws.{entries_or_bad_line}
use Rattle.dcsp_script.specs.Statuses.{IsFinal, IsRefusal}
use Rattle.dcsp_script.specs.Clauses.{IsLawful}
use Rattle.abt_input.specs.declared.error.CommandError.{CommandError}
use Rattle.abt_input.specs.declared.error.CommandError.TheVariants.{ModelLong, ModelRefused, NoAim, LogLong, LogLine, ScheduleLong, ScheduleLine, OrderRefused, Clauses, Fault, Memory}
use Rattle.abt_input.specs.Errors.{error_status}
use Rattle.abt_input.specs.Inputs.{most_log}
use Rattle.abt_input.specs.Kinds.{IsExact}
use Rattle.abt_input.specs.Plans.{IsSoundPlan}
use Rattle.abt_input.proofs.Causes.{HasCause, too_long, refused_for, no_error, one_error, of_causes}
use Rattle.abt_input.proofs.OwnWrites.{own_none, own_put}
use Rattle.abt_input.proofs.PlanLaws.{plan_lawful}
use Rattle.line_check.specs.declared.log_check.Checked.{Checked}
use Rattle.line_check.specs.Taking.{taking_of, model_by}
use Rattle.line_check.specs.Checks.{HasEntries, IsEntryBadAt, IsErrorOfEntries, IsFoundFor, finding_status, log_for}
use Rattle.line_check.specs.LogChecks.{kept_log, IsKeptFor}
use Rattle.line_check.specs.CheckReports.{check_plan, check_promise}
use Rattle.line_check.proofs.Taken.{settled, final_of_model}

-- ---- logs of either version

of_entries : (log : List ℕ) (e : CommandError) → IsErrorOfEntries log e → HasCause most_log LogLong IsEntryBadAt LogLine log e
of_entries log ModelLong h = absurd h
of_entries log (ModelRefused error) h = absurd h
of_entries log LogLong h = too_long h refl
of_entries log (LogLine number) h = refused_for number h refl
of_entries log ScheduleLong h = absurd h
of_entries log (ScheduleLine number) h = absurd h
of_entries log (OrderRefused error) h = absurd h
of_entries log NoAim h = absurd h
of_entries log (Clauses error) h = absurd h
of_entries log Fault h = absurd h
of_entries log Memory h = absurd h

-- a log has one list of entries
one_list : (log : List ℕ) (a b : List Entry) → HasEntries log a → HasEntries log b → a ≡ b
one_list log a b h k = (entries_or_bad_line log).one_list a b h.reads k.reads

-- a log with entries has no error
no_error_of_entries : (log : List ℕ) (entries : List Entry) (e : CommandError) → HasEntries log entries → IsErrorOfEntries log e → ⊥
no_error_of_entries log entries e h k = no_error (of_entries log e k) h.short (λ number l. (entries_or_bad_line log).not_both entries number h.reads l.line)

-- a log has one error
one_error_of_entries : (log : List ℕ) (e d : CommandError) → IsErrorOfEntries log e → IsErrorOfEntries log d → e ≡ d
one_error_of_entries log e d h k = one_error (of_entries log e h) (of_entries log d k) (λ number l. l.short) (λ m n l k. (entries_or_bad_line log).one_line m n l.line k.line)

-- which is that of a report
final_error_of_entries : (log : List ℕ) (e : CommandError) → IsErrorOfEntries log e → IsFinal (error_status e)
final_error_of_entries log e h = of_causes (λ x. IsFinal (error_status x)) (of_entries log e h) tt (λ number. tt)

-- ---- checking

-- one thing is found of a log for a problem
one_found_for : (p : Contents) (log : List ℕ) (f g : Finding) → IsFoundFor p log f → IsFoundFor p log g → f ≡ g
one_found_for p log f g h k =
    let s = one_list log h.entries k.entries h.log_is k.log_is in
    one_finding_of (csp_of p) k.entries f g (subst (λ x. IsFindingOf (csp_of p) x f) s h.found) k.found

abbrev checked_with : Finding → List Step → Checked
checked_with finding steps = record { finding = finding; steps = steps }

-- a log with its steps is found to be one thing
one_kept_for : (p : Contents) (log : List ℕ) (a b : Checked) → IsKeptFor p log a → IsKeptFor p log b → a ≡ b
one_kept_for p log a b h k =
    let entries : h.entries ≡ k.entries = one_list log h.entries k.entries h.log_is k.log_is in
    let found : a.finding ≡ b.finding = one_found_for p log a.finding b.finding (record { entries = h.entries; log_is = h.log_is; found = h.found }) (record { entries = k.entries; log_is = k.log_is; found = k.found }) in
    let steps : a.steps ≡ b.steps = h.steps ∙ ap (λ (es : List Entry). right_steps a.finding (steps_of es)) entries ∙ ap (λ (f : Finding). right_steps f (steps_of k.entries)) found ∙ sym k.steps in
    ap (λ f. checked_with f a.steps) found ∙ ap (checked_with b.finding) steps

-- ---- the line

pub model_exact : (better : Option ℤ) → IsExact (model_by (taking_of better))
model_exact better = let sure = settled better in record { one = sure.one; apart = sure.none; one_error = sure.one_error; final = λ model e h. final_of_model e (sure.of_model model e h) }

pub log_exact : (p : Contents) → IsExact (log_for p)
log_exact p = record { one = one_found_for p; apart = λ log f e h. no_error_of_entries log h.entries e h.log_is; one_error = one_error_of_entries; final = final_error_of_entries }

pub kept_exact : (p : Contents) → IsExact (kept_log p)
kept_exact p = record { one = one_kept_for p; apart = λ log f e h. no_error_of_entries log h.entries e h.log_is; one_error = one_error_of_entries; final = final_error_of_entries }

final_finding : (f : Finding) → IsFinal (finding_status f)
final_finding Verified = tt
final_finding (BadStep step) = tt
final_finding (BadDeletion after) = tt
final_finding NotEmpty = tt

no_refusal : (f : Finding) → IsRefusal (finding_status f) → ⊥
no_refusal Verified h = h
no_refusal (BadStep step) h = h
no_refusal (BadDeletion after) h = h
no_refusal NotEmpty h = h

pub check_sound : (better : Option ℤ) (model log : List ℕ) → IsSoundPlan (model ∷ log ∷ []) [] (check_plan (taking_of better))
check_sound better model log = (model_exact better, λ p. (log_exact p, λ f. record { final = final_finding f; no_refusal = no_refusal f; names = own_put own_none }))

pub check_lawful : (better : Option ℤ) (model log : List ℕ) → IsLawful (check_promise (taking_of better) model log)
check_lawful better model log = plan_lawful (check_plan (taking_of better)) (check_sound better model log)
