-- The plan of `export` is sound, and so its promise is lawful.
use Rattle.std.proofs.Common.{◌≡◌, ◌⊎◌, ℕ, ℤ, Bool, List, [], ◌∷◌, map, Option, Some, refl, sym, ap, subst, ◌∙◌, inl, inr}
use Rattle.std.specs.Prelude.{◌≢◌, Contains}
use Rattle.std.proofs.lemmas.List.Elements.{Contains-append_left, Contains-push}
use Rattle.dcsp_defs.specs.declared.Step.{Step}
use Rattle.dcsp_rule.specs.Problems.{Contents}
use Rattle.dcsp_common.specs.declared.limits.Which.{Which}
use Rattle.dcsp_script.specs.Scripts.{World}
use Rattle.rup_check.specs.ProofText.{clause_line}
use Rattle.ngd_check.specs.declared.Finding.{Finding}
use Rattle.ngd_check.specs.declared.Finding.TheVariants.{Verified, BadStep, BadDeletion, NotEmpty}
use Rattle.dcsp_script.specs.declared.status.Status.TheVariants.{Good}
use Rattle.dcsp_script.specs.Runs.{Way}
use Rattle.dcsp_script.specs.Clauses.{IsLawful}
use Rattle.dcsp_script.specs.Statuses.{IsFinal}
use Rattle.abt_input.specs.Errors.{error_status}
use Rattle.abt_input.specs.declared.error.CommandError.{CommandError}
use Rattle.abt_input.specs.declared.error.CommandError.TheVariants.{ModelLong, ModelRefused, NoAim, LogLong, LogLine, ScheduleLong, ScheduleLine, OrderRefused, Clauses, Fault, Memory}
use Rattle.abt_input.specs.declared.clauses_error.ClausesError.TheVariants.{CnfLong, CnfRefused, CnfLimit, ProofLong, ProofLine}
use Rattle.abt_input.specs.Kinds.{IsExact}
use Rattle.abt_input.specs.Plans.{Answer, WritesOwn, IsSoundPlan}
use Rattle.abt_input.proofs.Keeping.{Keeps}
use Rattle.abt_input.proofs.OwnWrites.{own_none, own_put, own_create, own_both, own_appends}
use Rattle.abt_input.proofs.PlanLaws.{plan_lawful}
use Rattle.line_check.specs.declared.log_check.Checked.{Checked}
use Rattle.line_check.specs.Taking.{taking_of}
use Rattle.line_check.specs.Checks.{IsErrorOfEntries}
use Rattle.line_check.specs.LogChecks.{IsKeptFor}
use Rattle.line_check.specs.CheckReports.{finding_plan}
use Rattle.line_check.proofs.Lawful.{kept_exact, model_exact}
use Rattle.line_export.specs.Clauses.{formula, proof}
use Rattle.line_export.specs.Texts.{cnf_lines, export_script}
use Rattle.line_export.specs.Limits.{limit_past}
use Rattle.line_export.specs.ExportPromise.{IsWithin, Passes, IsErrorOfExport, a_refutation, writing_plan, export_plan, export_promise}

-- ---- the kind

module _ (p : Contents) (log : List ℕ) where
  -- a limit is passed, or the log is refused as `check` refuses it
  abbrev IsPassed : CommandError → Type 0
  IsPassed e = (which : Which) × (count : ℕ) × (e ≡ Clauses (CnfLimit which count)) × Passes p log which count

  of_export : (e : CommandError) → IsErrorOfExport p log e → IsPassed e ⊎ IsErrorOfEntries log e
  of_export ModelLong h = inr h
  of_export (ModelRefused error) h = inr h
  of_export LogLong h = inr h
  of_export (LogLine number) h = inr h
  of_export ScheduleLong h = inr h
  of_export (ScheduleLine number) h = inr h
  of_export (OrderRefused error) h = inr h
  of_export NoAim h = inr h
  of_export (Clauses CnfLong) h = inr h
  of_export (Clauses (CnfRefused error)) h = inr h
  of_export (Clauses (CnfLimit which count)) h = inl (which, count, refl, h)
  of_export (Clauses ProofLong) h = inr h
  of_export (Clauses (ProofLine number)) h = inr h
  of_export Fault h = inr h
  of_export Memory h = inr h

  same_kept : (a b : Checked) → IsKeptFor p log a → IsKeptFor p log b → a ≡ b
  same_kept a b h k = (kept_exact p).one log a b h k

  refused_apart : (a : Checked) → IsKeptFor p log a → (e : CommandError) → IsErrorOfEntries log e → ⊥
  refused_apart a h e k = (kept_exact p).apart log a e h k

  apart : (a : Checked) (e : CommandError) → IsWithin p log a → IsErrorOfExport p log e → ⊥
  apart a e h k = elim (of_export e k) [
    | inl x ↦ (
        let passes = x.3 in
        let same = same_kept passes.checked a passes.kept h.kept in
        let past : limit_past p (formula p a.steps) ≡ Some (x.0, x.1) = subst (λ (c : Checked). limit_past p (formula p c.steps) ≡ Some (x.0, x.1)) same passes.past in
        let within = h.within (subst (λ (c : Checked). c.finding ≡ Verified) same passes.verified) in cc)
    | inr r ↦ refused_apart a h.kept e r
  ]

  one_error : (e d : CommandError) → IsErrorOfExport p log e → IsErrorOfExport p log d → e ≡ d
  one_error e d h k = of (of_export e h) (of_export d k)
    where
      of : IsPassed e ⊎ IsErrorOfEntries log e → IsPassed d ⊎ IsErrorOfEntries log d → e ≡ d
      of (inl x) (inl y) =
          let same = same_kept x.3.checked y.3.checked x.3.kept y.3.kept in
          let past : limit_past p (formula p y.3.checked.steps) ≡ Some (x.0, x.1) = subst (λ (c : Checked). limit_past p (formula p c.steps) ≡ Some (x.0, x.1)) same x.3.past in
          let one : Some (x.0, x.1) ≡ Some (y.0, y.1) = sym past ∙ y.3.past in
          let pair : (x.0, x.1) ≡ (y.0, y.1) = cc in
          x.2 ∙ ap (λ (w : Which × ℕ). Clauses (CnfLimit w.0 w.1)) pair ∙ sym y.2
      of (inl x) (inr r) = absurd (refused_apart x.3.checked x.3.kept d r)
      of (inr r) (inl y) = absurd (refused_apart y.3.checked y.3.kept e r)
      of (inr r) (inr s) = (kept_exact p).one_error log e d r s

  final : (e : CommandError) → IsErrorOfExport p log e → IsFinal (error_status e)
  final e h = elim (of_export e h) [
    | inl x ↦ subst (λ d. IsFinal (error_status d)) (sym x.2) tt
    | inr r ↦ (kept_exact p).final log e r
  ]

pub refutation_exact : (p : Contents) → IsExact (a_refutation p)
refutation_exact p = record { one = λ log a b h k. same_kept p log a b h.kept k.kept; apart = apart p; one_error = one_error p; final = final p }

-- ---- the line

module _ (cnf proof_name : List ℕ) (wanted : Bool) (p : Contents) (steps : List Step) where
  first_own : Contains (cnf ∷ proof_name ∷ []) cnf
  first_own = Contains-append_left (cnf ∷ []) (proof_name ∷ []) cnf (Contains-push [] cnf)

  second_own : Contains (cnf ∷ proof_name ∷ []) proof_name
  second_own = Contains-push (cnf ∷ []) proof_name

  writes_own : WritesOwn (cnf ∷ proof_name ∷ []) (export_script cnf proof_name wanted p steps)
  writes_own =
      own_both (own_both (own_create first_own (own_appends cnf (λ line. line) (cnf_lines p wanted (formula p steps)) first_own))
      (own_create second_own (own_appends proof_name (λ line. line) (map clause_line (proof p steps)) second_own))) (own_put own_none)

  writing_sound : (finding : Finding) → IsSoundPlan [] (cnf ∷ proof_name ∷ []) (writing_plan cnf proof_name wanted p steps finding)
  writing_sound Verified = record { final = tt; no_refusal = λ h. h; names = writes_own }
  writing_sound (BadStep step) = record { final = tt; no_refusal = λ h. h; names = own_put own_none }
  writing_sound (BadDeletion after) = record { final = tt; no_refusal = λ h. h; names = own_put own_none }
  writing_sound NotEmpty = record { final = tt; no_refusal = λ h. h; names = own_put own_none }

  -- a line that writes formula and proof of a log that refutes keeps to the plan
  pub keeps_written : {a b : World} {way : Way} (finding : Finding) → finding ≡ Verified → Keeps [] (cnf ∷ proof_name ∷ []) (Answer Good (export_script cnf proof_name wanted p steps)) a b way → Keeps [] (cnf ∷ proof_name ∷ []) (writing_plan cnf proof_name wanted p steps finding) a b way
  keeps_written Verified e k = k
  keeps_written (BadStep step) e k = absurd (let f = e in cc)
  keeps_written (BadDeletion after) e k = absurd (let f = e in cc)
  keeps_written NotEmpty e k = absurd (let f = e in cc)

  -- and so does one that tells what another log is found to be
  pub keeps_told : {a b : World} {way : Way} (finding : Finding) → finding ≢ Verified → Keeps [] (cnf ∷ proof_name ∷ []) (finding_plan finding) a b way → Keeps [] (cnf ∷ proof_name ∷ []) (writing_plan cnf proof_name wanted p steps finding) a b way
  keeps_told Verified n k = absurd (n refl)
  keeps_told (BadStep step) n k = k
  keeps_told (BadDeletion after) n k = k
  keeps_told NotEmpty n k = k

pub export_sound : (better : Option ℤ) (model log cnf proof_name : List ℕ) (wanted : Bool) → IsSoundPlan (model ∷ log ∷ []) (cnf ∷ proof_name ∷ []) (export_plan (taking_of better) cnf proof_name wanted)
export_sound better model log cnf proof_name wanted = (model_exact better, λ p. (refutation_exact p, λ checked. writing_sound cnf proof_name wanted p checked.steps checked.finding))

pub export_lawful : (better : Option ℤ) (model log cnf proof_name : List ℕ) (wanted : Bool) → IsLawful (export_promise (taking_of better) model log cnf proof_name wanted)
export_lawful better model log cnf proof_name wanted = plan_lawful (export_plan (taking_of better) cnf proof_name wanted) (export_sound better model log cnf proof_name wanted)
