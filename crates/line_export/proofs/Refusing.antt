-- A log that was kept was read as one of which a formula can be written, or is refused for the formula's sake.
use Rattle.std.proofs.Common.{◌≡◌, ℕ, List, None, Ok, Err, refl}
use Rattle.std.specs.Prelude.{◌≢◌}
use Rattle.dcsp_outside.specs.Outside.{Place}
use Rattle.dcsp_rule.specs.Problems.{Contents}
use Rattle.ngd_check.specs.declared.Finding.TheVariants.{Verified}
use Rattle.abt_input.specs.declared.error.CommandError.{CommandError}
use Rattle.abt_input.specs.declared.error.CommandError.TheVariants.{ModelLong, ModelRefused, NoAim, LogLong, LogLine, ScheduleLong, ScheduleLine, OrderRefused, Clauses, Fault, Memory}
use Rattle.abt_input.specs.declared.clauses_error.ClausesError.TheVariants.{CnfLong, CnfRefused, CnfLimit, ProofLong, ProofLine}
use Rattle.abt_input.specs.Kinds.{ReadsAs}
use Rattle.abt_input.specs.Files.{HasRead}
use Rattle.abt_input.proofs.OtherKinds.{read_as, unread_as}
use Rattle.line_check.specs.declared.log_check.Checked.{Checked}
use Rattle.line_check.specs.LogChecks.{kept_log}
use Rattle.line_export.specs.Clauses.{formula}
use Rattle.line_export.specs.Limits.{limit_past, IsFormulaWithin}
use Rattle.line_export.specs.ExportPromise.{a_refutation}

module _ (p : Contents) (name : List ℕ) (a b : Place) where
  -- it was not read
  refused_too : (bytes : List ℕ) (e : CommandError) → ReadsAs (kept_log p) bytes (Err e) → ReadsAs (a_refutation p) bytes (Err e)
  refused_too bytes ModelLong h = h
  refused_too bytes (ModelRefused error) h = h
  refused_too bytes NoAim h = h
  refused_too bytes LogLong h = h
  refused_too bytes (LogLine number) h = h
  refused_too bytes ScheduleLong h = h
  refused_too bytes (ScheduleLine number) h = h
  refused_too bytes (OrderRefused error) h = h
  refused_too bytes (Clauses CnfLong) h = h
  refused_too bytes (Clauses (CnfRefused error)) h = h
  refused_too bytes (Clauses (CnfLimit which count)) h = absurd h
  refused_too bytes (Clauses ProofLong) h = h
  refused_too bytes (Clauses (ProofLine number)) h = h
  refused_too bytes Fault h = tt
  refused_too bytes Memory h = tt

  pub not_kept : (e : CommandError) → HasRead (kept_log p) name a b (Err e) → HasRead (a_refutation p) name a b (Err e)
  not_kept e h = unread_as (Err e) (refl, refl) h (λ bytes k. refused_too bytes e k)

  module _ (checked : Checked) (h : HasRead (kept_log p) name a b (Ok checked)) where
    -- it does not refute
    pub other_kept : checked.finding ≢ Verified → HasRead (a_refutation p) name a b (Ok checked)
    other_kept n = read_as (Ok checked) h (λ bytes is. record { kept = is; within = λ e. absurd (n e) }) (λ f. let no = f in cc)

    -- it does, and its formula passes no limit
    pub refuting_kept : limit_past p (formula p checked.steps) ≡ None → HasRead (a_refutation p) name a b (Ok checked)
    refuting_kept none = read_as (Ok checked) h (λ bytes is. record { kept = is; within = λ e. none }) (λ f. let no = f in cc)

    -- memory ran out
    pub kept_lacking : HasRead (a_refutation p) name a b (Err Memory)
    kept_lacking = read_as (Err Memory) h (λ bytes is. tt) (λ f. let no = f in cc)

    -- its formula was not made
    pub kept_refused : checked.finding ≡ Verified → (e : CommandError) → IsFormulaWithin p checked.steps (Err e) → HasRead (a_refutation p) name a b (Err e)
    kept_refused verified ModelLong w = absurd w
    kept_refused verified (ModelRefused error) w = absurd w
    kept_refused verified NoAim w = absurd w
    kept_refused verified LogLong w = absurd w
    kept_refused verified (LogLine number) w = absurd w
    kept_refused verified ScheduleLong w = absurd w
    kept_refused verified (ScheduleLine number) w = absurd w
    kept_refused verified (OrderRefused error) w = absurd w
    kept_refused verified (Clauses CnfLong) w = absurd w
    kept_refused verified (Clauses (CnfRefused error)) w = absurd w
    kept_refused verified (Clauses (CnfLimit which count)) w = read_as (Err (Clauses (CnfLimit which count))) h (λ bytes is. record { checked = checked; kept = is; verified = verified; past = w }) (λ f. let no = f in cc)
    kept_refused verified (Clauses ProofLong) w = absurd w
    kept_refused verified (Clauses (ProofLine number)) w = absurd w
    kept_refused verified Fault w = absurd w
    kept_refused verified Memory w = kept_lacking
