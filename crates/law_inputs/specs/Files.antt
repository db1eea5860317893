-- Any bytes of a file are read or refused.
use Rattle.std.specs.Prelude.{◌≡◌, ℕ, ◌≤◌, ℤ, List, Option, Err}
use Rattle.dcsp_rule.specs.Problems.{Contents}
use Rattle.dcsp_common.specs.declared.limits.Which.TheVariants.{Variables}
use Rattle.dcsp_common.specs.Limits.{most}
use Rattle.cnf_front.specs.Formulas.{problem_of}
use Rattle.cnf_front.specs.declared.header.CnfError.TheVariants as refusals
use Rattle.abt_input.specs.Kinds.{IsTotal, a_model, a_log, a_schedule, an_order, a_formula, a_proof}
use Rattle.line_check.specs.Taking.{taking_of, model_by}
use Rattle.line_check.specs.Checks.{log_for}
use Rattle.line_check.specs.LogChecks.{kept_log}
use Rattle.line_export.specs.ExportPromise.{a_refutation}

-- Each kind of file is total; and no formula is refused for want of memory, which no refusal of a model can be, by its type.
pub record FilesAreReadOrRefused : Type 0 where
  pub models : IsTotal a_model
  -- a model of which a check takes its problem, or what a bound leaves of it
  pub taken : (better : Option ℤ) → IsTotal (model_by (taking_of better))
  pub logs : IsTotal a_log
  -- a log of either version that `check` reads, that `core` reads, and that `export` reads
  pub checked : (problem : Contents) → IsTotal (log_for problem)
  pub kept : (problem : Contents) → IsTotal (kept_log problem)
  pub exported : (problem : Contents) → IsTotal (a_refutation problem)
  pub schedules : IsTotal a_schedule
  -- an order of no more variables than a model has
  pub orders : (variables : ℕ) → variables ≤ most Variables → IsTotal (an_order variables)
  pub formulas : IsTotal a_formula
  pub proofs : IsTotal a_proof
  pub formula_memory : (text : List ℕ) → problem_of text ≡ Err refusals.Memory → ⊥
