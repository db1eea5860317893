-- The logs of derivations.
use Rattle.std.specs.Prelude.{ℕ, ◌+◌, ◌^◌, ◌≤◌, ◌<◌, ℤ, List, length, FitsSigned}
use Rattle.std.specs.Int.{w64}
use Rattle.dcsp_common.specs.Limits.{most}
use Rattle.dcsp_common.specs.declared.limits.Which.TheVariants.{Variables}
use Rattle.dcsp_defs.specs.Words.{In}
use Rattle.dcsp_defs.specs.Csp.{Csp, count, domain}
use Rattle.dcsp_defs.specs.declared.Step.{Step}
use Rattle.dcsp_defs.specs.Derivation.{IsDerivation}
use Rattle.ngd_log.specs.Logs.{log_text, IsLogOf}

-- a log can name its variables, rules and values, and a step has few reasons
pub record IsSmall (p : Csp) : Type 0 where
  pub variables : count p ≤ most Variables
  pub rules : length p.constraints ≤ 262144
  pub domains : (x : ℕ) → x < count p → length (domain p x) ≤ 65536
  pub values : (x : ℕ) (v : ℤ) → x < count p → In v (domain p x) → FitsSigned w64 v

-- the steps have a log of at most 2^62 bytes
pub record HaveLog (steps : List Step) : Type 0 where
  pub log : IsLogOf (log_text steps) steps
  pub short : length (log_text steps) ≤ 2 ^ 62

-- A derivation of at most 2^40 + 2^32 steps has one.
abbrev pub DerivationsHaveLogs : Csp → Type 0
DerivationsHaveLogs p = IsSmall p → (steps : List Step) → IsDerivation p steps → length steps ≤ 2 ^ 40 + 2 ^ 32 → HaveLog steps
