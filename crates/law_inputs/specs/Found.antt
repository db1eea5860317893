-- What reports ask for is there, and there once.
use Rattle.std.specs.Prelude.{ℕ, ℤ, neg_ℤ, List}
use Rattle.dcsp_defs.specs.Csp.{Csp}
use Rattle.dcsp_defs.specs.declared.Step.{Step}
use Rattle.dcsp_order.specs.declared.by_rule.OrderRule.{OrderRule}
use Rattle.dcsp_order.specs.ByRule.{IsOrderBy}
use Rattle.rup_check.specs.Verdicts.{IsVerdict}
use Rattle.rup_check.specs.declared.check.Rup.{Rup}
use Rattle.ngd_rewrite.specs.declared.cores.Core.{Core}
use Rattle.line_rewrite.specs.CorePromise.{IsCoreOf}
use Rattle.abt_input.specs.Plans.{HoldsOfOne}

-- this holds of some value, and of one only
pub record HasOne (Value : Type 0) (Is : Value → Type 0) : Type 0 where
  pub value : Value
  pub is : Is value
  pub one : HoldsOfOne Value Is

-- A proof of a formula has one verdict.
abbrev pub ProofsHaveOneVerdict : Type 0
ProofsHaveOneVerdict = (formula proof : List (List ℤ)) → HasOne Rup (IsVerdict neg_ℤ formula proof)

-- A problem has one order by each rule.
abbrev pub ProblemsHaveOneOrder : Type 0
ProblemsHaveOneOrder = (rule : OrderRule) (p : Csp) → HasOne (List ℕ) (IsOrderBy rule p)

-- Any steps have one core.
abbrev pub StepsHaveOneCore : Type 0
StepsHaveOneCore = (steps : List Step) → HasOne Core (IsCoreOf steps)
