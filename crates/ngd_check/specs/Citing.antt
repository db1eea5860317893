-- A right step, where each number cites the nogood at hand for it, or nothing.
use Rattle.std.specs.Prelude.{◌≡◌, ℕ, ◌<◌, true, List, Option, Some, None, MatchOption, ℤ}
use Rattle.std.specs.List.{AllZip}
use Rattle.std.specs.Option.{option_map}
use Rattle.dcsp_defs.specs.declared.nogood.Pair.{Pair}
use Rattle.dcsp_defs.specs.Pairs.{value_at, IsRising}
use Rattle.dcsp_defs.specs.declared.Reason.{Reason}
use Rattle.dcsp_defs.specs.declared.Reason.TheVariants.{Rule, Earlier}
use Rattle.dcsp_defs.specs.declared.Step.{Step}
use Rattle.dcsp_defs.specs.Words.{In}
use Rattle.dcsp_defs.specs.Csp.{Csp, Nogood, PartialAssignment, agrees, given_with, with_value, domain, count}
use Rattle.dcsp_defs.specs.Derivation.{step_at, IsFalseRule, IsKnownPair, IsRightNowhere}

-- the nogood at hand for each number, if there is one
abbrev pub Cited : Type 0
Cited = ℕ → Option Nogood

-- the values have each pair of the nogood that the number cites
abbrev pub AgreesWith : Cited → PartialAssignment → ℕ → Type 0
AgreesWith cited values number = (nogood : Nogood) × (cited number ≡ Some nogood) × (agrees values nogood ≡ true)

-- why these values do not hold together: a constraint is false under them, or a nogood at hand agrees
abbrev pub IsReasonUnder : Csp → Cited → PartialAssignment → Reason → Type 0
IsReasonUnder p cited known (Rule number) = IsFalseRule p known number
IsReasonUnder p cited known (Earlier number) = AgreesWith cited known number

-- why x has not the value v where the pairs hold
abbrev pub IsReasonCiting : Csp → Cited → Nogood → ℕ → ℤ → Reason → Type 0
IsReasonCiting p cited pairs x v = IsReasonUnder p cited (given_with x v pairs)

-- each value of the variable x has a reason under these values, at its place
abbrev pub AreReasonsUnder : Csp → Cited → ℕ → PartialAssignment → List Reason → Type 0
AreReasonsUnder p cited x known reasons = AllZip (λ value. IsReasonUnder p cited (with_value x value known)) (domain p x) reasons

-- a right step at the variable x: there is one reason for each value, at its place
pub record IsRightAtCiting (p : Csp) (cited : Cited) (x : ℕ) (step : Step) : Type 0 where
  pub variable : x < count p
  pub rising : IsRising step.nogood
  pub pairs : (y : Pair) → In y step.nogood → IsKnownPair p y
  pub other : value_at step.nogood x ≡ None
  pub reasons : AllZip (IsReasonCiting p cited step.nogood x) (domain p x) step.reasons

-- a right step
abbrev pub IsRightCiting : Csp → Cited → Step → Type 0
IsRightCiting p cited step = MatchOption step.variable (IsRightNowhere p step) (λ x. IsRightAtCiting p cited x step)

-- after a list of steps, a number cites the nogood of the step with that number
abbrev pub nogood_at : List Step → Cited
nogood_at steps number = option_map (λ (step : Step). step.nogood) (step_at steps number)
