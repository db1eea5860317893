-- The line of a derivation step in a log, and which steps have one.
use Rattle.std.specs.Prelude.{◌≡◌, ℕ, ◌+◌, ◌^◌, ◌<◌, ◌≤◌, List, [], ◌∷◌, ◌++◌, flat_map, Option, Some, None, IfSome, IfNone, codes, decimal, FitsSigned}
use Rattle.std.specs.Int.{w64}
use Rattle.std.specs.List.{AllByRecursion}
use Rattle.std.specs.Fmt.{signed_decimal}
use Rattle.dcsp_defs.specs.declared.nogood.Pair.{Pair}
use Rattle.dcsp_defs.specs.Pairs.{IsRising}
use Rattle.dcsp_defs.specs.declared.Reason.{Reason}
use Rattle.dcsp_defs.specs.declared.Reason.TheVariants.{Rule, Earlier}
use Rattle.dcsp_defs.specs.declared.Step.{Step}

-- a pair, as `v2=-7`: the variable counted from 1, and the value
abbrev pub pair_text : Pair → List ℕ
pair_text y = codes "v" ++ decimal (y.var + 1) ++ codes "=" ++ signed_decimal y.value

-- the pairs in brackets, joined by commas
abbrev pub pairs_text : List Pair → List ℕ
pairs_text [] = codes "[]"
pairs_text (y ∷ ys) = codes "[" ++ pair_text y ++ flat_map (λ (z : Pair). codes "," ++ pair_text z) ys ++ codes "]"

-- a reason: `c` and the number of a rule, counted from 1, or `n` and the number of a step
abbrev pub reason_text : Reason → List ℕ
reason_text (Rule r) = codes "c" ++ decimal (r + 1)
reason_text (Earlier k) = codes "n" ++ decimal k

-- the reasons, each after a space
abbrev pub reasons_text : List Reason → List ℕ
reasons_text reasons = flat_map (λ (r : Reason). codes " " ++ reason_text r) reasons

-- `v` and the variable counted from 1, or `-`
abbrev pub variable_text : Option ℕ → List ℕ
variable_text None = codes "-"
variable_text (Some x) = codes "v" ++ decimal (x + 1)

-- the line of the step with this number, with its line feed
abbrev pub step_line : ℕ → Step → List ℕ
step_line number step =
    decimal number ++ codes " " ++ variable_text step.variable ++ codes " " ++ pairs_text step.nogood
    ++ codes " <-" ++ reasons_text step.reasons ++ codes "\n"

-- a variable counted from 0: its number from 1 is at most 4,096
abbrev pub IsVariable : ℕ → Type 0
IsVariable x = x < 4096

-- a step's number
pub record IsStepNumber (k : ℕ) : Type 0 where
  pub positive : 0 < k
  pub bounded : k ≤ 2 ^ 62

-- a rule counted from 0, whose number from 1 is at most 262,144, or a step's number
abbrev pub IsReasonInRange : Reason → Type 0
IsReasonInRange (Rule r) = r < 262144
IsReasonInRange (Earlier k) = IsStepNumber k

-- the form of a step without a variable: no pairs, and one reason, a rule
pub record IsRuleAlone (step : Step) : Type 0 where
  pub nogood : step.nogood ≡ []
  pub rule : ℕ
  pub reasons : step.reasons ≡ Rule rule ∷ []

-- what has to hold of a step for its line to stand in a log: the numbers are in range, and a step without a
-- variable has its form
pub record IsInRange (step : Step) : Type 0 where
  pub variable : IfSome step.variable IsVariable
  pub nowhere : IfNone step.variable (IsRuleAlone step)
  pub pairs : AllByRecursion (λ (y : Pair). IsVariable y.var) step.nogood
  pub reasons : AllByRecursion IsReasonInRange step.reasons

-- the same with what the types of a nogood and of a value give: the pairs rise, and a value has 64 bits
pub record IsWritable (step : Step) : Type 0 where
  pub in_range : IsInRange step
  pub rising : IsRising step.nogood
  pub values : AllByRecursion (λ (y : Pair). FitsSigned w64 y.value) step.nogood

-- the line is that of this step, which has this number
pub record IsStepLine (number : ℕ) (line : List ℕ) (step : Step) : Type 0 where
  pub numbered : IsStepNumber number
  pub writable : IsWritable step
  pub same : line ≡ step_line number step
