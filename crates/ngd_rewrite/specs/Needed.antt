-- What steps cite, and the steps that a refutation needs.
use Rattle.std.specs.Prelude.{◌≡◌, ℕ, zero, suc, ◌+◌, Bool, true, false, ◌==◌, if◌then◌else◌, List, [], ◌∷◌, map, length, Some, ◌↔◌}
use Rattle.std.specs.List.{list_any}
use Rattle.dcsp_defs.specs.declared.Reason.{Reason}
use Rattle.dcsp_defs.specs.declared.Reason.TheVariants.{Rule, Earlier}
use Rattle.dcsp_defs.specs.declared.Step.{Step}
use Rattle.dcsp_defs.specs.Derivation.{step_at}

-- whether the reason is the step with this number
abbrev pub names_step : Reason → ℕ → Bool
names_step (Rule rule) number = false
names_step (Earlier earlier) number = number == earlier

-- whether the reason is this rule
abbrev pub names_rule : Reason → ℕ → Bool
names_rule (Rule rule) number = number == rule
names_rule (Earlier earlier) number = false

-- whether the reasons cite the step with this number
abbrev pub cites : List Reason → ℕ → Bool
cites reasons number = list_any (λ reason. names_step reason number) reasons

-- whether the reasons cite this rule
abbrev pub cites_rule : List Reason → ℕ → Bool
cites_rule reasons number = list_any (λ reason. names_rule reason number) reasons

-- whether some step cites this rule
abbrev pub is_cited : List Step → ℕ → Bool
is_cited steps rule = list_any (λ (step : Step). cites_rule step.reasons rule) steps

-- the numbers of the needed steps: the last one, and each that a needed step cites
pub data IsNeeded (steps : List Step) : ℕ → Type 0 where
  is_last : (number : ℕ) → number ≡ length steps → IsNeeded steps number
  is_cited_by : (by number : ℕ) (step : Step) → IsNeeded steps by → step_at steps by ≡ Some step → cites step.reasons number ≡ true → IsNeeded steps number

-- the reason, with a new number for each step
abbrev pub renumbered_reason : (ℕ → ℕ) → Reason → Reason
renumbered_reason new (Rule rule) = Rule rule
renumbered_reason new (Earlier number) = Earlier (new number)

-- the step, whose reasons have a new number for each step
abbrev pub renumbered : (ℕ → ℕ) → Step → Step
renumbered new step = record { variable = step.variable; nogood = step.nogood; reasons = map (renumbered_reason new) step.reasons }

-- those of the steps, the first of which has this number, whose numbers pass the test
abbrev pub chosen : (ℕ → Bool) → ℕ → List Step → List Step
chosen test number [] = []
chosen test number (step ∷ steps) = if test number then step ∷ chosen test (suc number) steps else chosen test (suc number) steps

-- how many of the numbers from 1 to this one pass the test
abbrev pub count_to : (ℕ → Bool) → ℕ → ℕ
count_to test zero = 0
count_to test (suc n) = count_to test n + (if test (suc n) then 1 else 0)

-- exactly the needed steps in order, renumbered from 1, with their citations renumbered alike
pub record IsTrimmed (steps trimmed : List Step) : Type 0 where
  pub needed : ℕ → Bool
  pub exactly : (number : ℕ) → (needed number ≡ true) ↔ IsNeeded steps number
  pub same : trimmed ≡ map (renumbered (count_to needed)) (chosen needed 1 steps)
