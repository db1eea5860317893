-- Derivation steps, when they are right, and refutations. Steps are numbered from 1.
use Rattle.std.specs.Prelude.{◌≡◌, ℕ, zero, suc, ◌-◌, ◌<◌, true, List, [], ◌∷◌, take, length, slice_get, Option, Some, None, MatchOption, IsSomeAnd, ℤ, pos, false}
use Rattle.std.specs.List.{AllZip}
use Rattle.dcsp_defs.specs.declared.nogood.Pair.{Pair}
use Rattle.dcsp_defs.specs.Pairs.{value_at, IsRising}
use Rattle.dcsp_defs.specs.declared.Reason.{Reason}
use Rattle.dcsp_defs.specs.declared.Reason.TheVariants.{Rule, Earlier}
use Rattle.dcsp_defs.specs.declared.Step.{Step}
use Rattle.dcsp_defs.specs.Words.{In}
use Rattle.dcsp_defs.specs.Csp.{Csp, Constraint, Nogood, PartialAssignment, Assignment, IsCsp, IsSolution, HasNoSolution, Extends, is_violated, agrees, given_with, domain, count}

-- the step with this number
abbrev pub step_at : List Step → ℕ → Option Step
step_at steps zero = None
step_at steps (suc k) = slice_get steps k

-- the constraint with this number is false under the values
abbrev pub IsFalseRule : Csp → PartialAssignment → ℕ → Type 0
IsFalseRule p values number = (c : Constraint) × (slice_get p.constraints number ≡ Some c) × (is_violated values c ≡ true)

-- the values have each pair of the nogood of the step with this number
abbrev pub IsAgreeingStep : List Step → PartialAssignment → ℕ → Type 0
IsAgreeingStep steps values number = (s : Step) × (step_at steps number ≡ Some s) × (agrees values s.nogood ≡ true)

-- why x has not the value v where the pairs hold: a constraint is false there, or an earlier nogood agrees
abbrev pub IsReason : Csp → List Step → Nogood → ℕ → ℤ → Reason → Type 0
IsReason p earlier pairs x v (Rule number) = IsFalseRule p (given_with x v pairs) number
IsReason p earlier pairs x v (Earlier number) = IsAgreeingStep earlier (given_with x v pairs) number

-- the pair names a variable of the problem and a value of its domain
pub record IsKnownPair (p : Csp) (y : Pair) : Type 0 where
  pub variable : y.var < count p
  pub value : In y.value (domain p y.var)

-- a right step at the variable x, after these earlier steps: there is one reason for each value, at its place
pub record IsRightAt (p : Csp) (earlier : List Step) (x : ℕ) (step : Step) : Type 0 where
  pub variable : x < count p
  pub rising : IsRising step.nogood
  pub pairs : (y : Pair) → In y step.nogood → IsKnownPair p y
  pub other : value_at step.nogood x ≡ None
  pub reasons : AllZip (IsReason p earlier step.nogood x) (domain p x) step.reasons

-- the constraint with this number is one without variables that is false
pub record IsFalseAlone (p : Csp) (number : ℕ) : Type 0 where
  pub constraint : Constraint
  pub there : slice_get p.constraints number ≡ Some constraint
  pub scope : constraint.scope ≡ []
  pub violated : constraint.test (λ k. pos 0) ≡ false

-- a right step at no variable: its one reason is a constraint without variables that is false
pub record IsRightNowhere (p : Csp) (step : Step) : Type 0 where
  pub nogood : step.nogood ≡ []
  pub number : ℕ
  pub reasons : step.reasons ≡ Rule number ∷ []
  pub alone : IsFalseAlone p number

-- a right step, after these earlier steps
abbrev pub IsRight : Csp → List Step → Step → Type 0
IsRight p earlier step = MatchOption step.variable (IsRightNowhere p step) (λ x. IsRightAt p earlier x step)

-- a derivation: each step is right after those before it
abbrev pub IsDerivation : Csp → List Step → Type 0
IsDerivation p steps = (k : ℕ) (step : Step) → slice_get steps k ≡ Some step → IsRight p (take k steps) step

-- there is a last step, and its nogood is empty
abbrev pub EndsEmpty : List Step → Type 0
EndsEmpty steps = IsSomeAnd (slice_get steps (length steps - 1)) (λ (step : Step). step.nogood ≡ [])

-- a derivation that ends in the empty nogood
pub record IsRefutation (p : Csp) (steps : List Step) : Type 0 where
  pub right : IsDerivation p steps
  pub ends : EndsEmpty steps

-- No solution extends the nogood of a right derivation's step.
abbrev pub NogoodsExclude : Csp → Type 0
NogoodsExclude p = IsCsp p → (steps : List Step) → IsDerivation p steps
    → (number : ℕ) (s : Step) → step_at steps number ≡ Some s
    → (values : Assignment) → IsSolution p values → Extends values s.nogood → ⊥

-- A problem with a refutation has no solution.
abbrev pub RefutationsRefute : Csp → Type 0
RefutationsRefute p = IsCsp p → (steps : List Step) → IsRefutation p steps → HasNoSolution p
